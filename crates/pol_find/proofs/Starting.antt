-- A start with a binding that is told is done.
use Rattle.std.proofs.Common.{◌≡◌, ◌<◌, ◌∙◌, ℕ, Bool, true, false, List, [], None, length, ap, subst, sym}
use Rattle.std.specs.Prelude.{filter, is_none}
use Rattle.std.specs.List.{Contains, list_all}
use Rattle.std.proofs.lemmas.Bool.{and_parts}
use Rattle.mtp_codes.specs.Names.{is_among, same_name}
use Rattle.mtp_codes.specs.declared.limits.TheConstants.{MOST_BATCHES}
use Rattle.chart_core.specs.Roles.{PlainChart}
use Rattle.chart_core.specs.Trees.{PlainStep}
use Rattle.mtp_procs.specs.Covers.{cover_fault}
use Rattle.pol_events.specs.BindRules.{has_step}
use Rattle.pol_events.specs.Bound.{PlainAllocation}
use Rattle.pol_events.specs.ByRole.{by_role}
use Rattle.pol_events.specs.Events.{start}
use Rattle.pol_events.specs.declared.answer.Answer.TheVariants.{Done}
use Rattle.pol_events.specs.declared.event.Bind.{Bind}
use Rattle.pol_events.proofs.Lists.{among_member, image_member, kept_member}
use Rattle.pol_history.specs.Answers.{is_full, rules, start_rules}
use Rattle.pol_history.specs.Batches.{holder_of, is_start, start_of}
use Rattle.pol_history.specs.Looking.{History}
use Rattle.pol_history.specs.Runs.{IsLegal, IsOrderly}
use Rattle.pol_history.proofs.Accepted.{NoneHolds, otherwise_it_is, with_room}
use Rattle.pol_history.proofs.Binds.{all_member}
use Rattle.pol_match.specs.Fits.{PlainCandidate, fits_role, services_in, steps_of}
use Rattle.pol_match.proofs.Ways.{told_least}
use Rattle.pol_find.specs.Candidates.{docked_candidates_of, candidates_of}
use Rattle.pol_find.specs.Recipes.{PlainRecipe, recipes_of}
use Rattle.pol_find.specs.Starts.{BindingsStart, IsDone, OffersStart, ToldBindingsStart, ToldOffersStart}
use Rattle.pol_find.specs.declared.candidates.Pool.TheVariants.{Free, Docked}
use Rattle.pol_find.proofs.Free.{IsSpare, candidate_free, candidate_spare, candidates_in_order}
use Rattle.pol_find.proofs.Listed.{is_listed}
use Rattle.pol_find.proofs.Lists.{always, none_kept, one_passes, whole_kept}
use Rattle.pol_find.proofs.Unrefused.{IsParted, for_bind, listed, none_refuses, parted}

-- a start with such a binding is done, where there is room
parted_starts : (history : History) (recipe : PlainRecipe) (candidates : List PlainCandidate) (is_held : List ℕ → Bool)
    (binds : List Bind) (at : ℕ) (batch : List ℕ) → IsLegal history → IsOrderly history →
    Contains (recipes_of history) recipe → IsParted history recipe.chart candidates is_held binds →
    start_of history batch ≡ None → length (filter is_start history) < MOST_BATCHES → is_full history ≡ false →
    IsDone history (start at batch recipe.name (parted is_held binds))
parted_starts history recipe candidates is_held binds at batch legal orderly known parts new room space =
    let is = is_listed history recipe legal orderly known in
    let none = none_refuses history recipe.chart candidates is_held binds parts is.formed batch new room in
    let event = start at batch recipe.name (parted is_held binds) in
    record {
      orderly = listed history recipe.chart candidates is_held binds parts is.formed;
      done = with_room history event space
          ∙ otherwise_it_is (rules history event) Done
          (subst (λ chart. NoneHolds (start_rules history batch (parted is_held binds) chart)) (sym is.named) none);
    }

-- ---- all are held

-- all of them are held, and none is watched
all_held : (binds : List Bind) → parted (λ role. true) binds ≡ record { held = by_role binds; watched = [] }
all_held binds =
    ap (λ held. record { held = by_role held; watched = by_role (filter (λ bind. false) binds) })
    (whole_kept (λ bind. true) binds (always binds))
    ∙ ap (λ none. record { held = by_role binds; watched = by_role none })
    (none_kept (λ bind. true) binds (always binds))

-- after any history each recipe starts a new batch with each of its bindings
pub bindings_start : BindingsStart
bindings_start history recipe binds at batch legal orderly known binding new room space =
    subst (λ (binds : PlainAllocation). IsDone history (start at batch recipe.name binds)) (all_held binds)
    (parted_starts history recipe (candidates_of history) (λ role. true) binds at batch legal orderly known
    (record {
      binding = binding;
      docked = λ candidate inside. (candidate_free history candidate inside).docked;
      free = λ bind inside held.
          let for = for_bind recipe.chart (candidates_of history) binds bind binding inside in
          ap (holder_of history) (sym for.tagged) ∙ (candidate_free history for.candidate for.inside).unheld;
      stepless = λ role watched. absurd cc;
    })
    new room space)

-- so with the one that is told
pub told_bindings_start : ToldBindingsStart
told_bindings_start history recipe binds at batch legal orderly known told new room space =
    bindings_start history recipe binds at batch legal orderly known
    (told_least recipe.chart (candidates_of history) binds (candidates_in_order Free history) told).binding new room
    space

-- ---- those whose roles have a step are held

-- no batch holds a spare candidate that fits a role with a step
pub stepped_free : (history : History) (chart : PlainChart) (role : List ℕ) (candidate : PlainCandidate) →
    IsSpare history candidate → fits_role chart role candidate ≡ true → has_step (steps_of chart) role ≡ true →
    holder_of history candidate.tag ≡ None
stepped_free history chart role candidate spare fit stepped =
    let (step, inside, same) = one_passes (λ step. same_name step.role role) (steps_of chart) stepped in
    let services = services_in role (steps_of chart) in
    let idle = (and_parts (is_none (cover_fault chart role candidate.description))
    (list_all (is_among candidate.idle) services) fit).1 in
    let wanted : Contains services step.service = image_member (λ (step : PlainStep). step.service)
    (filter (λ step. same_name step.role role) (steps_of chart)) step
    (kept_member (λ step. same_name step.role role) (steps_of chart) step inside same) in
    spare.unheld step.service (among_member candidate.idle step.service
    (all_member (is_among candidate.idle) services step.service idle wanted))

-- after any history each recipe starts a new batch with each of its bindings to docked modules
pub offers_start : OffersStart
offers_start history recipe binds at batch legal orderly known binding new room space =
    parted_starts history recipe (docked_candidates_of history) (has_step (steps_of recipe.chart)) binds at batch legal
    orderly known
    (record {
      binding = binding;
      docked = λ candidate inside. (candidate_spare history candidate inside).docked;
      free = λ bind inside held.
          let for = for_bind recipe.chart (docked_candidates_of history) binds bind binding inside in
          ap (holder_of history) (sym for.tagged)
          ∙ stepped_free history recipe.chart bind.role for.candidate
          (candidate_spare history for.candidate for.inside) for.fit held;
      stepless = λ role watched. watched;
    })
    new room space

-- so with the one that is told
pub told_offers_start : ToldOffersStart
told_offers_start history recipe binds at batch legal orderly known told new room space =
    offers_start history recipe binds at batch legal orderly known
    (told_least recipe.chart (docked_candidates_of history) binds (candidates_in_order Docked history) told).binding new
    room space
