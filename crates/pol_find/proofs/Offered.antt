-- Where each role of a recipe has a step, it is offered what a finder tells of it.
use Rattle.std.proofs.Common.{◌≡◌, ℕ, Bool, true, false, cond, not, ◌&&◌, Option, Some, None, List, [], ◌∷◌, map, filter}
use Rattle.std.proofs.Common.{refl, sym, ◌∙◌, ap, subst}
use Rattle.std.specs.Prelude.{filter_map, is_none, option_map}
use Rattle.std.specs.List.{cons_option, list_all}
use Rattle.std.proofs.lemmas.List.Folds.{list_all-map}
use Rattle.mtp_desc.specs.Plain.{PlainDescription}
use Rattle.chart_core.specs.Roles.{PlainChart, role_names}
use Rattle.event_json.specs.Written.{written_binds}
use Rattle.pol_events.specs.BindRules.{has_step}
use Rattle.pol_events.specs.ByRole.{by_role}
use Rattle.pol_events.specs.declared.event.Bind.{Bind}
use Rattle.pol_history.specs.Batches.{holder_of}
use Rattle.pol_history.specs.Looking.{History}
use Rattle.pol_history.specs.Modules.{Docking, absent, docked, away, description_of, docking_of, present_tags}
use Rattle.pol_table.specs.ByteOrder.{in_byte_order}
use Rattle.pol_match.specs.Chosen.{binding_of, short_roles, short_tags}
use Rattle.pol_match.specs.Fits.{PlainCandidate, fits_role, steps_of}
use Rattle.pol_match.proofs.Ways.{told_least}
use Rattle.pol_find.specs.Bindings.{OffersAreTold}
use Rattle.pol_find.specs.Candidates.{candidate_of, candidate_with, candidates_of, docked_candidate_of}
use Rattle.pol_find.specs.Candidates.{docked_candidates_of}
use Rattle.pol_find.specs.Candidates.{idle_services, is_docked}
use Rattle.pol_find.specs.Lines.{bind_object, names_data, offer_object, short_object}
use Rattle.pol_find.specs.Offers.{allocation_of, is_all_stepped, is_stepped, offer_with}
use Rattle.pol_find.specs.Told.{told_with}
use Rattle.pol_find.specs.declared.candidates.Pool.TheVariants.{Docked}
use Rattle.pol_find.proofs.Free.{candidate_spare, candidates_in_order}
use Rattle.pol_find.proofs.Lists.{none_kept, whole_kept}
use Rattle.pol_find.proofs.Starting.{stepped_free}
use Rattle.pol_find.proofs.Unkept.{FitNone, same_binding, same_roles, same_tags}

-- no batch holds the candidate
abbrev is_unheld : History → PlainCandidate → Bool
is_unheld history candidate = is_none (holder_of history candidate.tag)

-- ---- the candidates that are free are those of the docked ones that no batch holds

-- of one tag
one_unheld : (history : History) (tag : List ℕ) (free others : List PlainCandidate) →
    free ≡ filter (is_unheld history) others →
    cons_option (candidate_of history tag) free
    ≡ filter (is_unheld history) (cons_option (docked_candidate_of history tag) others)
one_unheld history tag free others rest =
    go (docking_of history tag) (holder_of history tag) refl (description_of history tag)
  where
    -- the tag as a docked candidate, by who holds it
    docked_as : Option (List ℕ) → PlainDescription → PlainCandidate
    docked_as holder description =
        record {
          tag = tag;
          description = description;
          idle = cond (is_none holder) (idle_services history tag description) [];
        }

    go : (docking : Docking) (holder : Option (List ℕ)) → holder_of history tag ≡ holder →
        (description : Option PlainDescription) →
        cons_option (cond (is_docked docking && is_none holder) (option_map (candidate_with history tag) description)
        None) free
        ≡ filter (is_unheld history)
        (cons_option (cond (is_docked docking) (option_map (docked_as holder) description) None) others)
    go absent holder is description = rest
    go (away ticket) holder is description = rest
    go (docked count) None is None = rest
    go (docked count) (Some batch) is None = rest
    go (docked count) None is (Some description) =
        rw is (ap (λ later. candidate_with history tag description ∷ later) rest)
    go (docked count) (Some batch) is (Some description) = rw is rest

-- of these tags
tags_unheld : (history : History) (tags : List (List ℕ)) →
    filter_map (candidate_of history) tags ≡ filter (is_unheld history) (filter_map (docked_candidate_of history) tags)
tags_unheld history [] = refl
tags_unheld history (tag ∷ tags) = one_unheld history tag _ _ (tags_unheld history tags)

-- of all
all_unheld : (history : History) → candidates_of history ≡ filter (is_unheld history) (docked_candidates_of history)
all_unheld history = tags_unheld history (in_byte_order (present_tags history))

-- one that a batch holds fits no role with a step
held_fit_none : (history : History) (chart : PlainChart) →
    FitNone chart (is_unheld history) (docked_candidates_of history)
held_fit_none history chart candidate role inside held stepped = go (fits_role chart role candidate) refl
  where
    go : (fit : Bool) → fits_role chart role candidate ≡ fit → fit ≡ false
    go false is = refl
    go true is =
        let free = stepped_free history chart role candidate (candidate_spare history candidate inside) is stepped in
        let clash : true ≡ false = sym (ap is_none free) ∙ held in
        clash

-- ---- the object

-- all binds of a binding are of roles with a step
all_stepped : (chart : PlainChart) (binds : List Bind) → map (λ bind. bind.role) binds ≡ role_names chart →
    is_all_stepped chart ≡ true → list_all (is_stepped chart) binds ≡ true
all_stepped chart binds roles stepped =
    sym (list_all-map (has_step (steps_of chart)) (λ bind. bind.role) binds)
    ∙ ap (list_all (has_step (steps_of chart))) roles ∙ stepped

-- so nothing is watched
nothing_watched : (chart : PlainChart) (binds : List Bind) (recipe : List ℕ) →
    list_all (is_stepped chart) binds ≡ true →
    offer_object (allocation_of chart binds) recipe ≡ bind_object (written_binds (by_role binds)) recipe
unfolding bind_object offer_object
nothing_watched chart binds recipe stepped =
    ap (λ held. offer_object (record {
      held = by_role held;
      watched = by_role (filter (λ bind. not (is_stepped chart bind)) binds);
    }) recipe) (whole_kept (is_stepped chart) binds stepped)
    ∙ ap (λ watched. offer_object (record { held = by_role binds; watched = by_role watched }) recipe)
    (none_kept (is_stepped chart) binds stepped)

-- where each role has a step the objects are the same
pub offers_are_told : OffersAreTold
offers_are_told history recipe stepped =
    subst
    (λ free. offer_with docked recipe (binding_of recipe.chart docked)
    ≡ told_with free recipe (binding_of recipe.chart free))
    (sym (all_unheld history))
    (rw (same_binding recipe.chart (is_unheld history) docked none stepped)
    (go (binding_of recipe.chart docked) refl))
  where
    docked : List PlainCandidate
    docked = docked_candidates_of history

    none : FitNone recipe.chart (is_unheld history) docked
    none = held_fit_none history recipe.chart

    go : (found : Option (List Bind)) → binding_of recipe.chart docked ≡ found →
        offer_with docked recipe found ≡ told_with (filter (is_unheld history) docked) recipe found
    go (Some binds) is =
        let least = told_least recipe.chart docked binds (candidates_in_order Docked history) is in
        nothing_watched recipe.chart binds recipe.name
        (all_stepped recipe.chart binds least.binding.roles stepped)
    go None is =
        ap (λ roles. short_object recipe.name (names_data roles) (names_data (short_tags recipe.chart docked)))
        (sym (same_roles recipe.chart (is_unheld history) docked none stepped))
        ∙ ap (λ tags. short_object recipe.name
        (names_data (short_roles recipe.chart (filter (is_unheld history) docked))) (names_data tags))
        (sym (same_tags recipe.chart (is_unheld history) docked none stepped))
