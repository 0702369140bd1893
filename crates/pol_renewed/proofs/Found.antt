-- Two plants that are alike have the same candidates and recipes.
use Rattle.std.proofs.Common.{ℕ, ◌≡◌, inl, inr, Bool, true, false, cond, List, [], ◌∷◌, ◌++◌, map, reverse, Option}
use Rattle.std.proofs.Common.{None, Some, refl, sym, ap, subst, ◌∙◌, append-nil}
use Rattle.std.specs.Prelude.{◌&&◌, codes, filter_map, is_none, if◌then◌else◌}
use Rattle.std.specs.List.{cons_option}
use Rattle.std.specs.Option.{option_map}
use Rattle.std.proofs.lemmas.List.{reverse-append}
use Rattle.std.proofs.lemmas.List.Elements.{filter_map-append}
use Rattle.std.proofs.Math.Bool.{and-true}
use Rattle.mtp_desc.specs.Plain.{PlainDescription}
use Rattle.pol_events.specs.Events.{PlainEntry, PlainEvent, abandon, advance, desk, exchange_begin, exchange_cancel}
use Rattle.pol_events.specs.Events.{exchange_end, freeze, plug, recipe, report, start, stop_batch, thaw, unplug}
use Rattle.pol_events.specs.Events.{variable}
use Rattle.pol_history.specs.Looking.{History, is_accepted, is_accepted_recipe, is_recipe, past, recipes, subject}
use Rattle.pol_history.specs.Modules.{absent, control_by, description_by, description_of, docking_of}
use Rattle.pol_history.specs.Modules.{present_tags, seen_with, view_of}
use Rattle.pol_history.specs.Batches.{holder_of}
use Rattle.pol_history.specs.Runs.{history_after}
use Rattle.pol_table.specs.ByteOrder.{in_byte_order}
use Rattle.pol_core.specs.Calls.{module_sight}
use Rattle.pol_match.specs.Fits.{PlainCandidate}
use Rattle.pol_compaction.specs.Alike.{AnswersAlike, IsSameModule, LooksSame}
use Rattle.pol_compaction.specs.Lasting.{closed_batches}
use Rattle.pol_runs.proofs.Wanted.{filter_same}
use Rattle.pol_find.specs.Candidates.{candidate_of, candidate_with, candidates_by, candidates_of, docked_candidate_of}
use Rattle.pol_find.specs.Candidates.{docked_candidate_with, docked_candidates_of, idle_services, is_docked, is_free}
use Rattle.pol_find.specs.Candidates.{is_idle_at, is_seen_idle}
use Rattle.pol_find.specs.Found.{Follows, TellsEach}
use Rattle.pol_find.specs.Lines.{bad_text}
use Rattle.pol_find.specs.Offers.{offers_of}
use Rattle.pol_find.specs.Recipes.{made_known, recipe_in, recipes_of}
use Rattle.pol_record.specs.Texts.{line_text, under_key}
use Rattle.pol_renewed.proofs.Renewing.{alike_renewed}
use Rattle.pol_renewed.specs.Renewed.{CompactionFindsAlike, FindsSame, renewed_after, whole_after}

-- ---- lists

-- what one says of each item is what another says that says the same
filter_map_same : {A B : Type 0} (one other : A → Option B) → ((item : A) → one item ≡ other item) →
    (items : List A) → filter_map one items ≡ filter_map other items
filter_map_same one other same [] = refl
filter_map_same one other same (item ∷ items) =
    ap (λ said. cons_option said (filter_map one items)) (same item)
    ∙ ap (cons_option (other item)) (filter_map_same one other same items)

-- ---- modules

-- a tag that isn't there is no candidate
absent_none : (history : History) (tag : List ℕ) → docking_of history tag ≡ absent →
    candidate_of history tag ≡ None
absent_none history tag is =
    ap (λ docking. if is_docked docking && is_none (holder_of history tag)
    then option_map (candidate_with history tag) (description_of history tag) else None) is

-- nor one to be held or watched
absent_undocked : (history : History) (tag : List ℕ) → docking_of history tag ≡ absent →
    docked_candidate_of history tag ≡ None
absent_undocked history tag is =
    ap (λ docking. if is_docked docking
    then option_map (docked_candidate_with history tag) (description_of history tag) else None) is

module _ (whole less : History) (tag : List ℕ) (looks : LooksSame (past tag whole) (past tag less)) where
  -- its services are seen the same
  view_same : (service : List ℕ) → view_of less tag service ≡ view_of whole tag service
  view_same service =
      ap (λ description. option_map (seen_with service description) (control_by service (past tag less)))
      looks.stands.description
      ∙ ap (option_map (seen_with service (description_by (past tag whole)))) (looks.control service)

  -- and so they are idle alike
  idle_same : (service : List ℕ) → is_idle_at less tag service ≡ is_idle_at whole tag service
  idle_same service =
      ap (λ docking. is_seen_idle (module_sight docking (view_of less tag service))) looks.stands.docking
      ∙ ap (λ view. is_seen_idle (module_sight (docking_of whole tag) view)) (view_same service)

  -- and the same of them are
  services_same : (description : PlainDescription) →
      idle_services less tag description ≡ idle_services whole tag description
  services_same description =
      filter_same (is_idle_at less tag) (is_idle_at whole tag) (map (λ service. service.name) description.services)
      (λ service inside. idle_same service)

  -- the tag as a candidate with these idle services
  abbrev described : PlainDescription → List (List ℕ) → PlainCandidate
  described description idle = record { tag = tag; description = description; idle = idle }

  -- so it is the same candidate, by each description
  with_same : (description : Option PlainDescription) →
      option_map (candidate_with less tag) description ≡ option_map (candidate_with whole tag) description
  with_same None = refl
  with_same (Some description) = ap (λ idle. Some (described description idle)) (services_same description)

  -- where it is free
  there_same : holder_of less tag ≡ holder_of whole tag → candidate_of less tag ≡ candidate_of whole tag
  there_same held =
      ap (λ docking. if is_docked docking && is_none (holder_of less tag)
      then option_map (candidate_with less tag) (description_of less tag) else None) looks.stands.docking
      ∙ ap (λ holder. if is_docked (docking_of whole tag) && is_none holder
      then option_map (candidate_with less tag) (description_of less tag) else None) held
      ∙ ap (λ description. if is_free whole tag then option_map (candidate_with less tag) description else None)
      looks.stands.description
      ∙ ap (λ found. if is_free whole tag then found else None) (with_same (description_of whole tag))

  -- and the same to be held or watched, by each description
  docked_with_same : holder_of less tag ≡ holder_of whole tag → (description : Option PlainDescription) →
      option_map (docked_candidate_with less tag) description
      ≡ option_map (docked_candidate_with whole tag) description
  docked_with_same held None = refl
  docked_with_same held (Some description) =
      ap (λ holder. Some (described description (if is_none holder then idle_services less tag description else [])))
      held
      ∙ ap (λ idle. Some (described description (if is_none (holder_of whole tag) then idle else [])))
      (services_same description)

  -- where it is docked
  docked_same : holder_of less tag ≡ holder_of whole tag → docked_candidate_of less tag ≡ docked_candidate_of whole tag
  docked_same held =
      ap (λ docking. if is_docked docking
      then option_map (docked_candidate_with less tag) (description_of less tag) else None) looks.stands.docking
      ∙ ap (λ description. if is_docked (docking_of whole tag)
      then option_map (docked_candidate_with less tag) description else None) looks.stands.description
      ∙ ap (λ found. if is_docked (docking_of whole tag) then found else None)
      (docked_with_same held (description_of whole tag))

-- ---- recipes

-- an event that isn't about a recipe tells none
no_recipe : (event : PlainEvent) → is_recipe (subject event) ≡ false → recipe_in event ≡ None
no_recipe (plug at tag description) is = refl
no_recipe (unplug at tag) is = refl
no_recipe (report at tag service control) is = refl
no_recipe (variable at tag name value) is = refl
no_recipe (recipe at name chart) is = cc
no_recipe (start at batch name binds) is = refl
no_recipe (freeze at batch hold) is = refl
no_recipe (thaw at batch) is = refl
no_recipe (advance at batch) is = refl
no_recipe (stop_batch at batch) is = refl
no_recipe (abandon at batch) is = refl
no_recipe (exchange_begin at tag) is = refl
no_recipe (exchange_end at tag ticket description) is = refl
no_recipe (exchange_cancel at tag ticket) is = refl
no_recipe (desk at tag service command) is = refl

-- what is no accepted recipe makes none known
unknown : (entry : PlainEntry) → is_accepted_recipe entry ≡ false → made_known entry ≡ None
unknown entry is = go (is_accepted entry.answer) refl
  where
    go : (accepted : Bool) → is_accepted entry.answer ≡ accepted → cond accepted (recipe_in entry.event) None ≡ None
    go false known = refl
    go true known = no_recipe entry.event (sym (and-true (is_recipe (subject entry.event)))
        ∙ ap (λ accepted. is_recipe (subject entry.event) && accepted) (sym known) ∙ is)

-- the recipes of a history are those of its accepted recipes
of_recipes : (history : History) → recipes_of history ≡ filter_map made_known (reverse (recipes history))
of_recipes [] = refl
of_recipes (entry ∷ history) =
    ap (filter_map made_known) (reverse-append (entry ∷ []) history)
    ∙ filter_map-append made_known (reverse history) (entry ∷ [])
    ∙ ap (λ found. found ++ cons_option (made_known entry) []) (of_recipes history)
    ∙ go (is_accepted_recipe entry) refl
  where
    older : History
    older = recipes history

    go : (accepted : Bool) → is_accepted_recipe entry ≡ accepted →
        filter_map made_known (reverse older) ++ cons_option (made_known entry) []
        ≡ filter_map made_known (reverse (cond accepted (entry ∷ older) older))
    go true is = sym (ap (filter_map made_known) (reverse-append (entry ∷ []) older)
        ∙ filter_map-append made_known (reverse older) (entry ∷ []))
    go false is = ap (λ found. filter_map made_known (reverse older) ++ cons_option found []) (unknown entry is)
        ∙ append-nil (filter_map made_known (reverse older))

-- ---- both

module _ (gone : List (List ℕ)) (whole less : History) (alike : AnswersAlike gone whole less) where
  -- each tag is the same candidate
  candidate_same : (tag : List ℕ) → candidate_of less tag ≡ candidate_of whole tag
  candidate_same tag = go (alike.modules tag)
    where
      go : IsSameModule (past tag whole) (past tag less) → candidate_of less tag ≡ candidate_of whole tag
      go (inl gone) = absent_none less tag gone.1 ∙ sym (absent_none whole tag gone.0)
      go (inr looks) = there_same whole less tag looks (alike.running.holders tag)

  -- and the same to be held or watched
  docked_each : (tag : List ℕ) → docked_candidate_of less tag ≡ docked_candidate_of whole tag
  docked_each tag = go (alike.modules tag)
    where
      go : IsSameModule (past tag whole) (past tag less) → docked_candidate_of less tag ≡ docked_candidate_of whole tag
      go (inl gone) = absent_undocked less tag gone.1 ∙ sym (absent_undocked whole tag gone.0)
      go (inr looks) = docked_same whole less tag looks (alike.running.holders tag)

  -- what is the same of each tag is so of all
  by_each : (one other : List ℕ → Option PlainCandidate) → ((tag : List ℕ) → one tag ≡ other tag) →
      candidates_by one less ≡ candidates_by other whole
  by_each one other same =
      filter_map_same one other same (in_byte_order (present_tags less))
      ∙ ap (λ tags. filter_map other (in_byte_order tags)) alike.same_tags

  candidates_same : candidates_of less ≡ candidates_of whole
  candidates_same = by_each (candidate_of less) (candidate_of whole) candidate_same

  docked_all : docked_candidates_of less ≡ docked_candidates_of whole
  docked_all = by_each (docked_candidate_of less) (docked_candidate_of whole) docked_each

  recipes_same : recipes_of less ≡ recipes_of whole
  recipes_same =
      of_recipes less ∙ ap (λ found. filter_map made_known (reverse found)) alike.running.same_recipes
      ∙ sym (of_recipes whole)

  -- so the same is found
  pub finds_same : FindsSame whole less
  finds_same = record {
    candidates = candidates_same;
    recipes = recipes_same;
    bindings =
        ap (λ candidates. line_text (under_key (codes "bindings") (offers_of candidates (recipes_of less))))
        docked_all
        ∙ ap (λ recipes. line_text (under_key (codes "bindings") (offers_of (docked_candidates_of whole) recipes)))
        recipes_same;
    found = λ bad text found.
        subst (λ recipes. Follows (TellsEach (candidates_of less) recipes) (λ text. text ≡ bad_text bad) text)
        (sym recipes_same)
        (subst (λ candidates. Follows (TellsEach candidates (recipes_of whole)) (λ text. text ≡ bad_text bad) text)
        (sym candidates_same) found);
  }

-- after whatever came later
pub finds_alike : CompactionFindsAlike
finds_alike events later orderly =
    finds_same (closed_batches (history_after [] events)) (whole_after events later) (renewed_after events later)
    (alike_renewed events later orderly)
