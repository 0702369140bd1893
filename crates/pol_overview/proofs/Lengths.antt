-- How many names a plant tells: never more than its history has entries.
use Rattle.std.proofs.Common.{◌≡◌, ◌≤◌, ℕ, Bool, true, false, List, [], ◌∷◌, length, refl, sym, ap, ◌∙◌, arith}
use Rattle.std.specs.Prelude.{Option, None, filter, filter_map, if◌then◌else◌, nat_le}
use Rattle.std.proofs.lemmas.Bool.{leb-false}
use Rattle.std.proofs.lemmas.List.{length-reverse}
use Rattle.mtp_codes.specs.declared.limits.TheConstants.{LONGEST_HISTORY}
use Rattle.mtp_codes.proofs.Lists.{length_filter_map}
use Rattle.pol_events.specs.Events.{PlainEntry}
use Rattle.pol_history.specs.Answers.{answer_of}
use Rattle.pol_history.specs.Batches.{batches, is_open, started_batch, watchers_of, watches}
use Rattle.pol_history.specs.Looking.{History, is_accepted, is_accepted_recipe, recipes}
use Rattle.pol_history.specs.Runs.{IsLegal, is_recorded}
use Rattle.pol_history.proofs.Filters.{length_filter}
use Rattle.pol_core.specs.Recipes.{names_in, recipe_brought}

-- a legal history has at most 200,000 entries
legal_few : (history : History) → IsLegal history → length history ≤ LONGEST_HISTORY
legal_few [] legal = omega arith
legal_few (entry ∷ history) legal = by_room (nat_le LONGEST_HISTORY (length history)) refl
  where
    by_room : (full : Bool) → nat_le LONGEST_HISTORY (length history) ≡ full
        → length (entry ∷ history) ≤ LONGEST_HISTORY
    by_room true is =
        let refused : is_recorded (answer_of history entry.event) ≡ false = rw is refl in
        absurd (no_both (is_recorded (answer_of history entry.event)) refused (ap is_recorded (sym legal.0) ∙ legal.1))
      where
        no_both : (recorded : Bool) → recorded ≡ false → recorded ≡ true → ⊥
        no_both true isnt is = cc
        no_both false isnt is = cc
    by_room false is = let room = leb-false LONGEST_HISTORY (length history) is in omega (arith, room)

-- few batches watch a module
pub few_watchers : (history : History) (tag : List ℕ) → IsLegal history
    → length (watchers_of history tag) ≤ LONGEST_HISTORY
few_watchers history tag legal =
    let all = filter_map (watches tag) history in
    omega (
      arith,
      length-reverse (filter (is_open history) all),
      length_filter (is_open history) all,
      length_filter_map (watches tag) history,
      legal_few history legal,
    )

-- the batch that an entry starts, where it was accepted
abbrev started_in : PlainEntry → Option (List ℕ)
started_in entry = if is_accepted entry.answer then started_batch entry.event else None

-- the recipe that an entry brings
abbrev brought_in : PlainEntry → Option (List ℕ)
brought_in entry = recipe_brought entry.event

-- few batches were started
pub few_batches : (history : History) → IsLegal history → length (batches history) ≤ LONGEST_HISTORY
few_batches history legal =
    omega (
      arith,
      length-reverse (filter_map started_in history),
      length_filter_map started_in history,
      legal_few history legal,
    )

-- few recipes are known
pub few_recipes : (history : History) → IsLegal history → length (names_in (recipes history)) ≤ LONGEST_HISTORY
few_recipes history legal =
    omega (
      arith,
      length-reverse (filter_map brought_in (recipes history)),
      length_filter_map brought_in (recipes history),
      length_filter is_accepted_recipe history,
      legal_few history legal,
    )
