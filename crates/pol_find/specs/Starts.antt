-- What a start with a printed binding is answered.
use Rattle.std.specs.Prelude.{ℕ, ◌≡◌, ◌<◌, List, [], length, filter, true, false, None, Some}
use Rattle.std.specs.List.{Contains}
use Rattle.mtp_codes.specs.declared.limits.TheConstants.{MOST_BATCHES}
use Rattle.pol_events.specs.ByRole.{by_role}
use Rattle.pol_events.specs.Events.{PlainEvent, start}
use Rattle.pol_events.specs.Orderly.{is_orderly}
use Rattle.pol_events.specs.declared.answer.Answer.TheVariants.{Done}
use Rattle.pol_events.specs.declared.event.Bind.{Bind}
use Rattle.pol_history.specs.Answers.{answer_of, is_full}
use Rattle.pol_history.specs.Batches.{is_start, start_of}
use Rattle.pol_history.specs.Looking.{History}
use Rattle.pol_history.specs.Runs.{IsLegal, IsOrderly}
use Rattle.pol_match.specs.Bindings.{IsBinding}
use Rattle.pol_match.specs.Chosen.{binding_of}
use Rattle.pol_find.specs.Candidates.{docked_candidates_of, candidates_of}
use Rattle.pol_find.specs.Offers.{allocation_of}
use Rattle.pol_find.specs.Recipes.{PlainRecipe, recipes_of}

-- the start of a batch of a recipe that holds the modules of a binding, and watches none
abbrev pub start_with : ℕ → List ℕ → PlainRecipe → List Bind → PlainEvent
start_with at batch recipe binds = start at batch recipe.name (record { held = by_role binds; watched = [] })

-- a line can say the event, and it is done
pub record IsDone (history : History) (event : PlainEvent) : Type 0 where
  pub orderly : is_orderly event ≡ true
  pub done : answer_of history event ≡ Done

-- After any history each recipe starts a new batch with each of its bindings to the candidates, where there is room.
abbrev pub BindingsStart : Type 0
BindingsStart =
    (history : History) (recipe : PlainRecipe) (binds : List Bind) (at : ℕ) (batch : List ℕ) → IsLegal history
    → IsOrderly history → Contains (recipes_of history) recipe → IsBinding recipe.chart (candidates_of history) binds
    → start_of history batch ≡ None → length (filter is_start history) < MOST_BATCHES → is_full history ≡ false
    → IsDone history (start_with at batch recipe binds)

-- After any history each recipe starts a new batch with the binding that is written of it, where there is room.
abbrev pub ToldBindingsStart : Type 0
ToldBindingsStart =
    (history : History) (recipe : PlainRecipe) (binds : List Bind) (at : ℕ) (batch : List ℕ) → IsLegal history
    → IsOrderly history → Contains (recipes_of history) recipe
    → binding_of recipe.chart (candidates_of history) ≡ Some binds → start_of history batch ≡ None
    → length (filter is_start history) < MOST_BATCHES → is_full history ≡ false
    → IsDone history (start_with at batch recipe binds)

-- the start of a batch of a recipe that holds the modules of a binding whose roles have a step, and watches the others
abbrev pub offered_start : ℕ → List ℕ → PlainRecipe → List Bind → PlainEvent
offered_start at batch recipe binds = start at batch recipe.name (allocation_of recipe.chart binds)

-- After any history each recipe starts a new batch with what it is offered by each of its bindings to the docked
-- candidates, where there is room: what the batch watches may be held by another one.
abbrev pub OffersStart : Type 0
OffersStart =
    (history : History) (recipe : PlainRecipe) (binds : List Bind) (at : ℕ) (batch : List ℕ) → IsLegal history
    → IsOrderly history → Contains (recipes_of history) recipe
    → IsBinding recipe.chart (docked_candidates_of history) binds → start_of history batch ≡ None
    → length (filter is_start history) < MOST_BATCHES → is_full history ≡ false
    → IsDone history (offered_start at batch recipe binds)

-- After any history each recipe starts a new batch with what the line of the bindings offers, where there is room.
abbrev pub ToldOffersStart : Type 0
ToldOffersStart =
    (history : History) (recipe : PlainRecipe) (binds : List Bind) (at : ℕ) (batch : List ℕ) → IsLegal history
    → IsOrderly history → Contains (recipes_of history) recipe
    → binding_of recipe.chart (docked_candidates_of history) ≡ Some binds → start_of history batch ≡ None
    → length (filter is_start history) < MOST_BATCHES → is_full history ≡ false
    → IsDone history (offered_start at batch recipe binds)
