-- Who holds a module and who watches it after one more entry.
use Rattle.std.proofs.Common.{◌≡◌, ℕ, true, cond, List, [], ◌∷◌, ◌++◌, Option, Some, None}
use Rattle.mtp_codes.specs.Names.{is_among}
use Rattle.chart_core.specs.declared.next.Outcome.{Outcome}
use Rattle.pol_events.specs.Bound.{PlainAllocation, tags_of}
use Rattle.pol_events.specs.Events.{PlainEntry}
use Rattle.pol_history.specs.Batches.{starting, closing, outcome_of}
use Rattle.pol_history.specs.Looking.{History, of_module, of_batch, of_recipe, subject, is_accepted, past_of_batch}
use Rattle.pol_history.specs.Refused.{ChangesNothing}
use Rattle.pol_history.proofs.Holders.{started, holder_if, holders_after, holders_same, holders_started}
use Rattle.pol_history.proofs.Holders.{recipe_holders_same}
use Rattle.pol_history.proofs.Watchers.{watchers_if, watchers_after, watchers_same, watchers_started}
use Rattle.pol_history.proofs.Watchers.{recipe_watchers_same}
use Rattle.pol_core.specs.Seats.{Users, users_of}

-- an event of a module changes them for no module
pub users_same : (history : History) (entry : PlainEntry) (tag : List ℕ) → subject entry.event ≡ of_module tag →
    (other : List ℕ) → users_of (entry ∷ history) other ≡ users_of history other
users_same history entry tag is other =
    λ i. record {
      holder = holders_same history entry tag is other i;
      watchers = watchers_same history entry tag is other i;
    }

-- nor does a recipe
pub recipe_users_same : (history : History) (entry : PlainEntry) (name : List ℕ) →
    subject entry.event ≡ of_recipe name → (tag : List ℕ) → users_of (entry ∷ history) tag ≡ users_of history tag
recipe_users_same history entry name is tag =
    λ i. record {
      holder = recipe_holders_same history entry name is tag i;
      watchers = recipe_watchers_same history entry name is tag i;
    }

-- nor a refused event
pub users_refused : (history : History) (entry : PlainEntry) → ChangesNothing entry history → (tag : List ℕ) →
    users_of (entry ∷ history) tag ≡ users_of history tag
users_refused history entry nothing tag =
    λ i. record { holder = nothing.holders tag i; watchers = nothing.watchers tag i }

-- those before, freed from the batch where that is closed
abbrev pub users_if : Option Outcome → List ℕ → Users → Users
users_if closes batch users =
    record { holder = holder_if closes batch users.holder; watchers = watchers_if closes batch users.watchers }

-- so they are after an event of the batch
pub users_after : (history : History) (entry : PlainEntry) (batch : List ℕ) → subject entry.event ≡ of_batch batch →
    starting entry.event ≡ None → is_accepted entry.answer ≡ true → outcome_of history batch ≡ None → (tag : List ℕ) →
    users_of (entry ∷ history) tag ≡ users_if (closing entry.answer) batch (users_of history tag)
users_after history entry batch is start' accepted open' tag =
    λ i. record {
      holder = holders_after history entry batch is start' accepted open' tag i;
      watchers = watchers_after history entry batch is start' accepted open' tag i;
    }

-- those before, with the new batch for the modules that it holds and for those that it watches
abbrev pub users_with : PlainAllocation → List ℕ → List ℕ → Users → Users
users_with binds batch tag users =
    record {
      holder = cond (is_among (tags_of binds.held) tag) (Some batch) users.holder;
      watchers = cond (is_among (tags_of binds.watched) tag) (users.watchers ++ batch ∷ []) users.watchers;
    }

-- so they are after a start
pub users_started : (history : History) (at : ℕ) (batch name : List ℕ) (binds : PlainAllocation) →
    past_of_batch batch history ≡ [] → (tag : List ℕ) →
    users_of (started at batch name binds ∷ history) tag ≡ users_with binds batch tag (users_of history tag)
users_started history at batch name binds new tag =
    λ i. record {
      holder = holders_started history at batch name binds new tag i;
      watchers = watchers_started history at batch name binds new tag i;
    }
