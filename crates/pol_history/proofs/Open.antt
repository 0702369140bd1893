-- Open batches, from one entry of a history to the next.
use Rattle.std.proofs.Common.{◌≡◌, ℕ, Bool, true, false, cond, List, ◌∷◌, refl, ap, sym, ◌∙◌, Option, Some, None}
use Rattle.std.proofs.Common.{is_none}
use Rattle.std.specs.Prelude.{if◌then◌else◌}
use Rattle.std.specs.Option.{option_or}
use Rattle.chart_core.specs.declared.next.Outcome.{Outcome}
use Rattle.pol_events.specs.Events.{PlainEntry}
use Rattle.pol_history.specs.Looking.{History, is_accepted_of_batch, past_of_batch}
use Rattle.pol_history.specs.Batches.{closing, outcome_by, outcome_of, if_open}

-- a batch is open only where it was open before
pub open_before : (history : History) (entry : PlainEntry) (batch : List ℕ) → outcome_of (entry ∷ history) batch ≡ None
    → outcome_of history batch ≡ None
open_before history entry batch is = go (is_accepted_of_batch batch entry) is
  where
    later : (outcome : Option Outcome) → option_or outcome (outcome_of history batch) ≡ None
        → outcome_of history batch ≡ None
    later None is = is
    later (Some outcome) is = cc

    go : (of_it : Bool) → outcome_by (cond of_it (entry ∷ past_of_batch batch history) (past_of_batch batch history))
        ≡ None → outcome_of history batch ≡ None
    go true is = later (closing entry.answer) is
    go false is = is

-- where it is a holder, it was found and is open
pub open_some : (history : History) (found : Option (List ℕ)) (batch : List ℕ) → if_open history found ≡ Some batch
    → (found ≡ Some batch) × (outcome_of history batch ≡ None)
open_some history None batch is = cc
open_some history (Some other) batch is = go (outcome_of history other) refl is
  where
    go : (outcome : Option Outcome) → outcome_of history other ≡ outcome
        → (if is_none outcome then Some other else None) ≡ Some batch →
        (Some other ≡ Some batch) × (outcome_of history batch ≡ None)
    go None open' is = let same : other ≡ batch = cc in (is, ap (outcome_of history) (sym same) ∙ open')
    go (Some outcome) open' is = cc
