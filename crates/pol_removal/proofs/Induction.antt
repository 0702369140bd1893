-- A run of the events that stay is the run without the concerned entries.
use Rattle.std.proofs.Common.{◌≡◌, ℕ, Bool, true, false, cond, List, [], ◌∷◌, map, refl, ap, ◌∙◌}
use Rattle.std.specs.Prelude.{filter}
use Rattle.std.specs.List.{AllByRecursion}
use Rattle.pol_events.specs.Events.{PlainEvent, PlainEntry}
use Rattle.pol_events.specs.declared.answer.Rule.TheVariants.{HistoryFull}
use Rattle.pol_events.specs.declared.answer.Answer.{Answer}
use Rattle.pol_events.specs.declared.answer.Answer.TheVariants.{Refused}
use Rattle.pol_history.specs.Looking.{History}
use Rattle.pol_history.specs.Runs.{entry_of, is_recorded, recorded, run_after, run_of, AreOrderly}
use Rattle.pol_history.proofs.Accepted.{paired}
use Rattle.pol_removal.specs.Removal.{is_refused_for_another, bound_batches, stays, RemovalOfEvents, RemovalOfBatches}
use Rattle.pol_removal.proofs.Sparing.{Covered, stays_parts}
use Rattle.pol_removal.proofs.Bound.{bound_covers, covered_by_none, covered_recorded}
use Rattle.pol_removal.proofs.Owned.{Owned, owned_recorded}
use Rattle.pol_removal.proofs.Alike.{alike_without}
use Rattle.pol_removal.proofs.Answering.{answered_alike}

-- an answer that isn't for another's sake is recorded
own_recorded : (answer : Answer) → is_refused_for_another answer ≡ false → is_recorded answer ≡ true
own_recorded (Refused HistoryFull) own = cc
own_recorded _ own = refl

-- a concerned entry leaves the entries that stay as they are
pub dropped : (tags bound : List (List ℕ)) (entry : PlainEntry) (history : History) → stays tags bound entry ≡ false →
    filter (stays tags bound) (recorded entry history) ≡ filter (stays tags bound) history
dropped tags bound entry history gone = go (is_recorded entry.answer)
  where
    go : (kept : Bool) → filter (stays tags bound) (cond kept (entry ∷ history) history)
        ≡ filter (stays tags bound) history
    go true = rw gone
    go false = refl

-- one that stays is recorded in both histories
pub grown : (tags bound : List (List ℕ)) (entry : PlainEntry) (history : History) → stays tags bound entry ≡ true →
    filter (stays tags bound) (recorded entry history) ≡ recorded entry (filter (stays tags bound) history)
grown tags bound entry history stay = rw (own_recorded entry.answer (stays_parts tags bound entry stay).2, stay)

-- and is the same entry
same_entry : (tags bound : List (List ℕ)) (history : History) → AllByRecursion (Covered tags bound) history
    → AllByRecursion (Owned history) history →
    (event : PlainEvent) → stays tags bound (entry_of history event) ≡ true
    → entry_of (filter (stays tags bound) history) event ≡ entry_of history event
same_entry tags bound history covered owned event stay =
    let parts = stays_parts tags bound (entry_of history event) stay in
    ap (paired event)
    (answered_alike tags bound history (filter (stays tags bound) history)
    (alike_without tags bound history covered owned) event parts.0 parts.1 parts.2)

-- an entry in front of those that stay, if it stays
abbrev kept_first : Bool → PlainEntry → List PlainEntry → List PlainEntry
kept_first stay entry rest = cond stay (entry ∷ rest) rest

-- the events that stay, run by themselves, give what stays of the whole run
pub run_stays : (tags bound : List (List ℕ)) (events : List PlainEvent) (history : History) → AreOrderly events →
    AllByRecursion (Covered tags bound) history → AllByRecursion (Owned history) history
    → AllByRecursion (Covered tags bound) (run_after history events) →
    run_after (filter (stays tags bound) history) (map (λ entry. entry.event)
    (filter (stays tags bound) (run_after history events)))
    ≡ filter (stays tags bound) (run_after history events)
run_stays tags bound [] history orderly covered owned covers = refl
run_stays tags bound (event ∷ events) history orderly covered owned covers =
    go (stays tags bound (entry_of history event)) refl
    (run_stays tags bound events (recorded (entry_of history event) history) orderly.1
    (covered_recorded tags bound (entry_of history event) history covers.0 covered)
    (owned_recorded history event orderly.0 owned) covers.1)
  where
    rest : List PlainEntry
    rest = filter (stays tags bound) (run_after (recorded (entry_of history event) history) events)

    go : (stay : Bool) → stays tags bound (entry_of history event) ≡ stay →
        run_after (filter (stays tags bound) (recorded (entry_of history event) history))
        (map (λ entry. entry.event) rest) ≡ rest →
        run_after (filter (stays tags bound) history) (map (λ entry. entry.event)
        (kept_first stay (entry_of history event) rest))
        ≡ kept_first stay (entry_of history event) rest
    go false is later = rw (← dropped tags bound (entry_of history event) history is) later
    go true is later =
        ap (λ entry. entry ∷ run_after (recorded entry (filter (stays tags bound) history))
        (map (λ entry. entry.event) rest))
        (same_entry tags bound history covered owned event is)
        ∙ ap (λ entries. entry_of history event ∷ entries) (rw
        (grown tags bound (entry_of history event) history is) at later)

-- taking out events takes out their entries and nothing else
pub events_removed : RemovalOfEvents
events_removed tags events orderly =
    run_stays tags (bound_batches tags (run_of events)) events [] orderly tt tt (bound_covers tags (run_of events))

-- taking out no modules, and any batches, takes out the entries of these batches
pub batches_removed : RemovalOfBatches
batches_removed gone events orderly =
    run_stays [] gone events [] orderly tt tt (covered_by_none gone (run_of events))
