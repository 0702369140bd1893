-- What is found where a plant goes on from a compacted history.
use Rattle.std.specs.Prelude.{ℕ, ◌≡◌, List, [], map}
use Rattle.pol_events.specs.Events.{PlainEntry, PlainEvent}
use Rattle.pol_history.specs.Looking.{History}
use Rattle.pol_history.specs.Runs.{AreOrderly, history_after}
use Rattle.pol_compaction.specs.Compaction.{compacted_events}
use Rattle.pol_compaction.specs.Law.{entries_after}
use Rattle.pol_find.specs.Bindings.{bindings_text}
use Rattle.pol_find.specs.Candidates.{candidates_of}
use Rattle.pol_find.specs.Found.{IsFound}
use Rattle.pol_find.specs.Recipes.{recipes_of}

-- the history of all events
abbrev pub whole_after : List PlainEvent → List PlainEvent → History
whole_after events later = history_after (history_after [] events) later

-- the history of the events that stay where the first ones are compacted, and of the later ones that are answered there
abbrev pub renewed_after : List PlainEvent → List PlainEvent → History
renewed_after events later =
    history_after (history_after [] (compacted_events (history_after [] events)))
    (map (λ (entry : PlainEntry). entry.event) (entries_after (history_after [] events) later))

-- after the one history the same is found as after the other: the modules that could be bound, the recipes that are
-- known, the line of all bindings, and the output of the finder, with any number of lines at fault
pub record FindsSame (whole less : History) : Type 0 where
  pub candidates : candidates_of less ≡ candidates_of whole
  pub recipes : recipes_of less ≡ recipes_of whole
  pub bindings : bindings_text less ≡ bindings_text whole
  pub found : (bad : ℕ) (text : List ℕ) → IsFound whole bad text → IsFound less bad text

-- A plant that goes on from what stays finds what the old one finds.
abbrev pub CompactionFindsAlike : Type 0
CompactionFindsAlike =
    (events later : List PlainEvent) → AreOrderly events →
    FindsSame (whole_after events later) (renewed_after events later)
