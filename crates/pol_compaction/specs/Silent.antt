-- What may be left out of a run, as nothing later can tell the difference: refused events, waits, and the commands of
-- operators.
use Rattle.std.specs.Prelude.{Bool, true, not, ◌||◌, ◌≡◌, List, filter, map}
use Rattle.pol_events.specs.Events.{PlainEvent, PlainEntry}
use Rattle.pol_history.specs.Looking.{is_accepted}
use Rattle.pol_history.specs.Runs.{run_of}
use Rattle.pol_compaction.specs.Lasting.{is_desk, is_wait}
use Rattle.pol_compaction.specs.Alike.{is_refused_as_full}

-- the entry was refused, or it is a wait or a command
abbrev pub is_silent : PlainEntry → Bool
is_silent entry = not (is_accepted entry.answer) || (is_wait entry || is_desk entry.event)

-- the entries of a run without those that are dropped, and without those that were refused as full
abbrev pub entries_unless : (PlainEntry → Bool) → List PlainEvent → List PlainEntry
entries_unless drops events = filter (λ entry. not (drops entry || is_refused_as_full entry.answer)) (run_of events)

-- Any of the refused events, the waits and the commands may be left out: all other entries stay as they are.
abbrev pub SilentMayBeLeftOut : Type 0
SilentMayBeLeftOut =
    (drops : PlainEntry → Bool) → ((entry : PlainEntry) → drops entry ≡ true → is_silent entry ≡ true) →
    (events : List PlainEvent) → run_of (map (λ entry. entry.event) (entries_unless drops events))
    ≡ entries_unless drops events
