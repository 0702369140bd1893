-- Whether each entry of a history stays, as flags beside the entries.
use Rattle.std.specs.Prelude.{Bool, false, ◌&&◌, ◌≡◌, List, [], ◌∷◌, filter, reverse}
use Rattle.pol_events.specs.Events.{PlainEntry}
use Rattle.pol_history.specs.Looking.{History, Subject, of_module, of_batch, of_recipe}
use Rattle.pol_compaction.specs.Lasting.{is_lasting}
use Rattle.pol_compaction.specs.Reading.{is_read}
use Rattle.pol_compaction.specs.Compaction.{stays_between, kept_before, compacted}

-- the entries among these that last
abbrev pub lasting_in : History → List PlainEntry → List PlainEntry
lasting_in whole entries = filter (is_lasting whole) entries

-- for each of the entries to come, the oldest first, whether it stays: it lasts, and stays between those that last
abbrev pub stay_flags : History → History → List PlainEntry → List Bool
stay_flags whole older [] = []
stay_flags whole older (entry ∷ newer) =
    (is_lasting whole entry && stays_between whole (lasting_in whole older) (lasting_in whole newer) entry.event)
    ∷ stay_flags whole (entry ∷ older) newer

-- the entries whose flag is up
abbrev pub flagged : List Bool → List PlainEntry → List PlainEntry
flagged [] entries = []
flagged (flag ∷ flags) [] = []
flagged (flag ∷ flags) (entry ∷ entries) = kept_before flag entry (flagged flags entries)

-- The flagged entries of a history are those to which it is compacted.
abbrev pub FlagsAreCompaction : Type 0
FlagsAreCompaction =
    (history : History) → flagged (stay_flags history [] (reverse history)) (reverse history) ≡ compacted history

-- one of these entries, the newest first, read the module since it was moved last; no other subject is read
abbrev pub is_read_in : History → History → Subject → Bool
is_read_in whole older (of_module tag) = is_read whole tag older
is_read_in whole older (of_batch batch) = false
is_read_in whole older (of_recipe name) = false
