-- The journal of the entries that are flagged.
use Rattle.std.specs.Prelude.{ℕ, Bool, List, map}
use Rattle.pol_events.specs.Events.{PlainEntry}
use Rattle.pol_compaction.specs.Flags.{flagged}
use Rattle.pol_journal.specs.Journals.{journal_text}

-- the lines of the events of these entries beside whose place the flag is up
abbrev pub flagged_text : List Bool → List PlainEntry → List ℕ
flagged_text flags entries = journal_text (map (λ (entry : PlainEntry). entry.event) (flagged flags entries))
