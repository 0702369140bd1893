-- The journal of a ledger whose bytes a source gives, and how a job ends that writes it.
use Rattle.std.specs.Prelude.{◌≡◌, ◌⊎◌, ℕ, List, [], map, Option, Some, None, Result, Ok, Err}
use Rattle.pol_events.specs.Events.{PlainEvent}
use Rattle.pol_io.specs.Edge.{Edge}
use Rattle.pol_io.specs.Known.{Between}
use Rattle.pol_jobs.specs.Ends.{DidFail, IsWell}
use Rattle.pol_jobs.specs.Written.{Closes, ClosesPart}
use Rattle.pol_jobs.specs.declared.output.PutFault.{PutFault}
use Rattle.pol_jobs.specs.declared.output.PutFault.TheVariants as of_output
use Rattle.pol_journal.specs.Journals.{journal_events, journal_text}
use Rattle.pol_journal.specs.declared.extent.Extent.{Extent}
use Rattle.pol_kept.specs.Opens.{IsNoStore}
use Rattle.pol_kept.specs.Stands.{StandsFor}
use Rattle.pol_ledger.specs.Items.{PlainAsked}
use Rattle.pol_ledger.specs.Work.{BegunLedger, items_of, ledger_work}
use Rattle.pol_extract.specs.declared.fault.ExtractFault.{ExtractFault}
use Rattle.pol_extract.specs.declared.fault.ExtractFault.TheVariants.{Read, Write, Memory, NotALedger}
use Rattle.pol_stream.specs.declared.more.ReadFault.{ReadFault}
use Rattle.pol_stream.specs.declared.more.ReadFault.TheVariants as of_source

-- the events of a ledger, in order; where none was begun there is none
abbrev pub ledger_events : Option BegunLedger → List PlainEvent
ledger_events None = []
ledger_events (Some ledger) = map (λ (one : PlainAsked). one.event) ledger.so_far

-- the bytes stand for a ledger, or for none, and the text is the journal of this extent of its events
pub record IsJournal (extent : Extent) (bytes text : List ℕ) : Type 0 where
  pub ledger : Option BegunLedger
  pub stands : StandsFor ledger_work (items_of ledger) bytes
  pub is : text ≡ journal_text (journal_events extent (ledger_events ledger))

-- the source was read to its end, and the journal of the ledger that it gave was written
abbrev pub Extracts : Extent → Option (List ℕ) → Option (List ℕ) → List ℕ → List ℕ → Type 0
Extracts extent held held' bytes left = (left ≡ []) × Closes (IsJournal extent bytes) held held'

-- the source was read to its end, and only a proper front part of the journal of its ledger was written
abbrev pub ExtractsPart : Extent → Option (List ℕ) → Option (List ℕ) → List ℕ → List ℕ → Type 0
ExtractsPart extent held held' bytes left = (left ≡ []) × ClosesPart (IsJournal extent bytes) held held'

-- the source was read to its end, and it gave the bytes of no ledger: the first record that doesn't follow is at this
-- place
abbrev pub GivesNoLedger : ℕ → List ℕ → List ℕ → Type 0
GivesNoLedger place bytes left = (left ≡ []) × IsNoStore ledger_work bytes place

-- why bytes aren't read as a ledger
abbrev pub IsUnread : List ℕ → ExtractFault → Type 0
IsUnread bytes Memory = Unit {0}
IsUnread bytes (NotALedger place) = IsNoStore ledger_work bytes place
IsUnread bytes _ = ⊥

-- the fault of a job whose source wasn't read to its end
abbrev pub of_read : ReadFault → ExtractFault
of_read of_source.Read = Read
of_read of_source.Memory = Memory

-- the fault of a job whose output wasn't written
abbrev pub of_put : PutFault → ExtractFault
of_put of_output.Write = Write
of_put of_output.Memory = Memory

-- How a job ended that reads a ledger from a source and writes its journal, by its source and its sink before and
-- after, and that the sink is just what it was: for each result what was written, and what causes it.
abbrev pub ExtractEnds : Extent → Edge → Edge → Edge → Edge → Type 0 → Result (Unit {0}) ExtractFault → Type 0
ExtractEnds extent source source' sink sink' Unwritten (Ok done) =
    Between (Extracts extent sink.bytes sink'.bytes) source.bytes source'.bytes
    × IsWell source source' × IsWell sink sink'
ExtractEnds extent source source' sink sink' Unwritten (Err Read) = Unwritten × DidFail source source'
ExtractEnds extent source source' sink sink' Unwritten (Err Write) =
    (Unwritten ⊎ Between (ExtractsPart extent sink.bytes sink'.bytes) source.bytes source'.bytes)
    × IsWell source source' × DidFail sink sink'
ExtractEnds extent source source' sink sink' Unwritten (Err Memory) =
    (Unwritten ⊎ Between (ExtractsPart extent sink.bytes sink'.bytes) source.bytes source'.bytes)
    × IsWell source source' × IsWell sink sink'
ExtractEnds extent source source' sink sink' Unwritten (Err (NotALedger place)) =
    Unwritten × Between (GivesNoLedger place) source.bytes source'.bytes × IsWell source source'
