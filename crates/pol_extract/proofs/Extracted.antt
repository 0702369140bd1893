-- The journal of a ledger, and how the job ends that writes it.
use Rattle.std.proofs.Common.{ℕ, ◌≡◌, ◌⊎◌, inl, inr, Bool, true, false, List, [], ◌∷◌, length, map, Option, None, Some}
use Rattle.std.proofs.Common.{refl, sym, ap, subst, ◌∙◌, arith}
use Rattle.std.specs.Prelude.{Err, is_some}
use Rattle.std.specs.Io.KnownBytes.{Appends}
use Rattle.pol_core.specs.Plants.{plant_history}
use Rattle.pol_events.specs.Events.{PlainEvent}
use Rattle.pol_history.specs.Runs.{events_of}
use Rattle.pol_io.specs.Causes.{HasCauseOf}
use Rattle.pol_io.specs.Edge.{Edge}
use Rattle.pol_io.specs.Known.{Between}
use Rattle.pol_io.proofs.Known.{between_weaker}
use Rattle.pol_jobs.specs.Ends.{IsWell}
use Rattle.pol_jobs.specs.Written.{WritesPart}
use Rattle.pol_jobs.specs.declared.output.PutFault.{PutFault}
use Rattle.pol_jobs.specs.declared.output.PutFault.TheVariants as of_output
use Rattle.pol_journal.specs.Journals.{journal_events, journal_text}
use Rattle.pol_journal.specs.declared.extent.Extent.{Extent}
use Rattle.pol_kept.specs.Opens.{IsNoStore}
use Rattle.pol_kept.specs.Stands.{StandsFor}
use Rattle.pol_ledger.specs.Items.{PlainAsked}
use Rattle.pol_ledger.specs.Ledgers.{PlainLedger, all_asked, asked_so_far, begun_by, ledger_state}
use Rattle.pol_ledger.specs.Work.{BegunLedger, items_of, ledger_work}
use Rattle.pol_ledger.proofs.Taking.{many_events}
use Rattle.pol_extract.specs.Extracts.{Extracts, ExtractEnds, ExtractsPart, GivesNoLedger, IsJournal, IsUnread}
use Rattle.pol_extract.specs.Extracts.{ledger_events, of_put, of_read}
use Rattle.pol_stream.specs.Streams.{IsAll}
use Rattle.pol_extract.specs.declared.fault.ExtractFault.{ExtractFault}
use Rattle.pol_extract.specs.declared.fault.ExtractFault.TheVariants.{Read, Write, Memory, NotALedger}
use Rattle.pol_stream.specs.declared.more.ReadFault.{ReadFault}
use Rattle.pol_stream.specs.declared.more.ReadFault.TheVariants as of_source

-- ---- the events of a ledger

-- those that were asked for are the events
asked_events : (names : List (Option (List ℕ))) (events : List PlainEvent) → length names ≡ length events →
    map (λ (one : PlainAsked). one.event) (all_asked names events) ≡ events
asked_events [] [] many = refl
asked_events [] (event ∷ events) many = cc
asked_events (name ∷ names) [] many = cc
asked_events (name ∷ names) (event ∷ events) many =
    ap (λ rest. event ∷ rest) (asked_events names events (omega (arith, many)))

-- a ledger that was begun has those that were asked for
begun_events : (build : Option (List ℕ)) (so_far : List PlainAsked) → is_some (begun_by build so_far) ≡ true →
    ledger_events (begun_by build so_far) ≡ map (λ (one : PlainAsked). one.event) so_far
begun_events None so_far is = cc
begun_events (Some build) so_far is = refl

-- one that wasn't has none
unbegun_events : (build : Option (List ℕ)) (so_far : List PlainAsked) → is_some (begun_by build so_far) ≡ false →
    ledger_events (begun_by build so_far) ≡ []
unbegun_events None so_far is = refl
unbegun_events (Some build) so_far is = cc

-- so the events of its plant are its events, where it was begun
pub plant_events : (ledger : PlainLedger) → is_some (ledger_state ledger) ≡ true →
    length ledger.names ≡ length ledger.plant.entries →
    events_of (plant_history ledger.plant) ≡ ledger_events (ledger_state ledger)
plant_events ledger is many =
    sym (begun_events ledger.build (asked_so_far ledger) is
    ∙ asked_events ledger.names (events_of (plant_history ledger.plant)) (many_events ledger.plant ledger.names many))

-- and else there is none
pub no_events : (ledger : PlainLedger) → is_some (ledger_state ledger) ≡ false →
    ledger_events (ledger_state ledger) ≡ []
no_events ledger is = unbegun_events ledger.build (asked_so_far ledger) is

-- ---- how the job ends

module _ (extent : Extent) (source source' sink sink' : Edge) (Unwritten : Type 0) where
  -- the source wasn't read to its end
  pub unread_ends : {T : Type 0} (fault : ReadFault) → Unwritten → IsWell sink sink' →
      HasCauseOf {T = T} of_source.Read source.faults source'.faults (Err fault) →
      ExtractEnds extent source source' sink sink' Unwritten (Err (of_read fault))
  unread_ends of_source.Read unwritten well cause = (unwritten, cause.failed refl)
  unread_ends of_source.Memory unwritten well cause = (inl unwritten, cause.other (λ same. cc), well)

  module _ (bytes : List ℕ) (all : Between (IsAll bytes) source.bytes source'.bytes) (read_well : IsWell source source')
    where
      -- it gave no ledger
      pub refused_ends : (fault : ExtractFault) → Unwritten → IsWell sink sink' → IsUnread bytes fault →
          ExtractEnds extent source source' sink sink' Unwritten (Err fault)
      refused_ends Read unwritten well unread = absurd unread
      refused_ends Write unwritten well unread = absurd unread
      refused_ends Memory unwritten well unread = (inl unwritten, read_well, well)
      refused_ends (NotALedger place) unwritten well unread = (
        unwritten,
        between_weaker (IsAll bytes) (GivesNoLedger place) source.bytes source'.bytes
            (λ before left is. (is.1, subst (λ bytes. IsNoStore ledger_work bytes place) (sym is.0) unread)) all,
        read_well,
      )

      module _ (ledger : Option BegunLedger) (stands : StandsFor ledger_work (items_of ledger) bytes) where
        -- the journal of the ledger is that of what was read
        journal : (before : List ℕ) → before ≡ bytes →
            IsJournal extent before (journal_text (journal_events extent (ledger_events ledger)))
        journal before is = record {
          ledger = ledger;
          stands = subst (StandsFor ledger_work (items_of ledger)) (sym is) stands;
          is = refl;
        }

        -- it wasn't written to its end
        stops : Unwritten
            ⊎ WritesPart sink.bytes sink'.bytes (journal_text (journal_events extent (ledger_events ledger))) →
            Unwritten ⊎ Between (ExtractsPart extent sink.bytes sink'.bytes) source.bytes source'.bytes
        stops (inl unwritten) = inl unwritten
        stops (inr part) = inr (between_weaker (IsAll bytes) (ExtractsPart extent sink.bytes sink'.bytes) source.bytes
            source'.bytes
            (λ before left is. (
              is.1,
              record {
                text = journal_text (journal_events extent (ledger_events ledger));
                may = journal before is.0;
                part = part;
              },
            )) all)

        pub unput_ends : {T : Type 0} (fault : PutFault) → Unwritten
            ⊎ WritesPart sink.bytes sink'.bytes (journal_text (journal_events extent (ledger_events ledger))) →
            HasCauseOf {T = T} of_output.Write sink.faults sink'.faults (Err fault) →
            ExtractEnds extent source source' sink sink' Unwritten (Err (of_put fault))
        unput_ends of_output.Write part cause = (stops part, read_well, cause.failed refl)
        unput_ends of_output.Memory part cause = (stops part, read_well, cause.other (λ same. cc))

        -- it was
        pub done_ends :
            Appends sink.bytes sink'.bytes (journal_text (journal_events extent (ledger_events ledger))) →
            IsWell sink sink' →
            Between (Extracts extent sink.bytes sink'.bytes) source.bytes source'.bytes
            × IsWell source source' × IsWell sink sink'
        done_ends written well = (
          between_weaker (IsAll bytes) (Extracts extent sink.bytes sink'.bytes) source.bytes source'.bytes
              (λ before left is. (
                is.1,
                record {
                  text = journal_text (journal_events extent (ledger_events ledger));
                  may = journal before is.0;
                  appended = written;
                },
              )) all,
          read_well,
          well,
        )
