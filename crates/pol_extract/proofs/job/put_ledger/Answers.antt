use Rattle.std.proofs.Common.{◌≡◌, List, sym, subst, ◌∙◌}
use Rattle.std.specs.Prelude.{OnErr, OnOk}
use Rattle.std.specs.Io.KnownBytes.{Appends}
use Rattle.pol_events.specs.Events.{PlainEvent, plain_history}
use Rattle.pol_history.specs.Runs.{events_of}
use Rattle.pol_journal.specs.Journals.{StopsWithin, journal_events, journal_text}
use Rattle.pol_ledger.specs.Ledgers.{ledger_state}
use Rattle.pol_extract.specs.Extracts.{ledger_events}
use Rattle.pol_extract.proofs.Extracted.{no_events, plant_events}
use Rattle.pol_extract.proofs.job.put_ledger.Goals as goal
use Rattle.pol_extract.proofs.job.put_ledger.Goals.{then-is_begun, else-is_begun}

pub returns : goal.returns
returns g c =
    let k = g.K.Sink in
    let ledger = c.args.ledger.now in
    let same : events_of (plain_history c.if-is_begun.history.now) ≡ ledger_events (ledger_state ledger) =
    elim c.if-is_begun.branch [
      | then-is_begun w ↦ rw (w.history-is, w.history-history.ensures.entries, w.plant.ensures.plant)
          (plant_events ledger (sym c.is_begun.ensures ∙ w.if-is_begun.true) w.plant.ensures.names)
      | else-is_begun w ↦ rw w.history-is (sym (no_events ledger (sym c.is_begun.ensures ∙ w.if-is_begun.false)))
    ] in
    record {
      text = subst (λ (events : List PlainEvent). OnOk c.put_journal.result (Appends (k.held c.args.sink.now)
          (k.held c.put_journal.new.sink) (journal_text (journal_events c.args.extent events)))) same
          c.put_journal.ensures.text;
      part = subst (λ (events : List PlainEvent). OnErr c.put_journal.result (StopsWithin k.held c.args.sink.now
          c.put_journal.new.sink (journal_text (journal_events c.args.extent events)))) same
          c.put_journal.ensures.part;
      cause = c.put_journal.ensures.cause;
    }
