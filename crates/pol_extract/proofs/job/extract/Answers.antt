use Rattle.std.proofs.Common.{◌≡◌, subst}
use Rattle.std.proofs.lemmas.Result.{err_from_is_err_and}
use Rattle.pol_jobs.specs.Ends.{edge}
use Rattle.pol_kept.specs.Stands.{StandsFor}
use Rattle.pol_ledger.specs.Ledgers.{ledger_state}
use Rattle.pol_ledger.specs.Work.{items_of, ledger_work}
use Rattle.pol_extract.proofs.Extracted.{done_ends, unput_ends}
use Rattle.pol_extract.proofs.job.extract.Goals as goal

pub returns-in_err-put_ledger : goal.returns-in_err-put_ledger
returns-in_err-put_ledger g c =
    let s = g.S.Source in
    let k = g.K.Sink in
    let ledger = ledger_state c.in_ok-ledger.ledger in
    let fault = err_from_is_err_and c.from_residual-in_err-put_ledger.result
    c.from_residual-in_err-put_ledger.ensures.1 in
    record {
      ends = rw (fault.1, fault.2) (unput_ends c.args.extent
          (edge (s.left c.args.source.now) (s.faults c.args.source.now))
          (edge (s.left c.read_to_end.new.source) (s.faults c.read_to_end.new.source))
          (edge (k.held c.args.sink.now) (k.faults c.args.sink.now))
          (edge (k.held c.put_ledger.new.sink) (k.faults c.put_ledger.new.sink))
          (c.put_ledger.new.sink ≡ c.args.sink.now) c.in_ok-bytes.bytes.items c.in_ok-bytes.ensures.all
          c.in_ok-bytes.ensures.cause.done ledger
          (subst (StandsFor ledger_work (items_of ledger)) c.deref.ensures.value c.in_ok-ledger.ensures.stands)
          c.in_err-put_ledger.field-0.0 c.in_err-put_ledger.ensures.part c.in_err-put_ledger.ensures.cause);
    }

pub returns : goal.returns
returns g c =
    let s = g.S.Source in
    let k = g.K.Sink in
    let ledger = ledger_state c.in_ok-ledger.ledger in
    record {
      ends = done_ends c.args.extent (edge (s.left c.args.source.now) (s.faults c.args.source.now))
          (edge (s.left c.read_to_end.new.source) (s.faults c.read_to_end.new.source))
          (edge (k.held c.args.sink.now) (k.faults c.args.sink.now))
          (edge (k.held c.put_ledger.new.sink) (k.faults c.put_ledger.new.sink))
          (c.put_ledger.new.sink ≡ c.args.sink.now) c.in_ok-bytes.bytes.items c.in_ok-bytes.ensures.all
          c.in_ok-bytes.ensures.cause.done ledger
          (subst (StandsFor ledger_work (items_of ledger)) c.deref.ensures.value c.in_ok-ledger.ensures.stands)
          c.in_ok-put_ledger.ensures.text c.in_ok-put_ledger.ensures.cause.done;
    }
