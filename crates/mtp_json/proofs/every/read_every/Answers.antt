use Rattle.std.proofs.Common.{map, [], ◌∷◌, arith, length-append}
use Rattle.std.proofs.lemmas.Result.{err_from_is_err_and}
use Rattle.mtp_json.proofs.Each.{reads_next, stops_at, is_done}
use Rattle.mtp_json.proofs.every.read_every.Goals as goal

pub loop-i-preserved : goal.loop-i-preserved
loop-i-preserved g c = record {
  reads = reads_next g.T.FromJson.plain g.T.FromJson.form c.loop-i.found.items c.push.new.self.items c.args.values.now
      c.loop-i.i c.index-values-i.result c.read.result c.in_ok-item.item _
      c.loop-i-test.true c.index-values-i.is c.read.ensures c.in_ok-item.ensures c.in_ok-push.ensures.items
      c.loop-i.invariant.reads;
  size = rw c.in_ok-push.ensures.items
      (omega (arith, length-append c.loop-i.found.items (c.in_ok-item.item ∷ []), c.loop-i.invariant.size));
}

pub returns-in_err-item-clause-gives : goal.returns-in_err-item-clause-gives
returns-in_err-item-clause-gives g c =
    let p = err_from_is_err_and c.from_residual.result c.from_residual.ensures.1 in
    rw (p.1, p.2) (stops_at g.T.FromJson.plain g.T.FromJson.form
    (map g.T.FromJson.plain c.loop-i.found.items) c.args.values.now c.loop-i.i c.index-values-i.result c.read.result
    c.in_err-item.field-0.0 _
    c.loop-i-test.true c.index-values-i.is c.read.ensures c.in_err-item.ensures c.loop-i.invariant.reads)

pub returns-clause-gives : goal.returns-clause-gives
returns-clause-gives g c =
    is_done g.T.FromJson.form
    (map g.T.FromJson.plain c.loop-i.found.items) c.args.values.now c.loop-i.i _ c.loop-i-test.false
    c.loop-i.invariant.reads
