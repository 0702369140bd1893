use Rattle.std.proofs.Common.{refl, subst, ◌∙◌}
use Rattle.std.proofs.lemmas.Result.{err_from_is_err_and}
use Rattle.pol_replay.specs.BatchLines.{WritesUpTo, gathered_lines, gathered_text}
use Rattle.pol_replay.proofs.BatchLines.{up_to_start, up_to_next, up_to_part, cut_lines}
use Rattle.pol_replay.proofs.closing.put_each.Goals as goal

pub loop-batch-init : goal.loop-batch-init
loop-batch-init g c = record { so_far = up_to_start _ _ _ refl; sound = refl }

pub loop-batch-preserved : goal.loop-batch-preserved
loop-batch-preserved g c =
    let text = gathered_text c.args.gathered.now in
    let all = gathered_lines c.args.gathered.now c.args.batches.now in
    let cut = cut_lines text c.args.batches.now c.loop-batch.batch-index c.batch-item.result c.loop-batch-test.true
    c.batch-item.is in
    record {
      so_far = up_to_next _ _ _ (text c.batch-item.result) _ _
          (subst (λ rest. WritesUpTo (g.K.Sink.held c.args.sink.now) (g.K.Sink.held c.loop-batch.sink) rest all) cut
          c.loop-batch.invariant.so_far) c.in_ok-put_batch.ensures.line;
      sound = c.in_ok-put_batch.ensures.cause.done ∙ c.loop-batch.invariant.sound;
    }

pub returns-in_err-put_batch-clause-part : goal.returns-in_err-put_batch-clause-part
returns-in_err-put_batch-clause-part g c =
    let text = gathered_text c.args.gathered.now in
    let all = gathered_lines c.args.gathered.now c.args.batches.now in
    let cut = cut_lines text c.args.batches.now c.loop-batch.batch-index c.batch-item.result c.loop-batch-test.true
    c.batch-item.is in
    let fault = err_from_is_err_and c.from_residual.result c.from_residual.ensures.1 in
    rw fault.1 (up_to_part _ _ _ (text c.batch-item.result) _ _
    (subst (λ rest. WritesUpTo (g.K.Sink.held c.args.sink.now) (g.K.Sink.held c.loop-batch.sink) rest all) cut
    c.loop-batch.invariant.so_far) c.in_err-put_batch.ensures.part)
