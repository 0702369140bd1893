use Rattle.std.proofs.Common.{◌<◌, false, length, ◌∙◌, arith, subst}
use Rattle.std.proofs.lemmas.Result.{err_from_is_err_and, on_err_weaker}
use Rattle.pol_jobs.specs.Written.{WritesPart}
use Rattle.pol_journal.proofs.Wanted.{event_orderly, writes_last, writes_on, writes_part, writes_same}
use Rattle.pol_journal.proofs.writing.put_flagged.Goals as goal
use Rattle.pol_journal.proofs.writing.put_flagged.Goals.{then-flags-place+in_ok-put_one, else-flags-place}

pub put_one-requires : goal.put_one-requires
put_one-requires g c =
    event_orderly c.args.history.now c.loop-place.place c.index-history-place.result c.requires.orderly
    c.loop-place-test.true c.index-history-place.is

pub returns-in_err-put_one-clause-part : goal.returns-in_err-put_one-clause-part
returns-in_err-put_one-clause-part g c =
    let k = g.K.Sink in
    let fault = err_from_is_err_and c.from_residual.result c.from_residual.ensures.1 in
    let flag_inside : c.loop-place.place < length c.args.flags.now =
    omega (arith, c.loop-place-test.true, c.requires.each) in
    rw fault.1 (writes_part c.args.flags.now c.args.history.now (k.held c.args.sink.now) (k.held c.loop-place.sink)
    c.loop-place.place false c.loop-place.lines.items flag_inside c.loop-place.invariant.so_far
    c.index-history-place.result c.loop-place-test.true c.index-history-place.is c.if-flags-place.true
    (k.held c.put_one.new.sink) c.in_err-put_one.ensures.part)

pub loop-place-preserved : goal.loop-place-preserved
loop-place-preserved g c =
    let k = g.K.Sink in
    let was = c.loop-place in
    let flag_inside : was.place < length c.args.flags.now = omega (arith, c.loop-place-test.true, c.requires.each) in
    elim c.if-flags-place.branch [
      | then-flags-place+in_ok-put_one w ↦ rw (w.sink-is, w.lines-is) (record {
        so_far = writes_on c.args.flags.now c.args.history.now (k.held c.args.sink.now) (k.held was.sink) was.place
            false was.lines.items flag_inside was.invariant.so_far w.index-history-place.result c.loop-place-test.true
            w.index-history-place.is w.if-flags-place.true (k.held w.put_one.new.sink) w.put_one.new.lines.items
            w.in_ok-put_one.ensures.text;
        sound = w.in_ok-put_one.ensures.cause.done ∙ was.invariant.sound;
      })
      | else-flags-place w ↦ rw (w.sink-is, w.lines-is) (record {
        so_far = writes_same c.args.flags.now c.args.history.now (k.held c.args.sink.now) (k.held was.sink) was.place
            false was.lines.items flag_inside was.invariant.so_far w.if-flags-place.false;
        sound = was.invariant.sound;
      })
    ]

pub returns-clause-part : goal.returns-clause-part
returns-clause-part g c =
    let k = g.K.Sink in
    on_err_weaker c.put.result
    (λ part. writes_last c.args.flags.now c.args.history.now (k.held c.args.sink.now) (k.held c.loop-place.sink)
    (k.held c.put.new.sink) c.loop-place.place c.loop-place.lines.items c.loop-place.invariant.so_far
    (subst (λ text. WritesPart (k.held c.loop-place.sink) (k.held c.put.new.sink) text) c.deref.ensures.value part))
    c.put.ensures.part
