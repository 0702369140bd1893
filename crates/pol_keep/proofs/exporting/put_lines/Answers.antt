use Rattle.std.proofs.Common.{refl, ◌∙◌, subst}
use Rattle.std.proofs.lemmas.Result.{err_from_is_err_and, on_err_weaker, on_ok_weaker}
use Rattle.std.specs.Io.KnownBytes.{Appends}
use Rattle.pol_jobs.specs.Written.{WritesPart}
use Rattle.pol_keep.proofs.Exported.{exports_all, exports_last, exports_none, exports_on, exports_part, exports_unput}
use Rattle.pol_keep.proofs.exporting.put_lines.Goals as goal

pub loop-text-init : goal.loop-text-init
loop-text-init g c = record {
  so_far = λ events stands. exports_none _ _ _ events c.new-lines.ensures.items stands;
  sound = refl;
}

pub loop-text-preserved : goal.loop-text-preserved
loop-text-preserved g c =
    let was = c.loop-text in
    record {
      so_far = λ events stands. exports_on _ _ was.lines.items was.rest.now c.in-Some.text.now c.in-Some.behind.now
          events (rw c.in-Some.is at c.first_text.ensures.first) _ c.put_line.new.lines.items
          c.put_if_enough.new.lines.items c.in_ok-put_line.ensures (was.invariant.so_far events stands)
          c.in_ok-put_if_enough.ensures.text;
      sound = c.in_ok-put_if_enough.ensures.cause.done ∙ was.invariant.sound;
    }

pub returns-in_err-put_line-clause-part : goal.returns-in_err-put_line-clause-part
returns-in_err-put_line-clause-part g c = λ events stands.
    let fault = err_from_is_err_and c.from_residual.result c.from_residual.ensures.1 in
    rw fault.1 (exports_unput _ _ _ c.loop-text.rest.now c.in-Some.text.now c.in-Some.behind.now events
    (rw c.in-Some.is at c.first_text.ensures.first) (c.loop-text.invariant.so_far events stands))

pub returns-in_err-put_if_enough-clause-part : goal.returns-in_err-put_if_enough-clause-part
returns-in_err-put_if_enough-clause-part g c = λ events stands.
    let fault = err_from_is_err_and c.from_residual-in_err-put_if_enough.result
    c.from_residual-in_err-put_if_enough.ensures.1 in
    rw fault.1 (exports_part _ _ _ c.loop-text.rest.now c.in-Some.text.now c.in-Some.behind.now events
    (rw c.in-Some.is at c.first_text.ensures.first) _ c.put_line.new.lines.items c.in_ok-put_line.ensures
    (c.loop-text.invariant.so_far events stands) c.in_err-put_if_enough.ensures.part)

pub returns-clause-text : goal.returns-clause-text
returns-clause-text g c = λ events stands.
    on_ok_weaker c.put.result
    (λ appended. exports_all _ _ _ c.loop-text.lines.items c.loop-text.rest.now events
    (rw c.in_default.is at c.first_text.ensures.none) (c.loop-text.invariant.so_far events stands)
    (subst (λ text. Appends (g.K.Sink.held c.loop-text.sink) (g.K.Sink.held c.put.new.sink) text) c.deref.ensures.value
    appended)) c.put.ensures.text

pub returns-clause-part : goal.returns-clause-part
returns-clause-part g c = λ events stands.
    on_err_weaker c.put.result
    (λ part. exports_last _ _ _ c.loop-text.lines.items c.loop-text.rest.now events
    (rw c.in_default.is at c.first_text.ensures.none) (c.loop-text.invariant.so_far events stands)
    (subst (λ text. WritesPart (g.K.Sink.held c.loop-text.sink) (g.K.Sink.held c.put.new.sink) text)
    c.deref.ensures.value part)) c.put.ensures.part
