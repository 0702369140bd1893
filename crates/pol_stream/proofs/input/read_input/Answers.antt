use Rattle.std.proofs.Common.{ℕ, ◌≤◌, List, length, sym, ap, ◌∙◌, arith, length-append, subst}
use Rattle.pol_io.specs.declared.limits.TheConstants.{LONGEST_INPUT}
use Rattle.pol_io.specs.Edge.{Edge}
use Rattle.pol_jobs.specs.Ends.{edge}
use Rattle.pol_stream.proofs.Inputs.{no_memory_ends, too_much_ends, unread_by}
use Rattle.pol_stream.proofs.Streams.{nothing_more, takes_on}
use Rattle.pol_stream.proofs.input.read_input.Goals as goal

pub returns-in-Ok-true-clause-ends : goal.returns-in-Ok-true-clause-ends
returns-in-Ok-true-clause-ends g c = λ closing sink.
    let s = g.S.Source in
    too_much_ends closing (edge (s.left c.args.source.now) (s.faults c.args.source.now))
    (edge (s.left c.read_more.new.source) (s.faults c.read_more.new.source)) sink c.read_more.new.bytes.items
    (takes_on _ _ _ _ _ _ _ c.loop.invariant.so_far c.in-Ok-true.ensures.more)
    (omega (
      arith,
      ap length c.in-Ok-true.ensures.more.behind
          ∙ length-append c.loop.bytes.items c.in-Ok-true.ensures.more.piece,
      c.in-Ok-true.ensures.more.few,
      c.size_behind-size.ensures.fits,
      c.len.ensures,
      c.len-then-read_more.ensures,
      c.if-len-gt-LONGEST_INPUT.true,
    ))
    (c.in-Ok-true.ensures.cause.done ∙ c.loop.invariant.sound)

pub returns-in-Ok-false-clause-fits : goal.returns-in-Ok-false-clause-fits
returns-in-Ok-false-clause-fits g c =
    subst (λ (bytes : List ℕ). length bytes ≤ LONGEST_INPUT)
    (sym (nothing_more _ _ _ _ _ _ c.in-Ok-false.ensures.more c.in-Ok-false.field-0-test)) c.loop.invariant.fits

pub returns-in-Err-clause-ends : goal.returns-in-Err-clause-ends
returns-in-Err-clause-ends g c = λ closing sink.
    let s = g.S.Source in
    rw c.fault_of.ensures (unread_by closing (edge (s.left c.args.source.now) (s.faults c.args.source.now))
    (edge (s.left c.read_more.new.source) (s.faults c.read_more.new.source)) sink (s.left c.loop.source)
    c.loop.bytes.items c.loop.invariant.so_far c.loop.invariant.sound c.in-Err.ensures.some c.in-Err.fault
    c.in-Err.ensures.cause)

pub returns-clause-ends : goal.returns-clause-ends
returns-clause-ends g c = λ closing sink.
    let s = g.S.Source in
    no_memory_ends closing (edge (s.left c.args.source.now) (s.faults c.args.source.now))
    (edge (s.left c.loop.source) (s.faults c.loop.source)) sink c.loop.bytes.items c.loop.invariant.so_far
    c.loop.invariant.sound
