use Rattle.std.proofs.Common.{refl}
use Rattle.pol_lines.proofs.Judging.{no_object}
use Rattle.pol_lines.proofs.faults.other_spot.Goals as goal

pub returns : goal.returns
returns c =
    no_object c.args.guarded c.args.line.now c.in_ok-_held._held (c.if-not-is_whole.ensures.text refl)
    (rw (c.if-not-is_whole.ensures.ended refl) at c.in_ok-_held.ensures)
