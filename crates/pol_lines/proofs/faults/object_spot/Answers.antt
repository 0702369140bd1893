use Rattle.std.proofs.Common.{[], refl, sym, subst}
use Rattle.pol_lines.specs.Parts.{IsOfParts}
use Rattle.pol_lines.specs.Spots.{fault_at}
use Rattle.pol_lines.proofs.Judging.{line_at_fault}
use Rattle.pol_lines.proofs.faults.object_spot.Goals as goal

pub returns-in-Err : goal.returns-in-Err
returns-in-Err c =
    let line = c.args.line.now in
    line_at_fault c.args.guarded line c.as_slice.result.now (fault_at c.in-Err.spot)
    (c.if-not-is_whole.ensures.text refl)
    (subst (λ held. IsOfParts line held []) (sym c.as_slice.ensures.value)
    (rw (c.if-not-is_whole.ensures.ended refl) at c.in_ok-rest.ensures)) (sym c.in-Err.ensures)
