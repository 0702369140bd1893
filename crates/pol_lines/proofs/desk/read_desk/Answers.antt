use Rattle.std.proofs.Common.{[], refl, sym, subst}
use Rattle.pol_lines.specs.Objects.{Stands}
use Rattle.pol_lines.proofs.Making.{guarded_line_of_flats}
use Rattle.pol_lines.proofs.desk.read_desk.Goals as goal

pub returns-clause-says : goal.returns-clause-says
returns-clause-says c =
    let line = c.args.line.now in
    let cut = c.read_flats-cut.result in
    let begun = subst (λ held. Stands 0 line held [] c.in_ok-cut.cut) (sym c.new-members.ensures)
    (c.in_ok-cut.ensures 0) in
    let stands = subst (λ held. Stands 0 line held [] cut) (sym c.as_slice.ensures.value)
    (c.read_flats-cut.ensures 0 line [] begun) in
    guarded_line_of_flats line cut c.as_slice.result.now c.read_members.result (c.if-not-ends.ensures.text refl) stands
    (c.if-not-ends.ensures.ended refl) c.read_members.ensures.says c.read_members.ensures.faultless
