use Rattle.std.proofs.Common.{[], refl, sym, subst}
use Rattle.pol_lines.specs.Objects.{Stands}
use Rattle.pol_lines.proofs.Making.{line_of_flats}
use Rattle.pol_lines.proofs.journal.JournalLinesLineForm.read_quickly.Goals as goal

pub read_described-requires : goal.read_described-requires
read_described-requires c = λ deep.
    let line = c.args.line.now in
    c.read_flats-cut.ensures deep line []
    (subst (λ held. Stands deep line held [] c.in_ok-cut.cut) (sym c.new-members.ensures) (c.in_ok-cut.ensures deep))

pub read_recipe-requires : goal.read_recipe-requires
read_recipe-requires c = λ deep.
    let line = c.args.line.now in
    c.read_flats-cut.ensures deep line []
    (subst (λ held. Stands deep line held [] c.in_ok-cut.cut) (sym c.new-members.ensures) (c.in_ok-cut.ensures deep))

pub returns-in_default-clause-says : goal.returns-in_default-clause-says
returns-in_default-clause-says c =
    let line = c.args.line.now in
    let cut = c.read_flats-cut.result in
    let begun = subst (λ held. Stands 0 line held [] c.in_ok-cut.cut) (sym c.new-members.ensures)
    (c.in_ok-cut.ensures 0) in
    let stands = subst (λ held. Stands 0 line held [] cut) (sym c.as_slice.ensures.value)
    (c.read_flats-cut.ensures 0 line [] begun) in
    line_of_flats line cut c.as_slice.result.now c.read_members.result (c.if-ends.ensures.text refl) stands
    (c.if-ends.ensures.ended refl) c.read_members.ensures.says c.read_members.ensures.orderly
