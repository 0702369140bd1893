use Rattle.std.proofs.Common.{[], sym, subst}
use Rattle.chart_core.specs.Formulas.{plain_condition}
use Rattle.chart_json.specs.Form.{formula_of}
use Rattle.pol_lines.specs.Objects.{IsObject, Stands}
use Rattle.pol_lines.proofs.Cuts.{object_reads}
use Rattle.pol_lines.proofs.conditions.read_test.Goals as goal

pub returns-clause-reads : goal.returns-clause-reads
returns-clause-reads c =
    let text = c.args.text.now in
    let begun = subst (λ held. Stands 0 text held [] c.in_ok-cut.cut) (sym c.new-members.ensures)
    (c.in_ok-cut.ensures 0) in
    let last = c.read_flats.ensures 0 text [] begun in
    let is = subst (λ held. IsObject 0 text held [] c.in-End.rest.now) (sym c.as_slice.ensures.value)
    (rw c.in-End.is at last) in
    object_reads formula_of (plain_condition c.in_ok-condition.condition) 0 text c.in-End.rest.now
    c.as_slice.result.now [] is c.in_ok-condition.ensures.says
