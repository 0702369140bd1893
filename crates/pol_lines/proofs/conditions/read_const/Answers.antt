use Rattle.std.proofs.Common.{true, false}
use Rattle.pol_lines.proofs.Formulas.{const_reads}
use Rattle.pol_lines.proofs.conditions.read_const.Goals as goal

pub returns-in-Some-clause-reads : goal.returns-in-Some-clause-reads
returns-in-Some-clause-reads c = rw c.of_const.ensures
    (const_reads c.args.text.now c.in-Some.rest.now true c.in-Some.ensures)

pub returns-clause-reads : goal.returns-clause-reads
returns-clause-reads c = rw c.of_const-2.ensures
    (const_reads c.args.text.now c.in_ok-rest.rest.now false c.in_ok-rest.ensures)
