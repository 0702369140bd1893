use Rattle.std.proofs.Common.{sym}
use Rattle.pol_lines.proofs.Formulas.{test_of_parts}
use Rattle.pol_lines.proofs.conditions.test_in.Goals as goal

pub returns-clause-says : goal.returns-clause-says
returns-clause-says c = λ found among. rw c.of_test.ensures
    (test_of_parts c.args.members.now c.in_ok-variable.variable c.in_ok-role.role c.in_ok-op.op
    c.in_ok-against.against c.in_ok-variable.ensures c.in_ok-role.ensures c.in_ok-op.ensures c.in_ok-against.ensures
    (sym c.if-not-are_of_test.ensures) (sym c.if-not-may_compare.ensures) found among)
