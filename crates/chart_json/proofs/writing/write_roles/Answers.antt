use Rattle.std.proofs.lemmas.List.{take_all}
use Rattle.chart_json.proofs.Listed.{roles_written}
use Rattle.chart_json.proofs.writing.write_roles.Goals as goal

pub returns-clause-value : goal.returns-clause-value
returns-clause-value c =
    roles_written c.loop-role.list c.args.roles.now
    (rw (take_all c.loop-role.role-index c.args.roles.now c.loop-role-test.false) at c.loop-role.invariant.value)
