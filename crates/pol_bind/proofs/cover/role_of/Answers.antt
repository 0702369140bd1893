use Rattle.std.proofs.Common.{bytes_eq}
use Rattle.mtp_desc.proofs.Views.{looks_up}
use Rattle.chart_core.specs.Roles.{plain_role}
use Rattle.pol_bind.proofs.cover.role_of.Goals as goal

pub returns : goal.returns
returns c = looks_up plain_role (λ role. bytes_eq role.role c.args.name) c.args.chart.now.roles.items c.find_role.result
    (rw c.deref.ensures.value at c.find_role.ensures)
