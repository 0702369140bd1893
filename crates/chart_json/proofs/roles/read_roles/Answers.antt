use Rattle.std.proofs.Common.{◌≡◌, map, true}
use Rattle.serde_json.specs.View.{items_view, view}
use Rattle.mtp_json.specs.Form.{each}
use Rattle.chart_core.specs.Roles.{plain_role}
use Rattle.chart_json.specs.Form.{are_roles_sized, role_of, roles_of}
use Rattle.chart_json.proofs.Formed.{roles_sized}
use Rattle.chart_json.proofs.Told.{told_of}
use Rattle.chart_json.proofs.roles.read_roles.Goals as goal

pub returns-clause-sized : goal.returns-clause-sized
unfolding roles_of
returns-clause-sized c =
    told_of (λ roles. map plain_role roles.items) (λ roles. are_roles_sized roles ≡ true) c.read_every.result
    (each role_of 0 (items_view c.in_ok-values.values.now)) c.read_every.ensures.gives
    (rw c.in_ok-values.ensures at (roles_sized (view c.args.value.now)))
