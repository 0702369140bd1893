use Rattle.std.proofs.Common.{◌≡◌, drop, take, map}
use Rattle.std.specs.List.{list_all}
use Rattle.serde_json.specs.View.{view}
use Rattle.chart_core.specs.Roles.{plain_role}
use Rattle.chart_json.specs.Sound.{is_role_sound}
use Rattle.chart_json.specs.Written.{written_role}
use Rattle.chart_json.proofs.writing.write_roles.Given as goal

abbrev pub invariant-loop-role : goal.invariant-loop-role
invariant-loop-role l = record {
  value : map view l.list.items ≡ map (λ role. written_role (plain_role role)) (take l.role-index l.roles);
  sound : list_all is_role_sound (map plain_role (drop l.role-index l.roles))
      ≡ list_all is_role_sound (map plain_role l.roles);
}
