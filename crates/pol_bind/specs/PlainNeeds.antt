-- Needs that are gathered, as plain data.
use Rattle.std.specs.Prelude.{option_map}
use Rattle.chart_core.specs.Order.{plans_seen}
use Rattle.chart_core.specs.Roles.{plain_role}
use Rattle.pol_bind.specs.Gathered.{plain_tests}
use Rattle.pol_bind.specs.Needs.{PlainNeeds}
use Rattle.pol_bind.specs.declared.needs.Needs.{Needs}

-- needs as plain data
abbrev pub plain_needs : Needs → PlainNeeds
plain_needs needs =
    record {
      role = option_map (λ role. plain_role role.now) needs.role;
      steps = plans_seen needs.steps.items;
      tests = plain_tests needs.tests.items;
    }
