-- Roles of a chart as code has them, and the rule on a module that is bound twice in the order in which code finds it.
use Rattle.std.specs.Prelude.{ℕ, Bool, List, [], ◌∷◌, ◌++◌, map, Option, None}
use Rattle.std.specs.Option.{option_or}
use Rattle.mtp_codes.specs.Names.{same_name}
use Rattle.chart_core.specs.Roles.{plain_role}
use Rattle.chart_core.specs.Trees.{PlainStep}
use Rattle.chart_core.specs.declared.role.Role.{Role}
use Rattle.pol_events.specs.BindRules.{twice}
use Rattle.pol_events.specs.Bound.{bound_tag}
use Rattle.pol_events.specs.declared.answer.Rule.{Rule}
use Rattle.pol_events.specs.declared.event.Bind.{Bind}

-- the names of these roles
abbrev pub names_in : List Role → List (List ℕ)
names_in roles = map (λ role. role.role) (map plain_role roles)

-- the first tag in the order of the roles that an earlier role has, the earlier roles in their order
abbrev pub twice_from : List Bind → List (List ℕ) → List (List ℕ) → Option Rule
twice_from binds front [] = None
twice_from binds front (role ∷ roles) =
    option_or (twice binds front (bound_tag binds role)) (twice_from binds (front ++ role ∷ []) roles)

-- the step is of the role
abbrev pub is_of_role : List ℕ → PlainStep → Bool
is_of_role role step = same_name step.role role
