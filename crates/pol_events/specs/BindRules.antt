-- Rules that the binds of a start decide by themselves, against the roles of a recipe.
use Rattle.std.specs.Prelude.{ℕ, Bool, not, ◌&&◌, List, [], ◌∷◌, filter_map, find, Option, Some, None, is_none, is_some}
use Rattle.std.specs.Prelude.{option_and_then, option_map, if◌then◌else◌}
use Rattle.std.specs.Cmp.Lexicographic.{slice_cmp}
use Rattle.std.specs.Ordering.{is_lt, nat_cmp}
use Rattle.std.specs.List.{list_any}
use Rattle.std.specs.Option.{option_or}
use Rattle.mtp_codes.specs.Faults.{when}
use Rattle.mtp_codes.specs.Names.{is_among, same_name}
use Rattle.chart_core.specs.Trees.{PlainStep}
use Rattle.pol_events.specs.Bound.{PlainAllocation, bound_tag}
use Rattle.pol_events.specs.declared.answer.Rule.{Rule}
use Rattle.pol_events.specs.declared.answer.Rule.TheVariants.{OneModuleTwice, RoleUnbound, RoleUnknown, WatchedStep}
use Rattle.pol_events.specs.declared.event.Bind.{Bind}

-- the first of these roles that no bind gives a tag
abbrev pub role_unbound : List Bind → List (List ℕ) → Option Rule
role_unbound binds roles = option_map RoleUnbound (find (λ role. is_none (bound_tag binds role)) roles)

-- the role of the first bind whose role is none of these
abbrev pub unknown_role : List Bind → List (List ℕ) → Option (List ℕ)
unknown_role binds roles = option_map (λ bind. bind.role) (find (λ bind. not (is_among roles bind.role)) binds)

-- the one of two names that comes first in byte order
abbrev pub first_name : Option (List ℕ) → Option (List ℕ) → Option (List ℕ)
first_name None other = other
first_name (Some name) None = Some name
first_name (Some name) (Some other) = Some (if is_lt (slice_cmp nat_cmp other name) then other else name)

-- the first role in byte order, held or watched, that the recipe lacks
abbrev pub role_unknown : PlainAllocation → List (List ℕ) → Option Rule
role_unknown binds roles = option_map RoleUnknown
    (first_name (unknown_role binds.held roles) (unknown_role binds.watched roles))

-- the tag is bound to one of these roles
abbrev pub is_bound_before : List Bind → List (List ℕ) → List ℕ → Bool
is_bound_before binds earlier tag = is_among (filter_map (bound_tag binds) earlier) tag

-- the role's tag, where an earlier role has it
abbrev pub twice : List Bind → List (List ℕ) → Option (List ℕ) → Option Rule
twice binds earlier tag =
    option_and_then (λ tag. when (is_bound_before binds earlier tag) (OneModuleTwice tag)) tag

-- the first tag in the order of the roles that an earlier role has
abbrev pub one_module_twice : List Bind → List (List ℕ) → List (List ℕ) → Option Rule
one_module_twice binds earlier [] = None
one_module_twice binds earlier (role ∷ roles) =
    option_or (twice binds earlier (bound_tag binds role)) (one_module_twice binds (role ∷ earlier) roles)

-- one of these steps is of the role
abbrev pub has_step : List PlainStep → List ℕ → Bool
has_step steps role = list_any (λ step. same_name step.role role) steps

-- the first of these roles that is watched and has one of these steps
abbrev pub watched_step : List Bind → List PlainStep → List (List ℕ) → Option Rule
watched_step watched steps roles =
    option_map WatchedStep (find (λ role. is_some (bound_tag watched role) && has_step steps role) roles)
