-- Events as a line says them: charts are valid, and binds are in order.
use Rattle.std.specs.Prelude.{Bool, true, not, ◌&&◌, nat_le, is_none, List, [], ◌∷◌, length}
use Rattle.std.specs.Ordering.{nat_cmp, is_lt}
use Rattle.std.specs.Cmp.Lexicographic.{slice_cmp}
use Rattle.std.specs.List.{list_all}
use Rattle.std.specs.Str.{bytes_eq}
use Rattle.mtp_codes.specs.declared.limits.TheConstants.{MOST_BINDS}
use Rattle.chart_core.specs.Roles.{PlainChart, is_chart_form}
use Rattle.chart_core.specs.Valid.{chart_fault}
use Rattle.pol_events.specs.declared.event.Bind.{Bind}
use Rattle.pol_events.specs.Bound.{PlainAllocation, shares_a_role}
use Rattle.pol_events.specs.Events.{PlainEvent, recipe, start}

-- the first bind's role comes before the second's in byte order
abbrev pub stands_before : Bind → Bind → Bool
stands_before bind other = is_lt (slice_cmp nat_cmp bind.role other.role)

-- the roles of the binds rise in byte order, so no role is bound twice
abbrev pub rise : List Bind → Bool
rise [] = true
rise (bind ∷ []) = true
rise (bind ∷ next ∷ binds) = stands_before bind next && rise (next ∷ binds)

-- no later bind has the role of an earlier one
abbrev pub roles_once : List Bind → Bool
roles_once [] = true
roles_once (bind ∷ binds) = list_all (λ other. not (bytes_eq bind.role other.role)) binds && roles_once binds

-- at most 64 binds, and their roles rise in byte order
abbrev pub are_listed : List Bind → Bool
are_listed binds = nat_le (length binds) MOST_BINDS && rise binds

-- held and watched binds are each at most 64, their roles rise in byte order, and no role is both held and watched
abbrev pub is_allocation : PlainAllocation → Bool
is_allocation binds = are_listed binds.held && (are_listed binds.watched && not (shares_a_role binds))

-- the chart has no fault
abbrev pub is_valid : PlainChart → Bool
is_valid chart = is_none (chart_fault chart)

-- a recipe's chart is formed and valid; a start holds at most 64 modules and watches at most 64, each in byte order of
-- the roles, and no role occurs twice
abbrev pub is_orderly : PlainEvent → Bool
is_orderly (recipe at name chart) = is_chart_form chart && is_valid chart
is_orderly (start at batch name binds) = is_allocation binds
is_orderly _ = true
