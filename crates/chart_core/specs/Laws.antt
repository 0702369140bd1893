-- What holds of every valid chart.
use Rattle.std.specs.Prelude.{◌≡◌, [], IsTrue}
use Rattle.std.specs.List.{Contains}
use Rattle.mtp_codes.specs.Names.{is_among}
use Rattle.chart_core.specs.Trees.{Placed, steps}
use Rattle.chart_core.specs.Roles.{PlainChart, role_names}
use Rattle.chart_core.specs.Runs.{IsPartial}
use Rattle.chart_core.specs.Names.{names, Distinct}
use Rattle.chart_core.specs.Valid.{IsValid}

-- The names of the steps of a valid chart are distinct.
abbrev pub NamesAreDistinct : Type 0
NamesAreDistinct = (chart : PlainChart) → IsValid chart → Distinct (names chart.root)

-- Two steps of a valid chart that have one name are one step.
abbrev pub NamesTellSteps : Type 0
NamesTellSteps =
    (chart : PlainChart) (one other : Placed) → IsValid chart → Contains (steps chart.root 0) one
    → Contains (steps chart.root 0) other
    → one.step.name ≡ other.step.name → one ≡ other

-- The role of each step of a valid chart is one of the chart's roles.
abbrev pub StepsHaveRoles : Type 0
StepsHaveRoles =
    (chart : PlainChart) (placed : Placed) → IsValid chart → Contains (steps chart.root 0) placed
    → IsTrue (is_among (role_names chart) placed.step.role)

-- The empty log is a partial run of each valid chart.
abbrev pub NothingIsPartial : Type 0
NothingIsPartial = (chart : PlainChart) → IsValid chart → IsPartial chart []
