-- Whether a module's description covers a role of a chart, and the first fault where it doesn't.
use Rattle.std.specs.Prelude.{ℕ, List, Bool, true, false, not, ◌&&◌, Option, Some, None, is_some, Result, Ok, Err, find}
use Rattle.std.specs.Prelude.{option_map, if◌then◌else◌}
use Rattle.std.specs.List.{list_any}
use Rattle.std.specs.Option.{option_or}
use Rattle.semver.specs.EvalViews.{matches_views}
use Rattle.semver.specs.Parse.{Parts, Held, req_of}
use Rattle.semver.specs.declared.error.Error.{Error}
use Rattle.mtp_codes.specs.declared.cover.CoverFault.{CoverFault}
use Rattle.mtp_codes.specs.declared.cover.CoverFault.TheVariants.{WrongType, WrongVersion, NotCovered}
use Rattle.mtp_codes.specs.declared.value.Reading.{Reading}
use Rattle.mtp_codes.specs.declared.value.Reading.TheVariants as reading
use Rattle.mtp_codes.specs.Names.{same_name}
use Rattle.mtp_assembly.specs.Plain.{PlainVariable}
use Rattle.mtp_assembly.specs.declared.variable.ViewKind.{ViewKind}
use Rattle.mtp_assembly.specs.declared.variable.ViewKind.TheVariants.{Ana, DInt, Bin, Text}
use Rattle.mtp_desc.specs.Plain.{PlainDescription}
use Rattle.mtp_desc.specs.Lookup.{variable_named}
use Rattle.chart_core.specs.Trees.{PlainStep, Placed, Tree, steps}
use Rattle.chart_core.specs.Roles.{PlainRole, PlainChart}
use Rattle.mtp_procs.specs.Demands.{step_fault}
use Rattle.mtp_procs.specs.Tests.{PlainTest, tests_in}

-- the chart's role of this name, if there is one
abbrev pub role_named : List ℕ → PlainChart → Option PlainRole
role_named name chart = find (λ each. same_name each.role name) chart.roles

-- semver matches the version against what it read as a requirement
abbrev pub meets : Parts → Result (List Held) Error → Bool
meets version (Ok requirement) = matches_views requirement version
meets version (Err error) = false

-- what is wrong with the type or the version of the module for a role; a role that isn't there asks for no type
abbrev pub role_fault : PlainDescription → Option PlainRole → Option CoverFault
role_fault description None = Some WrongType
role_fault description (Some role) =
    if not (same_name role.type_name description.type_name) then Some WrongType
    else (if not (meets description.version (req_of role.wants)) then Some WrongVersion else None)

-- the module can't do what the step demands
abbrev pub is_refused : PlainDescription → PlainStep → Bool
is_refused description step = is_some (step_fault description step.service step.procedure step.settings
    (is_some step.finish))

-- the step is of the role, and the module can't do it
abbrev pub is_refused_step : List ℕ → PlainDescription → PlainStep → Bool
is_refused_step role description step = same_name step.role role && is_refused description step

-- the name of the first step with a property
abbrev pub name_of_first : (PlainStep → Bool) → List Placed → Option (List ℕ)
name_of_first property placed = option_map (λ each. each.step.name) (find (λ each. property each.step) placed)

-- the first step of the role in chart order that the module can't do
abbrev pub refused_step : PlainChart → List ℕ → PlainDescription → Option (List ℕ)
refused_step chart role description = name_of_first (is_refused_step role description) (steps chart.root 0)

-- a variable of this kind can be compared with this value: numbers with numbers, truth values with truth values
abbrev pub can_be_compared : ViewKind → Reading → Bool
can_be_compared Ana (reading.Whole number) = true
can_be_compared Ana (reading.Bit bit) = false
can_be_compared DInt (reading.Whole number) = true
can_be_compared DInt (reading.Bit bit) = false
can_be_compared Bin (reading.Whole number) = false
can_be_compared Bin (reading.Bit bit) = true
can_be_compared Text value = false

-- the variable isn't there, or can't be compared with this value
abbrev pub is_variable_misfit : Reading → Option PlainVariable → Bool
is_variable_misfit value None = true
is_variable_misfit value (Some variable) = not (can_be_compared variable.kind value)

-- the module has no variable that fits the test
abbrev pub is_test_misfit : PlainDescription → PlainTest → Bool
is_test_misfit description test = is_variable_misfit test.value (variable_named test.variable description)

-- the test reads this variable of the role, and doesn't fit
abbrev pub is_test_misfit_of : List ℕ → List ℕ → PlainDescription → PlainTest → Bool
is_test_misfit_of role variable description test =
    same_name test.role role && (same_name test.variable variable && is_test_misfit description test)

-- the test is of the role, and some test of the same variable in the chart doesn't fit
abbrev pub is_test_refused : Tree → List ℕ → PlainDescription → PlainTest → Bool
is_test_refused root role description test =
    same_name test.role role && list_any (is_test_misfit_of role test.variable description) (tests_in root)

-- the variable of the first test with a property
abbrev pub variable_of_first : (PlainTest → Bool) → List PlainTest → Option (List ℕ)
variable_of_first property tests = option_map (λ test. test.variable) (find property tests)

-- the first variable of the role, in order of first appearance in the chart, that some test of it doesn't fit
abbrev pub refused_variable : PlainChart → List ℕ → PlainDescription → Option (List ℕ)
refused_variable chart role description = variable_of_first (is_test_refused chart.root role description)
    (tests_in chart.root)

-- The first fault of the description for this role of the chart, if it has one: the type differs; the version isn't one
-- that the role asks for; a step of the role can't be done, or else a variable that is read of it doesn't fit.
abbrev pub cover_fault : PlainChart → List ℕ → PlainDescription → Option CoverFault
cover_fault chart role description =
    option_or
    (role_fault description (role_named role chart))
    (option_map NotCovered (option_or (refused_step chart role description) (refused_variable chart role description)))

-- what is missing, by a fault: the role itself where the type or the version is wrong
abbrev pub missing_by : List ℕ → CoverFault → List ℕ
missing_by role WrongType = role
missing_by role WrongVersion = role
missing_by role (NotCovered missing) = missing
