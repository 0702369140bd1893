-- What a role of a chart needs of the module that plays it.
use Rattle.std.specs.Prelude.{ℕ, List, Bool, not, ◌&&◌, Option, is_none, filter, map}
use Rattle.std.specs.List.{list_all}
use Rattle.mtp_codes.specs.Names.{same_name}
use Rattle.mtp_desc.specs.Plain.{PlainDescription}
use Rattle.chart_core.specs.Roles.{PlainRole, PlainChart}
use Rattle.chart_core.specs.Trees.{PlainStep, steps}
use Rattle.mtp_procs.specs.Covers.{is_refused, is_test_misfit, role_fault, role_named}
use Rattle.mtp_procs.specs.Tests.{PlainTest, tests_in}

-- the role itself, where the chart has it, with its steps and its tests
pub record PlainNeeds : Type 0 where
  pub role : Option PlainRole
  pub steps : List PlainStep
  pub tests : List PlainTest

-- what a role of the chart needs
abbrev pub needs_of : PlainChart → List ℕ → PlainNeeds
needs_of chart role =
    record {
      role = role_named role chart;
      steps = filter (λ step. same_name step.role role) (map (λ placed. placed.step) (steps chart.root 0));
      tests = filter (λ test. same_name test.role role) (tests_in chart.root);
    }

-- the module can do each of the steps
abbrev pub are_done : PlainDescription → List PlainStep → Bool
are_done description steps = list_all (λ step. not (is_refused description step)) steps

-- a variable of the module fits each of the tests
abbrev pub fit_all : PlainDescription → List PlainTest → Bool
fit_all description tests = list_all (λ test. not (is_test_misfit description test)) tests

-- the module is of the role's type and version, can do its steps, and has variables that fit its tests
abbrev pub are_met : PlainNeeds → PlainDescription → Bool
are_met needs description =
    is_none (role_fault description needs.role)
    && (are_done description needs.steps && fit_all description needs.tests)
