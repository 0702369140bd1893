-- The tests in the conditions of a chart, in chart order.
use Rattle.std.specs.Prelude.{ℕ, List, [], ◌∷◌, ◌++◌, Option, Some, None}
use Rattle.mtp_codes.specs.declared.value.Reading.{Reading}
use Rattle.chart_core.specs.Formulas.{Formula, Formulas, constant, all_of, any_of, not_of, test, no_formulas}
use Rattle.chart_core.specs.Formulas.{more_formulas}
use Rattle.chart_core.specs.Trees.{Tree, Trees, Arms, leaf, seq, par, choice, loop, no_trees, more_trees, no_arms}
use Rattle.chart_core.specs.Trees.{more_arms, arm_conditions}

-- a test: the variable that it reads, of which role, and the value that it compares with
pub record PlainTest : Type 0 where
  pub role : List ℕ
  pub variable : List ℕ
  pub value : Reading

-- the tests of a condition, as they occur
abbrev mutual
  pub tests_of : Formula → List PlainTest
  tests_of (constant value) = []
  tests_of (all_of each) = tests_of_all each
  tests_of (any_of each) = tests_of_all each
  tests_of (not_of inner) = tests_of inner
  tests_of (test role variable op value) = record { role = role; variable = variable; value = value } ∷ []

  pub tests_of_all : Formulas → List PlainTest
  tests_of_all no_formulas = []
  tests_of_all (more_formulas each others) = tests_of each ++ tests_of_all others

-- the tests of a step's finish
abbrev pub finish_tests : Option Formula → List PlainTest
finish_tests None = []
finish_tests (Some condition) = tests_of condition

-- The tests of a tree: a node's own before those of its children, a selection's over all its arms.
abbrev mutual
  pub tests_in : Tree → List PlainTest
  tests_in (leaf step) = finish_tests step.finish
  tests_in (seq each) = tests_in_all each
  tests_in (par each) = tests_in_all each
  tests_in (choice each) = tests_of_all (arm_conditions each) ++ tests_in_arms each
  tests_in (loop body until) = tests_of until ++ tests_in body

  pub tests_in_all : Trees → List PlainTest
  tests_in_all no_trees = []
  tests_in_all (more_trees each others) = tests_in each ++ tests_in_all others

  pub tests_in_arms : Arms → List PlainTest
  tests_in_arms no_arms = []
  tests_in_arms (more_arms when each others) = tests_in each ++ tests_in_arms others
