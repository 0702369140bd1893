-- The first of a list with a property, found piece by piece.
use Rattle.std.specs.Prelude.{ℕ, ◌≡◌, List, [], ◌∷◌, ◌++◌, Bool, true, false, ◌&&◌, ◌||◌, Option, Some, None, is_some}
use Rattle.std.specs.Prelude.{cond, find, option_map}
use Rattle.std.specs.List.{list_any}
use Rattle.std.specs.Option.{option_or}
use Rattle.std.proofs.Common.{refl, ap, sym, ◌∙◌}
use Rattle.std.proofs.lemmas.Bool.{and_right}
use Rattle.mtp_codes.specs.Names.{same_name}
use Rattle.mtp_desc.specs.Plain.{PlainDescription}
use Rattle.chart_core.specs.Formulas.{Formula, Formulas, constant, all_of, any_of, not_of, test, no_formulas}
use Rattle.chart_core.specs.Formulas.{more_formulas}
use Rattle.chart_core.specs.Trees.{arm_conditions, Tree, Trees, Arms, leaf, seq, par, choice, loop, no_trees}
use Rattle.chart_core.specs.Trees.{more_trees, no_arms, more_arms}
use Rattle.mtp_procs.specs.Tests.{PlainTest, tests_of, tests_of_all, finish_tests, tests_in, tests_in_all}
use Rattle.mtp_procs.specs.Tests.{tests_in_arms}
use Rattle.mtp_procs.specs.Covers.{variable_of_first, is_test_misfit, is_test_misfit_of, is_test_refused}
use Rattle.pol_events.proofs.Lists.{found_append}
use Rattle.pol_bind.specs.TestMisfits.{is_test_misfit_for}
use Rattle.pol_bind.specs.Walks.{variable_in, variable_among, variable_in_finish, variable_under, variable_under_all}
use Rattle.pol_bind.specs.Walks.{variable_under_arms}

-- the first variable of a list and then of another
variable_append :
    (property : PlainTest → Bool) (xs ys : List PlainTest)
    → variable_of_first property (xs ++ ys) ≡ option_or (variable_of_first property xs) (variable_of_first property ys)
variable_append property xs ys = found_append (λ test. test.variable) property xs ys

-- the variable of one test
one_variable : (each : PlainTest) (b : Bool) → cond b (Some each.variable) None
    ≡ option_map (λ (test : PlainTest). test.variable) (cond b (Some each) None)
one_variable each true = refl
one_variable each false = refl

-- the walk finds the first of a condition's tests
mutual
  -- the first variable in a condition is that of the first among its tests
  test_is : (property : PlainTest → Bool) (each : Formula) → variable_in property each
      ≡ variable_of_first property (tests_of each)
  test_is property (constant value) = refl
  test_is property (all_of each) = test_among_is property each
  test_is property (any_of each) = test_among_is property each
  test_is property (not_of inner) = test_is property inner
  test_is property (test role variable op value) =
      one_variable (record { role = role; variable = variable; value = value })
      (property (record { role = role; variable = variable; value = value }))

  -- so in some conditions
  test_among_is : (property : PlainTest → Bool) (each : Formulas)
      → variable_among property each ≡ variable_of_first property (tests_of_all each)
  test_among_is property no_formulas = refl
  test_among_is property (more_formulas each others) =
      rw (
        variable_append property (tests_of each) (tests_of_all others),
        ← test_is property each,
        ← test_among_is
            property others,
      ) refl

-- in the finish of a step
test_in_finish_is : (property : PlainTest → Bool) (finish : Option Formula)
    → variable_in_finish property finish ≡ variable_of_first property (finish_tests finish)
test_in_finish_is property None = refl
test_in_finish_is property (Some condition) = test_is property condition

-- the walk finds the first of a tree's tests
mutual
  -- in a node
  pub test_under_is : (property : PlainTest → Bool) (each : Tree)
      → variable_under property each ≡ variable_of_first property (tests_in each)
  test_under_is property (leaf step) = test_in_finish_is property step.finish
  test_under_is property (seq each) = test_under_all_is property each
  test_under_is property (par each) = test_under_all_is property each
  test_under_is property (choice each) =
      rw (
        variable_append property (tests_of_all (arm_conditions each)) (tests_in_arms each),
        ← test_among_is property
            (arm_conditions each),
        ← test_under_arms_is property each,
      ) refl
  test_under_is property (loop body until) =
      rw (
        variable_append property (tests_of until) (tests_in body),
        ← test_is property until,
        ← test_under_is
            property body,
      ) refl

  -- in some nodes
  test_under_all_is : (property : PlainTest → Bool) (each : Trees)
      → variable_under_all property each ≡ variable_of_first property (tests_in_all each)
  test_under_all_is property no_trees = refl
  test_under_all_is property (more_trees each others) =
      rw (
        variable_append property (tests_in each) (tests_in_all others),
        ← test_under_is property each,
        ←
            test_under_all_is property others,
      ) refl

  -- and in some arms
  test_under_arms_is : (property : PlainTest → Bool) (each : Arms)
      → variable_under_arms property each ≡ variable_of_first property (tests_in_arms each)
  test_under_arms_is property no_arms = refl
  test_under_arms_is property (more_arms when each others) =
      rw (
        variable_append property (tests_in each) (tests_in_arms others),
        ← test_under_is property each,
        ←
            test_under_arms_is property others,
      ) refl

-- one is found exactly where some item passes
pub some_found : {X : Type 0} (passes : X → Bool) (xs : List X) → is_some (find passes xs) ≡ list_any passes xs
some_found passes [] = refl
some_found {X} passes (x ∷ xs) = go (passes x) (some_found passes xs)
  where
    go : (here : Bool) → is_some (find passes xs) ≡ list_any passes xs →
        is_some (cond here (Some x) (find passes xs)) ≡ (here || list_any passes xs)
    go true later = refl
    go false later = later

-- what is found has a variable
has_variable : (found : Option PlainTest) →
    is_some (option_map (λ (each : PlainTest). each.variable) found) ≡ is_some found
has_variable None = refl
has_variable (Some each) = refl

-- one is found exactly where some test has the property
pub found_where_any : (property : PlainTest → Bool) (xs : List PlainTest)
    → is_some (variable_of_first property xs) ≡ list_any property xs
found_where_any property xs = has_variable (find property xs) ∙ some_found property xs

-- where none of the rest misfits the sum is that of the others
none_more : (ours theirs same misfits rest : Bool) → (ours && misfits || rest) ≡ false
    → (ours && (same && misfits) || theirs) ≡ theirs
none_more true theirs true true rest h = cc
none_more true theirs true false rest h = refl
none_more true theirs false misfits rest h = refl
none_more false theirs same misfits rest h = refl

-- where none of two is, the second is not
rest_none : (one rest : Bool) → (one || rest) ≡ false → rest ≡ false
rest_none true rest h = cc
rest_none false rest h = h

-- where no test of the role is a misfit, none of one of its variables is
none_of_variable :
    (role variable : List ℕ) (description : PlainDescription) (xs : List PlainTest)
    → list_any (is_test_misfit_for role description) xs ≡ false → list_any
    (is_test_misfit_of role variable description) xs ≡ false
none_of_variable role variable description [] none = refl
none_of_variable role variable description (x ∷ xs) none =
    none_more (same_name x.role role) (list_any (is_test_misfit_of role variable description) xs)
    (same_name x.variable variable) (is_test_misfit description x)
    (list_any (is_test_misfit_for role description) xs) none
    ∙ none_of_variable role variable description xs (rest_none (is_test_misfit_for role description x)
    (list_any (is_test_misfit_for role description) xs) none)

-- where none passes none is found
none_found : {X Y : Type 0} (part : X → Y) (property : X → Bool) → ((x : X) → property x ≡ false) → (xs : List X)
    → option_map part (find property xs) ≡ None
none_found part property none [] = refl
none_found part property none (x ∷ xs) = rw (none x) (none_found part property none xs)

-- where no test of the role is a misfit, no variable of it is refused
pub none_refused :
    (root : Tree) (role : List ℕ) (description : PlainDescription)
    → variable_of_first (is_test_misfit_for role description) (tests_in root) ≡ None
    → variable_of_first (is_test_refused root role description) (tests_in root) ≡ None
none_refused root role description none =
    let no_misfit = sym (found_where_any (is_test_misfit_for role description) (tests_in root)) ∙ ap is_some none in
    none_found (λ test. test.variable) (is_test_refused root role description)
    (λ test. and_right (same_name test.role role) (list_any (is_test_misfit_of role test.variable description)
    (tests_in root))
    (none_of_variable role test.variable description (tests_in root) no_misfit))
    (tests_in root)
