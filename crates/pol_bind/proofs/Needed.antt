-- A description covers a role exactly where it meets what the role needs.
use Rattle.std.specs.Prelude.{ℕ, ◌≡◌, List, [], ◌∷◌, Bool, true, false, not, ◌&&◌, ◌||◌, Option, Some, None, is_none}
use Rattle.std.specs.Prelude.{is_some, cond, filter, find, map, option_map}
use Rattle.std.specs.List.{list_all, list_any}
use Rattle.std.specs.Option.{option_or}
use Rattle.std.proofs.Common.{refl, ap, sym, ◌∙◌}
use Rattle.mtp_codes.specs.Names.{same_name}
use Rattle.mtp_desc.specs.Plain.{PlainDescription}
use Rattle.chart_core.specs.Roles.{PlainChart}
use Rattle.chart_core.specs.Trees.{Placed, Tree, steps}
use Rattle.mtp_codes.specs.declared.cover.CoverFault.TheVariants.{NotCovered}
use Rattle.pol_events.proofs.Options.{not_some}
use Rattle.mtp_procs.specs.Tests.{PlainTest, tests_in}
use Rattle.mtp_procs.specs.Covers.{cover_fault, is_refused, is_refused_step, is_test_misfit, is_test_misfit_of}
use Rattle.mtp_procs.specs.Covers.{is_test_refused, name_of_first, role_fault, role_named, refused_step}
use Rattle.mtp_procs.specs.Covers.{refused_variable, variable_of_first}
use Rattle.pol_bind.specs.Needs.{PlainNeeds, are_done, are_met, fit_all, needs_of}
use Rattle.pol_bind.specs.TestMisfits.{is_test_misfit_for}
use Rattle.pol_bind.specs.Gathered.{plain_test, plain_tests}
use Rattle.pol_bind.specs.declared.gathered.Test.{Test}
use Rattle.pol_bind.proofs.Firsts.{found_where_any, none_refused}
use Rattle.std.proofs.lemmas.Bool.{and_parts, or_right}
use Rattle.chart_core.proofs.Validity.{same_itself}

-- no fault is the first of three where none is one of them
none_of_three : {X Y : Type 0} (part : X → Y) (one : Option Y) (two three : Option X)
    → is_none (option_or one (option_map part (option_or two three)))
    ≡ (is_none one && (is_none two && is_none three))
none_of_three part (Some one) two three = refl
none_of_three part None (Some two) three = refl
none_of_three part None None (Some three) = refl
none_of_three part None None None = refl

-- a first one is kept or not, and all do where it does and the others do
kept_all : {X : Type 0} (test : X → Bool) (kept : Bool) (first : X) (others : List X)
    → list_all test (cond kept (first ∷ others) others)
    ≡ cond kept (test first && list_all test others) (list_all test others)
kept_all test true first others = refl
kept_all test false first others = refl

-- a first one is found or not
one_more : {X Y : Type 0} (part : X → Y) (ours refused : Bool) (first : X) (found : Option X) (rest : Bool)
    → is_none (option_map part found) ≡ rest
    → is_none (option_map part (cond (ours && refused) (Some first) found)) ≡ cond ours (not refused && rest) rest
one_more part true true first found rest same = refl
one_more part true false first found rest same = same
one_more part false refused first found rest same = same

-- no step of the role is refused exactly where each of them is done
done_where_none_refused : (role : List ℕ) (description : PlainDescription) (placed : List Placed)
    → is_none (name_of_first (is_refused_step role description) placed)
    ≡ are_done description (filter (λ step. same_name step.role role) (map (λ each. each.step) placed))
done_where_none_refused role description [] = refl
done_where_none_refused role description (each ∷ placed) =
    let others = filter (λ step. same_name step.role role) (map (λ each. each.step) placed) in
    one_more (λ (found : Placed). found.step.name) (same_name each.step.role role) (is_refused description each.step)
    each (find (λ found. is_refused_step role description found.step) placed) (are_done description others)
    (done_where_none_refused role description placed)
    ∙ sym (kept_all (λ step. not (is_refused description step)) (same_name each.step.role role) each.step others)

-- one test more
fit_more : (ours misfit rest left : Bool) → not rest ≡ left
    → not (ours && misfit || rest) ≡ cond ours (not misfit && left) left
fit_more true true rest left same = refl
fit_more true false rest left same = same
fit_more false misfit rest left same = same

-- no test of the role is a misfit exactly where each of them fits
fit_where_no_misfit : (role : List ℕ) (description : PlainDescription) (tests : List PlainTest)
    → not (list_any (is_test_misfit_for role description) tests)
    ≡ fit_all description (filter (λ test. same_name test.role role) tests)
fit_where_no_misfit role description [] = refl
fit_where_no_misfit role description (test ∷ tests) =
    let others = filter (λ each. same_name each.role role) tests in
    fit_more (same_name test.role role) (is_test_misfit description test)
    (list_any (is_test_misfit_for role description) tests) (fit_all description others)
    (fit_where_no_misfit role description tests)
    ∙ sym (kept_all (λ each. not (is_test_misfit description each)) (same_name test.role role) test others)

-- where a test of the role is a misfit, a variable of the role is refused by all tests that hold its misfits
refused_by_misfit : (role : List ℕ) (description : PlainDescription) (all tests : List PlainTest)
    → ((variable : List ℕ) → list_any (is_test_misfit_of role variable description) tests ≡ true
    → list_any (is_test_misfit_of role variable description) all ≡ true)
    → list_any (is_test_misfit_for role description) tests ≡ true
    → list_any (λ test. same_name test.role role && list_any (is_test_misfit_of role test.variable description) all)
    tests ≡ true
refused_by_misfit role description all [] within some = some
refused_by_misfit role description all (test ∷ tests) within some =
    go
    (refused_by_misfit role description all tests
    (λ variable seen. within variable
    (or_right (is_test_misfit_of role variable description test)
    (list_any (is_test_misfit_of role variable description) tests) seen)))
    (is_test_misfit_for role description test) refl some
  where
    refused_here : PlainTest → Bool
    refused_here each = same_name each.role role && list_any (is_test_misfit_of role each.variable description) all

    go : (list_any (is_test_misfit_for role description) tests ≡ true → list_any refused_here tests ≡ true)
        → (here : Bool) → is_test_misfit_for role description test ≡ here
        → (here || list_any (is_test_misfit_for role description) tests) ≡ true
        → (refused_here test || list_any refused_here tests) ≡ true
    go later true is found =
        let both = and_parts (same_name test.role role) (is_test_misfit description test) is in
        let seen = within test.variable (rw (both.0, same_itself test.variable, both.1) refl) in
        rw (both.0, seen) refl
    go later false is found = or_right (refused_here test) (list_any refused_here tests) (later found)

-- there is none where it isn't so that there is some
is_none_not : {X : Type 0} (found : Option X) → is_none found ≡ not (is_some found)
is_none_not None = refl
is_none_not (Some x) = refl

-- a variable of the role is refused exactly where some test of it is a misfit
refused_where_misfit : (root : Tree) (role : List ℕ) (description : PlainDescription)
    → is_some (variable_of_first (is_test_refused root role description) (tests_in root))
    ≡ list_any (is_test_misfit_for role description) (tests_in root)
refused_where_misfit root role description = go (list_any (is_test_misfit_for role description) (tests_in root)) refl
  where
    go : (some : Bool) → list_any (is_test_misfit_for role description) (tests_in root) ≡ some
        → is_some (variable_of_first (is_test_refused root role description) (tests_in root)) ≡ some
    go true is =
        found_where_any (is_test_refused root role description) (tests_in root)
        ∙ refused_by_misfit role description (tests_in root) (tests_in root) (λ variable seen. seen) is
    go false is =
        ap is_some (none_refused root role description
        (not_some (variable_of_first (is_test_misfit_for role description) (tests_in root))
        (found_where_any (is_test_misfit_for role description) (tests_in root) ∙ is)))

-- no variable of the role is refused exactly where each test of it fits
fit_where_none_refused : (root : Tree) (role : List ℕ) (description : PlainDescription)
    → is_none (variable_of_first (is_test_refused root role description) (tests_in root))
    ≡ fit_all description (filter (λ test. same_name test.role role) (tests_in root))
fit_where_none_refused root role description =
    is_none_not (variable_of_first (is_test_refused root role description) (tests_in root))
    ∙ (ap not (refused_where_misfit root role description) ∙ fit_where_no_misfit role description (tests_in root))

-- a description has no fault for a role exactly where it meets what the role needs
covered_where_met : (chart : PlainChart) (role : List ℕ) (description : PlainDescription)
    → is_none (cover_fault chart role description) ≡ are_met (needs_of chart role) description
covered_where_met chart role description =
    none_of_three NotCovered (role_fault description (role_named role chart)) (refused_step chart role description)
    (refused_variable chart role description)
    ∙ (ap (λ done. is_none (role_fault description (role_named role chart))
    && (done && is_none (refused_variable chart role description)))
    (done_where_none_refused role description (steps chart.root 0))
    ∙ ap (λ fit. is_none (role_fault description (role_named role chart))
    && (are_done description (needs_of chart role).steps && fit)) (fit_where_none_refused chart.root role description))

-- needs whose parts are those of the role are the role's needs
pub needs_by_parts : (chart : PlainChart) (role : List ℕ) (needs : PlainNeeds)
    → needs.role ≡ role_named role chart → needs.steps ≡ (needs_of chart role).steps
    → needs.tests ≡ (needs_of chart role).tests → needs ≡ needs_of chart role
needs_by_parts chart role needs own steps tests =
    ap (λ each. record { role = each; steps = needs.steps; tests = needs.tests }) own
    ∙ (ap (λ each. record { role = role_named role chart; steps = each; tests = needs.tests }) steps
    ∙ ap (λ each. record { role = role_named role chart; steps = (needs_of chart role).steps; tests = each }) tests)

-- needs that are those of the role are met exactly where the description has no fault for the role
pub met_where_covered : (chart : PlainChart) (role : List ℕ) (needs : PlainNeeds) → needs ≡ needs_of chart role
    → (description : PlainDescription) → are_met needs description ≡ is_none (cover_fault chart role description)
met_where_covered chart role needs is description =
    ap (λ each. are_met each description) is ∙ sym (covered_where_met chart role description)

-- tests of a role are those of them as plain data
pub plain_of_role : (role : List ℕ) (tests : List Test)
    → plain_tests (filter (λ test. same_name test.role role) tests)
    ≡ filter (λ test. same_name test.role role) (plain_tests tests)
plain_of_role role [] = refl
plain_of_role role (test ∷ tests) = go (same_name test.role role) (plain_of_role role tests)
  where
    go : (ours : Bool) → plain_tests (filter (λ each. same_name each.role role) tests)
        ≡ filter (λ each. same_name each.role role) (plain_tests tests)
        → plain_tests (cond ours (test ∷ filter (λ each. same_name each.role role) tests)
        (filter (λ each. same_name each.role role) tests))
        ≡ cond ours (plain_test test ∷ filter (λ each. same_name each.role role) (plain_tests tests))
        (filter (λ each. same_name each.role role) (plain_tests tests))
    go true rest = ap (λ others. plain_test test ∷ others) rest
    go false rest = rest
