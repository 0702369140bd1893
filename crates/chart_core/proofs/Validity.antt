-- What a valid chart has: distinct step names, and few nodes.
use Rattle.std.specs.Prelude.{ℕ, ◌≡◌, ◌<◌, ◌≤◌, ◌+◌, ◌-◌, ◌*◌, Bool, true, false, not, ◌&&◌, ◌||◌, nat_lt, nat_le, List, [], ◌∷◌, ◌++◌, map, Option, Some, None, refl, IsTrue}
use Rattle.std.proofs.Common.{sym, ◌∙◌, ap, subst, inl, inr, arith}
use Rattle.std.proofs.lemmas.List.{map-append}
use Rattle.std.proofs.lemmas.Cmp.{nat_list_eq_equiv}
use Rattle.std.proofs.lemmas.Bool.{and_from, and_parts, leb-false, leb-true, lt-ltb, ltb-false, or_left, or_right}
use Rattle.std.specs.Option.{option_or}
use Rattle.mtp_codes.specs.Names.{is_among, same_name}
use Rattle.mtp_codes.specs.Numbers.{is_between}
use Rattle.mtp_codes.specs.Faults.{first_of, when}
use Rattle.chart_core.specs.declared.limits.TheConstants.{MOST_ARMS, DEEPEST_NODE, MOST_STEPS, MOST_NODES}
use Rattle.chart_core.specs.Form.{is_tree_formed, are_trees_formed, are_arms_formed, is_formula_formed, tree_count}
use Rattle.chart_core.specs.Roles.{PlainChart, role_names, are_roles_formed, is_chart_form}
use Rattle.chart_core.specs.Trees.{PlainStep, Placed, Tree, Trees, Arms, leaf, seq, par, choice, loop, no_trees, more_trees, no_arms, more_arms, size, sizes, arm_sizes, arm_count, steps, all_steps, arm_steps}
use Rattle.chart_core.specs.Names.{names, all_names, arm_names, In, Distinct}
use Rattle.chart_core.specs.Valid.{Visit, visit, visits, all_visits, arm_visits, step_count, step_counts, arm_step_counts, has_name, some_has_name, arm_has_name, node_faults, node_fault, first_fault, IsValid}
use Rattle.chart_core.specs.declared.fault.ChartFault.{ChartFault}
use Rattle.chart_core.specs.declared.fault.ChartFault.TheVariants.{TooDeep, TooManySteps, StepTwice, UnknownRole}

-- each member has the property
abbrev pub Each : {A : Type 0} → (A → Type 0) → List A → Type 0
Each Property [] = Unit {0}
Each Property (first ∷ others) = Property first × Each Property others

-- what holds of each member holds of each of the front
pub each_front : {A : Type 0} (Fact : A → Type 0) (front back : List A) → Each Fact (front ++ back) → Each Fact front
each_front Fact [] back here = tt
each_front Fact (first ∷ front) back (here, others) = (here, each_front Fact front back others)

-- and of each of the back
pub each_back : {A : Type 0} (Fact : A → Type 0) (front back : List A) → Each Fact (front ++ back) → Each Fact back
each_back Fact [] back here = here
each_back Fact (first ∷ front) back (here, others) = each_back Fact front back others

-- what holds of each of two lists holds of each of both
pub each_append : {A : Type 0} (Fact : A → Type 0) (front back : List A) → Each Fact front → Each Fact back
    → Each Fact (front ++ back)
each_append Fact [] back here there = there
each_append Fact (first ∷ front) back (here, others) there = (here, each_append Fact front back others there)

-- what follows from it holds of each too
pub each_map : {A : Type 0} (Fact Weaker : A → Type 0) → ((item : A) → Fact item → Weaker item) → (items : List A)
    → Each Fact items → Each Weaker items
each_map Fact Weaker weakens [] here = tt
each_map Fact Weaker weakens (item ∷ items) (here, others) =
    (weakens item here, each_map Fact Weaker weakens items others)

-- the node has no fault
abbrev IsClear : PlainChart → Visit → Type 0
IsClear chart node = node_fault chart node ≡ None

-- where a fault is none, its test failed
pub no_fault : (here : Bool) (fault : ChartFault) → when here fault ≡ None → here ≡ false
no_fault true fault none = cc
no_fault false fault none = refl

-- where the first fault is none, both are
pub first_clear : (one other : Option ChartFault) → option_or one other ≡ None → (one ≡ None) × (other ≡ None)
first_clear None other none = (refl, none)
first_clear (Some fault) other none = cc

-- in a chart without a fault no node has one
all_clear : (chart : PlainChart) (nodes : List Visit) → first_fault chart nodes ≡ None → Each (IsClear chart) nodes
all_clear chart [] none = tt
all_clear chart (node ∷ nodes) none =
    let both = first_clear (node_fault chart node) (first_fault chart nodes) none in
    (both.0, all_clear chart nodes both.1)

-- where the first of some faults is none, all are
pub none_first : (faults : List (Option ChartFault)) → first_of faults ≡ None → Each (λ fault. fault ≡ None) faults
none_first [] none = tt
none_first (fault ∷ faults) none = let both = first_clear fault (first_of faults) none in
    (both.0, none_first faults both.1)

-- what the test of roles says
among_told : (known reads : Bool) → not known || reads ≡ false → known ≡ true
among_told true reads tested = refl
among_told false reads tested = cc

-- what no fault of a step says
record StepClear (chart : PlainChart) (step : PlainStep) (number depth earlier : ℕ) : Type 0 where
  pub shallow : depth ≤ DEEPEST_NODE
  pub few : earlier < MOST_STEPS
  pub new_name : has_name chart.root number step.name ≡ false
  pub known_role : is_among (role_names chart) step.role ≡ true

-- a step without a fault
step_clear : (chart : PlainChart) (step : PlainStep) (number depth earlier : ℕ)
    → IsClear chart (visit (leaf step) number depth earlier) → StepClear chart step number depth earlier
step_clear chart step number depth earlier clear =
    let none = none_first (node_faults chart (visit (leaf step) number depth earlier)) clear in
    record {
      shallow = ltb-false DEEPEST_NODE depth (no_fault (nat_lt DEEPEST_NODE depth) (TooDeep number) none.0);
      few = leb-false MOST_STEPS earlier (no_fault (nat_le MOST_STEPS earlier) (TooManySteps number) none.1.0);
      new_name = no_fault (has_name chart.root number step.name) (StepTwice number) none.1.1.0;
      known_role = among_told _ _ (no_fault _ (UnknownRole number) none.1.1.1.0);
    }

-- Names

-- no earlier node has the step's name
abbrev HasNewName : PlainChart → Placed → Type 0
HasNewName chart placed = has_name chart.root placed.number placed.step.name ≡ false

mutual
  -- what no fault of a step says holds of each step of a tree without faults
  on_steps :
      (chart : PlainChart) (Fact : Placed → Type 0)
      → ((step : PlainStep) (number depth earlier : ℕ) → StepClear chart step number depth earlier
      → Fact (record { number = number; step = step }))
      → (node : Tree) (number depth earlier : ℕ) → Each (IsClear chart) (visits node number depth earlier)
      → Each Fact (steps node number)
  on_steps chart Fact says (leaf step) number depth earlier clear =
      (says step number depth earlier (step_clear chart step number depth earlier clear.0), tt)
  on_steps chart Fact says (seq each) number depth earlier clear =
      on_all_steps chart Fact says each (number + 1) (depth + 1) earlier clear.1
  on_steps chart Fact says (par each) number depth earlier clear =
      on_all_steps chart Fact says each (number + 1) (depth + 1) earlier clear.1
  on_steps chart Fact says (choice each) number depth earlier clear =
      on_arm_steps chart Fact says each (number + 1) (depth + 1) earlier clear.1
  on_steps chart Fact says (loop body until) number depth earlier clear =
      on_steps chart Fact says body (number + 1) (depth + 1) earlier clear.1

  -- so of some trees
  on_all_steps :
      (chart : PlainChart) (Fact : Placed → Type 0)
      → ((step : PlainStep) (number depth earlier : ℕ) → StepClear chart step number depth earlier
      → Fact (record { number = number; step = step }))
      → (nodes : Trees) (number depth earlier : ℕ) → Each (IsClear chart) (all_visits nodes number depth earlier)
      → Each Fact (all_steps nodes number)
  on_all_steps chart Fact says no_trees number depth earlier clear = tt
  on_all_steps chart Fact says (more_trees node nodes) number depth earlier clear =
      each_append Fact (steps node number) (all_steps nodes (number + size node))
      (on_steps chart Fact says node number depth earlier (each_front (IsClear chart) (visits node number depth earlier)
      (all_visits nodes (number + size node) depth (earlier + step_count node)) clear))
      (on_all_steps chart Fact says nodes (number + size node) depth (earlier + step_count node)
      (each_back (IsClear chart) (visits node number depth earlier)
      (all_visits nodes (number + size node) depth (earlier + step_count node)) clear))

  -- and of some arms
  on_arm_steps :
      (chart : PlainChart) (Fact : Placed → Type 0)
      → ((step : PlainStep) (number depth earlier : ℕ) → StepClear chart step number depth earlier
      → Fact (record { number = number; step = step }))
      → (nodes : Arms) (number depth earlier : ℕ) → Each (IsClear chart) (arm_visits nodes number depth earlier)
      → Each Fact (arm_steps nodes number)
  on_arm_steps chart Fact says no_arms number depth earlier clear = tt
  on_arm_steps chart Fact says (more_arms when node nodes) number depth earlier clear =
      each_append Fact (steps node number) (arm_steps nodes (number + size node))
      (on_steps chart Fact says node number depth earlier (each_front (IsClear chart) (visits node number depth earlier)
      (arm_visits nodes (number + size node) depth (earlier + step_count node)) clear))
      (on_arm_steps chart Fact says nodes (number + size node) depth (earlier + step_count node)
      (each_back (IsClear chart) (visits node number depth earlier)
      (arm_visits nodes (number + size node) depth (earlier + step_count node)) clear))

-- a step of this name is found from its number on
abbrev IsFound : (ℕ → List ℕ → Bool) → ℕ → Placed → Type 0
IsFound has number placed = (count : ℕ) (name : List ℕ) → placed.number < number + count
    → same_name placed.step.name name ≡ true
    → has count name ≡ true

-- a step is found at its own number
here_found : (number count : ℕ) → number < number + count → nat_lt 0 count ≡ true
here_found number count inside = let some : 0 < count = omega arith in lt-ltb 0 count some

-- what is found below a node is found from the node on
below_found : (has : ℕ → List ℕ → Bool) (number : ℕ) (placed : Placed) → IsFound has (number + 1) placed
    → IsFound (λ count. has (count - 1)) number placed
below_found has number placed finds count name inside same =
    let near : placed.number < number + 1 + (count - 1) = omega arith in finds (count - 1) name near same

-- what is found behind a node is found from the node on
behind_found : (one other : ℕ → List ℕ → Bool) (number size_before : ℕ) (placed : Placed)
    → IsFound other (number + size_before) placed
    → IsFound (λ count name. one count name || other (count - size_before) name) number placed
behind_found one other number size_before placed finds count name inside same =
    let near : placed.number < number + size_before + (count - size_before) = omega arith in
    or_right (one count name) (other (count - size_before) name) (finds (count - size_before) name near same)

-- what is found in a node is found from the node on
front_found : (one other : ℕ → List ℕ → Bool) (number size_before : ℕ) (placed : Placed) → IsFound one number placed
    → IsFound (λ count name. one count name || other (count - size_before) name) number placed
front_found one other number size_before placed finds count name inside same =
    or_left (one count name) (other (count - size_before) name) (finds count name inside same)

-- Each step of a tree, of some trees and of some arms is found by its name from its number on.
mutual
  found : (node : Tree) (number : ℕ) → Each (IsFound (has_name node) number) (steps node number)
  found (leaf step) number = (
    λ count name inside same. and_from (nat_lt 0 count) (same_name step.name name)
        (here_found number count inside) same,
    tt,
  )
  found (seq each) n = each_map _ _ (below_found (some_has_name each) n) (all_steps each (n + 1))
      (all_found each (n + 1))
  found (par each) n = each_map _ _ (below_found (some_has_name each) n) (all_steps each (n + 1))
      (all_found each (n + 1))
  found (choice each) n = each_map _ _ (below_found (arm_has_name each) n) (arm_steps each (n + 1))
      (arm_found each (n + 1))
  found (loop body until) n = each_map _ _ (below_found (has_name body) n) (steps body (n + 1)) (found body (n + 1))

  all_found : (nodes : Trees) (number : ℕ) → Each (IsFound (some_has_name nodes) number) (all_steps nodes number)
  all_found no_trees number = tt
  all_found (more_trees node nodes) number =
      each_append (IsFound (some_has_name (more_trees node nodes)) number) (steps node number)
      (all_steps nodes (number + size node))
      (each_map _ _ (front_found (has_name node) (some_has_name nodes) number (size node)) (steps node number)
      (found node number))
      (each_map _ _ (behind_found (has_name node) (some_has_name nodes) number (size node))
      (all_steps nodes (number + size node))
      (all_found nodes (number + size node)))

  arm_found : (nodes : Arms) (number : ℕ) → Each (IsFound (arm_has_name nodes) number) (arm_steps nodes number)
  arm_found no_arms number = tt
  arm_found (more_arms when node nodes) number =
      each_append (IsFound (arm_has_name (more_arms when node nodes)) number) (steps node number)
      (arm_steps nodes (number + size node))
      (each_map _ _ (front_found (has_name node) (arm_has_name nodes) number (size node)) (steps node number)
      (found node number))
      (each_map _ _ (behind_found (has_name node) (arm_has_name nodes) number (size node))
      (arm_steps nodes (number + size node))
      (arm_found nodes (number + size node)))

-- the numbers rise from `low` on and stay below `high`
abbrev pub Rise : ℕ → ℕ → List Placed → Type 0
Rise low high [] = Unit {0}
Rise low high (placed ∷ others) = (low ≤ placed.number) × (placed.number < high) × Rise (placed.number + 1) high others

-- numbers that rise between two, rise between two that lie further apart
rise_wider : (low high lower higher : ℕ) (placed : List Placed) → lower ≤ low → high ≤ higher → Rise low high placed
    → Rise lower higher placed
rise_wider low high lower higher [] below above from = tt
rise_wider low high lower higher (first ∷ placed) below above (from, under, others) = (
  omega arith,
  omega arith,
  rise_wider (first.number + 1) high (first.number + 1) higher placed
      (omega arith) above others,
)

-- numbers that rise, and go on rising
rise_append : (low middle high : ℕ) (front back : List Placed) → low ≤ middle → middle ≤ high → Rise low middle front
    → Rise middle high back
    → Rise low high (front ++ back)
rise_append low middle high [] back below above from behind =
    rise_wider middle high low high back below (omega arith) behind
rise_append low middle high (first ∷ front) back below above (from, under, others) behind =
    (from, omega arith, rise_append (first.number + 1) middle high front back (omega arith) above others behind)

-- The numbers of the steps of a tree, of some trees and of some arms rise, all among the numbers of their nodes.
mutual
  pub steps_rise : (node : Tree) (number : ℕ) → Rise number (number + size node) (steps node number)
  steps_rise (leaf step) number = (omega arith, omega arith, tt)
  steps_rise (seq each) number =
      rise_wider (number + 1) (number + 1 + sizes each) number (number + (1 + sizes each)) (all_steps each (number + 1))
      (omega arith)
      (omega arith) (all_rise each (number + 1))
  steps_rise (par each) number =
      rise_wider (number + 1) (number + 1 + sizes each) number (number + (1 + sizes each)) (all_steps each (number + 1))
      (omega arith)
      (omega arith) (all_rise each (number + 1))
  steps_rise (choice each) number =
      rise_wider (number + 1) (number + 1 + arm_sizes each) number (number + (1 + arm_sizes each))
      (arm_steps each (number + 1)) (omega arith)
      (omega arith) (arms_rise each (number + 1))
  steps_rise (loop body until) number =
      rise_wider (number + 1) (number + 1 + size body) number (number + (1 + size body)) (steps body (number + 1))
      (omega arith) (omega arith)
      (steps_rise body (number + 1))

  all_rise : (nodes : Trees) (number : ℕ) → Rise number (number + sizes nodes) (all_steps nodes number)
  all_rise no_trees number = tt
  all_rise (more_trees node nodes) number =
      rise_append number (number + size node) (number + (size node + sizes nodes)) (steps node number)
      (all_steps nodes (number + size node)) (omega arith)
      (omega arith) (steps_rise node number)
      (rise_wider (number + size node) (number + size node + sizes nodes) (number + size node)
      (number + (size node + sizes nodes))
      (all_steps nodes (number + size node)) (omega arith) (omega arith) (all_rise nodes (number + size node)))

  arms_rise : (nodes : Arms) (number : ℕ) → Rise number (number + arm_sizes nodes) (arm_steps nodes number)
  arms_rise no_arms number = tt
  arms_rise (more_arms when node nodes) number =
      rise_append number (number + size node) (number + (size node + arm_sizes nodes)) (steps node number)
      (arm_steps nodes (number + size node)) (omega arith)
      (omega arith) (steps_rise node number)
      (rise_wider (number + size node) (number + size node + arm_sizes nodes) (number + size node)
      (number + (size node + arm_sizes nodes))
      (arm_steps nodes (number + size node)) (omega arith) (omega arith) (arms_rise nodes (number + size node)))

-- the step's name
abbrev pub name_of : Placed → List ℕ
name_of placed = placed.step.name

-- The names of a tree, of some trees and of some arms are those of their numbered steps.
mutual
  pub names_are : (node : Tree) (number : ℕ) → names node ≡ map name_of (steps node number)
  names_are (leaf step) number = refl
  names_are (seq each) number = all_names_are each (number + 1)
  names_are (par each) number = all_names_are each (number + 1)
  names_are (choice each) number = arm_names_are each (number + 1)
  names_are (loop body until) number = names_are body (number + 1)

  all_names_are : (nodes : Trees) (number : ℕ) → all_names nodes ≡ map name_of (all_steps nodes number)
  all_names_are no_trees number = refl
  all_names_are (more_trees node nodes) number =
      ap (λ others. others ++ all_names nodes) (names_are node number)
      ∙ ap (λ others. map name_of (steps node number) ++ others)
      (all_names_are nodes (number + size node))
      ∙ sym (map-append name_of (steps node number) (all_steps nodes (number + size node)))

  arm_names_are : (nodes : Arms) (number : ℕ) → arm_names nodes ≡ map name_of (arm_steps nodes number)
  arm_names_are no_arms number = refl
  arm_names_are (more_arms when node nodes) number =
      ap (λ others. others ++ arm_names nodes) (names_are node number)
      ∙ ap (λ others. map name_of (steps node number) ++ others)
      (arm_names_are nodes (number + size node))
      ∙ sym (map-append name_of (steps node number) (arm_steps nodes (number + size node)))

-- a name is the same as itself
pub same_itself : (name : List ℕ) → same_name name name ≡ true
same_itself name = nat_list_eq_equiv.refl name

-- no step behind has the name of this one
fresh_name :
    (chart : PlainChart) (one : Placed) (low high : ℕ) (placed : List Placed) → one.number < low → Rise low high placed
    → IsFound (has_name chart.root) 0 one
    → Each (HasNewName chart) placed → In (name_of one) (map name_of placed) → ⊥
fresh_name chart one low high [] below rise finds new again = again
fresh_name chart one low high (other ∷ placed) below (from, under, rise) finds (new, news) (inl same) =
    let inside : one.number < 0 + other.number = omega arith in
    let yes = finds other.number (name_of other) inside (subst (λ name. same_name (name_of one) name ≡ true) same
    (same_itself (name_of one))) in
    let no : true ≡ false = sym yes ∙ new in cc
fresh_name chart one low high (other ∷ placed) below (from, under, rise) finds (new, news) (inr again) =
    fresh_name chart one (other.number + 1) high placed (omega arith) rise finds news again

-- steps of which each has a new name have distinct names
distinct_names :
    (chart : PlainChart) (low high : ℕ) (placed : List Placed) → Rise low high placed
    → Each (IsFound (has_name chart.root) 0) placed → Each (HasNewName chart) placed
    → Distinct (map name_of placed)
distinct_names chart low high [] rise finds new = tt
distinct_names chart low high (one ∷ placed) (from, under, rise) (finds, others) (new, news) = (
  (λ again. fresh_name chart one (one.number + 1) high placed (omega arith) rise finds news again),
  distinct_names chart
      (one.number + 1) high placed rise others news,
)

-- In a valid chart the step names are distinct.
pub valid_distinct : (chart : PlainChart) → IsValid chart → Distinct (names chart.root)
valid_distinct chart valid =
    subst Distinct (sym (names_are chart.root 0))
    (distinct_names chart 0 (0 + size chart.root) (steps chart.root 0) (steps_rise chart.root 0) (found chart.root 0)
    (on_steps chart (HasNewName chart) (λ step number depth earlier clear. clear.new_name) chart.root 0 1 0
    (all_clear chart (visits chart.root 0 1 0) valid)))

-- In a valid chart the role of each step is one of the chart's.
pub valid_roles : (chart : PlainChart) → IsValid chart → Each
    (λ placed. is_among (role_names chart) placed.step.role ≡ true) (steps chart.root 0)
valid_roles chart valid =
    on_steps chart (λ placed. is_among (role_names chart) placed.step.role ≡ true)
    (λ step number depth earlier clear. clear.known_role) chart.root 0 1 0
    (all_clear chart (visits chart.root 0 1 0) valid)

-- Sizes

-- as many nodes as sixteen for each step
record Bound (number nodes earlier count : ℕ) : Type 0 where
  pub near : number + nodes ≤ DEEPEST_NODE * (earlier + count)
  pub few : earlier + count ≤ MOST_STEPS

-- where there are at least so many, there are some
some_told : (least count : ℕ) → 0 < least → nat_le least count ≡ true → 0 < count
some_told least count some tested = let enough = leb-true least count tested in omega arith

-- in the form of some children there are some, and each has its form
children_formed : (least : ℕ) (nodes : Trees) → 0 < least
    → nat_le least (tree_count nodes) && are_trees_formed nodes ≡ true
    → (0 < tree_count nodes) × (are_trees_formed nodes ≡ true)
children_formed least nodes some formed =
    let both = and_parts (nat_le least (tree_count nodes)) (are_trees_formed nodes) formed in
    (some_told least (tree_count nodes) some both.0, both.1)

-- a node with its children has as many nodes as those allow
node_bound : (number nodes earlier count : ℕ) → Bound (number + 1) nodes earlier count
    → Bound number (1 + nodes) earlier count
node_bound number nodes earlier count bound =
    record { near = omega (arith, bound.near); few = bound.few }

-- A tree, some trees and some arms without a fault have at most sixteen nodes for each step.
mutual
  bounded : (chart : PlainChart) (node : Tree) (number depth earlier : ℕ)
      → Each (IsClear chart) (visits node number depth earlier)
      → is_tree_formed node ≡ true → number < DEEPEST_NODE * earlier + depth → earlier ≤ MOST_STEPS
      → Bound number (size node) earlier (step_count node)
  bounded chart (leaf step) number depth earlier clear formed near few =
      let step_is_clear = step_clear chart step number depth earlier clear.0 in
      record { near = omega arith; few = omega arith }
  bounded chart (seq each) number depth earlier clear formed near few =
      let children = children_formed 1 each (omega arith) formed in
      node_bound number (sizes each) earlier (step_counts each)
      (all_bounded chart each (number + 1) (depth + 1) earlier clear.1 children.1 children.0 (omega arith)
      (omega arith) few)
  bounded chart (par each) number depth earlier clear formed near few =
      let children = children_formed 2 each (omega arith) formed in
      node_bound number (sizes each) earlier (step_counts each)
      (all_bounded chart each (number + 1) (depth + 1) earlier clear.1 children.1 children.0 (omega arith)
      (omega arith) few)
  bounded chart (choice each) number depth earlier clear formed near few =
      let children = and_parts (is_between 1 MOST_ARMS (arm_count each)) (are_arms_formed each) formed in
      let some = and_parts (nat_le 1 (arm_count each)) (nat_le (arm_count each) MOST_ARMS) children.0 in
      node_bound number (arm_sizes each) earlier (arm_step_counts each)
      (arms_bounded chart each (number + 1) (depth + 1) earlier clear.1 children.1
      (some_told 1 (arm_count each) (omega arith) some.0) (omega arith) (omega arith) few)
  bounded chart (loop body until) number depth earlier clear formed near few =
      node_bound number (size body) earlier (step_count body)
      (bounded chart body (number + 1) (depth + 1) earlier clear.1
      (and_parts (is_tree_formed body) (is_formula_formed until) formed).0 (omega arith) few)

  all_bounded : (chart : PlainChart) (nodes : Trees) (number depth earlier : ℕ)
      → Each (IsClear chart) (all_visits nodes number depth earlier)
      → are_trees_formed nodes ≡ true → 0 < tree_count nodes
      → 0 < depth → number < DEEPEST_NODE * earlier + depth → earlier ≤ MOST_STEPS
      → Bound number (sizes nodes) earlier (step_counts nodes)
  all_bounded chart no_trees number depth earlier clear formed some deep near few = absurd (omega arith)
  all_bounded chart (more_trees node no_trees) number depth earlier clear formed some deep near few =
      let bound = bounded chart node number depth earlier
      (each_front (IsClear chart) (visits node number depth earlier) [] clear)
      (and_parts (is_tree_formed node) _ formed).0 near few in
      record { near = omega (arith, bound.near); few = omega (arith, bound.few) }
  all_bounded chart (more_trees node (more_trees other nodes)) number depth earlier clear formed some deep near few =
      let bound = bounded chart node number depth earlier
      (each_front (IsClear chart) (visits node number depth earlier)
      (all_visits (more_trees other nodes) (number + size node) depth (earlier + step_count node)) clear)
      (and_parts (is_tree_formed node) _ formed).0 near few in
      let rest = all_bounded chart (more_trees other nodes) (number + size node) depth (earlier + step_count node)
      (each_back (IsClear chart) (visits node number depth earlier)
      (all_visits (more_trees other nodes) (number + size node) depth (earlier + step_count node)) clear)
      (and_parts (is_tree_formed node) _ formed).1 (omega arith) deep (omega (arith, bound.near)) bound.few in
      record { near = omega (arith, rest.near); few = omega (arith, rest.few) }

  arms_bounded : (chart : PlainChart) (nodes : Arms) (number depth earlier : ℕ)
      → Each (IsClear chart) (arm_visits nodes number depth earlier)
      → are_arms_formed nodes ≡ true → 0 < arm_count nodes
      → 0 < depth → number < DEEPEST_NODE * earlier + depth → earlier ≤ MOST_STEPS
      → Bound number (arm_sizes nodes) earlier (arm_step_counts nodes)
  arms_bounded chart no_arms number depth earlier clear formed some deep near few = absurd (omega arith)
  arms_bounded chart (more_arms when node no_arms) number depth earlier clear formed some deep near few =
      let bound = bounded chart node number depth earlier
      (each_front (IsClear chart) (visits node number depth earlier) [] clear)
      (and_parts (is_tree_formed node) _ formed).0 near few in
      record { near = omega (arith, bound.near); few = omega (arith, bound.few) }
  arms_bounded chart (more_arms when node (more_arms guard other nodes)) number depth earlier clear formed some deep
      near few =
      let bound = bounded chart node number depth earlier
      (each_front (IsClear chart) (visits node number depth earlier)
      (arm_visits (more_arms guard other nodes) (number + size node) depth (earlier + step_count node)) clear)
      (and_parts (is_tree_formed node) _ formed).0 near few in
      let rest = arms_bounded chart (more_arms guard other nodes) (number + size node) depth (earlier + step_count node)
      (each_back (IsClear chart) (visits node number depth earlier)
      (arm_visits (more_arms guard other nodes) (number + size node) depth
      (earlier + step_count node)) clear)
      (and_parts (is_formula_formed when) _ (and_parts (is_tree_formed node) _ formed).1).1 (omega arith) deep
      (omega (arith, bound.near)) bound.few in
      record { near = omega (arith, rest.near); few = omega (arith, rest.few) }

-- in the form of a chart its root is formed
pub form_tree : (chart : PlainChart) → IsTrue (is_chart_form chart) → is_tree_formed chart.root ≡ true
form_tree chart form = (and_parts (are_roles_formed chart) (is_tree_formed chart.root) form).1

-- A valid chart has at most 4,096 nodes.
pub valid_small : (chart : PlainChart) → IsTrue (is_chart_form chart) → IsValid chart → size chart.root ≤ MOST_NODES
valid_small chart form valid =
    let bound = bounded chart chart.root 0 1 0 (all_clear chart (visits chart.root 0 1 0) valid) (form_tree chart form)
    (omega arith) (omega arith) in
    omega (arith, bound.near, bound.few)
