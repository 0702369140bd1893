-- In a valid chart no two branches of a parallel have a step of one role and service.
use Rattle.std.proofs.Common.{◌≡◌, ℕ, ◌+◌, ◌-◌, ◌<◌, ◌≤◌, Bool, true, false, List, [], ◌∷◌, None, refl, ap, sym, ◌∙◌}
use Rattle.std.proofs.Common.{subst, arith}
use Rattle.std.specs.Prelude.{◌&&◌}
use Rattle.std.proofs.lemmas.Bool.{and_parts, or_parts, or_from}
use Rattle.mtp_codes.specs.Names.{same_name}
use Rattle.mtp_codes.specs.Faults.{when}
use Rattle.mtp_codes.proofs.Names.{same_true}
use Rattle.chart_core.specs.Trees.{Placed, Tree, Trees, Arms, leaf, seq, par, choice, loop, no_trees, more_trees}
use Rattle.chart_core.specs.Trees.{no_arms, more_arms, size, sizes, arm_sizes, steps, all_steps, arm_steps}
use Rattle.chart_core.specs.Roles.{PlainChart}
use Rattle.chart_core.specs.Valid.{Visit, visit, visits, all_visits, arm_visits, step_count, node_faults, node_fault}
use Rattle.chart_core.specs.Valid.{first_fault, uses, some_uses, arm_uses, clashes, clashes_in_turn, clashes_at_once}
use Rattle.chart_core.specs.Valid.{clashes_in_arms}
use Rattle.chart_core.specs.declared.fault.ChartFault.TheVariants.{SameService}
use Rattle.chart_core.proofs.Validity.{Each, each_append, each_front, each_back, no_fault, first_clear, none_first}
use Rattle.pol_stillness.specs.Apart.{Clear, AllClear, ArmsClear, Disjoint, ValidChartsAreClear}
use Rattle.pol_simulated.proofs.Places.{lt_true, lt_false}

-- by this test no step clashes
abbrev Unclashed : (ℕ → List ℕ → List ℕ → Bool) → Placed → Type 0
Unclashed clash placed = clash placed.number placed.step.role placed.step.service ≡ false

-- a node has no fault
abbrev Faultless : PlainChart → Visit → Type 0
Faultless chart node = node_fault chart node ≡ None

-- where no node has the first fault, none has a fault
all_clear : (chart : PlainChart) (nodes : List Visit) → first_fault chart nodes ≡ None → Each (Faultless chart) nodes
all_clear chart [] h = tt
all_clear chart (node ∷ nodes) h =
    let r = first_clear (node_fault chart node) (first_fault chart nodes) h in (r.0, all_clear chart nodes r.1)

mutual
  -- no step of a tree without faults clashes
  on_steps : (chart : PlainChart) (t : Tree) (n d k : ℕ) → Each (Faultless chart) (visits t n d k)
      → Each (Unclashed (clashes chart.root)) (steps t n)
  on_steps chart (leaf step) n d k h = (
    no_fault (clashes chart.root n step.role step.service) (SameService n)
        (none_first (node_faults chart (visit (leaf step) n d k)) h.0).1.1.1.1.0,
    tt,
  )
  on_steps chart (seq each) n d k h = on_all chart each (n + 1) (d + 1) k h.1
  on_steps chart (par each) n d k h = on_all chart each (n + 1) (d + 1) k h.1
  on_steps chart (choice each) n d k h = on_arms chart each (n + 1) (d + 1) k h.1
  on_steps chart (loop body until) n d k h = on_steps chart body (n + 1) (d + 1) k h.1

  -- so for the steps of some nodes
  on_all : (chart : PlainChart) (ts : Trees) (n d k : ℕ) → Each (Faultless chart) (all_visits ts n d k)
      → Each (Unclashed (clashes chart.root)) (all_steps ts n)
  on_all chart no_trees n d k h = tt
  on_all chart (more_trees t ts) n d k h =
      each_append (Unclashed (clashes chart.root)) (steps t n) (all_steps ts (n + size t))
      (on_steps chart t n d k (each_front (Faultless chart) (visits t n d k)
      (all_visits ts (n + size t) d (k + step_count t)) h))
      (on_all chart ts (n + size t) d (k + step_count t)
      (each_back (Faultless chart) (visits t n d k) (all_visits ts (n + size t) d (k + step_count t)) h))

  -- and for those of some arms
  on_arms : (chart : PlainChart) (ts : Arms) (n d k : ℕ) → Each (Faultless chart) (arm_visits ts n d k)
      → Each (Unclashed (clashes chart.root)) (arm_steps ts n)
  on_arms chart no_arms n d k h = tt
  on_arms chart (more_arms when t ts) n d k h =
      each_append (Unclashed (clashes chart.root)) (steps t n) (arm_steps ts (n + size t))
      (on_steps chart t n d k (each_front (Faultless chart) (visits t n d k)
      (arm_visits ts (n + size t) d (k + step_count t)) h))
      (on_arms chart ts (n + size t) d (k + step_count t)
      (each_back (Faultless chart) (visits t n d k) (arm_visits ts (n + size t) d (k + step_count t)) h))

-- the step's number lies from low on and below high
abbrev Lies : ℕ → ℕ → Placed → Type 0
Lies low high placed = (low ≤ placed.number) × (placed.number < high)

-- places within a range are within a wider one
lies_wider : (low high low1 high1 : ℕ) (ps : List Placed) → low1 ≤ low → high ≤ high1 → Each (Lies low high) ps
    → Each (Lies low1 high1) ps
lies_wider low high low1 high1 [] l h each = tt
lies_wider low high low1 high1 (p ∷ ps) l h (each, others) =
    ((omega (arith, each.0, l), omega (arith, each.1, h)), lies_wider low high low1 high1 ps l h others)

mutual
  -- the steps of a node have numbers within the node's
  lies : (t : Tree) (n : ℕ) → Each (Lies n (n + size t)) (steps t n)
  lies (leaf step) n = ((omega arith, omega arith), tt)
  lies (seq each) n = lies_wider (n + 1) (n + 1 + sizes each) n (n + (1 + sizes each)) (all_steps each (n + 1))
      (omega arith) (omega arith) (lies_all each (n + 1))
  lies (par each) n = lies_wider (n + 1) (n + 1 + sizes each) n (n + (1 + sizes each)) (all_steps each (n + 1))
      (omega arith) (omega arith) (lies_all each (n + 1))
  lies (choice each) n = lies_wider (n + 1) (n + 1 + arm_sizes each) n (n + (1 + arm_sizes each))
      (arm_steps each (n + 1)) (omega arith) (omega arith) (lies_arms each (n + 1))
  lies (loop body until) n = lies_wider (n + 1) (n + 1 + size body) n (n + (1 + size body)) (steps body (n + 1))
      (omega arith) (omega arith) (lies body (n + 1))

  -- those of some nodes within theirs
  lies_all : (ts : Trees) (n : ℕ) → Each (Lies n (n + sizes ts)) (all_steps ts n)
  lies_all no_trees n = tt
  lies_all (more_trees t ts) n =
      each_append (Lies n (n + (size t + sizes ts))) (steps t n) (all_steps ts (n + size t))
      (lies_wider n (n + size t) n (n + (size t + sizes ts)) (steps t n) (omega arith) (omega arith) (lies t n))
      (lies_wider (n + size t) (n + size t + sizes ts) n (n + (size t + sizes ts)) (all_steps ts (n + size t))
      (omega arith) (omega arith) (lies_all ts (n + size t)))

  -- and those of some arms within theirs
  lies_arms : (ts : Arms) (n : ℕ) → Each (Lies n (n + arm_sizes ts)) (arm_steps ts n)
  lies_arms no_arms n = tt
  lies_arms (more_arms when t ts) n =
      each_append (Lies n (n + (size t + arm_sizes ts))) (steps t n) (arm_steps ts (n + size t))
      (lies_wider n (n + size t) n (n + (size t + arm_sizes ts)) (steps t n) (omega arith) (omega arith) (lies t n))
      (lies_wider (n + size t) (n + size t + arm_sizes ts) n (n + (size t + arm_sizes ts)) (arm_steps ts (n + size t))
      (omega arith) (omega arith) (lies_arms ts (n + size t)))

-- ---- which steps use a service

-- a step of this role and service
abbrev is_user : List ℕ → List ℕ → Placed → Bool
is_user role service placed = same_name placed.step.role role && same_name placed.step.service service

-- a tree that uses a role and service has a step of them, so it doesn't where none of its steps is of them
abbrev NoUser : List ℕ → List ℕ → List Placed → Type 0
NoUser role service ps = Each (λ placed. is_user role service placed ≡ false) ps

mutual
  -- a node none of whose steps uses a service doesn't use it
  unused : (t : Tree) (n : ℕ) (role service : List ℕ) → NoUser role service (steps t n) → uses t role service ≡ false
  unused (leaf step) n role service none = none.0
  unused (seq each) n role service none = unused_all each (n + 1) role service none
  unused (par each) n role service none = unused_all each (n + 1) role service none
  unused (choice each) n role service none = unused_arms each (n + 1) role service none
  unused (loop body until) n role service none = unused body (n + 1) role service none

  -- nor do some nodes
  unused_all : (ts : Trees) (n : ℕ) (role service : List ℕ) → NoUser role service (all_steps ts n)
      → some_uses ts role service ≡ false
  unused_all no_trees n role service none = refl
  unused_all (more_trees t ts) n role service none =
      or_from _ _ (unused t n role service (each_front _ (steps t n) (all_steps ts (n + size t)) none))
      (unused_all ts (n + size t) role service (each_back _ (steps t n) (all_steps ts (n + size t)) none))

  -- nor do some arms
  unused_arms : (ts : Arms) (n : ℕ) (role service : List ℕ) → NoUser role service (arm_steps ts n)
      → arm_uses ts role service ≡ false
  unused_arms no_arms n role service none = refl
  unused_arms (more_arms when t ts) n role service none =
      or_from _ _ (unused t n role service (each_front _ (steps t n) (arm_steps ts (n + size t)) none))
      (unused_arms ts (n + size t) role service (each_back _ (steps t n) (arm_steps ts (n + size t)) none))

-- a step whose role and service the tree doesn't use isn't of those that it uses
no_user : (t : Tree) (role service : List ℕ) (ps : List Placed) → uses t role service ≡ true
    → Each (λ placed. uses t placed.step.role placed.step.service ≡ false) ps
    → NoUser role service ps
no_user t role service [] is each = tt
no_user t role service (p ∷ ps) is (each, others) =
    (go (is_user role service p) refl, no_user t role service ps is others)
  where
    go : (b : Bool) → is_user role service p ≡ b → b ≡ false
    go false e = refl
    go true e =
        let parts = and_parts (same_name p.step.role role) (same_name p.step.service service) e in
        let clash : false ≡ true = sym each ∙ ap (λ r. uses t r p.step.service) (same_true p.step.role role parts.0)
        ∙ ap (uses t role) (same_true p.step.service service parts.1) ∙ is in cc

-- ---- clear trees

-- a clash is told of a part of the chart as of the whole
retold : (one other : ℕ → List ℕ → List ℕ → Bool) (low high : ℕ) (ps : List Placed) →
    ((m : ℕ) (role service : List ℕ) → low ≤ m → m < high → one m role service ≡ false → other m role service ≡ false)
    → Each (Lies low high) ps → Each (Unclashed one) ps
    → Each (Unclashed other) ps
retold one other low high [] same lie each = tt
retold one other low high (p ∷ ps) same (lie, lies) (each, others) =
    (same p.number p.step.role p.step.service lie.0 lie.1 each, retold one other low high ps same lies others)

mutual
  -- a node none of whose steps clashes is clear
  clear_tree : (t : Tree) (n : ℕ) → Each (Unclashed (λ m. clashes t (m - n))) (steps t n) → Clear t
  clear_tree (leaf step) n each = tt
  clear_tree (seq ts) n each =
      clear_all ts (n + 1) (retold (λ m. clashes_in_turn ts (m - n - 1)) (λ m. clashes_in_turn ts (m - (n + 1))) (n + 1)
      (n + 1 + sizes ts) (all_steps ts (n + 1))
      (λ m role service l h none. subst (λ i. clashes_in_turn ts i role service ≡ false) (omega arith) none)
      (lies_all ts (n + 1)) each)
  clear_tree (par ts) n each =
      let told = retold (λ m. clashes_at_once ts (m - n - 1)) (λ m. clashes_at_once ts (m - (n + 1))) (n + 1)
      (n + 1 + sizes ts) (all_steps ts (n + 1))
      (λ m role service l h none. subst (λ i. clashes_at_once ts i role service ≡ false) (omega arith) none)
      (lies_all ts (n + 1)) each in
      (clear_once ts (n + 1) told, apart_once ts (n + 1) told)
  clear_tree (choice ts) n each =
      clear_arms ts (n + 1) (retold (λ m. clashes_in_arms ts (m - n - 1)) (λ m. clashes_in_arms ts (m - (n + 1)))
      (n + 1) (n + 1 + arm_sizes ts) (arm_steps ts (n + 1))
      (λ m role service l h none. subst (λ i. clashes_in_arms ts i role service ≡ false) (omega arith) none)
      (lies_arms ts (n + 1)) each)
  clear_tree (loop body until) n each =
      clear_tree body (n + 1) (retold (λ m. clashes body (m - n - 1)) (λ m. clashes body (m - (n + 1))) (n + 1)
      (n + 1 + size body) (steps body (n + 1))
      (λ m role service l h none. subst (λ i. clashes body i role service ≡ false) (omega arith) none)
      (lies body (n + 1)) each)

  -- and so are nodes in turn
  clear_all : (ts : Trees) (n : ℕ) → Each (Unclashed (λ m. clashes_in_turn ts (m - n))) (all_steps ts n) → AllClear ts
  clear_all no_trees n each = tt
  clear_all (more_trees t ts) n each = (
    clear_tree t n
        (retold (λ m. clashes_in_turn (more_trees t ts) (m - n)) (λ m. clashes t (m - n)) n (n + size t) (steps t n)
        (λ m role service l h none. let inside : m - n < size t = omega (arith, l, h) in rw
        (lt_true (m - n) (size t) inside) at none) (lies t n)
        (each_front (Unclashed (λ m. clashes_in_turn (more_trees t ts) (m - n))) (steps t n) (all_steps ts (n + size t))
        each)),
    clear_all ts (n + size t)
        (retold (λ m. clashes_in_turn (more_trees t ts) (m - n)) (λ m. clashes_in_turn ts (m - (n + size t)))
        (n + size t) (n + size t + sizes ts) (all_steps ts (n + size t))
        (λ m role service l h none. let past : size t ≤ m - n = omega (arith, l) in subst
        (λ i. clashes_in_turn ts i role service ≡ false) (omega arith)
        (rw (lt_false (m - n) (size t) past) at none)) (lies_all ts (n + size t))
        (each_back (Unclashed (λ m. clashes_in_turn (more_trees t ts) (m - n))) (steps t n) (all_steps ts (n + size t))
        each)),
  )

  -- nodes at once are clear each
  clear_once : (ts : Trees) (n : ℕ) → Each (Unclashed (λ m. clashes_at_once ts (m - n))) (all_steps ts n) → AllClear ts
  clear_once no_trees n each = tt
  clear_once (more_trees t ts) n each = (
    clear_tree t n
        (retold (λ m. clashes_at_once (more_trees t ts) (m - n)) (λ m. clashes t (m - n)) n (n + size t) (steps t n)
        (λ m role service l h none. let inside : m - n < size t = omega (arith, l, h) in rw
        (lt_true (m - n) (size t) inside) at none) (lies t n)
        (each_front (Unclashed (λ m. clashes_at_once (more_trees t ts) (m - n))) (steps t n) (all_steps ts (n + size t))
        each)),
    clear_once ts (n + size t)
        (retold (λ m. clashes_at_once (more_trees t ts) (m - n)) (λ m. clashes_at_once ts (m - (n + size t)))
        (n + size t) (n + size t + sizes ts) (all_steps ts (n + size t))
        (λ m role service l h none. let past : size t ≤ m - n = omega
        (arith, l) in (let both = rw (lt_false (m - n) (size t) past) at none in subst
        (λ i. clashes_at_once ts i role service ≡ false) (omega arith)
        (or_parts (uses t role service) (clashes_at_once ts (m - n - size t) role service) both).1))
        (lies_all ts (n + size t))
        (each_back (Unclashed (λ m. clashes_at_once (more_trees t ts) (m - n))) (steps t n) (all_steps ts (n + size t))
        each)),
  )

  -- and no two of them use one service
  apart_once : (ts : Trees) (n : ℕ) → Each (Unclashed (λ m. clashes_at_once ts (m - n))) (all_steps ts n) → Disjoint ts
  apart_once no_trees n each = tt
  apart_once (more_trees t ts) n each = (
    (λ role service is. unused_all ts (n + size t) role service (no_user t role service (all_steps ts (n + size t)) is
        (retold (λ m. clashes_at_once (more_trees t ts) (m - n)) (λ m. uses t) (n + size t) (n + size t + sizes ts)
        (all_steps ts (n + size t))
        (λ m role service l h none. let past : size t ≤ m - n = omega
        (arith, l) in (let both = rw (lt_false (m - n) (size t) past) at
        none in (or_parts (uses t role service) (clashes_at_once ts (m - n - size t) role service) both).0))
        (lies_all ts (n + size t))
        (each_back (Unclashed (λ m. clashes_at_once (more_trees t ts) (m - n))) (steps t n) (all_steps ts (n + size t))
        each)))),
    apart_once ts (n + size t)
        (retold (λ m. clashes_at_once (more_trees t ts) (m - n)) (λ m. clashes_at_once ts (m - (n + size t)))
        (n + size t) (n + size t + sizes ts) (all_steps ts (n + size t))
        (λ m role service l h none. let past : size t ≤ m - n = omega
        (arith, l) in (let both = rw (lt_false (m - n) (size t) past) at none in subst
        (λ i. clashes_at_once ts i role service ≡ false) (omega arith)
        (or_parts (uses t role service) (clashes_at_once ts (m - n - size t) role service) both).1))
        (lies_all ts (n + size t))
        (each_back (Unclashed (λ m. clashes_at_once (more_trees t ts) (m - n))) (steps t n) (all_steps ts (n + size t))
        each)),
  )

  -- arms are clear
  clear_arms : (ts : Arms) (n : ℕ) → Each (Unclashed (λ m. clashes_in_arms ts (m - n))) (arm_steps ts n) → ArmsClear ts
  clear_arms no_arms n each = tt
  clear_arms (more_arms when t ts) n each = (
    clear_tree t n
        (retold (λ m. clashes_in_arms (more_arms when t ts) (m - n)) (λ m. clashes t (m - n)) n (n + size t) (steps t n)
        (λ m role service l h none. let inside : m - n < size t = omega (arith, l, h) in rw
        (lt_true (m - n) (size t) inside) at none) (lies t n)
        (each_front (Unclashed (λ m. clashes_in_arms (more_arms when t ts) (m - n))) (steps t n)
        (arm_steps ts (n + size t)) each)),
    clear_arms ts (n + size t)
        (retold (λ m. clashes_in_arms (more_arms when t ts) (m - n)) (λ m. clashes_in_arms ts (m - (n + size t)))
        (n + size t) (n + size t + arm_sizes ts) (arm_steps ts (n + size t))
        (λ m role service l h none. let past : size t ≤ m - n = omega (arith, l) in subst
        (λ i. clashes_in_arms ts i role service ≡ false) (omega arith)
        (rw (lt_false (m - n) (size t) past) at none)) (lies_arms ts (n + size t))
        (each_back (Unclashed (λ m. clashes_in_arms (more_arms when t ts) (m - n))) (steps t n)
        (arm_steps ts (n + size t)) each)),
  )

-- a valid chart
pub valid_clear : ValidChartsAreClear
valid_clear chart valid =
    clear_tree chart.root 0
    (retold (clashes chart.root) (λ m. clashes chart.root (m - 0)) 0 (0 + size chart.root) (steps chart.root 0)
    (λ m role service l h none. subst (λ i. clashes chart.root i role service ≡ false) (omega arith) none)
    (lies chart.root 0)
    (on_steps chart chart.root 0 1 0 (all_clear chart (visits chart.root 0 1 0) valid)))
