-- Where the step names are distinct, no entry is of two nodes, and no two nodes share a number.
use Rattle.std.specs.Prelude.{ℕ, ◌≡◌, ◌<◌, ◌≤◌, ◌+◌, Bool, true, false, nat_lt, ◌==◌, List, [], ◌∷◌, ◌++◌, length, Option, Some, None, is_some, ◌||◌, ◌⊎◌, zero, suc, refl, if◌then◌else◌}
use Rattle.std.proofs.Common.{sym, ◌∙◌, subst, inl, inr, arith}
use Rattle.std.proofs.lemmas.Bool.{eqb-true, and_parts, ltb-true, or_cases}
use Rattle.std.specs.Cmp.Lexicographic.{same_text}
use Rattle.mtp_codes.specs.declared.value.Reading.{Reading}
use Rattle.mtp_codes.specs.Names.{same_name}
use Rattle.chart_core.specs.Formulas.{Formula}
use Rattle.chart_core.specs.Trees.{PlainStep, Tree, Trees, Arms, leaf, seq, par, choice, loop, no_trees, more_trees, no_arms, more_arms, size, sizes, arm_sizes, arm_count}
use Rattle.chart_core.specs.Entries.{Decision, chose, turn, leave, ChartEntry, of_step, of_node, stage_of, Decided, decided_at}
use Rattle.chart_core.specs.Courses.{Course, is_of, any_below}
use Rattle.chart_core.specs.Progress.{Has}
use Rattle.chart_core.specs.Runs.{WordEntry, right_arm, right_choice, turns_rightly, leaves_rightly, arm_reads, loop_reads, decision_at, course, in_turn, at_once, arm_at}
use Rattle.chart_core.specs.Names.{names, all_names, arm_names, In, Distinct}
use Rattle.chart_core.proofs.Relations.{Apart, Sound}

-- the entry names one of the steps, or a number from n on and below m
abbrev pub Within : List (List ℕ) → ℕ → ℕ → Option ChartEntry → Type 0
Within known low high None = ⊥
Within known low high (Some (of_step stage name service procedure)) = In name known
Within known low high (Some (of_node node decision values)) = (low ≤ node) × (node < high)

-- the entry has the number n
abbrev pub AtNumber : ℕ → Option ChartEntry → Type 0
AtNumber number None = ⊥
AtNumber number (Some (of_step stage name service procedure)) = ⊥
AtNumber number (Some (of_node node decision values)) = node ≡ number

-- a name of the front is a name of both
pub in_left : (name : List ℕ) (front back : List (List ℕ)) → In name front → In name (front ++ back)
in_left name (first ∷ front) back (inl found) = inl found
in_left name (first ∷ front) back (inr found) = inr (in_left name front back found)
in_left name [] back found = absurd found

-- and so is a name of the back
pub in_right : (name : List ℕ) (front back : List (List ℕ)) → In name back → In name (front ++ back)
in_right name [] back found = found
in_right name (first ∷ front) back found = inr (in_right name front back found)

-- of distinct names the front is distinct
pub distinct_front : (front back : List (List ℕ)) → Distinct (front ++ back) → Distinct front
distinct_front [] back new = tt
distinct_front (first ∷ front) back (new, others) =
    (λ again. new (in_left first front back again), distinct_front front back others)

-- and the back
pub distinct_back : (front back : List (List ℕ)) → Distinct (front ++ back) → Distinct back
distinct_back [] back new = new
distinct_back (first ∷ front) back (new, others) = distinct_back front back others

-- and no name is in both
pub distinct_apart : (name : List ℕ) (front back : List (List ℕ)) → Distinct (front ++ back) → In name front
    → In name back → ⊥
distinct_apart name [] back new here there = here
distinct_apart name (first ∷ front) back (new, others) (inl same) there =
    new (in_right first front back (subst (λ text. In text back) same there))
distinct_apart name (first ∷ front) back (new, others) (inr here) there =
    distinct_apart name front back others here there

-- what lies within less lies within more
pub within_more :
    (known more : List (List ℕ)) (low high lower higher : ℕ) (entry : Option ChartEntry)
    → ((name : List ℕ) → In name known → In name more) → lower ≤ low → high ≤ higher → Within known low high entry
    → Within more lower higher entry
within_more known more low high lower higher None known_too below above within = within
within_more known more low high lower higher (Some (of_step stage name service procedure)) known_too below above
    within = known_too name within
within_more known more low high lower higher (Some (of_node node decision values)) known_too below above
    (within, under) = (omega arith, omega arith)

-- what lies within the children of a node lies within the node
in_node : (known : List (List ℕ)) (number nodes : ℕ) (entry : Option ChartEntry)
    → Within known (number + 1) (number + 1 + nodes) entry → Within known number (number + (1 + nodes)) entry
in_node known number nodes entry within =
    within_more known known (number + 1) (number + 1 + nodes) number (number + (1 + nodes)) entry
    (λ name known. known) (omega arith) (omega arith) within

-- no entry lies within two parts that share neither a name nor a number
pub within_apart :
    (known others : List (List ℕ)) (low high from to : ℕ) (entry : Option ChartEntry) → Distinct (known ++ others)
    → high ≤ from → Within known low high entry
    → Within others from to entry → ⊥
within_apart known others low high from to None distinct order here there = here
within_apart known others low high from to (Some (of_step stage name service procedure)) distinct order here there =
    distinct_apart name known others distinct here there
within_apart known others low high from to (Some (of_node node decision values)) distinct order (above, below)
    (after, before) = omega arith

-- there is something only where the test holds
pub some_if : {A : Type 0} (test : Bool) (value : A) → is_some (if test then Some value else None) ≡ true → test ≡ true
some_if true value some = refl
some_if false value some = cc

-- and then it is the value
pub some_if_is : {A : Type 0} (test : Bool) (value found : A) → (if test then Some value else None) ≡ Some found
    → (test ≡ true) × (value ≡ found)
some_if_is true value found same = (refl, cc)
some_if_is false value found same = (cc, cc)

-- an entry of a step names it
pub stage_named : (step : PlainStep) (low high : ℕ) (entry : Option ChartEntry) → is_some (stage_of step entry) ≡ true
    → Within (step.name ∷ []) low high entry
stage_named step low high None staged = cc
stage_named step low high (Some (of_step stage name service procedure)) staged =
    inl (same_text name step.name (sym (and_parts (same_name name step.name) _ (some_if _ stage staged)).0))
stage_named step low high (Some (of_node node decision values)) staged = cc

-- an entry with a number lies where the number lies
pub at_within : (known : List (List ℕ)) (low high number : ℕ) (entry : Option ChartEntry) → low ≤ number → number < high
    → AtNumber number entry
    → Within known low high entry
at_within known low high number None above below here = here
at_within known low high number (Some (of_step stage name service procedure)) above below here = absurd here
at_within known low high number (Some (of_node node decision values)) above below here = (omega arith, omega arith)

-- and nowhere above it
pub at_outside : (known : List (List ℕ)) (low high number : ℕ) (entry : Option ChartEntry) → number < low
    → AtNumber number entry → Within known low high entry → ⊥
at_outside known low high number None before here within = here
at_outside known low high number (Some (of_step stage name service procedure)) before here within = here
at_outside known low high number (Some (of_node node decision values)) before here (within, under) = omega arith

-- a node's decision has its number
pub decided_number : (number count : ℕ) (entry : Option ChartEntry) → is_some (decided_at number count entry) ≡ true
    → AtNumber number entry
decided_number number count None decided = cc
decided_number number count (Some (of_step stage name service procedure)) decided = cc
decided_number number count (Some (of_node node decision values)) decided =
    eqb-true node number (and_parts (node == number) _ (some_if _ _ decided)).0

-- a right choice names one of the arms
choice_below : (each : Arms) (unconditioned : Bool) (decision : Decision) (values : List Reading) (chosen : ℕ)
    → right_choice each unconditioned decision values ≡ Some chosen → chosen < arm_count each
choice_below each unconditioned (chose arm) values chosen same =
    let found = some_if_is _ arm chosen same in
    let below : arm < arm_count each = ltb-true arm (arm_count each)
    (and_parts (nat_lt arm (arm_count each)) _ found.0).0 in
    subst (λ number. number < arm_count each) found.1 below
choice_below each unconditioned turn values chosen same = cc
choice_below each unconditioned leave values chosen same = cc

-- and so does a right arm
pub arm_below_count : (each : Arms) (unconditioned : Bool) (decided : Option Decided) (chosen : ℕ)
    → right_arm each unconditioned decided ≡ Some chosen
    → chosen < arm_count each
arm_below_count each unconditioned None chosen rightly = cc
arm_below_count each unconditioned (Some decided) chosen rightly =
    choice_below each unconditioned decided.decision decided.values chosen rightly

-- a right choice is a decision
pub arm_decided : (each : Arms) (unconditioned : Bool) (decided : Option Decided) (chosen : ℕ)
    → right_arm each unconditioned decided ≡ Some chosen
    → is_some decided ≡ true
arm_decided each unconditioned None chosen rightly = cc
arm_decided each unconditioned (Some decided) chosen rightly = refl

-- a right turn is a decision
pub turn_decided : (until : Formula) (unconditioned : Bool) (decided : Option Decided)
    → turns_rightly until unconditioned decided ≡ true
    → is_some decided ≡ true
turn_decided until unconditioned None rightly = cc
turn_decided until unconditioned (Some decided) rightly = refl

-- a right leave is a decision
pub leave_decided : (until : Formula) (unconditioned : Bool) (decided : Option Decided)
    → leaves_rightly until unconditioned decided ≡ true
    → is_some decided ≡ true
leave_decided until unconditioned None rightly = cc
leave_decided until unconditioned (Some decided) rightly = refl

-- a decision is not both to turn and to leave
turn_or_leave : (until : Formula) (unconditioned : Bool) (decision : Decision) (values : List Reading)
    → turns_rightly until unconditioned (Some (record { decision = decision; values = values })) ≡ true
    → leaves_rightly until unconditioned (Some (record { decision = decision; values = values })) ≡ true → ⊥
turn_or_leave until unconditioned (chose arm) values turns leaves = cc
turn_or_leave until unconditioned turn values turns leaves = cc
turn_or_leave until unconditioned leave values turns leaves = cc

-- no entry turns a loop and leaves it
pub turn_not_leave : (until : Formula) (unconditioned : Bool) (decided : Option Decided)
    → turns_rightly until unconditioned decided ≡ true
    → leaves_rightly until unconditioned decided ≡ true → ⊥
turn_not_leave until unconditioned None rightly leaves = cc
turn_not_leave until unconditioned (Some decided) rightly leaves =
    turn_or_leave until unconditioned decided.decision decided.values rightly leaves

-- where some number passes, here is one
any_of : (count : ℕ) (test : ℕ → Bool) → any_below count test ≡ true → (number : ℕ) × (number < count)
    × (test number ≡ true)
any_of zero test some = cc
any_of (suc count) test some =
    elim (or_cases (test count) (any_below count test) some) [
      | inl holds ↦ (count, omega arith, holds)
      | inr holds ↦ let found = any_of count test holds in
          (found.0, let below : found.0 < count = found.1 in omega arith, found.2)
    ]

-- the ways in which the children of a node go
pub data Way : Type 0 where
  in_order : Way
  side_by_side : Way

-- the course of children that go this way
abbrev pub row : Way → Trees → ℕ → Course WordEntry
row in_order nodes number = in_turn nodes number
row side_by_side nodes number = at_once nodes number

-- no children keep nothing
no_row_has : (way : Way) (number place : ℕ) → Has (row way no_trees number) place → ⊥
no_row_has in_order number place has = has
no_row_has side_by_side number place has = has

-- what children keep, the first of them keeps or the others do
row_has : (way : Way) (node : Tree) (nodes : Trees) (number place : ℕ)
    → Has (row way (more_trees node nodes) number) place
    → Has (course node number) place ⊎ Has (row way nodes (number + size node)) place
row_has in_order node nodes number place has = has
row_has side_by_side node nodes number place has = has

-- no entry is of no children
no_row_of : (way : Way) (number : ℕ) (judged : WordEntry) → is_of (row way no_trees number) judged ≡ false
no_row_of in_order number judged = refl
no_row_of side_by_side number judged = refl

-- an entry of children is of the first of them or of the others
row_of : (way : Way) (node : Tree) (nodes : Trees) (number : ℕ) (judged : WordEntry)
    → is_of (row way (more_trees node nodes) number) judged
    ≡ (is_of (course node number) judged || is_of (row way nodes (number + size node)) judged)
row_of in_order node nodes number judged = refl
row_of side_by_side node nodes number judged = refl

mutual
  -- what a tree keeps lies among its own numbers
  pub has_range : (node : Tree) (number place : ℕ) → Has (course node number) place → (number ≤ place)
      × (place < number + size node)
  has_range (leaf step) number place has = (omega arith, omega arith)
  has_range (seq nodes) number place has = let range = row_range in_order nodes (number + 1) place has in
      (omega arith, omega arith)
  has_range (par nodes) number place has = let range = row_range side_by_side nodes (number + 1) place has in
      (omega arith, omega arith)
  has_range (choice each) number place (inl has) = (omega arith, omega arith)
  has_range (choice each) number place (inr (arm, has)) = let range = arm_range each (number + 1) arm place has in
      (omega arith, omega arith)
  has_range (loop node until) number place (has, below) = (has, omega arith)

  -- and so does what children keep
  row_range : (way : Way) (nodes : Trees) (number place : ℕ) → Has (row way nodes number) place → (number ≤ place)
      × (place < number + sizes nodes)
  row_range way no_trees number place has = absurd (no_row_has way number place has)
  row_range way (more_trees node nodes) number place has =
      elim (row_has way node nodes number place has) [
        | inl here ↦ let range = has_range node number place here in (omega arith, omega arith)
        | inr there ↦ let range = row_range way nodes (number + size node) place there in (omega arith, omega arith)
      ]

  -- and what an arm keeps
  pub arm_range : (each : Arms) (number arm place : ℕ) → Has (arm_at each number arm) place → (number ≤ place)
      × (place < number + arm_sizes each)
  arm_range no_arms number arm place has = absurd has
  arm_range (more_arms when node each) number zero place has = let range = has_range node number place has in
      (omega arith, omega arith)
  arm_range (more_arms when node each) number (suc arm) place has = let range =
      arm_range each (number + size node) arm place has in (omega arith, omega arith)

mutual
  -- an entry of a tree lies within its names and numbers
  pub of_within : (node : Tree) (number : ℕ) (judged : WordEntry) → is_of (course node number) judged ≡ true
      → Within (names node) number (number + size node) judged.entry
  of_within (leaf step) number judged own = stage_named step number (number + 1) judged.entry own
  of_within (seq nodes) number judged own =
      in_node (all_names nodes) number (sizes nodes) judged.entry
      (row_within in_order nodes (number + 1) judged own)
  of_within (par nodes) number judged own =
      in_node (all_names nodes) number (sizes nodes) judged.entry
      (row_within side_by_side nodes (number + 1) judged own)
  of_within (choice each) number judged own =
      elim (or_cases (is_some (decision_at number (arm_reads each) judged))
      (any_below (arm_count each) (λ arm. is_of (arm_at each (number + 1) arm) judged)) own) [
        | inl here ↦ at_within (arm_names each) number (number + (1 + arm_sizes each)) number judged.entry (omega arith)
            (omega arith)
            (decided_number number (length (arm_reads each)) judged.entry here)
        | inr here ↦
            let found = any_of (arm_count each) (λ arm. is_of (arm_at each (number + 1) arm) judged) here in
            in_node (arm_names each) number (arm_sizes each) judged.entry
            (arm_within each (number + 1) found.0 judged found.2)
      ]
  of_within (loop node until) number judged own =
      elim (or_cases (is_some (decision_at number (loop_reads until) judged)) _ own) [
        | inl here ↦ at_within (names node) number (number + (1 + size node)) number judged.entry (omega arith)
            (omega arith)
            (decided_number number (length (loop_reads until)) judged.entry here)
        | inr here ↦ in_node (names node) number (size node) judged.entry (of_within node (number + 1) judged here)
      ]

  -- and so does an entry of children
  pub row_within : (way : Way) (nodes : Trees) (number : ℕ) (judged : WordEntry)
      → is_of (row way nodes number) judged ≡ true
      → Within (all_names nodes) number (number + sizes nodes) judged.entry
  row_within way no_trees number judged own = let none = no_row_of way number judged in cc
  row_within way (more_trees node nodes) number judged own =
      elim (or_cases (is_of (course node number) judged) (is_of (row way nodes (number + size node)) judged)
      (sym (row_of way node nodes number judged) ∙ own)) [
        | inl here ↦ within_more (names node) (names node ++ all_names nodes) number (number + size node) number
            (number + (size node + sizes nodes)) judged.entry
            (λ name known. in_left name (names node) (all_names nodes) known) (omega arith) (omega arith)
            (of_within node number judged here)
        | inr here ↦ within_more (all_names nodes) (names node ++ all_names nodes) (number + size node)
            (number + size node + sizes nodes) number
            (number + (size node + sizes nodes))
            judged.entry (λ name known. in_right name (names node) (all_names nodes) known) (omega arith) (omega arith)
            (row_within way nodes (number + size node) judged here)
      ]

  -- and an entry of an arm
  pub arm_within : (each : Arms) (number arm : ℕ) (judged : WordEntry) → is_of (arm_at each number arm) judged ≡ true
      → Within (arm_names each) number (number + arm_sizes each) judged.entry
  arm_within no_arms number arm judged own = cc
  arm_within (more_arms when node each) number zero judged own =
      within_more (names node) (names node ++ arm_names each) number (number + size node) number
      (number + (size node + arm_sizes each)) judged.entry
      (λ name known. in_left name (names node) (arm_names each) known) (omega arith) (omega arith)
      (of_within node number judged own)
  arm_within (more_arms when node each) number (suc arm) judged own =
      within_more (arm_names each) (names node ++ arm_names each) (number + size node)
      (number + size node + arm_sizes each) number
      (number + (size node + arm_sizes each))
      judged.entry (λ name known. in_right name (names node) (arm_names each) known) (omega arith) (omega arith)
      (arm_within each (number + size node) arm judged own)

-- an entry of an arm is of an arm that is there
pub arm_below : (each : Arms) (number arm : ℕ) (judged : WordEntry) → is_of (arm_at each number arm) judged ≡ true
    → arm < arm_count each
arm_below no_arms number arm judged own = cc
arm_below (more_arms when node each) number zero judged own = omega arith
arm_below (more_arms when node each) number (suc arm) judged own = let below =
    arm_below each (number + size node) arm judged own in omega arith

-- no children are sound
no_row_sound : (way : Way) (number : ℕ) → Sound (row way no_trees number)
no_row_sound in_order number = tt
no_row_sound side_by_side number = tt

-- children are sound where the first is, the others are, and these share nothing
more_row_sound : (way : Way) (node : Tree) (nodes : Trees) (number : ℕ) → Sound (course node number)
    → Sound (row way nodes (number + size node)) → Apart (course node number) (row way nodes (number + size node))
    → Sound (row way (more_trees node nodes) number)
more_row_sound in_order node nodes number here there apart = (here, there, apart)
more_row_sound side_by_side node nodes number here there apart = (here, there, apart)

-- Distinct names make a plan sound.
mutual
  pub sound : (node : Tree) (number : ℕ) → Distinct (names node) → Sound (course node number)
  sound (leaf step) number distinct = tt
  sound (seq nodes) number distinct = row_sound in_order nodes (number + 1) distinct
  sound (par nodes) number distinct = row_sound side_by_side nodes (number + 1) distinct
  sound (choice each) number distinct = (
    λ arm. arm_sound each (number + 1) arm distinct,
    λ arm here. let range = arm_range each (number + 1) arm number here in omega arith,
    λ arm judged here. arm_below_count each judged.unconditioned (decision_at number (arm_reads each) judged) arm here,
    λ arm judged here. arm_below each (number + 1) arm judged here,
    λ arm judged here. arm_decided each judged.unconditioned (decision_at number (arm_reads each) judged) arm here,
  )
  sound (loop t until) n d = (
    sound t (n + 1) d,
    omega arith,
    λ i h. let r = has_range t (n + 1) i h in (omega arith, omega arith),
    λ e h k. at_outside (names t) (n + 1) (n + 1 + size t) n e.entry (omega arith)
        (decided_number n (length (loop_reads until)) e.entry
        (turn_decided until e.unconditioned (decision_at n (loop_reads until) e) k))
        (of_within t (n + 1) e h),
    λ e h k. at_outside (names t) (n + 1) (n + 1 + size t) n e.entry (omega arith)
        (decided_number n (length (loop_reads until)) e.entry
        (leave_decided until e.unconditioned (decision_at n (loop_reads until) e) k))
        (of_within t (n + 1) e h),
    λ e h k. turn_not_leave until e.unconditioned (decision_at n (loop_reads until) e) h k,
    λ e h. turn_decided until e.unconditioned (decision_at n (loop_reads until) e) h,
    λ e h. leave_decided until e.unconditioned (decision_at n (loop_reads until) e) h,
  )

  pub row_sound : (way : Way) (nodes : Trees) (number : ℕ) → Distinct (all_names nodes) → Sound (row way nodes number)
  row_sound way no_trees number distinct = no_row_sound way number
  row_sound way (more_trees node nodes) number distinct =
      more_row_sound way node nodes number
      (sound node number (distinct_front (names node) (all_names nodes) distinct))
      (row_sound way nodes (number + size node) (distinct_back (names node) (all_names nodes) distinct)) (
        λ judged here there. within_apart (names node) (all_names nodes) number (number + size node)
            (number + size node) (number + size node + sizes nodes) judged.entry distinct (omega arith)
            (of_within node number judged here) (row_within way nodes (number + size node) judged there),
        λ place here there. let one = has_range node number place here in let other =
            row_range way nodes (number + size node) place there in omega arith,
      )

  pub arm_sound : (each : Arms) (number arm : ℕ) → Distinct (arm_names each) → Sound (arm_at each number arm)
  arm_sound no_arms number arm distinct = tt
  arm_sound (more_arms when node each) number zero distinct =
      sound node number (distinct_front (names node) (arm_names each) distinct)
  arm_sound (more_arms when node each) number (suc arm) distinct = arm_sound each (number + size node) arm
      (distinct_back (names node) (arm_names each) distinct)
