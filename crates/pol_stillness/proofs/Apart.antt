-- Open steps of a chart are of different services.
use Rattle.std.proofs.Common.{◌≡◌, ℕ, suc, zero, ◌+◌, Bool, true, false, cond, List, [], ◌∷◌, ◌++◌, refl, ap, sym, ◌∙◌}
use Rattle.std.specs.Prelude.{◌||◌}
use Rattle.std.proofs.lemmas.Bool.{and_from, or_parts, or_from}
use Rattle.chart_core.specs.Trees.{Tree, Trees, Arms, leaf, seq, par, choice, loop, no_trees, more_trees, no_arms}
use Rattle.chart_core.specs.Trees.{more_arms, size}
use Rattle.chart_core.specs.Valid.{uses, some_uses, arm_uses}
use Rattle.chart_core.specs.Runs.{course}
use Rattle.chart_core.specs.Progress.{Marks}
use Rattle.chart_core.specs.Changes.{is_done}
use Rattle.chart_core.specs.declared.progress.Progress.{Progress}
use Rattle.chart_core.specs.declared.progress.Progress.TheVariants.{Untouched, Begun, Finished, WasReset, Ended, Chosen}
use Rattle.chart_core.specs.declared.progress.Progress.TheVariants.{Left}
use Rattle.chart_cursor.specs.OpenNodes.{OpenNode, open_nodes, open_in_step, open_in_choice, open_in_loop, open_in_seq}
use Rattle.chart_cursor.specs.OpenNodes.{open_in_par, open_in_arm}
use Rattle.pol_stillness.specs.Apart.{is_step_of, any_open, IsApart, AreApart, AllClear, ArmsClear, Disjoint}
use Rattle.pol_stillness.specs.Apart.{OpenStepsAreApart}
use Rattle.std.proofs.lemmas.List.Folds.{list_any-append}
use Rattle.mtp_codes.proofs.Names.{same_refl}

-- what is open at a selection and at a loop
choice_none : (role service : List ℕ) (n : ℕ) (node : Tree) (arm : ℕ → List OpenNode) (p : Progress)
    → is_step_of role service node ≡ false
    → ((place : ℕ) → any_open role service (arm place) ≡ false)
    → any_open role service (open_in_choice n node arm p) ≡ false
choice_none role service n node arm Untouched none arms = or_from _ false none refl
choice_none role service n node arm Begun none arms = refl
choice_none role service n node arm Finished none arms = refl
choice_none role service n node arm WasReset none arms = refl
choice_none role service n node arm Ended none arms = refl
choice_none role service n node arm (Chosen place) none arms = arms place
choice_none role service n node arm Left none arms = refl

-- the same of a loop
loop-none : (role service : List ℕ) (n : ℕ) (node : Tree) (done : Bool) (body : List OpenNode) (p : Progress)
    → is_step_of role service node ≡ false
    → any_open role service body ≡ false → any_open role service (open_in_loop n node done body p) ≡ false
loop-none role service n node true body Untouched none inside = or_from _ false none refl
loop-none role service n node false body Untouched none inside = inside
loop-none role service n node done body Begun none inside = refl
loop-none role service n node done body Finished none inside = refl
loop-none role service n node done body WasReset none inside = refl
loop-none role service n node done body Ended none inside = refl
loop-none role service n node done body (Chosen arm) none inside = refl
loop-none role service n node done body Left none inside = refl

-- the same of a step
step_none : (role service : List ℕ) (n : ℕ) (node : Tree) (p : Progress) → is_step_of role service node ≡ false
    → any_open role service (open_in_step n node p) ≡ false
step_none role service n node Untouched none = or_from _ false none refl
step_none role service n node Begun none = or_from _ false none refl
step_none role service n node Finished none = or_from _ false none refl
step_none role service n node WasReset none = or_from _ false none refl
step_none role service n node Ended none = refl
step_none role service n node (Chosen arm) none = refl
step_none role service n node Left none = refl

-- of one list or another
either : (role service : List ℕ) (done : Bool) (one other : List OpenNode) → any_open role service one ≡ false
    → any_open role service other ≡ false
    → any_open role service (cond done one other) ≡ false
either role service true one other e f = e
either role service false one other e f = f

mutual
  -- what a tree doesn't use isn't open in it
  open_uses : (t : Tree) (n : ℕ) (f : Marks) (role service : List ℕ) → uses t role service ≡ false
      → any_open role service (open_nodes t n f) ≡ false
  open_uses (leaf step) n f role service none = step_none role service n (leaf step) (f n) none
  open_uses (seq each) n f role service none = turn_uses each (n + 1) f role service none
  open_uses (par each) n f role service none = once_uses each (n + 1) f role service none
  open_uses (choice each) n f role service none =
      choice_none role service n (choice each) (λ arm. open_in_arm each (n + 1) arm f) (f n) refl
      (λ place. arms_use each (n + 1) place f role service none)
  open_uses (loop body until) n f role service none =
      loop-none role service n (loop body until) (is_done (course body (n + 1)) f) (open_nodes body (n + 1) f) (f n)
      refl
      (open_uses body (n + 1) f role service none)

  -- nodes in turn that use no such service have none of it open
  turn_uses : (ts : Trees) (n : ℕ) (f : Marks) (role service : List ℕ) → some_uses ts role service ≡ false
      → any_open role service (open_in_seq ts n f) ≡ false
  turn_uses no_trees n f role service none = refl
  turn_uses (more_trees each others) n f role service none =
      let parts = or_parts (uses each role service) (some_uses others role service) none in
      either role service (is_done (course each n) f) (open_in_seq others (n + size each) f) (open_nodes each n f)
      (turn_uses others (n + size each) f role service parts.1) (open_uses each n f role service parts.0)

  -- nor have nodes at once
  once_uses : (ts : Trees) (n : ℕ) (f : Marks) (role service : List ℕ) → some_uses ts role service ≡ false
      → any_open role service (open_in_par ts n f) ≡ false
  once_uses no_trees n f role service none = refl
  once_uses (more_trees each others) n f role service none =
      let parts = or_parts (uses each role service) (some_uses others role service) none in
      list_any-append (λ spot. is_step_of role service spot.node) (open_nodes each n f)
      (open_in_par others (n + size each) f)
      ∙ or_from _ _ (open_uses each n f role service parts.0)
      (once_uses others (n + size each) f role service parts.1)

  -- nor have arms
  arms_use : (arms : Arms) (n place : ℕ) (f : Marks) (role service : List ℕ) → arm_uses arms role service ≡ false
      → any_open role service (open_in_arm arms n place f) ≡ false
  arms_use no_arms n place f role service none = refl
  arms_use (more_arms when each others) n zero f role service none =
      open_uses each n f role service (or_parts (uses each role service) (arm_uses others role service) none).0
  arms_use (more_arms when each others) n (suc place) f role service none =
      arms_use others (n + size each) place f role service
      (or_parts (uses each role service) (arm_uses others role service) none).1

-- two lists of open nodes of which none of the first has the role and service of one of the second
apart_append : (xs ys : List OpenNode) → AreApart xs → AreApart ys →
    ((role service : List ℕ) → any_open role service xs ≡ true → any_open role service ys ≡ false) → AreApart (xs ++ ys)
apart_append [] ys one other cross = other
apart_append (x ∷ xs) ys one other cross = (
  here x.node refl one.0,
  apart_append xs ys one.1 other
      (λ role service is. cross role service (later (is_step_of role service x.node) (any_open role service xs) is)),
)
  where
    later : (a b : Bool) → b ≡ true → (a || b) ≡ true
    later true b e = refl
    later false b e = e

    first : (a b : Bool) → a ≡ true → (a || b) ≡ true
    first true b e = refl
    first false b e = cc

    here : (node : Tree) → x.node ≡ node → IsApart node xs → IsApart node (xs ++ ys)
    here (leaf step) is apart =
        list_any-append (λ spot. is_step_of step.role step.service spot.node) xs ys
        ∙ or_from _ _ apart (cross step.role step.service
        (first (is_step_of step.role step.service x.node) (any_open step.role step.service xs)
        (ap (is_step_of step.role step.service) is ∙ and_from _ _ (same_refl step.role) (same_refl step.service))))
    here (seq each) is apart = tt
    here (par each) is apart = tt
    here (choice each) is apart = tt
    here (loop body until) is apart = tt

-- one open node is apart
one_apart : (node : Tree) → IsApart node []
one_apart (leaf step) = refl
one_apart (seq each) = tt
one_apart (par each) = tt
one_apart (choice each) = tt
one_apart (loop body until) = tt

-- so is what is open at a step
step_apart : (n : ℕ) (node : Tree) (p : Progress) → AreApart (open_in_step n node p)
step_apart n node Untouched = (one_apart node, tt)
step_apart n node Begun = (one_apart node, tt)
step_apart n node Finished = (one_apart node, tt)
step_apart n node WasReset = (one_apart node, tt)
step_apart n node Ended = tt
step_apart n node (Chosen arm) = tt
step_apart n node Left = tt

-- what is open at a selection
choice_apart : (n : ℕ) (node : Tree) (arm : ℕ → List OpenNode) (p : Progress) → ((place : ℕ) → AreApart (arm place))
    → AreApart (open_in_choice n node arm p)
choice_apart n node arm Untouched arms = (one_apart node, tt)
choice_apart n node arm Begun arms = tt
choice_apart n node arm Finished arms = tt
choice_apart n node arm WasReset arms = tt
choice_apart n node arm Ended arms = tt
choice_apart n node arm (Chosen place) arms = arms place
choice_apart n node arm Left arms = tt

-- what is open at a loop
loop-apart : (n : ℕ) (node : Tree) (done : Bool) (body : List OpenNode) (p : Progress) → AreApart body
    → AreApart (open_in_loop n node done body p)
loop-apart n node true body Untouched inside = (one_apart node, tt)
loop-apart n node false body Untouched inside = inside
loop-apart n node done body Begun inside = tt
loop-apart n node done body Finished inside = tt
loop-apart n node done body WasReset inside = tt
loop-apart n node done body Ended inside = tt
loop-apart n node done body (Chosen arm) inside = tt
loop-apart n node done body Left inside = tt

-- one list or another
either_apart : (done : Bool) (one other : List OpenNode) → AreApart one → AreApart other
    → AreApart (cond done one other)
either_apart true one other e f = e
either_apart false one other e f = f

-- what is open in a tree it uses
used : (tree : Tree) (number : ℕ) (marks : Marks) (role service : List ℕ)
    → any_open role service (open_nodes tree number marks) ≡ true
    → uses tree role service ≡ true
used tree number marks role service is = go (uses tree role service) refl
  where
    go : (b : Bool) → uses tree role service ≡ b → b ≡ true
    go true e = refl
    go false e = let clash : false ≡ true = sym (open_uses tree number marks role service e) ∙ is in cc

mutual
  -- the promise: open steps use different services
  pub spots_apart : OpenStepsAreApart
  spots_apart (leaf step) n f clear = step_apart n (leaf step) (f n)
  spots_apart (seq each) n f clear = turn_apart each (n + 1) f clear
  spots_apart (par each) n f clear = once_apart each (n + 1) f clear.0 clear.1
  spots_apart (choice each) n f clear =
      choice_apart n (choice each) (λ arm. open_in_arm each (n + 1) arm f) (f n)
      (λ place. arms_apart each (n + 1) place f clear)
  spots_apart (loop body until) n f clear =
      loop-apart n (loop body until) (is_done (course body (n + 1)) f) (open_nodes body (n + 1) f) (f n)
      (spots_apart body (n + 1) f clear)

  -- the open steps of nodes in turn do, where each node is clear
  turn_apart : (ts : Trees) (n : ℕ) (f : Marks) → AllClear ts → AreApart (open_in_seq ts n f)
  turn_apart no_trees n f clear = tt
  turn_apart (more_trees each others) n f clear =
      either_apart (is_done (course each n) f) (open_in_seq others (n + size each) f) (open_nodes each n f)
      (turn_apart others (n + size each) f clear.1)
      (spots_apart each n f clear.0)

  -- so do those of nodes at once, where no two of them use one service
  once_apart : (ts : Trees) (n : ℕ) (f : Marks) → AllClear ts → Disjoint ts → AreApart (open_in_par ts n f)
  once_apart no_trees n f clear apart = tt
  once_apart (more_trees each others) n f clear apart =
      apart_append (open_nodes each n f) (open_in_par others (n + size each) f) (spots_apart each n f clear.0)
      (once_apart others (n + size each) f clear.1 apart.1)
      (λ role service is. once_uses others (n + size each) f role service
      (apart.0 role service (used each n f role service is)))

  -- and those of arms
  arms_apart : (arms : Arms) (n place : ℕ) (f : Marks) → ArmsClear arms → AreApart (open_in_arm arms n place f)
  arms_apart no_arms n place f clear = tt
  arms_apart (more_arms when each others) n zero f clear = spots_apart each n f clear.0
  arms_apart (more_arms when each others) n (suc place) f clear = arms_apart others (n + size each) place f clear.1
