-- What a walk over the open nodes looks at.
use Rattle.std.specs.Prelude.{ℕ, ◌≡◌, ◌≤◌, ◌+◌, zero, suc, Bool, true, false, List, [], ◌∷◌, length, Option, None, Some, refl, if◌then◌else◌}
use Rattle.std.specs.List.{fold, list_any}
use Rattle.std.proofs.Common.{ap, sym, ◌∙◌, arith}
use Rattle.std.proofs.lemmas.Bool.{and_parts}
use Rattle.mtp_codes.proofs.Options.{or_none}
use Rattle.chart_core.specs.declared.node.Arm.{Arm}
use Rattle.chart_core.specs.declared.progress.Progress.{Progress}
use Rattle.chart_core.specs.declared.progress.Progress.TheVariants.{Ended, Chosen, Left}
use Rattle.chart_core.specs.Trees.{Tree, Trees, Arms, leaf, seq, par, choice, loop, no_trees, more_trees, no_arms, more_arms, plain_node, arms, size, arm_sizes}
use Rattle.chart_core.specs.Runs.{course, in_turn, at_once, arm_at}
use Rattle.chart_core.specs.Active.{Phase}
use Rattle.chart_core.specs.Progress.{Marks}
use Rattle.chart_core.specs.Changes.{is_done, is_ended, is_left, has_chosen}
use Rattle.chart_core.proofs.Items.{arm_laid}
use Rattle.chart_cursor.specs.declared.next.CursorNext.{CursorNext}
use Rattle.chart_cursor.specs.declared.next.CursorNext.TheVariants.{Entry, Wait, Whole}
use Rattle.chart_cursor.specs.Sights.{Sights}
use Rattle.chart_cursor.specs.OpenNodes.{OpenNode, phase_of, open_nodes, open_in_seq, open_in_par, open_in_arm, open_in_step, open_in_choice, open_in_loop, open_node_ready, first_next, first_among}
use Rattle.std.specs.Option.{option_or}
use Rattle.chart_cursor.specs.declared.running.FirstRunning.{FirstRunning}
use Rattle.chart_cursor.specs.declared.scanning.FirstReady.{FirstReady}
use Rattle.chart_cursor.specs.Broken.{broken_node, first_broken_node}
use Rattle.chart_cursor.specs.Holding.{flag_at, is_unasked, hold_node, first_hold_node, unhold_node, first_unhold_node}
use Rattle.chart_cursor.specs.Looks.{look_ready, look_going, look_running, look_hold, look_unhold}
use Rattle.chart_cursor.specs.Running.{is_wanted, running_node, first_running}
use Rattle.chart_cursor.specs.declared.going.Going.{Going}
use Rattle.chart_cursor.specs.declared.holding.FirstHold.{FirstHold}
use Rattle.chart_cursor.specs.declared.holding.FirstUnhold.{FirstUnhold}

-- ---- a part that is done has no open node

-- an ended step is not open
ended_step : (number : ℕ) (node : Tree) (progress : Progress) → is_ended progress ≡ true
    → open_in_step number node progress ≡ []
ended_step number node Ended ended = refl
ended_step number node progress ended = absurd cc

-- a selection whose chosen arm is done has nothing open
done_choice :
    (number : ℕ) (node : Tree) (arm : ℕ → List OpenNode) (test : ℕ → Bool) (progress : Progress)
    → ((place : ℕ) → test place ≡ true → arm place ≡ [])
    → has_chosen test progress ≡ true → open_in_choice number node arm progress ≡ []
done_choice number node arm test (Chosen place) closed chosen = closed place chosen
done_choice number node arm test progress closed chosen = absurd cc

-- a loop that was left has nothing open
left_loop : (number : ℕ) (node : Tree) (done : Bool) (body : List OpenNode) (progress : Progress)
    → is_left progress ≡ true
    → open_in_loop number node done body progress ≡ []
left_loop number node done body Left left = refl
left_loop number node done body progress left = absurd cc

-- what is done has no open node
mutual
  pub done_closed : (each : Tree) (number : ℕ) (marks : Marks) → is_done (course each number) marks ≡ true
      → open_nodes each number marks ≡ []
  done_closed (leaf step) number marks done = ended_step number (leaf step) (marks number) done
  done_closed (seq each) number marks done = turn_closed each (number + 1) marks done
  done_closed (par each) number marks done = once_closed each (number + 1) marks done
  done_closed (choice each) number marks done =
      done_choice number (choice each) (λ arm. open_in_arm each (number + 1) arm marks)
      (λ arm. is_done (arm_at each (number + 1) arm) marks) (marks number)
      (λ place. arm_closed each (number + 1) place marks) done
  done_closed (loop body until) number marks done =
      left_loop number (loop body until) (is_done (course body (number + 1)) marks) (open_nodes body (number + 1) marks)
      (marks number) done

  turn_closed : (each : Trees) (number : ℕ) (marks : Marks) → is_done (in_turn each number) marks ≡ true
      → open_in_seq each number marks ≡ []
  turn_closed no_trees number marks done = refl
  turn_closed (more_trees each others) number marks done =
      let both = and_parts (is_done (course each number) marks)
      (is_done (in_turn others (number + size each)) marks) done in
      rw both.0 (turn_closed others (number + size each) marks both.1)

  once_closed : (each : Trees) (number : ℕ) (marks : Marks) → is_done (at_once each number) marks ≡ true
      → open_in_par each number marks ≡ []
  once_closed no_trees number marks done = refl
  once_closed (more_trees each others) number marks done =
      let both = and_parts (is_done (course each number) marks)
      (is_done (at_once others (number + size each)) marks) done in
      rw (done_closed each number marks both.0) (once_closed others (number + size each) marks both.1)

  arm_closed : (each : Arms) (number place : ℕ) (marks : Marks) → is_done (arm_at each number place) marks ≡ true
      → open_in_arm each number place marks ≡ []
  arm_closed no_arms number place marks done = refl
  arm_closed (more_arms when each others) number zero marks done = done_closed each number marks done
  arm_closed (more_arms when each others) number (suc place) marks done =
      arm_closed others (number + size each) place marks done

-- ---- one part more

-- a walk over a part that is done looks at nothing
pub done_same :
    {A : Type 0} (after : A → OpenNode → A) (old new : A) (each : Tree) (number : ℕ) (marks : Marks)
    → new ≡ fold after old (open_nodes each number marks) → is_done (course each number) marks ≡ true → new ≡ old
done_same after old new each number marks looked done = looked
    ∙ ap (fold after old) (done_closed each number marks done)

-- parts in order: where the first of them is done, the walk goes on with the others
pub turn_more :
    {A : Type 0} (after : A → OpenNode → A) (old new : A) (each : Tree) (others : Trees) (number : ℕ) (marks : Marks)
    → new ≡ fold after old (open_nodes each number marks)
    → (if is_done (course each number) marks then fold after new
    (open_in_seq others (number + size each) marks) else new)
    ≡ fold after old (open_in_seq (more_trees each others) number marks)
turn_more after old new each others number marks looked =
    (elim (is_done (course each number) marks) as
    (λ done. is_done (course each number) marks ≡ done →
    (if done then fold after new (open_in_seq others (number + size each) marks) else new)
    ≡ fold after old (if done then open_in_seq others (number + size each) marks else open_nodes each number marks)) [
      | true ↦ λ done. ap (λ look. fold after look (open_in_seq others (number + size each) marks))
          (done_same after old new each number marks looked done)
      | false ↦ λ done. looked
    ]) refl

-- ---- what is found at the end of a walk

-- the first of three answers
pub first_next_assoc : (one other third : CursorNext) → first_next (first_next one other) third
    ≡ first_next one (first_next other third)
first_next_assoc (Entry entry) other third = refl
first_next_assoc (Wait obstacle) (Entry entry) third = refl
first_next_assoc (Wait obstacle) (Wait second) (Entry entry) = refl
first_next_assoc (Wait obstacle) (Wait second) (Wait last_one) = refl
first_next_assoc (Wait obstacle) (Wait second) Whole = refl
first_next_assoc (Wait obstacle) Whole third = refl
first_next_assoc Whole other third = refl

-- one answer, and nothing behind it
pub first_next_whole : (one : CursorNext) → first_next one Whole ≡ one
first_next_whole (Entry entry) = refl
first_next_whole (Wait obstacle) = refl
first_next_whole Whole = refl

-- what came first before a walk, and then what comes first of the nodes that it looks at
pub ready_found :
    {S : Type 0} (sights : S → Sights) (ready : FirstReady S) (each : List OpenNode)
    → (fold (look_ready sights) ready each).next ≡ first_next ready.next (first_among (sights ready.seen.now) each)
ready_found sights ready [] = sym (first_next_whole ready.next)
ready_found sights ready (spot ∷ others) =
    ready_found sights (look_ready sights ready spot) others
    ∙ first_next_assoc ready.next (open_node_ready (sights ready.seen.now) spot)
    (first_among (sights ready.seen.now) others)

-- the first of three that is there
or_assoc : {A : Type 0} (one other third : Option A) → option_or (option_or one other) third
    ≡ option_or one (option_or other third)
or_assoc None other third = refl
or_assoc (Some first) other third = refl

-- what ran before a walk, and then the first running one of the steps that it looks at
pub running_found :
    (running : FirstRunning) (each : List OpenNode)
    → (fold look_running running each).found ≡ option_or running.found
    (first_running (is_wanted running.from running.role) each)
running_found running [] = sym (or_none running.found)
running_found running (spot ∷ others) =
    let wanted = is_wanted running.from running.role in
    running_found (look_running running spot) others
    ∙ or_assoc running.found (running_node wanted spot.number spot.node (phase_of spot.progress))
    (first_running wanted others)

-- what broke before a walk, and then the first one that broke of the steps that it looks at
pub broken_found :
    {S : Type 0} (sights : S → Sights) (going : Going S) (each : List OpenNode)
    → (fold (look_going sights) going each).found ≡ option_or going.found
    (first_broken_node (sights going.seen.now) each)
broken_found sights going [] = sym (or_none going.found)
broken_found sights going (spot ∷ others) =
    broken_found sights (look_going sights going spot) others
    ∙ or_assoc going.found (broken_node (sights going.seen.now) spot.node (phase_of spot.progress))
    (first_broken_node (sights going.seen.now) others)

-- and what came first before that walk, and then what comes first of the nodes that it looks at
pub next_found :
    {S : Type 0} (sights : S → Sights) (going : Going S) (each : List OpenNode)
    → (fold (look_going sights) going each).next ≡ first_next going.next (first_among (sights going.seen.now) each)
next_found sights going [] = sym (first_next_whole going.next)
next_found sights going (spot ∷ others) =
    next_found sights (look_going sights going spot) others
    ∙ first_next_assoc going.next (open_node_ready (sights going.seen.now) spot)
    (first_among (sights going.seen.now) others)

-- what was to be held before a walk, and then the first to be held of the steps that it looks at
pub hold_found :
    {S : Type 0} (sights : S → Sights) (hold : FirstHold S) (each : List OpenNode)
    → (fold (look_hold sights) hold each).found ≡ option_or hold.found
    (first_hold_node (sights hold.seen.now) (is_unasked hold.from hold.asked.now) each)
hold_found sights hold [] = sym (or_none hold.found)
hold_found sights hold (spot ∷ others) =
    let test = is_unasked hold.from hold.asked.now in
    hold_found sights (look_hold sights hold spot) others
    ∙ or_assoc hold.found (hold_node (sights hold.seen.now) test spot.number spot.node (phase_of spot.progress))
    (first_hold_node (sights hold.seen.now) test others)

-- what came first before a walk, and then what comes first of the steps that it looks at and that were held
pub unhold_found :
    {S : Type 0} (sights : S → Sights) (unhold : FirstUnhold S) (each : List OpenNode)
    → (fold (look_unhold sights) unhold each).next ≡ first_next unhold.next
    (first_unhold_node (sights unhold.seen.now) (flag_at unhold.held.now) each)
unhold_found sights unhold [] = sym (first_next_whole unhold.next)
unhold_found sights unhold (spot ∷ others) =
    let test = flag_at unhold.held.now in
    unhold_found sights (look_unhold sights unhold spot) others
    ∙ first_next_assoc unhold.next
    (unhold_node (sights unhold.seen.now) test spot.number spot.node (phase_of spot.progress))
    (first_unhold_node (sights unhold.seen.now) test others)

-- ---- where no step was held

-- where no flag is set, no node has one
no_flag : (flags : List Bool) (number : ℕ) → list_any (λ flag. flag) flags ≡ false → flag_at flags number ≡ false
no_flag [] number none = refl
no_flag (true ∷ flags) number none = absurd cc
no_flag (false ∷ flags) zero none = refl
no_flag (false ∷ flags) (suc number) none = no_flag flags number none

-- a node without a flag comes to nothing
unheld_node : (seen : Sights) (test : ℕ → Bool) (number : ℕ) (node : Tree) (phase : Phase) → test number ≡ false
    → unhold_node seen test number node phase ≡ Whole
unheld_node seen test number (leaf step) phase none = rw none refl
unheld_node seen test number (seq each) phase none = refl
unheld_node seen test number (par each) phase none = refl
unheld_node seen test number (choice each) phase none = refl
unheld_node seen test number (loop body until) phase none = refl

-- nor do the open nodes
pub none_held : (seen : Sights) (flags : List Bool) (each : List OpenNode) → list_any (λ flag. flag) flags ≡ false
    → first_unhold_node seen (flag_at flags) each ≡ Whole
none_held seen flags [] none = refl
none_held seen flags (spot ∷ others) none =
    rw (unheld_node seen (flag_at flags) spot.number spot.node (phase_of spot.progress)
    (no_flag flags spot.number none)) (none_held seen flags others none)

-- ---- a selection has no more arms than nodes

-- a plain_node has a node
size_some : (each : Tree) → 1 ≤ size each
size_some (leaf step) = omega arith
size_some (seq each) = omega arith
size_some (par each) = omega arith
size_some (choice each) = omega arith
size_some (loop body until) = omega arith

-- no more arms than nodes
pub few_arms : (each : List Arm) → length each ≤ arm_sizes (arms each)
few_arms [] = omega arith
few_arms (arm ∷ each) =
    let one = size_some (plain_node arm.body) in
    let more = few_arms each in
    rw (arm_laid arm) (omega arith)
