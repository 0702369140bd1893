-- What is found place by place among open nodes is the whole list, and the same for all marks that stand for a log.
use Rattle.std.specs.Prelude.{ℕ, ◌≡◌, ◌≤◌, ◌+◌, ◌-◌, ◌++◌, zero, suc, true, false, ◌&&◌, nat_le, List, [], ◌∷◌, length, filter_map, take, slice_get, Option, Some, None, refl, if◌then◌else◌}
use Rattle.std.specs.List.{cons_option, fold}
use Rattle.std.specs.Option.{option_or}
use Rattle.std.proofs.Common.{add-one, ap, sym, ◌∙◌, arith}
use Rattle.mtp_codes.proofs.Lists.{length_filter_map}
use Rattle.mtp_codes.proofs.Options.{or_none}
use Rattle.chart_core.specs.Active.{Phase, active_steps, is_running}
use Rattle.chart_core.specs.Progress.{Marks, Stands}
use Rattle.chart_core.specs.Roles.{PlainChart}
use Rattle.chart_core.specs.Runs.{course_of, word}
use Rattle.chart_core.specs.Trees.{Placed, Tree, leaf, seq, par, choice, loop, size}
use Rattle.chart_core.specs.Valid.{IsValid}
use Rattle.chart_core.specs.declared.entry.LogEntry.{LogEntry}
use Rattle.chart_cursor.specs.Holding.{numbered}
use Rattle.chart_cursor.specs.Listing.{running_at_node, running_from, told_running, waiting_among, waiting_node}
use Rattle.chart_cursor.specs.Looks.{look_running_at, look_waiting_at}
use Rattle.chart_cursor.specs.OpenNodes.{OpenNode, open_nodes, phase_of}
use Rattle.chart_cursor.specs.Running.{is_wanted, running_node, running_step}
use Rattle.chart_cursor.specs.Sights.{Sights}
use Rattle.chart_cursor.specs.Sought.{met, met_item, met_unless}
use Rattle.chart_cursor.specs.declared.listing.RunningAt.{RunningAt}
use Rattle.chart_cursor.specs.declared.listing.WaitingAt.{WaitingAt}
use Rattle.chart_cursor.specs.declared.running.RunningStep.{RunningStep}
use Rattle.chart_cursor.specs.declared.sought.Sought.{Sought}
use Rattle.chart_cursor.proofs.Actives.{runs, run_of, runs_active}
use Rattle.chart_cursor.proofs.Firsts.{Rising, spots_rising}

-- ---- by places

-- where items are to be met before it, there is one fewer
pub met_later : {T : Type 0} (item : T) (left : ℕ) → (left ≡ 0 → ⊥)
    → record { left = left - 1; found = None } ≡ met_item item left
met_later item zero later = absurd (later refl)
met_later {T} item (suc left) later =
    let same : suc left - 1 ≡ left = omega arith in
    ap {B = Sought T} (λ left. record { left = left; found = None }) same

-- what is found behind one item more
found_next : {T : Type 0} (item : Option T) (items : List T) (sought : Sought T) →
    option_or (met item sought).found (slice_get items (met item sought).left)
    ≡ option_or sought.found (slice_get (cons_option item items) sought.left)
found_next None items sought = refl
found_next {T} (Some item) items sought = go sought.left sought.found
  where
    here : (left : ℕ) → option_or (met_item item left).found (slice_get items (met_item item left).left)
        ≡ slice_get (item ∷ items) left
    here zero = refl
    here (suc left) = refl

    go : (left : ℕ) (found : Option T) →
        option_or (met_unless item left found).found (slice_get items (met_unless item left found).left)
        ≡ option_or found (slice_get (item ∷ items) left)
    go left None = here left
    go left (Some found) = refl

-- what is found of all that is met
met_all : {X T : Type 0} (pick : X → Option T) (all : List X) (sought : Sought T) →
    (fold (λ sought one. met (pick one) sought) sought all).found
    ≡ option_or sought.found (slice_get (filter_map pick all) sought.left)
met_all pick [] sought = sym (or_none sought.found)
met_all pick (one ∷ others) sought =
    met_all pick others (met (pick one) sought) ∙ found_next (pick one) (filter_map pick others) sought

-- the running step at a place
pub running_at_found : (running : RunningAt) (each : List OpenNode) →
    (fold look_running_at running each).sought.found
    ≡ option_or running.sought.found (slice_get (running_from running.from each) running.sought.left)
running_at_found running each =
    ap (λ (sought : Sought RunningStep). sought.found) (go running each)
    ∙ met_all (running_at_node running.from) each running.sought
  where
    go : (running : RunningAt) (each : List OpenNode) →
        (fold look_running_at running each).sought
        ≡ fold (λ sought spot. met (running_at_node running.from spot) sought) running.sought each
    go running [] = refl
    go running (spot ∷ others) = go (look_running_at running spot) others

-- the awaited node at a place among those that aren't ready
pub waiting_at_found : {S : Type 0} (sights : S → Sights) (waiting : WaitingAt S) (each : List OpenNode) →
    (fold (look_waiting_at sights) waiting each).sought.found
    ≡ option_or waiting.sought.found
    (slice_get (waiting_among (sights waiting.seen.now) each) waiting.sought.left)
waiting_at_found {S} sights waiting each =
    ap (λ sought. sought.found) (go waiting each)
    ∙ met_all (waiting_node (sights waiting.seen.now)) each waiting.sought
  where
    go : (waiting : WaitingAt S) (each : List OpenNode) →
        (fold (look_waiting_at sights) waiting each).sought
        ≡ fold (λ sought spot. met (waiting_node (sights waiting.seen.now) spot) sought) waiting.sought each
    go waiting [] = refl
    go waiting (spot ∷ others) = go (look_waiting_at sights waiting spot) others

-- ---- all places

-- one item more is listed
pub listed_more : {A : Type 0} (all : List A) (place : ℕ) (one : A) → slice_get all place ≡ Some one
    → take (place + 1) all ≡ take place all ++ one ∷ []
listed_more {A} all place one is = rw add-one (go all place is)
  where
    go : (all : List A) (place : ℕ) → slice_get all place ≡ Some one → take (suc place) all ≡ take place all ++ one ∷ []
    go [] place is = absurd cc
    go (first ∷ others) zero is = let same : first ≡ one = cc in ap (λ first. first ∷ []) same
    go (first ∷ others) (suc place) is = ap (λ rest. first ∷ rest) (go others place is)

-- where no item is at a place, all are listed
pub listed_all : {A : Type 0} (all : List A) (place : ℕ) → slice_get all place ≡ None → take place all ≡ all
listed_all [] zero is = refl
listed_all [] (suc place) is = refl
listed_all (first ∷ others) zero is = absurd cc
listed_all (first ∷ others) (suc place) is = ap (λ rest. first ∷ rest) (listed_all others place is)

-- behind as many places as there may be items too
pub listed_few : {A : Type 0} (all : List A) (place : ℕ) → length all ≤ place → take place all ≡ all
listed_few [] zero few = refl
listed_few [] (suc place) few = refl
listed_few (first ∷ others) zero few = absurd (omega arith)
listed_few (first ∷ others) (suc place) few = ap (λ rest. first ∷ rest) (listed_few others place (omega arith))

-- open nodes that rise between two numbers are few
rising_few : (look : ℕ → Option Tree) (marks : Marks) (low high : ℕ) (each : List OpenNode) → low ≤ high →
    Rising look marks low high each → length each + low ≤ high
rising_few look marks low high [] below rising = omega arith
rising_few look marks low high (spot ∷ others) below (from, under, mark, found, can_wait, rest) =
    let few = rising_few look marks (spot.number + 1) high others (omega arith) rest in omega arith

-- no more open nodes than nodes
pub open_few : (node : Tree) (number : ℕ) (marks : Marks) → length (open_nodes node number marks) ≤ size node
open_few node number marks =
    let few = rising_few _ marks number (number + size node) (open_nodes node number marks) (omega arith)
    (spots_rising node number marks) in
    omega (arith, few)

-- and no more of a list of some of them
pub listed_open : {B : Type 0} (pick : OpenNode → Option B) (node : Tree) (number : ℕ) (marks : Marks) →
    length (filter_map pick (open_nodes node number marks)) ≤ size node
listed_open pick node number marks =
    omega (arith, length_filter_map pick (open_nodes node number marks), open_few node number marks)

-- ---- the active steps

-- a running node among those that follow
running_one : (from number : ℕ) (node : Tree) (phase : Phase) (rest : List Placed) →
    cons_option (running_node (is_wanted from None) number node phase) (told_running (numbered (nat_le from) rest))
    ≡ told_running (numbered (nat_le from) (run_of number node phase ++ rest))
running_one from number (leaf step) phase rest =
    elim (is_running phase) as
    (λ runs. cons_option (if runs && is_wanted from None number step then Some (running_step number step) else None)
    (told_running (numbered (nat_le from) rest))
    ≡ told_running (numbered (nat_le from)
    ((if runs then record { number = number; step = step } ∷ [] else []) ++ rest))) [
      | true ↦ (elim (nat_le from number) as
          (λ late. cons_option (if late && true then Some (running_step number step) else None)
          (told_running (numbered (nat_le from) rest))
          ≡ told_running (if late then record { number = number; step = step } ∷ numbered (nat_le from) rest
          else numbered (nat_le from) rest)) [
            | true ↦ refl
            | false ↦ refl
          ])
      | false ↦ refl
    ]
running_one from number (seq each) phase rest = refl
running_one from number (par each) phase rest = refl
running_one from number (choice each) phase rest = refl
running_one from number (loop body until) phase rest = refl

-- the running steps from a number on
running_listed : (from : ℕ) (each : List OpenNode) →
    running_from from each ≡ told_running (numbered (nat_le from) (runs each))
running_listed from [] = refl
running_listed from (spot ∷ others) =
    ap (cons_option (running_at_node from spot)) (running_listed from others)
    ∙ running_one from spot.number spot.node (phase_of spot.progress) (runs others)

-- they are the active steps of the log
pub running_active : (chart : PlainChart) (marks : Marks) (log : List LogEntry) (from : ℕ) → IsValid chart →
    Stands (course_of chart) marks (word log) →
    running_from from (open_nodes chart.root 0 marks)
    ≡ told_running (numbered (nat_le from) (active_steps chart log))
running_active chart marks log from valid stands =
    running_listed from (open_nodes chart.root 0 marks)
    ∙ ap (λ steps. told_running (numbered (nat_le from) steps)) (runs_active chart marks log valid stands)
