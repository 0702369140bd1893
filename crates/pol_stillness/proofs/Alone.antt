-- The next entry of a step finds no other active step of its service.
use Rattle.std.proofs.Common.{◌≡◌, ◌++◌, Bool, true, false, List, [], ◌∷◌, refl, ap, sym, ◌∙◌, subst, inl, inr, ◌⊎◌}
use Rattle.std.specs.Prelude.{◌||◌, if◌then◌else◌}
use Rattle.std.specs.List.{list_any, Contains}
use Rattle.std.proofs.lemmas.Bool.{and_from}
use Rattle.mtp_codes.specs.Names.{same_name}
use Rattle.mtp_codes.proofs.Names.{same_refl}
use Rattle.chart_core.specs.Trees.{PlainStep, Placed, Tree, leaf, seq, par, choice, loop, steps}
use Rattle.chart_core.specs.Runs.{course_of, word}
use Rattle.chart_core.specs.Active.{Phase, is_running, or_idle, phase_after, active_steps}
use Rattle.chart_core.specs.Standing.{marks_after}
use Rattle.chart_core.specs.declared.entry.LogEntry.{LogEntry}
use Rattle.chart_core.proofs.Lawful.{member_cases, each_member}
use Rattle.chart_core.proofs.Validity.{Each, valid_distinct}
use Rattle.chart_cursor.specs.OpenNodes.{OpenNode, open_nodes, phase_of}
use Rattle.chart_cursor.specs.Sights.{Sights}
use Rattle.chart_cursor.specs.Commands.{IsOfStep, is_step_entry}
use Rattle.chart_cursor.proofs.Actives.{runs, run_of, runs_active}
use Rattle.chart_cursor.proofs.Firsts.{after_stands, log_phase}
use Rattle.chart_cursor.proofs.Phases.{phased, Phased, IsPhased}
use Rattle.chart_core.proofs.Logs.{chart_sound, complete_is_partial}
use Rattle.chart_core.proofs.Onward.{complete_done}
use Rattle.chart_core.proofs.Changing.{of_done}
use Rattle.chart_cursor.proofs.Walked.{done_closed}
use Rattle.chart_core.proofs.Link.{stands_of}
use Rattle.chart_core.specs.Progress.{Marks, Stands}
use Rattle.chart_core.specs.Names.{names}
use Rattle.chart_cursor.proofs.Sending.{StepEntry, starts, finishes, resets_started, resets_finished, ends, NodeEntry}
use Rattle.chart_cursor.proofs.Sending.{OnEntries, sent_among}
use Rattle.pol_stillness.specs.Apart.{is_step_of, any_open, IsApart, AreApart, NextStepsAreAlone, CompleteRunsAreStill}
use Rattle.pol_stillness.specs.Apart.{is_due}
use Rattle.pol_stillness.proofs.Apart.{spots_apart}
use Rattle.pol_stillness.proofs.Clear.{valid_clear}
use Rattle.chart_cursor.proofs.Commanding.{IsAmong, SpotAmong, open_steps}
use Rattle.pol_events.proofs.Lists.{member_first, member_later, no_member}

-- what holds of every item of a list holds of each
each_self : {A : Type 0} (P : A → Type 0) (xs : List A) → ((x : A) → Contains xs x → P x) → Each P xs
each_self P [] f = tt
each_self P (x ∷ xs) f = (f x (member_first x xs), each_self P xs (λ y inside. f y (member_later x y xs inside)))

-- where an item passes a test, some item does
any_member : {A : Type 0} (test : A → Bool) (xs : List A) (x : A) → Contains xs x → test x ≡ true
    → list_any test xs ≡ true
any_member test [] x inside is = no_member x inside
any_member test (y ∷ xs) x inside is = go (member_cases y x xs inside) (λ later. any_member test xs x later is)
  where
    right : (a b : Bool) → b ≡ true → (a || b) ≡ true
    right true b e = refl
    right false b e = e

    left : (a b : Bool) → a ≡ true → (a || b) ≡ true
    left true b e = refl
    left false b e = cc

    go : (y ≡ x) ⊎ Contains xs x → (Contains xs x → list_any test xs ≡ true) → list_any test (y ∷ xs) ≡ true
    go (inl same) rest = left (test y) (list_any test xs) (ap test same ∙ is)
    go (inr later) rest = right (test y) (list_any test xs) (rest later)

-- among open nodes that are apart those of one role and service are one
apart_one : (ss : List OpenNode) (left_spot right_spot : OpenNode) (step other_step : PlainStep)
    → AreApart ss → Contains ss left_spot → Contains ss right_spot
    → left_spot.node ≡ leaf step → right_spot.node ≡ leaf other_step
    → step.role ≡ other_step.role → step.service ≡ other_step.service → left_spot ≡ right_spot
apart_one [] left_spot right_spot step other_step apart one other is also role service = no_member left_spot one
apart_one (first ∷ others) left_spot right_spot step other_step apart one other is also role service =
    go (member_cases first left_spot others one) (member_cases first right_spot others other)
    (λ l m. apart_one others left_spot right_spot step other_step apart.1 l m is also role service)
  where
    clash : (a b : PlainStep) (spot : OpenNode) → first.node ≡ leaf a → spot.node ≡ leaf b → a.role ≡ b.role
        → a.service ≡ b.service → Contains others spot → ⊥
    clash a b spot at to r v inside =
        let none : any_open a.role a.service others ≡ false = subst (λ node. IsApart node others) at apart.0 in
        let some : is_step_of a.role a.service spot.node ≡ true =
        ap (is_step_of a.role a.service) to
        ∙ and_from _ _ (ap (λ n. same_name n a.role) (sym r) ∙ same_refl a.role)
        (ap (λ n. same_name n a.service) (sym v) ∙ same_refl a.service) in
        let any : any_open a.role a.service others ≡ true =
        any_member (λ spot. is_step_of a.role a.service spot.node) others spot inside some in
        let no : false ≡ true = sym none ∙ any in cc

    go : (first ≡ left_spot) ⊎ Contains others left_spot → (first ≡ right_spot) ⊎ Contains others right_spot
        → (Contains others left_spot → Contains others right_spot → left_spot ≡ right_spot) → left_spot ≡ right_spot
    go (inl a) (inl b) rest = sym a ∙ b
    go (inl a) (inr m) rest =
        absurd (clash step other_step right_spot (ap (λ (f : OpenNode). f.node) a ∙ is) also role service m)
    go (inr l) (inl b) rest =
        absurd (clash other_step step left_spot (ap (λ (f : OpenNode). f.node) b ∙ also) is (sym role) (sym service) l)
    go (inr l) (inr m) rest = rest l m

-- a running step among open nodes is one of them
run_member : (ss : List OpenNode) (placed : Placed) → Contains (runs ss) placed
    → (s : OpenNode) × Contains ss s × (s.node ≡ leaf placed.step) × (is_running (phase_of s.progress) ≡ true)
run_member [] placed inside = no_member placed inside
run_member (s ∷ ss) placed inside = go s.node refl (is_running (phase_of s.progress)) refl inside (run_member ss placed)
  where
    Found : Type 0
    Found = (t : OpenNode) × Contains (s ∷ ss) t × (t.node ≡ leaf placed.step)
        × (is_running (phase_of t.progress) ≡ true)

    later : (t : OpenNode) × Contains ss t × (t.node ≡ leaf placed.step) × (is_running (phase_of t.progress) ≡ true)
        → Found
    later (t, l, is, running) = (t, member_later s t ss l, is, running)

    first : (step : PlainStep) → s.node ≡ leaf step → (running : Bool) → is_running (phase_of s.progress) ≡ running →
        Contains ((if running then record { number = s.number; step = step } ∷ [] else []) ++ runs ss) placed →
        (Contains (runs ss) placed → (t : OpenNode) × Contains ss t × (t.node ≡ leaf placed.step)
        × (is_running (phase_of t.progress) ≡ true)) → Found
    first step is true runs_is inside rest =
        elim (member_cases (record { number = s.number; step = step }) placed (runs ss) inside) [
          | inl same ↦ (s, member_first s ss, is ∙ ap leaf (ap (λ (p : Placed). p.step) same), runs_is)
          | inr behind ↦ later (rest behind)
        ]
    first step is false runs_is inside rest = later (rest inside)

    go : (node : Tree) → s.node ≡ node → (running : Bool) → is_running (phase_of s.progress) ≡ running
        → Contains (run_of s.number node (phase_of s.progress) ++ runs ss) placed →
        (Contains (runs ss) placed → (t : OpenNode) × Contains ss t × (t.node ≡ leaf placed.step)
        × (is_running (phase_of t.progress) ≡ true)) → Found
    go (leaf step) is running runs_is inside rest =
        first step is running runs_is
        (subst (λ b. Contains ((if b then record { number = s.number; step = step } ∷ [] else []) ++ runs ss) placed)
        runs_is inside) rest
    go (seq each) is running runs_is inside rest = later (rest inside)
    go (par each) is running runs_is inside rest = later (rest inside)
    go (choice each) is running runs_is inside rest = later (rest inside)
    go (loop body until) is running runs_is inside rest = later (rest inside)

-- the entry is of a step that is open among these, and is due there
abbrev OfOpen : Sights → List OpenNode → LogEntry → Type 0
OfOpen seen marked e =
    (s : OpenNode) × Contains marked s × (step : PlainStep) × (s.node ≡ leaf step) × IsOfStep seen step e
    × (is_due (phase_of s.progress) e ≡ true)

-- an entry for which a step is ready is of that step
of_step : (seen : Sights) (marked : List OpenNode) (s : OpenNode) (step : PlainStep) (phase : Phase) (e : LogEntry)
    → Contains marked s → s.node ≡ leaf step → phase_of s.progress ≡ phase
    → StepEntry seen step phase e → OfOpen seen marked e
of_step seen marked s step phase e inside is ph (starts p) = (s, inside, step, is, (refl, refl, refl, refl), rw ph refl)
of_step seen marked s step phase e inside is ph (finishes q p) = (s, inside, step, is, (refl, refl, refl), rw ph refl)
of_step seen marked s step phase e inside is ph (resets_started p) =
    (s, inside, step, is, (refl, refl, refl), rw ph refl)
of_step seen marked s step phase e inside is ph (resets_finished p) =
    (s, inside, step, is, (refl, refl, refl), rw ph refl)
of_step seen marked s step phase e inside is ph ends = (s, inside, step, is, refl, rw ph refl)

-- an entry for which a node is ready is of a step only where the node is that step
of_node : (seen : Sights) (marked : List OpenNode) (s : OpenNode) (node : Tree) → Contains marked s → s.node ≡ node
    → (e : LogEntry)
    → NodeEntry seen s.number node (phase_of s.progress) e → is_step_entry e ≡ true → OfOpen seen marked e
of_node seen marked s (leaf step) inside is e entered stepped =
    of_step seen marked s step (phase_of s.progress) e inside is refl entered
of_node seen marked s (seq each) inside is e entered stepped = absurd entered
of_node seen marked s (par each) inside is e entered stepped = absurd entered
of_node seen marked s (choice each) inside is e (a, values, q, l, h) stepped = let no =
    sym (ap is_step_entry q) ∙ stepped in cc
of_node seen marked s (loop body until) inside is e (values, l, inl (q, h)) stepped = let no =
    sym (ap is_step_entry q) ∙ stepped in cc
of_node seen marked s (loop body until) inside is e (values, l, inr (q, h)) stepped = let no =
    sym (ap is_step_entry q) ∙ stepped in cc

-- the next entry of a step
pub steps_alone : NextStepsAreAlone
steps_alone chart log seen entry valid partial next is =
    record { step = found.2; number = found.0.number; within = within; own = found.4; alone = alone }
  where
    marks : Marks
    marks = marks_after chart log

    stands : Stands (course_of chart) (marks_after chart log) (word log)
    stands = after_stands chart log valid partial

    marked : List OpenNode
    marked = open_nodes chart.root 0 (marks_after chart log)

    found : OfOpen seen marked entry
    found = sent_among seen (λ e. is_step_entry e ≡ true → OfOpen seen marked e) marked entry
        (each_self (OnEntries seen (λ e. is_step_entry e ≡ true → OfOpen seen marked e)) marked
        (λ s inside e entered stepped. of_node seen marked s s.node inside refl e entered stepped)) next is

    within : Contains (steps chart.root 0) (record { number = found.0.number; step = found.2 })
    within =
        subst (IsAmong (steps chart.root 0) found.0.number) found.3
        (each_member (SpotAmong (steps chart.root 0)) marked found.0 (open_steps chart.root 0 (marks_after chart log))
        found.1)

    -- an open step stands where the log leaves it
    phase_is : (s : OpenNode) (step : PlainStep) → Contains marked s → s.node ≡ leaf step
        → phase_after log step.name ≡ phase_of s.progress
    phase_is s step inside is_leaf =
        let phases = phased chart.root 0 (marks_after chart log) (word log) (valid_distinct chart valid) stands in
        let its : Phased (names chart.root) (word log) s =
        each_member (Phased (names chart.root) (word log)) marked s phases inside in
        let own : IsPhased (names chart.root) (word log) (leaf step) s.progress =
        subst (λ node. IsPhased (names chart.root) (word log) node s.progress) is_leaf its in
        ap or_idle (log_phase chart step.name log
        (stands_of (course_of chart) (marks_after chart log) (word log) (chart_sound chart valid) stands)) ∙ own.1

    alone : (placed : Placed) → Contains (active_steps chart log) placed → placed.step.role ≡ found.2.role
        → placed.step.service ≡ found.2.service →
        (placed.step ≡ found.2) × (is_due (phase_after log placed.step.name) entry ≡ true)
    alone placed inside role service =
        let active : runs marked ≡ active_steps chart log =
        runs_active chart (marks_after chart log) log valid stands in
        let run = run_member marked placed (subst (λ ps. Contains ps placed) (sym active) inside) in
        let one : run.0 ≡ found.0 =
        apart_one marked run.0 found.0 placed.step found.2
        (spots_apart chart.root 0 (marks_after chart log) (valid_clear chart valid)) run.1 found.1 run.2 found.3
        role service in
        let leaves : leaf placed.step ≡ leaf found.2 = sym run.2 ∙ ap (λ (s : OpenNode). s.node) one ∙ found.3 in
        let stood : phase_after log placed.step.name ≡ phase_of found.0.progress =
        phase_is run.0 placed.step run.1 run.2 ∙ ap (λ (s : OpenNode). phase_of s.progress) one in
        (step_of leaves, ap (λ phase. is_due phase entry) stood ∙ found.5)
      where
        step_of : leaf placed.step ≡ leaf found.2 → placed.step ≡ found.2
        step_of same = cc

-- after a complete run nothing is open, so no step runs
pub complete_still : CompleteRunsAreStill
complete_still chart log valid complete =
    let stands = after_stands chart log valid (complete_is_partial chart log complete) in
    let done = complete_done (course_of chart) (marks_after chart log) (word log) (chart_sound chart valid) stands
    complete in
    let closed : open_nodes chart.root 0 (marks_after chart log) ≡ [] =
    done_closed chart.root 0 (marks_after chart log) (of_done (course_of chart) (marks_after chart log) done) in
    sym (runs_active chart (marks_after chart log) log valid stands) ∙ ap runs closed
