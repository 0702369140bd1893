-- The running steps among the open nodes are the active steps of the word.
use Rattle.std.specs.Prelude.{ℕ, ◌≡◌, ◌+◌, Bool, true, false, ◌&&◌, List, [], ◌∷◌, ◌++◌, map, Some, None, is_some, zero, suc, refl, if◌then◌else◌}
use Rattle.std.proofs.Common.{sym, ◌∙◌, ap, inl, inr, append_assoc}
use Rattle.std.specs.List.{filter}
use Rattle.std.proofs.lemmas.List.{append-nil}
use Rattle.std.proofs.lemmas.List.Elements.{filter-append}
use Rattle.chart_core.specs.declared.entry.LogEntry.{LogEntry}
use Rattle.chart_core.specs.declared.progress.Progress.{Progress}
use Rattle.chart_core.specs.declared.progress.Progress.TheVariants.{Untouched, Begun, Finished, WasReset, Ended, Chosen, Left}
use Rattle.chart_core.specs.Trees.{PlainStep, Placed, Tree, Trees, Arms, leaf, seq, par, choice, loop, no_trees, more_trees, no_arms, more_arms, size, arm_sizes, steps, all_steps, arm_steps}
use Rattle.chart_core.specs.Names.{names, all_names, arm_names, In, Distinct}
use Rattle.chart_core.specs.Roles.{PlainChart}
use Rattle.chart_core.specs.Courses.{is_of, All}
use Rattle.chart_core.specs.Runs.{WordEntry, word, course, in_turn, at_once, arm_at, course_of, turns_rightly, decision_at, loop_reads}
use Rattle.chart_core.specs.Valid.{IsValid}
use Rattle.chart_core.specs.Progress.{Marks, Stands}
use Rattle.chart_core.specs.Changes.{is_done}
use Rattle.chart_core.specs.Active.{Phase, idle, or_idle, is_running, is_active, active_steps}
use Rattle.chart_core.proofs.Link.{fresh_stands, stands_of, done_complete}
use Rattle.chart_core.proofs.Changing.{done_of, of_done}
use Rattle.chart_core.proofs.Apart.{in_left, in_right, distinct_front, distinct_back, distinct_apart, in_order, side_by_side, sound, row_sound, arm_sound, arm_within}
use Rattle.chart_core.proofs.Logs.{chart_sound}
use Rattle.chart_core.proofs.Validity.{Each, each_append, valid_distinct}
use Rattle.chart_cursor.specs.OpenNodes.{OpenNode, phase_of, open_in_step, open_in_choice, open_in_loop, open_nodes, open_in_seq, open_in_par, open_in_arm}
use Rattle.std.specs.Option.{option_or}
use Rattle.chart_cursor.proofs.Phases.{word_phase, silent, phase_filter, unnamed, all_swap, tree_silent, row_silent, arm_says, phase_front, phase_back, phase_head, leaf_phase, had_phase, complete_idle, turns_says, rounds_last_phase}
use Rattle.chart_cursor.proofs.Firsts.{log_phase}
use Rattle.chart_cursor.specs.Broken.{broken_node, first_broken_node}
use Rattle.chart_cursor.specs.Logs.{active}
use Rattle.chart_cursor.specs.NextEntry.{broken_step, first_broken}
use Rattle.chart_cursor.specs.Running.{running_step, running_node, first_running, first_placed}
use Rattle.chart_cursor.specs.Sights.{Sights}

-- the step runs after the word
abbrev pub is_live : List WordEntry → Placed → Bool
is_live entries placed = is_running (or_idle (word_phase placed.step.name entries))

-- the steps among these that run
abbrev pub run_of : ℕ → Tree → Phase → List Placed
run_of number (leaf step) phase = if is_running phase then record { number = number; step = step } ∷ [] else []
run_of number (seq each) phase = []
run_of number (par each) phase = []
run_of number (choice each) phase = []
run_of number (loop body until) phase = []

-- the steps that run among open nodes
abbrev pub runs : List OpenNode → List Placed
runs [] = []
runs (spot ∷ others) = run_of spot.number spot.node (phase_of spot.progress) ++ runs others

-- those of two lists
runs_append : (front back : List OpenNode) → runs (front ++ back) ≡ runs front ++ runs back
runs_append [] back = refl
runs_append (spot ∷ front) back =
    ap (λ rest. run_of spot.number spot.node (phase_of spot.progress) ++ rest) (runs_append front back)
    ∙ sym (append_assoc (run_of spot.number spot.node (phase_of spot.progress)) (runs front) (runs back))

-- what holds of each name of a tree holds of the names of its steps
mutual
  on_names : (node : Tree) (number : ℕ) (Fact : List ℕ → Type 0) → ((name : List ℕ) → In name (names node) → Fact name)
      → Each (λ placed. Fact placed.step.name) (steps node number)
  on_names (leaf step) number Fact all = (all step.name (inl refl), tt)
  on_names (seq nodes) number Fact all = on_all_names nodes (number + 1) Fact all
  on_names (par nodes) number Fact all = on_all_names nodes (number + 1) Fact all
  on_names (choice each) number Fact all = on_arm_names each (number + 1) Fact all
  on_names (loop node until) number Fact all = on_names node (number + 1) Fact all

  on_all_names : (nodes : Trees) (number : ℕ) (Fact : List ℕ → Type 0)
      → ((name : List ℕ) → In name (all_names nodes) → Fact name)
      → Each (λ placed. Fact placed.step.name) (all_steps nodes number)
  on_all_names no_trees number Fact all = tt
  on_all_names (more_trees node nodes) number Fact all =
      each_append (λ placed. Fact placed.step.name) (steps node number) (all_steps nodes (number + size node))
      (on_names node number Fact (λ name known. all name (in_left name (names node) (all_names nodes) known)))
      (on_all_names nodes (number + size node) Fact
      (λ name known. all name (in_right name (names node) (all_names nodes) known)))

  on_arm_names : (each : Arms) (number : ℕ) (Fact : List ℕ → Type 0)
      → ((name : List ℕ) → In name (arm_names each) → Fact name)
      → Each (λ placed. Fact placed.step.name) (arm_steps each number)
  on_arm_names no_arms number Fact all = tt
  on_arm_names (more_arms when node each) number Fact all =
      each_append (λ placed. Fact placed.step.name) (steps node number) (arm_steps each (number + size node))
      (on_names node number Fact (λ name known. all name (in_left name (names node) (arm_names each) known)))
      (on_arm_names each (number + size node) Fact
      (λ name known. all name (in_right name (names node) (arm_names each) known)))

-- a word leaves a step idle
abbrev LeavesIdle : List WordEntry → List ℕ → Type 0
LeavesIdle entries name = or_idle (word_phase name entries) ≡ idle

-- two words leave a step alike
abbrev LeavesAlike : List WordEntry → List WordEntry → List ℕ → Type 0
LeavesAlike before after name = or_idle (word_phase name after) ≡ or_idle (word_phase name before)

-- where a word leaves each of these steps idle, none of them runs
quiet : (entries : List WordEntry) (others : List Placed) → Each (λ placed. LeavesIdle entries placed.step.name) others
    → filter (is_live entries) others ≡ []
quiet entries [] here = refl
quiet entries (placed ∷ others) (here, rest) =
    ap (λ phase. if is_running phase then placed ∷ filter (is_live entries) others else filter (is_live entries) others)
    here ∙ quiet entries others rest

-- where it leaves those of the back idle, the front alone may run
front_lives : (entries : List WordEntry) (front back : List Placed)
    → Each (λ placed. LeavesIdle entries placed.step.name) back
    → filter (is_live entries) (front ++ back) ≡ filter (is_live entries) front
front_lives entries front back idle_back =
    filter-append (is_live entries) front back
    ∙ ap (λ others. filter (is_live entries) front ++ others) (quiet entries back idle_back)
    ∙ append-nil (filter (is_live entries) front)

-- a word of a tree leaves the steps of other parts idle
others_idle : (node : Tree) (number : ℕ) (marks : Marks) (entries : List WordEntry) (others : List (List ℕ))
    → Distinct (names node ++ others) → Stands (course node number) marks entries
    → (name : List ℕ) → In name others → LeavesIdle entries name
others_idle node number marks entries others distinct stands name known =
    ap or_idle (silent name (is_of (course node number)) entries
    (tree_silent node number name (λ also. distinct_apart name (names node) others distinct also known))
    (stands_of (course node number) marks entries (sound node number (distinct_front (names node) others distinct))
    stands))

-- two words that leave them alike have the same ones run
alike : (before after : List WordEntry) (others : List Placed)
    → Each (λ placed. LeavesAlike before after placed.step.name) others
    → filter (is_live after) others ≡ filter (is_live before) others
alike before after [] here = refl
alike before after (placed ∷ others) (here, rest) =
    ap (λ phase. if is_running phase then placed ∷ filter (is_live after) others else filter (is_live after) others)
    here
    ∙ ap (λ kept. if is_live before placed then placed ∷ kept else kept) (alike before after others rest)

-- an open step runs where its mark says so
step_runs : (step : PlainStep) (number : ℕ) (progress : Progress)
    → runs (open_in_step number (leaf step) progress)
    ≡ (if is_running (phase_of progress) then record { number = number; step = step } ∷ [] else [])
step_runs step number Untouched = refl
step_runs step number Begun = refl
step_runs step number Finished = refl
step_runs step number WasReset = refl
step_runs step number Ended = refl
step_runs step number (Chosen arm) = refl
step_runs step number Left = refl

-- before its choice nothing runs in a selection
choice_runs : (number : ℕ) (each : Arms) (arm : ℕ → List OpenNode) (progress : Progress) → progress ≡ Untouched
    → runs (open_in_choice number (choice each) arm progress) ≡ []
choice_runs number each arm progress untouched =
    ap (λ progress. runs (open_in_choice number (choice each) arm progress)) untouched

-- those of one list or of another
if_runs : (done : Bool) (here there : List OpenNode) (all : List Placed) → (done ≡ true → runs here ≡ all)
    → (done ≡ false → runs there ≡ all)
    → runs (if done then here else there) ≡ all
if_runs true here there all first second = first refl
if_runs false here there all first second = second refl

-- the open steps that run are the active steps of the entries that the marks stand for
mutual
  pub running_are_active : (node : Tree) (number : ℕ) (marks : Marks) (entries : List WordEntry) → Distinct (names node)
      → Stands (course node number) marks entries
      → runs (open_nodes node number marks) ≡ filter (is_live entries) (steps node number)
  running_are_active (leaf step) number marks entries distinct stands =
      let phase =
      ap or_idle
      (leaf_phase step number step.name entries refl
      (stands_of (course (leaf step) number) marks entries tt stands))
      ∙ had_phase (is_some step.finish) (marks number) _ stands in
      step_runs step number (marks number)
      ∙ ap (λ said. if is_running said then record { number = number; step = step } ∷ [] else []) (sym phase)
  running_are_active (seq nodes) number marks entries distinct stands =
      running_are_active_in_seq nodes (number + 1) marks entries distinct stands
  running_are_active (par nodes) number marks entries distinct stands =
      running_are_active_in_par nodes (number + 1) marks entries distinct stands
  running_are_active (choice each) number marks entries distinct (inl (mark, none, fresh)) =
      choice_runs number each (λ arm. open_in_arm each (number + 1) arm marks) (marks number) mark
      ∙ sym (quiet entries (arm_steps each (number + 1)) (on_arm_names each (number + 1) (LeavesIdle entries)
      (λ name known. ap (λ entries. or_idle (word_phase name entries)) none)))
  running_are_active (choice each) number marks entries distinct
      (inr (arm, entry, back, cut, below, right, mark, stands)) =
      ap (λ progress. runs (open_in_choice number (choice each) (λ arm. open_in_arm each (number + 1) arm marks)
      progress))
      mark
      ∙ running_are_active_in_arm each (number + 1) arm marks back distinct stands
      ∙ sym (alike back entries (arm_steps each (number + 1))
      (on_arm_names each (number + 1) (LeavesAlike back entries)
      (λ name known. ap or_idle (phase_head name entry back entries cut (arm_says each number name entry arm right)))))
  running_are_active (loop node until) number marks entries distinct (inr (mark, rounds)) =
      ap (λ progress. runs
      (open_in_loop number (loop node until) (is_done (course node (number + 1)) marks)
      (open_nodes node (number + 1) marks) progress)) mark
      ∙ sym (quiet entries (steps node (number + 1)) (on_names node (number + 1) (LeavesIdle entries)
      (λ name known. complete_idle (loop node until) number entries name distinct known rounds)))
  running_are_active (loop node until) number marks entries distinct (inl (mark, rounds)) =
      let latest = rounds_last_phase node (number + 1) marks
      (λ entry. turns_rightly until entry.unconditioned (decision_at number (loop_reads until) entry)) distinct
      (λ name entry right. turns_says until number name entry right) entries rounds in
      let same = alike latest.0 entries (steps node (number + 1))
      (on_names node (number + 1) (LeavesAlike latest.0 entries) latest.2) in
      ap (λ progress. runs
      (open_in_loop number (loop node until) (is_done (course node (number + 1)) marks)
      (open_nodes node (number + 1) marks) progress)) mark
      ∙ if_runs (is_done (course node (number + 1)) marks)
      (record { number = number; node = loop node until; progress = Untouched } ∷ [])
      (open_nodes node (number + 1) marks) (filter (is_live entries) (steps node (number + 1)))
      (λ tested. sym (same ∙ quiet latest.0 (steps node (number + 1))
      (on_names node (number + 1) (LeavesIdle latest.0)
      (λ name known. complete_idle node (number + 1) latest.0 name distinct known
      (done_complete (course node (number + 1)) marks latest.0 (sound node (number + 1) distinct) latest.1
      (done_of (course node (number + 1)) marks tested))))))
      (λ tested. running_are_active node (number + 1) marks latest.0 distinct latest.1 ∙ sym same)

  pub running_are_active_in_seq : (nodes : Trees) (number : ℕ) (marks : Marks) (entries : List WordEntry)
      → Distinct (all_names nodes)
      → Stands (in_turn nodes number) marks entries → runs (open_in_seq nodes number marks)
      ≡ filter (is_live entries) (all_steps nodes number)
  running_are_active_in_seq no_trees number marks entries distinct stands = refl
  running_are_active_in_seq (more_trees node nodes) number marks entries distinct (inl (stands, fresh)) =
      let front = distinct_front (names node) (all_names nodes) distinct in
      let back = distinct_back (names node) (all_names nodes) distinct in
      let none : filter (is_live []) (all_steps nodes (number + size node)) ≡ []
      = quiet [] (all_steps nodes (number + size node))
      (on_all_names nodes (number + size node) (LeavesIdle []) (λ name known. refl)) in
      let cut : filter (is_live entries) (all_steps (more_trees node nodes) number)
      ≡ filter (is_live entries) (steps node number)
      = front_lives entries (steps node number) (all_steps nodes (number + size node))
      (on_all_names nodes (number + size node) (LeavesIdle entries)
      (others_idle node number marks entries (all_names nodes) distinct stands)) in
      if_runs (is_done (course node number) marks) (open_in_seq nodes (number + size node) marks)
      (open_nodes node number marks)
      (filter (is_live entries) (all_steps (more_trees node nodes) number))
      (λ tested. running_are_active_in_seq nodes (number + size node) marks [] back
      (fresh_stands (in_turn nodes (number + size node)) marks
      (row_sound in_order nodes (number + size node) back) fresh) ∙ none
      ∙ sym (cut ∙ quiet entries (steps node number)
      (on_names node number (LeavesIdle entries)
      (λ name known. complete_idle node number entries name front known
      (done_complete (course node number) marks entries (sound node number front) stands
      (done_of (course node number) marks tested))))))
      (λ tested. running_are_active node number marks entries front stands ∙ sym cut)
  running_are_active_in_seq (more_trees node nodes) number marks entries distinct
      (inr (start, ending, joined, done, here, there)) =
      let front = distinct_front (names node) (all_names nodes) distinct in
      let back = distinct_back (names node) (all_names nodes) distinct in
      let first : filter (is_live entries) (steps node number) ≡ []
      = alike start entries (steps node number)
      (on_names node number (LeavesAlike start entries)
      (λ name known. ap or_idle (phase_front name start ending entries joined
      (silent name (is_of (in_turn nodes (number + size node))) ending
      (row_silent in_order nodes (number + size node) name
      (λ also. distinct_apart name (names node) (all_names nodes) distinct known also))
      (stands_of (in_turn nodes (number + size node)) marks ending
      (row_sound in_order nodes (number + size node) back) there)))))
      ∙ quiet start (steps node number)
      (on_names node number (LeavesIdle start) (λ name known. complete_idle node number start name front known
      (done_complete (course node number) marks start (sound node number front) here done))) in
      let rest : filter (is_live entries) (all_steps nodes (number + size node))
      ≡ filter (is_live ending) (all_steps nodes (number + size node))
      = alike ending entries (all_steps nodes (number + size node))
      (on_all_names nodes (number + size node) (LeavesAlike ending entries)
      (λ name known. ap or_idle (phase_back name start ending entries joined
      (silent name (is_of (course node number)) start (tree_silent node number name
      (λ also. distinct_apart name (names node) (all_names nodes) distinct also known))
      (stands_of (course node number) marks start (sound node number front) here))))) in
      let cut : filter (is_live entries) (all_steps (more_trees node nodes) number)
      ≡ filter (is_live ending) (all_steps nodes (number + size node))
      = filter-append (is_live entries) (steps node number) (all_steps nodes (number + size node))
      ∙ ap (λ others. others ++ filter (is_live entries) (all_steps nodes (number + size node))) first ∙ rest in
      if_runs (is_done (course node number) marks) (open_in_seq nodes (number + size node) marks)
      (open_nodes node number marks)
      (filter (is_live entries) (all_steps (more_trees node nodes) number))
      (λ tested. running_are_active_in_seq nodes (number + size node) marks ending back there ∙ sym cut)
      (λ tested. let clash : true ≡ false = sym (of_done (course node number) marks done) ∙ tested in cc)

  pub running_are_active_in_par : (nodes : Trees) (number : ℕ) (marks : Marks) (entries : List WordEntry)
      → Distinct (all_names nodes)
      → Stands (at_once nodes number) marks entries → runs (open_in_par nodes number marks)
      ≡ filter (is_live entries) (all_steps nodes number)
  running_are_active_in_par no_trees number marks entries distinct stands = refl
  running_are_active_in_par (more_trees node nodes) number marks entries distinct (all, here, there) =
      let front = distinct_front (names node) (all_names nodes) distinct in
      let back = distinct_back (names node) (all_names nodes) distinct in
      let of_first = filter (is_of (course node number)) entries in
      let of_rest = filter (is_of (at_once nodes (number + size node))) entries in
      let first : filter (is_live entries) (steps node number) ≡ filter (is_live of_first) (steps node number)
      = alike of_first entries (steps node number)
      (on_names node number (LeavesAlike of_first entries)
      (λ name known. ap or_idle
      (sym (phase_filter name (is_of (course node number)) (is_of (at_once nodes (number + size node))) entries
      (row_silent side_by_side nodes (number + size node) name
      (λ also. distinct_apart name (names node) (all_names nodes) distinct known also)) all)))) in
      let rest : filter (is_live entries) (all_steps nodes (number + size node))
      ≡ filter (is_live of_rest) (all_steps nodes (number + size node))
      = alike of_rest entries (all_steps nodes (number + size node))
      (on_all_names nodes (number + size node) (LeavesAlike of_rest entries)
      (λ name known. ap or_idle
      (sym (phase_filter name (is_of (at_once nodes (number + size node))) (is_of (course node number)) entries
      (tree_silent node number name (λ also. distinct_apart name (names node) (all_names nodes) distinct also known))
      (all_swap (is_of (course node number)) (is_of (at_once nodes (number + size node))) entries all))))) in
      runs_append (open_nodes node number marks) (open_in_par nodes (number + size node) marks)
      ∙ ap (λ others. others ++ runs (open_in_par nodes (number + size node) marks))
      (running_are_active node number marks of_first front here ∙ sym first)
      ∙ ap (λ others. filter (is_live entries) (steps node number) ++ others)
      (running_are_active_in_par nodes (number + size node) marks of_rest back there ∙ sym rest)
      ∙ sym (filter-append (is_live entries) (steps node number) (all_steps nodes (number + size node)))

  pub running_are_active_in_arm : (each : Arms) (number arm : ℕ) (marks : Marks) (entries : List WordEntry)
      → Distinct (arm_names each)
      → Stands (arm_at each number arm) marks entries → runs (open_in_arm each number arm marks)
      ≡ filter (is_live entries) (arm_steps each number)
  running_are_active_in_arm no_arms number arm marks entries distinct stands = refl
  running_are_active_in_arm (more_arms when node each) number zero marks entries distinct stands =
      running_are_active node number marks entries (distinct_front (names node) (arm_names each) distinct) stands
      ∙ sym (front_lives entries (steps node number) (arm_steps each (number + size node))
      (on_arm_names each (number + size node) (LeavesIdle entries)
      (others_idle node number marks entries (arm_names each) distinct stands)))
  running_are_active_in_arm (more_arms when node each) number (suc arm) marks entries distinct stands =
      let back = distinct_back (names node) (arm_names each) distinct in
      let first : filter (is_live entries) (steps node number) ≡ []
      = quiet entries (steps node number)
      (on_names node number (LeavesIdle entries)
      (λ name known. ap or_idle (silent name (is_of (arm_at each (number + size node) arm)) entries
      (λ entry of_arm. unnamed name (arm_names each) (number + size node)
      (number + size node + arm_sizes each) entry.entry
      (arm_within each (number + size node) arm entry of_arm)
      (λ also. distinct_apart name (names node) (arm_names each) distinct known also))
      (stands_of (arm_at each (number + size node) arm) marks entries
      (arm_sound each (number + size node) arm back) stands)))) in
      running_are_active_in_arm each (number + size node) arm marks entries back stands
      ∙ sym (filter-append (is_live entries) (steps node number) (arm_steps each (number + size node))
      ∙ ap (λ others. others ++ filter (is_live entries) (arm_steps each (number + size node))) first)

-- the active steps, told by the log or by its word
active_live : (chart : PlainChart) (log : List LogEntry) (others : List Placed)
    → All (is_of (course_of chart)) (word log)
    → filter (is_active log) others ≡ filter (is_live (word log)) others
active_live chart log [] all = refl
active_live chart log (placed ∷ others) all =
    ap (λ phase. if is_running (or_idle phase) then placed ∷ filter (is_active log) others else filter
    (is_active log) others)
    (log_phase chart placed.step.name log all)
    ∙ ap (λ kept. if is_live (word log) placed then placed ∷ kept else kept) (active_live chart log others all)

-- Of every log that the marks stand for: the running steps among the open nodes are the active ones.
pub runs_active : (chart : PlainChart) (marks : Marks) (log : List LogEntry) → IsValid chart
    → Stands (course_of chart) marks (word log) → runs (open_nodes chart.root 0 marks) ≡ active_steps chart log
runs_active chart marks log valid stands =
    running_are_active chart.root 0 marks (word log) (valid_distinct chart valid) stands
    ∙ sym (active_live chart log (steps chart.root 0) (stands_of (course_of chart) marks (word log)
    (chart_sound chart valid) stands))

-- the first wanted one of a node and of those behind it
placed_one : (wanted : ℕ → PlainStep → Bool) (number : ℕ) (node : Tree) (phase : Phase) (rest : List Placed)
    → option_or (running_node wanted number node phase) (first_placed wanted rest)
    ≡ first_placed wanted (run_of number node phase ++ rest)
placed_one wanted number (leaf step) phase rest =
    elim (is_running phase) as
    (λ test. option_or (if test && wanted number step then Some (running_step number step) else None)
    (first_placed wanted rest)
    ≡ first_placed wanted ((if test then record { number = number; step = step } ∷ [] else []) ++ rest)) [
      | true ↦ (elim (wanted number step) as
          (λ test. option_or (if test then Some (running_step number step) else None) (first_placed wanted rest)
          ≡ (if test then Some (running_step number step) else first_placed wanted rest)) [
            | true ↦ refl
            | false ↦ refl
          ])
      | false ↦ refl
    ]
placed_one wanted number (seq each) phase rest = refl
placed_one wanted number (par each) phase rest = refl
placed_one wanted number (choice each) phase rest = refl
placed_one wanted number (loop body until) phase rest = refl

-- the first wanted one among the running steps
pub running_placed : (wanted : ℕ → PlainStep → Bool) (others : List OpenNode)
    → first_running wanted others ≡ first_placed wanted (runs others)
running_placed wanted [] = refl
running_placed wanted (spot ∷ others) =
    ap (option_or (running_node wanted spot.number spot.node (phase_of spot.progress))) (running_placed wanted others)
    ∙ placed_one wanted spot.number spot.node (phase_of spot.progress) (runs others)

-- the first wanted step that runs is the first wanted active step of the log
pub first_active :
    (chart : PlainChart) (marks : Marks) (log : List LogEntry) (wanted : ℕ → PlainStep → Bool) → IsValid chart
    → Stands (course_of chart) marks (word log)
    → first_running wanted (open_nodes chart.root 0 marks) ≡ first_placed wanted (active_steps chart log)
first_active chart marks log wanted valid stands = running_placed wanted (open_nodes chart.root 0 marks)
    ∙ ap (first_placed wanted) (runs_active chart marks log valid stands)

-- the first broken one of a node and of those behind it
broken_one : (seen : Sights) (number : ℕ) (node : Tree) (phase : Phase) (rest : List Placed)
    → option_or (broken_node seen node phase) (first_broken seen (map (λ placed. placed.step) rest))
    ≡ first_broken seen (map (λ placed. placed.step) (run_of number node phase ++ rest))
broken_one seen number (leaf step) phase rest =
    elim (is_running phase) as (λ runs.
    option_or (if runs then broken_step step (seen.view step.role step.service) else None)
    (first_broken seen (map (λ placed. placed.step) rest))
    ≡ first_broken seen
    (map (λ placed. placed.step) ((if runs then record { number = number; step = step } ∷ [] else []) ++ rest))) [
      | true ↦ refl
      | false ↦ refl
    ]
broken_one seen number (seq each) phase rest = refl
broken_one seen number (par each) phase rest = refl
broken_one seen number (choice each) phase rest = refl
broken_one seen number (loop body until) phase rest = refl

-- the first broken one among the running steps
broken_among : (seen : Sights) (open_nodes : List OpenNode)
    → first_broken_node seen open_nodes ≡ first_broken seen (map (λ placed. placed.step) (runs open_nodes))
broken_among seen [] = refl
broken_among seen (spot ∷ open_nodes) =
    ap (option_or (broken_node seen spot.node (phase_of spot.progress))) (broken_among seen open_nodes)
    ∙ broken_one seen spot.number spot.node (phase_of spot.progress) (runs open_nodes)

-- the first of the running steps that broke is the first of the active steps of the log that broke
pub broken_active :
    (chart : PlainChart) (marks : Marks) (log : List LogEntry) (seen : Sights) → IsValid chart
    → Stands (course_of chart) marks (word log)
    → first_broken_node seen (open_nodes chart.root 0 marks) ≡ first_broken seen (active chart log)
broken_active chart marks log seen valid stands =
    broken_among seen (open_nodes chart.root 0 marks)
    ∙ ap (λ each. first_broken seen (map (λ placed. placed.step) each)) (runs_active chart marks log valid stands)
