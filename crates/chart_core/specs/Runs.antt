-- Complete and partial runs of a chart, and its awaited nodes.
use Rattle.std.specs.Prelude.{ℕ, ◌+◌, ◌≡◌, ◌⊎◌, zero, suc, length, List, [], ◌∷◌, ◌++◌, map, Bool, true, false, not, ◌&&◌, ◌||◌, nat_lt, Option, Some, None, is_some, if◌then◌else◌}
use Rattle.mtp_codes.specs.declared.value.Reading.{Reading}
use Rattle.chart_core.specs.Formulas.{Formula, Formulas, no_formulas, more_formulas, Known, holds}
use Rattle.chart_core.specs.Reads.{reads_of, stored}
use Rattle.chart_core.specs.Trees.{Tree, Trees, Arms, leaf, seq, par, choice, loop, no_trees, more_trees, no_arms, more_arms, size, arm_count, arm_conditions}
use Rattle.chart_core.specs.Roles.{PlainChart}
use Rattle.chart_core.specs.Entries.{Decision, chose, turn, leave, ChartEntry, chart_entry, stage_of, Decided, decided_at}
use Rattle.chart_core.specs.Courses.{Course, nothing, step, chain, beside, select, repeat, Complete, Partial}
use Rattle.chart_core.specs.declared.reads.Read.{Read}
use Rattle.chart_core.specs.declared.entry.LogEntry.{LogEntry}

-- an entry of a word, and whether the condition on its readings is set aside
pub record WordEntry : Type 0 where
  pub entry : Option ChartEntry
  pub unconditioned : Bool

-- an entry of a log as an entry of a word, with its condition; an entry that is none of a run is in no run
abbrev pub with_condition : LogEntry → WordEntry
with_condition entry = record { entry = chart_entry entry; unconditioned = false }

-- an entry of a run, with the condition on its readings set aside
abbrev pub without_condition : ChartEntry → WordEntry
without_condition entry = record { entry = Some entry; unconditioned = true }

-- a log as a word
abbrev pub word : List LogEntry → List WordEntry
word log = map with_condition log

-- the condition at this place is true, and none before it
abbrev pub is_first_true : Formulas → ℕ → Known → Bool
is_first_true no_formulas place known = false
is_first_true (more_formulas each others) zero known = holds each known
is_first_true (more_formulas each others) (suc place) known = not (holds each known) && is_first_true others place known

-- what the arms of a selection read
abbrev pub arm_reads : Arms → List Read
arm_reads each = reads_of (arm_conditions each)

-- what a loop reads
abbrev pub loop_reads : Formula → List Read
loop_reads until = reads_of (more_formulas until no_formulas)

-- the arm that a decision with these readings chooses rightly
abbrev pub right_choice : Arms → Bool → Decision → List Reading → Option ℕ
right_choice each unconditioned (chose arm) values =
    if nat_lt arm (arm_count each) && (unconditioned || is_first_true (arm_conditions each) arm
    (stored (arm_reads each) values))
    then Some arm else None
right_choice each unconditioned turn values = None
right_choice each unconditioned leave values = None

-- the arm that is chosen rightly: its condition is true on the stored readings, and those of earlier arms are false
abbrev pub right_arm : Arms → Bool → Option Decided → Option ℕ
right_arm each unconditioned None = None
right_arm each unconditioned (Some decided) = right_choice each unconditioned decided.decision decided.values

-- a decision with these readings turns the loop rightly
abbrev pub right_turn : Formula → Bool → Decision → List Reading → Bool
right_turn until unconditioned (chose arm) values = false
right_turn until unconditioned turn values = unconditioned || not (holds until (stored (loop_reads until) values))
right_turn until unconditioned leave values = false

-- the loop is turned rightly: its condition is false on the stored readings
abbrev pub turns_rightly : Formula → Bool → Option Decided → Bool
turns_rightly until unconditioned None = false
turns_rightly until unconditioned (Some decided) = right_turn until unconditioned decided.decision decided.values

-- a decision with these readings leaves the loop rightly
abbrev pub right_leave : Formula → Bool → Decision → List Reading → Bool
right_leave until unconditioned (chose arm) values = false
right_leave until unconditioned turn values = false
right_leave until unconditioned leave values = unconditioned || holds until (stored (loop_reads until) values)

-- the loop is left rightly: its condition is true on the stored readings
abbrev pub leaves_rightly : Formula → Bool → Option Decided → Bool
leaves_rightly until unconditioned None = false
leaves_rightly until unconditioned (Some decided) = right_leave until unconditioned decided.decision decided.values

-- what an entry decides at the selection or the loop with this number and these reads
abbrev pub decision_at : ℕ → List Read → WordEntry → Option Decided
decision_at number reads entry = decided_at number (length reads) entry.entry

-- the course of a tree whose first node has the number n
abbrev mutual
  pub course : Tree → ℕ → Course WordEntry
  course (leaf plan) number = step number (is_some plan.finish) (λ entry. stage_of plan entry.entry)
  course (seq each) number = in_turn each (number + 1)
  course (par each) number = at_once each (number + 1)
  course (choice each) number =
      select number (arm_count each) (λ entry. is_some (decision_at number (arm_reads each) entry))
      (λ entry. right_arm each entry.unconditioned (decision_at number (arm_reads each) entry))
      (λ arm. arm_at each (number + 1) arm)
  course (loop body until) number =
      repeat number (number + 1 + size body) (course body (number + 1))
      (λ entry. is_some (decision_at number (loop_reads until) entry))
      (λ entry. turns_rightly until entry.unconditioned (decision_at number (loop_reads until) entry))
      (λ entry. leaves_rightly until entry.unconditioned (decision_at number (loop_reads until) entry))

  -- each child in order
  pub in_turn : Trees → ℕ → Course WordEntry
  in_turn no_trees number = nothing
  in_turn (more_trees each others) number = chain (course each number) (in_turn others (number + size each))

  -- all children side by side
  pub at_once : Trees → ℕ → Course WordEntry
  at_once no_trees number = nothing
  at_once (more_trees each others) number = beside (course each number) (at_once others (number + size each))

  -- the arm at this place
  pub arm_at : Arms → ℕ → ℕ → Course WordEntry
  arm_at no_arms number place = nothing
  arm_at (more_arms when each others) number zero = course each number
  arm_at (more_arms when each others) number (suc place) = arm_at others (number + size each) place

-- the course of a chart
abbrev pub course_of : PlainChart → Course WordEntry
course_of chart = course chart.root 0

-- the log is a complete run of the chart
abbrev pub IsComplete : PlainChart → List LogEntry → Type 0
IsComplete chart log = Complete (course_of chart) (word log)

-- the log is a partial run of the chart
abbrev pub IsPartial : PlainChart → List LogEntry → Type 0
IsPartial chart log = Partial (course_of chart) (word log)

-- the entry is of the node with the wanted number, in a tree whose first node has this number
abbrev mutual
  pub EntryOf : Tree → ℕ → ℕ → ChartEntry → Type 0
  EntryOf (leaf plan) number wanted entry = (wanted ≡ number) × (is_some (stage_of plan (Some entry)) ≡ true)
  EntryOf (seq each) number wanted entry = EntryAmong each (number + 1) wanted entry
  EntryOf (par each) number wanted entry = EntryAmong each (number + 1) wanted entry
  EntryOf (choice each) number wanted entry =
      ((wanted ≡ number) × (is_some (decided_at number (length (arm_reads each)) (Some entry)) ≡ true))
      ⊎ EntryInArm each (number + 1) wanted entry
  EntryOf (loop body until) number wanted entry =
      ((wanted ≡ number) × (is_some (decided_at number (length (loop_reads until)) (Some entry)) ≡ true))
      ⊎ EntryOf body (number + 1) wanted entry

  pub EntryAmong : Trees → ℕ → ℕ → ChartEntry → Type 0
  EntryAmong no_trees number wanted entry = ⊥
  EntryAmong (more_trees each others) number wanted entry =
      EntryOf each number wanted entry ⊎ EntryAmong others (number + size each) wanted entry

  pub EntryInArm : Arms → ℕ → ℕ → ChartEntry → Type 0
  EntryInArm no_arms number wanted entry = ⊥
  EntryInArm (more_arms when each others) number wanted entry =
      EntryOf each number wanted entry ⊎ EntryInArm others (number + size each) wanted entry

-- The node with this number is awaited after the log: some entry of it makes the log a longer partial run, once the
-- condition on this last entry's readings is set aside.
abbrev pub IsAwaited : PlainChart → List LogEntry → ℕ → Type 0
IsAwaited chart log wanted = (entry : ChartEntry) × EntryOf chart.root 0 wanted entry
    × Partial (course_of chart) (word log ++ (without_condition entry ∷ []))
