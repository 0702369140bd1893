-- Open steps of a chart are of different services.
use Rattle.std.specs.Prelude.{ℕ, ◌≡◌, ◌&&◌, Bool, true, false, List, [], ◌∷◌, Option, Some, None}
use Rattle.std.specs.List.{list_any, Contains}
use Rattle.mtp_codes.specs.Names.{same_name}
use Rattle.chart_core.specs.Trees.{PlainStep, Placed, Tree, Trees, Arms, leaf, seq, par, choice, loop, no_trees}
use Rattle.chart_core.specs.Trees.{more_trees, no_arms, more_arms, steps}
use Rattle.chart_core.specs.Roles.{PlainChart}
use Rattle.chart_core.specs.Valid.{uses, some_uses, IsValid}
use Rattle.chart_core.specs.Progress.{Marks}
use Rattle.chart_core.specs.Active.{Phase, idle, started, finished, was_reset, phase_after, active_steps}
use Rattle.mtp_codes.specs.declared.state.State.{State}
use Rattle.mtp_codes.specs.declared.state.State.TheVariants.{Idle, Execute, Completed}
use Rattle.mtp_modes.specs.declared.view.ServiceView.{ServiceView}
use Rattle.pol_history.specs.Looking.{History, past, recipes}
use Rattle.pol_history.specs.Modules.{view_of}
use Rattle.pol_history.specs.Batches.{Started, start_of, chart_named, outcome_of, log_of}
use Rattle.pol_history.specs.Following.{sights_by}
use Rattle.pol_history.specs.Runs.{IsLegal, IsOrderly}
use Rattle.chart_core.specs.Runs.{IsPartial, IsComplete}
use Rattle.chart_core.specs.declared.entry.LogEntry.{LogEntry}
use Rattle.chart_core.specs.declared.entry.LogEntry.TheVariants.{Start, Finish, Reset, End}
use Rattle.chart_cursor.specs.OpenNodes.{OpenNode, open_nodes}
use Rattle.chart_cursor.specs.Sights.{Sights}
use Rattle.chart_cursor.specs.Commands.{Sent, sent_by, IsOfStep, is_step_entry}
use Rattle.chart_cursor.specs.Next.{next_after}
use Rattle.chart_cursor.specs.declared.next.CursorNext.TheVariants.{Entry}
use Rattle.chart_cursor.specs.Logs.{chart_entries}
use Rattle.pol_events.specs.Bound.{bound_tag, given}

-- the node is a step of this role and service
abbrev pub is_step_of : List ℕ → List ℕ → Tree → Bool
is_step_of role service (leaf step) = same_name step.role role && same_name step.service service
is_step_of role service (seq each) = false
is_step_of role service (par each) = false
is_step_of role service (choice each) = false
is_step_of role service (loop body until) = false

-- some open node is a step of this role and service
abbrev pub any_open : List ℕ → List ℕ → List OpenNode → Bool
any_open role service open_nodes = list_any (λ spot. is_step_of role service spot.node) open_nodes

-- no open node among these is a step of this node's role and service
abbrev pub IsApart : Tree → List OpenNode → Type 0
IsApart (leaf step) open_nodes = any_open step.role step.service open_nodes ≡ false
IsApart (seq each) open_nodes = Unit {0}
IsApart (par each) open_nodes = Unit {0}
IsApart (choice each) open_nodes = Unit {0}
IsApart (loop body until) open_nodes = Unit {0}

-- no two of these are steps of one role and service
abbrev pub AreApart : List OpenNode → Type 0
AreApart [] = Unit {0}
AreApart (spot ∷ others) = IsApart spot.node others × AreApart others

-- in each parallel no two branches have a step of one role and service
abbrev mutual
  pub Clear : Tree → Type 0
  Clear (leaf step) = Unit {0}
  Clear (seq each) = AllClear each
  Clear (par each) = AllClear each × Disjoint each
  Clear (choice each) = ArmsClear each
  Clear (loop body until) = Clear body

  pub AllClear : Trees → Type 0
  AllClear no_trees = Unit {0}
  AllClear (more_trees each others) = Clear each × AllClear others

  pub ArmsClear : Arms → Type 0
  ArmsClear no_arms = Unit {0}
  ArmsClear (more_arms when each others) = Clear each × ArmsClear others

  pub Disjoint : Trees → Type 0
  Disjoint no_trees = Unit {0}
  Disjoint (more_trees each others) =
      ((role service : List ℕ) → uses each role service ≡ true → some_uses others role service ≡ false)
      × Disjoint others

-- Where no parallel has two branches with a step of one role and service, no two open steps are of one.
abbrev pub OpenStepsAreApart : Type 0
OpenStepsAreApart = (tree : Tree) (n : ℕ) (marks : Marks) → Clear tree → AreApart (open_nodes tree n marks)

-- In no valid chart does a parallel have two branches with a step of one role and service.
abbrev pub ValidChartsAreClear : Type 0
ValidChartsAreClear = (chart : PlainChart) → IsValid chart → Clear chart.root

-- the entry comes of a step that is in this phase
abbrev pub is_due : Phase → LogEntry → Bool
is_due idle (Start step tag service procedure) = true
is_due started (Finish step tag service) = true
is_due started (Reset step tag service) = true
is_due finished (Reset step tag service) = true
is_due was_reset (End step) = true
is_due phase entry = false

-- The entry is of a step, and each active step of its role and service is this one, in a phase in which the entry is
-- due.
pub record IsAlone (chart : PlainChart) (log : List LogEntry) (seen : Sights) (entry : LogEntry) : Type 0 where
  pub step : PlainStep
  pub number : ℕ
  pub within : Contains (steps chart.root 0) (record { number = number; step = step })
  pub own : IsOfStep seen step entry
  pub alone :
      (placed : Placed) → Contains (active_steps chart log) placed → placed.step.role ≡ step.role →
      placed.step.service ≡ step.service →
      (placed.step ≡ step) × (is_due (phase_after log placed.step.name) entry ≡ true)

-- In every valid chart after a partial run the next entry of a step is due, and no other step of its role and service
-- is active.
-- active.
abbrev pub NextStepsAreAlone : Type 0
NextStepsAreAlone =
    (chart : PlainChart) (log : List LogEntry) (seen : Sights) (entry : LogEntry) → IsValid chart →
    IsPartial chart log → next_after chart log seen ≡ Entry entry → is_step_entry entry ≡ true →
    IsAlone chart log seen entry

-- ---- what is owed to a service

-- the state in which a service waits whose command wasn't answered yet: that in which the command was sent
abbrev pub waits_in : Phase → Option State
waits_in idle = None
waits_in started = Some Idle
waits_in finished = Some Execute
waits_in was_reset = Some Completed

-- An active step of an open batch, whose service is still in the state in which its last command was sent.
pub record IsOwed (history : History) (tag service : List ℕ) : Type 0 where
  pub batch : List ℕ
  pub started : Started
  pub chart : PlainChart
  pub placed : Placed
  pub start_is : start_of history batch ≡ Some started
  pub chart_is : chart_named started.recipe (recipes history) ≡ Some chart
  pub unclosed : outcome_of history batch ≡ None
  pub inside : Contains (active_steps chart (chart_entries (log_of history batch))) placed
  pub bound : bound_tag (given started.binds) placed.step.role ≡ Some tag
  pub service_is : placed.step.service ≡ service
  pub view : ServiceView
  pub seen : view_of history tag service ≡ Some view
  pub waits : waits_in (phase_after (chart_entries (log_of history batch)) placed.step.name) ≡ Some view.control.state

-- While a service is owed a report, no batch goes on with an entry of a run that sends it a command.
abbrev pub OwedIsNotSent : Type 0
OwedIsNotSent =
    (history : History) (tag service batch : List ℕ) (started : Started) (chart : PlainChart) (entry : LogEntry)
    (sent : Sent) →
    IsLegal history → IsOrderly history → IsOwed history tag service → start_of history batch ≡ Some started →
    chart_named started.recipe (recipes history) ≡ Some chart → outcome_of history batch ≡ None →
    next_after chart (chart_entries (log_of history batch)) (sights_by (given started.binds) (λ tag. past tag history))
    ≡ Entry entry →
    sent_by entry ≡ Some sent → sent.tag ≡ tag → sent.service ≡ service → ⊥

-- After a complete run no step is active.
abbrev pub CompleteRunsAreStill : Type 0
CompleteRunsAreStill =
    (chart : PlainChart) (log : List LogEntry) → IsValid chart → IsComplete chart log → active_steps chart log ≡ []
