-- Which steps of a chart were held, by flags of its nodes, and what becomes of the flags by an entry.
use Rattle.std.specs.Prelude.{ℕ, ◌≡◌, Bool, true, false, ◌||◌, List, length, unwrap_or}
use Rattle.std.specs.List.{Contains}
use Rattle.mtp_codes.specs.Names.{is_among, same_name}
use Rattle.chart_core.specs.Roles.{PlainChart}
use Rattle.chart_core.specs.Trees.{Placed, size, steps}
use Rattle.chart_core.specs.declared.entry.LogEntry.{LogEntry}
use Rattle.chart_core.specs.declared.entry.LogEntry.TheVariants.{Hold, Unhold}
use Rattle.chart_cursor.specs.Holding.{flag_at}
use Rattle.chart_cursor.specs.Logs.{holding_by, was_held}

-- for each node whether its step was asked to hold since the last freeze, and whether it was held and not unheld since
pub record PlainHolds : Type 0 where
  pub asked : List Bool
  pub held : List Bool

-- each node of the chart has its flags
pub record HaveRoom (chart : PlainChart) (holds : PlainHolds) : Type 0 where
  pub asked : length holds.asked ≡ size chart.root
  pub held : length holds.held ≡ size chart.root

-- the entry asks the step with this name to hold
abbrev pub asks : List ℕ → LogEntry → Bool
asks name (Hold step tag service) = same_name step name
asks name _ = false

-- the entry holds or unholds a step
abbrev pub is_hold : LogEntry → Bool
is_hold (Hold step tag service) = true
is_hold (Unhold step tag service) = true
is_hold _ = false

-- the steps of the chart that are flagged as asked are these
abbrev pub AreAsked : PlainChart → PlainHolds → List (List ℕ) → Type 0
AreAsked chart holds asked =
    (placed : Placed) → Contains (steps chart.root 0) placed
    → is_among asked placed.step.name ≡ flag_at holds.asked placed.number

-- the steps of the chart that are flagged as held are those that were held after the log
abbrev pub AreHeld : PlainChart → PlainHolds → List LogEntry → Type 0
AreHeld chart holds log =
    (placed : Placed) → Contains (steps chart.root 0) placed
    → was_held log placed.step.name ≡ flag_at holds.held placed.number

-- the flags have moved as the entry says
pub record Moves (chart : PlainChart) (entry : LogEntry) (old new : PlainHolds) : Type 0 where
  pub asked : (placed : Placed) → Contains (steps chart.root 0) placed
      → flag_at new.asked placed.number ≡ asks placed.step.name entry || flag_at old.asked placed.number
  pub held : (placed : Placed) → Contains (steps chart.root 0) placed
      → flag_at new.held placed.number
      ≡ unwrap_or (holding_by placed.step.name entry) (flag_at old.held placed.number)
