-- What every event keeps of the batches and their modules.
use Rattle.std.specs.Prelude.{ℕ, ◌≡◌, List, Option, Some, None}
use Rattle.std.specs.List.{Contains}
use Rattle.mtp_desc.specs.Plain.{PlainDescription}
use Rattle.mtp_modes.specs.declared.view.ServiceView.{ServiceView}
use Rattle.mtp_procs.specs.Covers.{cover_fault}
use Rattle.chart_core.specs.Roles.{PlainChart}
use Rattle.chart_core.specs.Trees.{PlainStep}
use Rattle.chart_cursor.specs.Logs.{active}
use Rattle.pol_events.specs.declared.event.Bind.{Bind}
use Rattle.pol_events.specs.Bound.{bound_tag, given}
use Rattle.pol_history.specs.Looking.{History, past}
use Rattle.pol_history.specs.Modules.{Docking, absent, docked, docking_by, description_by, view_by}
use Rattle.pol_history.specs.Batches.{Started, start_of, chart_of, log_of, outcome_of, holder_of, watchers_of}
use Rattle.pol_history.specs.Runs.{IsLegal, IsOrderly}

-- a module that is docked, of whose service this view is found
pub record IsLiveBy (docking : Docking) (found : Option ServiceView) : Type 0 where
  pub count : ℕ
  pub is_docked : docking ≡ docked count
  pub view : ServiceView
  pub seen : found ≡ Some view

-- the module with this past is docked, and the service was reported since
abbrev pub IsLive : List ℕ → History → Type 0
IsLive service past = IsLiveBy (docking_by past) (view_by service past)

-- a module plays the role; it is docked, and its service was reported since
pub record IsSeen (modules : List ℕ → History) (binds : List Bind) (role service : List ℕ) : Type 0 where
  pub tag : List ℕ
  pub bound : bound_tag binds role ≡ Some tag
  pub live : IsLive service (modules tag)

-- the module with this past is there, and its description covers the role of the chart
pub record IsCovered (chart : PlainChart) (role : List ℕ) (past : History) : Type 0 where
  pub is_there : docking_by past ≡ absent → ⊥
  pub description : PlainDescription
  pub described : description_by past ≡ Some description
  pub covered : cover_fault chart role description ≡ None

-- what holds of an open batch, by its start and the chart of its recipe: each module that it binds is held by it, each
-- one that it watches is watched by it, each of both is there and covers its role, and each active step's service was
-- reported since its module was docked
pub record IsSteady (history : History) (batch : List ℕ) (started : Started) (chart : PlainChart) : Type 0 where
  pub held : (bind : Bind) → Contains started.binds.held bind → holder_of history bind.tag ≡ Some batch
  pub watched : (bind : Bind) → Contains started.binds.watched bind → Contains (watchers_of history bind.tag) batch
  pub covered : (bind : Bind) → Contains (given started.binds) bind → IsCovered chart bind.role (past bind.tag history)
  pub reported : (step : PlainStep) → Contains (active chart (log_of history batch)) step →
      IsSeen (λ tag. past tag history) (given started.binds) step.role step.service

-- a batch that was started and isn't closed
pub record IsOpen (history : History) (batch : List ℕ) (started : Started) (chart : PlainChart) : Type 0 where
  pub start : start_of history batch ≡ Some started
  pub chart_is : chart_of history batch ≡ Some chart
  pub unclosed : outcome_of history batch ≡ None

-- In every legal history of orderly events each open batch holds and watches the modules that it binds, each of which
-- covers its role, and the service of each active step was reported.
abbrev pub BatchesAreKept : Type 0
BatchesAreKept =
    (history : History) (batch : List ℕ) (started : Started) (chart : PlainChart) → IsLegal history
    → IsOrderly history →
    IsOpen history batch started chart → IsSteady history batch started chart

-- the batch that holds a module was started on it and isn't closed
pub record IsHolder (history : History) (tag batch : List ℕ) : Type 0 where
  pub started : Started
  pub chart : PlainChart
  pub is_open : IsOpen history batch started chart
  pub bind : Bind
  pub binds : Contains started.binds.held bind
  pub tag_is : bind.tag ≡ tag

-- In every legal history of orderly events the holder of a module is an open batch that binds it.
abbrev pub HoldersAreOpen : Type 0
HoldersAreOpen =
    (history : History) (tag batch : List ℕ) → IsLegal history → IsOrderly history →
    holder_of history tag ≡ Some batch →
    IsHolder history tag batch

-- a batch that watches a module was started to watch it and isn't closed
pub record IsWatcher (history : History) (tag batch : List ℕ) : Type 0 where
  pub started : Started
  pub chart : PlainChart
  pub is_open : IsOpen history batch started chart
  pub bind : Bind
  pub binds : Contains started.binds.watched bind
  pub tag_is : bind.tag ≡ tag

-- In every legal history of orderly events each watcher of a module is an open batch that watches it.
abbrev pub WatchersAreOpen : Type 0
WatchersAreOpen =
    (history : History) (tag batch : List ℕ) → IsLegal history → IsOrderly history →
    Contains (watchers_of history tag) batch →
    IsWatcher history tag batch
