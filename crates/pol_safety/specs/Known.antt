-- What is there is known: no answer rests on a value that is missing.
use Rattle.std.specs.Prelude.{ℕ, ◌≡◌, List, Bool, true, false, Some, IsTrue}
use Rattle.std.specs.List.{Contains, IsDistinct}
use Rattle.std.specs.Str.{bytes_eq}
use Rattle.mtp_codes.specs.Names.{is_among}
use Rattle.mtp_desc.specs.Plain.{PlainDescription}
use Rattle.mtp_modes.specs.declared.view.ServiceView.{ServiceView}
use Rattle.chart_core.specs.Roles.{PlainChart, is_chart_form, role_names}
use Rattle.chart_core.specs.Trees.{PlainStep}
use Rattle.chart_core.specs.Valid.{IsValid}
use Rattle.chart_cursor.specs.Logs.{active}
use Rattle.chart_cursor.specs.declared.sight.Sight.TheVariants as sight
use Rattle.pol_history.specs.Looking.{History}
use Rattle.pol_history.specs.Modules.{Docking, absent, docked, away, docking_of, description_of, present_tags}
use Rattle.pol_history.specs.Batches.{Started, start_of, chart_of, log_of}
use Rattle.pol_history.specs.Runs.{IsLegal, IsOrderly}
use Rattle.pol_safety.specs.Advances.{seen_by}
use Rattle.pol_safety.specs.Kept.{IsOpen}

-- the batch has a formed and valid chart
pub record HasChart (history : History) (batch : List ℕ) : Type 0 where
  pub chart : PlainChart
  pub chart_is : chart_of history batch ≡ Some chart
  pub is_formed : IsTrue (is_chart_form chart)
  pub valid : IsValid chart

-- In every legal history of orderly events each started batch has a formed and valid chart.
abbrev pub StartedHaveCharts : Type 0
StartedHaveCharts =
    (history : History) (batch : List ℕ) (started : Started) → IsLegal history → IsOrderly history →
    start_of history batch ≡ Some started → HasChart history batch

-- the tag is docked or away
abbrev pub is_there : Docking → Bool
is_there absent = false
is_there (docked count) = true
is_there (away ticket) = true

-- the tags that are counted as present are those that are docked or away, each once
pub record CountsTags (history : History) : Type 0 where
  pub members : (tag : List ℕ) → is_among (present_tags history) tag ≡ is_there (docking_of history tag)
  pub once : IsDistinct bytes_eq (present_tags history)

-- In every legal history the tags that are counted as present are those that are docked or away, each once.
abbrev pub TagsAreCounted : Type 0
TagsAreCounted = (history : History) → IsLegal history → CountsTags history

-- In every legal history of orderly events each tag that is docked or away has a description.
abbrev pub TagsAreDescribed : Type 0
TagsAreDescribed =
    (history : History) (tag : List ℕ) → IsLegal history → IsOrderly history →
    is_there (docking_of history tag) ≡ true →
    (description : PlainDescription) × (description_of history tag ≡ Some description)

-- the batch sees its modules: each role of its chart has a tag, and the service of each active step was reported
pub record SeesModules (history : History) (batch : List ℕ) (started : Started) (chart : PlainChart) : Type 0 where
  pub tags : (role : List ℕ) → Contains (role_names chart) role →
      (tag : List ℕ) × ((seen_by history started).tag role ≡ Some tag)
  pub views : (step : PlainStep) → Contains (active chart (log_of history batch)) step →
      (view : ServiceView) × ((seen_by history started).view step.role step.service ≡ sight.Is view)

-- In every legal history of orderly events each open batch sees its modules.
abbrev pub OpenBatchesSee : Type 0
OpenBatchesSee =
    (history : History) (batch : List ℕ) (started : Started) (chart : PlainChart) → IsLegal history
    → IsOrderly history →
    IsOpen history batch started chart → SeesModules history batch started chart
