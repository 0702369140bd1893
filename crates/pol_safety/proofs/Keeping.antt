-- What holds of every open batch.
use Rattle.std.proofs.Common.{◌≡◌, Some, ap, sym, ◌∙◌, subst}
use Rattle.std.specs.Prelude.{filter}
use Rattle.std.specs.List.{Contains}
use Rattle.chart_core.specs.Active.{is_active}
use Rattle.chart_core.specs.Trees.{PlainStep, steps}
use Rattle.chart_cursor.specs.Logs.{active}
use Rattle.chart_cursor.specs.Sights.{sight_of_view}
use Rattle.pol_events.specs.declared.event.Bind.{Bind}
use Rattle.pol_history.specs.Looking.{past, recipes}
use Rattle.pol_history.specs.Following.{service_sight, sight_in}
use Rattle.pol_history.specs.Modules.{view_of}
use Rattle.pol_history.specs.Batches.{chart_named, chart_by, log_of, holder_of, watchers_of}
use Rattle.pol_history.proofs.Watchers.{open_watches}
use Rattle.pol_events.specs.Bound.{given}
use Rattle.pol_safety.specs.Kept.{IsSeen, IsCovered, BatchesAreKept}
use Rattle.pol_safety.specs.Known.{OpenBatchesSee}
use Rattle.pol_events.proofs.Lists.{member_kept, member_image}
use Rattle.pol_safety.proofs.Holding.{holds}
use Rattle.pol_safety.proofs.Covering.{all_cover}
use Rattle.pol_safety.proofs.Reporting.{each_is_seen}
use Rattle.pol_safety.proofs.Starts.{running_fits}

-- what every event keeps of an open batch
pub batches_kept : BatchesAreKept
batches_kept history batch started chart legal orderly is_open =
    record { held = held; watched = watched; covered = covered; reported = reported }
  where
    chart_is : chart_named started.recipe (recipes history) ≡ Some chart
    chart_is = ap (chart_by (recipes history)) (sym is_open.start) ∙ is_open.chart_is

    held : (bind : Bind) → Contains started.binds.held bind → holder_of history bind.tag ≡ Some batch
    held = holds history batch started legal orderly is_open.start is_open.unclosed

    watched : (bind : Bind) → Contains started.binds.watched bind → Contains (watchers_of history bind.tag) batch
    watched bind inside = open_watches history batch started bind is_open.start is_open.unclosed inside

    covered : (bind : Bind) → Contains (given started.binds) bind → IsCovered chart bind.role (past bind.tag history)
    covered = all_cover history legal orderly batch started chart is_open.start chart_is is_open.unclosed

    reported : (step : PlainStep) → Contains (active chart (log_of history batch)) step
        → IsSeen (λ tag. past tag history) (given started.binds) step.role step.service
    reported step inside =
        let (placed, within, same) = member_image (λ placed. placed.step)
        (filter (is_active (log_of history batch)) (steps chart.root 0)) step inside in
        let (member, is) = member_kept (is_active (log_of history batch)) (steps chart.root 0) placed within in
        subst (λ (step : PlainStep). IsSeen (λ tag. past tag history) (given started.binds) step.role step.service) same
        (each_is_seen history legal orderly batch started chart is_open.start chart_is is_open.unclosed placed member
        is)

-- an open batch sees its modules
pub batches_see : OpenBatchesSee
batches_see history batch started chart legal orderly is_open =
    let kept = batches_kept history batch started chart legal orderly is_open in
    let chart_is = ap (chart_by (recipes history)) (sym is_open.start) ∙ is_open.chart_is in
    let fits = running_fits history batch started chart legal orderly
    (record { start_is = is_open.start; chart_is = chart_is; unclosed = is_open.unclosed }) in
    record {
      tags = fits.bound;
      views = λ step inside.
          let reported = kept.reported step inside in (
            reported.live.view,
            ap (service_sight (λ tag. past tag history) step.service) reported.bound
                ∙ ap (λ docking. sight_in docking (view_of history reported.tag step.service)) reported.live.is_docked
                ∙ ap sight_of_view reported.live.seen,
          );
    }
