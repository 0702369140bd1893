use Rattle.std.proofs.Common.{◌≡◌, ◌∙◌, sym, subst, ap, true, false, List, ℕ}
use Rattle.chart_core.specs.Charts.{plain_chart}
use Rattle.chart_core.specs.Active.{active_steps}
use Rattle.chart_core.specs.declared.entry.LogEntry.{LogEntry}
use Rattle.chart_core.specs.declared.next.Next.{Next}
use Rattle.chart_core.specs.declared.next.Next.TheVariants.{Waiting}
use Rattle.chart_core.specs.declared.why.Why.TheVariants.{Frozen}
use Rattle.chart_core.specs.Trees.{Placed}
use Rattle.chart_cursor.specs.Holding.{flag_at, is_unasked, numbered, under_way}
use Rattle.chart_cursor.specs.Logs.{chart_entries, active}
use Rattle.chart_cursor.specs.Next.{next_after}
use Rattle.chart_cursor.specs.NextEntry.{did_or, first_broken, first_hold, first_unhold, unless_whole, run_next}
use Rattle.chart_cursor.specs.NextEntry.{next_by}
use Rattle.chart_cursor.specs.Running.{first_placed, is_wanted}
use Rattle.chart_cursor.specs.Sights.{Sights}
use Rattle.std.specs.Prelude.{Bool, None}
use Rattle.chart_cursor.proofs.Held.{steps_of}
use Rattle.pol_runs.specs.Freezes.{freezing}
use Rattle.pol_runs.specs.Logs.{Asks, Follows}
use Rattle.pol_runs.specs.Runs.{PlainRun, from_of}
use Rattle.pol_runs.specs.Stopping.{stop_found}
use Rattle.pol_runs.specs.declared.freeze.Freeze.{Freeze}
use Rattle.pol_runs.specs.contracts.run.Run.{the_view}
use Rattle.pol_runs.proofs.Nexts.{running_next, breaking_next, stopping_next, hold_next}
use Rattle.pol_runs.proofs.run.Run.would.Goals as goal

-- it is what comes next, whatever log the run stands for
abbrev ComesNext : Next → Sights → PlainRun → Type 0
ComesNext next seen run = (log : List LogEntry) (asked : List (List ℕ)) → Follows run log → Asks run asked
    → next ≡ next_by (plain_chart run.chart) (freezing run.freeze asked) log seen

-- what comes next, by how the run is frozen
abbrev frozen_next : PlainRun → List LogEntry → List (List ℕ) → Sights → Freeze → Next
frozen_next run log asked seen freeze = next_by (plain_chart run.chart) (freezing freeze asked) log seen

-- the active steps that the entries of the chart's run leave
abbrev chart_steps : PlainRun → List LogEntry → List Placed
chart_steps run log = active_steps (plain_chart run.chart) (chart_entries log)

-- what a batch that is stopped does next, by the number of the first node whose step may still be active
abbrev stop_from : PlainRun → List LogEntry → Sights → Bool → ℕ → Next
stop_from run log seen broken from = stop_found seen broken (first_placed (is_wanted from None) (chart_steps run log))

pub returns-in-Holding : goal.returns-in-Holding
returns-in-Holding g c =
    let seen = g.S.Seen.sights c.args.seen.now in
    let run = the_view c.self.inside in
    let hold_from : ℕ → List Bool → List LogEntry → Next = λ from flags log.
    did_or (first_hold seen (steps_of (numbered (is_unasked from flags) (chart_steps run log)))) (Waiting Frozen) in
    subst (ComesNext c.hold_on.result seen) c.self.view_is (λ log asked follows asks.
    c.hold_on.ensures (chart_entries log) follows.proceeds.marks
    ∙ ap (λ from. hold_from from c.asked.result.now log) c.first_number-from.ensures
    ∙ ap (λ flags. hold_from (from_of run.course) flags log) c.asked.ensures
    ∙ ap (λ found. did_or found (Waiting Frozen)) (hold_next run log asked seen follows.proceeds asks)
    ∙ ap (frozen_next run log asked seen) (sym c.in-Holding.is))

pub returns-in-Running : goal.returns-in-Running
returns-in-Running g c =
    let seen = g.S.Seen.sights c.args.seen.now in
    let run = the_view c.self.inside in
    let go_by : List Bool → List LogEntry → Next = λ flags log.
    did_or (first_broken seen (active (plain_chart run.chart) (chart_entries log)))
    (run_next (unless_whole (first_unhold seen
    (under_way seen (steps_of (numbered (flag_at flags) (chart_steps run log)))))
    (next_after (plain_chart run.chart) (chart_entries log) seen))) in
    subst (ComesNext c.go_on.result seen) c.self.view_is (λ log asked follows asks.
    c.go_on.ensures (chart_entries log) follows.proceeds.marks
    ∙ ap (λ flags. go_by flags log) c.held.ensures
    ∙ running_next run log seen follows c.in-Running.is
    ∙ ap (frozen_next run log asked seen) (sym c.in-Thawed.is))

pub returns-in-Breaking : goal.returns-in-Breaking
returns-in-Breaking g c =
    let seen = g.S.Seen.sights c.args.seen.now in
    let run = the_view c.self.inside in
    subst (ComesNext c.stop_found.result seen) c.self.view_is (λ log asked follows asks.
    c.stop_found.ensures
    ∙ ap (stop_found seen true) (c.next_step.ensures (chart_entries log) follows.proceeds.marks)
    ∙ ap (stop_from run log seen true) c.first_number-from.ensures
    ∙ breaking_next run log seen c.in-Breaking.from follows.proceeds c.in-Breaking.is
    ∙ ap (frozen_next run log asked seen) (sym c.in-Thawed.is))

pub returns-in-Stopping : goal.returns-in-Stopping
returns-in-Stopping g c =
    let seen = g.S.Seen.sights c.args.seen.now in
    let run = the_view c.self.inside in
    subst (ComesNext c.stop_found-in-Stopping.result seen) c.self.view_is (λ log asked follows asks.
    c.stop_found-in-Stopping.ensures
    ∙ ap (stop_found seen false) (c.next_step-in-Stopping.ensures (chart_entries log) follows.proceeds.marks)
    ∙ ap (stop_from run log seen false) c.first_number-from.ensures
    ∙ stopping_next run log seen c.in-Stopping.from follows.proceeds c.in-Stopping.is
    ∙ ap (frozen_next run log asked seen) (sym c.in-Thawed.is))
