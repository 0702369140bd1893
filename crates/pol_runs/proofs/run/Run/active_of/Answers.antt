use Rattle.std.proofs.Common.{◌≡◌, ◌∙◌, ℕ, sym, subst, ap, List, Option, Some, None}
use Rattle.chart_core.specs.Active.{active_steps}
use Rattle.chart_core.specs.Charts.{plain_chart}
use Rattle.chart_core.specs.declared.entry.LogEntry.{LogEntry}
use Rattle.chart_cursor.specs.Logs.{chart_entries}
use Rattle.chart_cursor.specs.Running.{is_wanted, first_placed, name_of}
use Rattle.pol_runs.specs.Logs.{Follows}
use Rattle.pol_runs.specs.Runs.{PlainRun}
use Rattle.pol_runs.specs.contracts.run.Run.{the_view}
use Rattle.pol_runs.proofs.Nexts.{role_active}
use Rattle.pol_runs.proofs.run.Run.active_of.Goals as goal

-- it is the first active step of the role, whatever log the run stands for
abbrev IsFirstOf : List ℕ → Option (List ℕ) → PlainRun → Type 0
IsFirstOf role found run =
    (log : List LogEntry) → Follows run log
    → found ≡ name_of (first_placed (is_wanted 0 (Some role)) (active_steps (plain_chart run.chart) log))

pub returns-in-Some : goal.returns-in-Some
returns-in-Some c =
    let run = the_view c.self.inside in
    let first = λ (from : ℕ) (log : List LogEntry).
    first_placed (is_wanted from (Some c.args.role)) (active_steps (plain_chart run.chart) (chart_entries log)) in
    subst (IsFirstOf c.args.role (Some c.in-Some.step.name)) c.self.view_is (λ log follows.
    ap name_of (sym c.in-Some.is ∙ c.next_step.ensures (chart_entries log) follows.proceeds.marks
    ∙ ap (λ from. first from log) c.first_number.ensures ∙ role_active run log c.args.role follows.proceeds))

pub returns-in-None : goal.returns-in-None
returns-in-None c =
    let run = the_view c.self.inside in
    let first = λ (from : ℕ) (log : List LogEntry).
    first_placed (is_wanted from (Some c.args.role)) (active_steps (plain_chart run.chart) (chart_entries log)) in
    subst (IsFirstOf c.args.role None) c.self.view_is (λ log follows.
    ap name_of (sym c.in-None.is ∙ c.next_step.ensures (chart_entries log) follows.proceeds.marks
    ∙ ap (λ from. first from log) c.first_number.ensures ∙ role_active run log c.args.role follows.proceeds))
