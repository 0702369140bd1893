use Rattle.std.proofs.Common.{◌≡◌, ◌∙◌, Global, Vec, List, subst}
use Rattle.std.specs.Prelude.{IfOk, Ok, Result}
use Rattle.std.specs.declared.alloc.AllocError.{AllocError}
use Rattle.std.proofs.lemmas.Result.{IfOk-weaker}
use Rattle.chart_core.specs.Charts.{plain_chart}
use Rattle.chart_core.specs.declared.entry.LogEntry.{LogEntry}
use Rattle.chart_cursor.specs.Logs.{chart_entries}
use Rattle.chart_cursor.specs.Sights.{Sights}
use Rattle.chart_cursor.specs.declared.listing.WaitingNode.{WaitingNode}
use Rattle.pol_runs.specs.Logs.{Follows}
use Rattle.pol_runs.specs.Runs.{PlainRun}
use Rattle.pol_runs.specs.Waits.{waits_by}
use Rattle.pol_runs.specs.contracts.run.Run.{the_view}
use Rattle.pol_runs.proofs.Nexts.{halted_waits, running_waits}
use Rattle.pol_runs.proofs.run.Run.waiting_nodes.Goals as goal

-- these wait, whatever log the run stands for
abbrev AreWaiting : Sights → Result (Vec WaitingNode Global) AllocError → PlainRun → Type 0
AreWaiting seen result run =
    (log : List LogEntry) → Follows run log
    → IfOk result (λ nodes. nodes.items ≡ waits_by (plain_chart run.chart) log seen)

pub returns-in-Running : goal.returns-in-Running
returns-in-Running g c =
    let seen = g.S.Seen.sights c.args.seen.now in
    let run = the_view c.self.inside in
    subst (AreWaiting seen c.waiting_nodes.result) c.self.view_is (λ log follows.
    IfOk-weaker c.waiting_nodes.result _ _
    (λ (nodes : Vec WaitingNode Global) found. found ∙ running_waits run log seen follows.proceeds c.in-Running.is)
    (c.waiting_nodes.ensures (chart_entries log) follows.proceeds.marks))

pub returns-in-Breaking : goal.returns-in-Breaking
returns-in-Breaking g c =
    let seen = g.S.Seen.sights c.args.seen.now in
    let run = the_view c.self.inside in
    subst (AreWaiting seen (Ok c.new.result)) c.self.view_is (λ log follows.
    c.new.ensures.items ∙ halted_waits run log seen follows.proceeds c.in-Breaking.is)
