-- What the nodes of a batch wait for.
use Rattle.std.proofs.Common.{◌≡◌, Global, List, Vec, ap, sym, ◌∙◌}
use Rattle.std.proofs.lemmas.Result.{IfOk-weaker}
use Rattle.chart_core.specs.Charts.{plain_chart}
use Rattle.chart_core.specs.declared.entry.LogEntry.{LogEntry}
use Rattle.chart_cursor.specs.declared.listing.WaitingNode.{WaitingNode}
use Rattle.pol_runs.specs.Logs.{Follows}
use Rattle.pol_runs.specs.Waits.{waits_by}
use Rattle.pol_core.specs.Seen.{table_sights}
use Rattle.pol_core.proofs.Listed.{each_ok, run_waiting}
use Rattle.pol_core.proofs.steps.waiting_nodes.Goals as goal

pub returns : goal.returns
returns c =
    let run = c.in-Some.run'.now in
    let seen = table_sights c.args.modules.now c.binds.result.now in
    let all = each_ok c.waiting_nodes.result
    (λ (followed : (log : List LogEntry) × Follows run log) (nodes : Vec WaitingNode Global).
    nodes.items ≡ waits_by (plain_chart run.chart) followed.0 seen)
    (λ followed. c.waiting_nodes.ensures followed.0 followed.1) in
    IfOk-weaker c.waiting_nodes.result _ _
    (λ (nodes : Vec WaitingNode Global) listed history seats batches.
    run_waiting history c.args.batch c.args.modules.now run c.args.runs.now.entries nodes.items seats batches
    (sym c.in-Some.ensures.value)
    (λ log follows. listed (log, follows)
    ∙ ap (λ binds. waits_by (plain_chart run.chart) log (table_sights c.args.modules.now binds)) c.binds.ensures.binds))
    all
