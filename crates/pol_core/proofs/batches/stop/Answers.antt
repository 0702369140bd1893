-- A batch is to be stopped.
use Rattle.std.proofs.Common.{[], refl, subst}
use Rattle.std.specs.Prelude.{if◌then◌else◌}
use Rattle.chart_core.specs.declared.entry.LogEntry.TheVariants.{StopAsked}
use Rattle.pol_events.specs.Events.{stop_batch}
use Rattle.pol_events.specs.declared.answer.Answer.TheVariants.{Done, Did}
use Rattle.pol_core.specs.Batches.{AnswersBatch}
use Rattle.pol_core.proofs.Lasting.{not_open_answered, stop_answered}
use Rattle.pol_core.proofs.batches.stop.Goals as goal

pub returns-in-Err-clause-answered : goal.returns-in-Err-clause-answered
returns-in-Err-clause-answered c =
    λ modules history at seats counted batches room.
    not_open_answered history (stop_batch at c.args.batch) c.args.batch [] c.in-Err.rule modules c.args.runs.now.entries
    refl room seats counted batches c.in-Err.ensures.rule

pub returns-then-stop_run-clause-answered : goal.returns-then-stop_run-clause-answered
returns-then-stop_run-clause-answered c =
    λ modules history at seats counted batches room.
    let open' = c.in_default.ensures.run in
    subst (λ is_new. AnswersBatch history (stop_batch at c.args.batch)
    (if is_new then Did StopAsked else Done) modules c.stop_run.new.runs.entries) c.if-stop_run.true
    (stop_answered history at c.args.batch c.stop_run.result c.in_default.field-0.now modules
    c.args.runs.now.entries c.stop_run.new.runs.entries room open'
    (c.stop_run.ensures.stopped c.in_default.field-0.now open'.found) seats counted batches)

pub returns-else-stop_run-clause-answered : goal.returns-else-stop_run-clause-answered
returns-else-stop_run-clause-answered c =
    λ modules history at seats counted batches room.
    let open' = c.in_default.ensures.run in
    subst (λ is_new. AnswersBatch history (stop_batch at c.args.batch)
    (if is_new then Did StopAsked else Done) modules c.stop_run.new.runs.entries) c.if-stop_run.false
    (stop_answered history at c.args.batch c.stop_run.result c.in_default.field-0.now modules
    c.args.runs.now.entries c.stop_run.new.runs.entries room open'
    (c.stop_run.ensures.stopped c.in_default.field-0.now open'.found) seats counted batches)

pub stop_run-requires : goal.stop_run-requires
stop_run-requires c = (c.in_default.field-0.now, c.in_default.ensures.run.found)
