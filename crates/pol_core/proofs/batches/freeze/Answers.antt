-- A batch's freeze begins.
use Rattle.std.proofs.Common.{◌∷◌, [], sym, refl, subst}
use Rattle.std.proofs.lemmas.Result.{on_ok_weaker, on_err_weaker}
use Rattle.pol_events.specs.Events.{freeze}
use Rattle.pol_history.specs.Looking.{past_of_batch}
use Rattle.pol_history.specs.Rules.{already_frozen}
use Rattle.pol_core.specs.Batches.{AnswersBatch}
use Rattle.pol_core.proofs.Lasting.{not_open_answered, freeze_answered}
use Rattle.pol_core.proofs.batches.freeze.Goals as goal

pub returns-in-Err-clause-answered : goal.returns-in-Err-clause-answered
returns-in-Err-clause-answered c =
    λ modules history at seats counted batches room.
    not_open_answered history (freeze at c.args.batch c.args.hold) c.args.batch
    (already_frozen c.args.hold (past_of_batch c.args.batch history) ∷ []) c.in-Err.rule modules
    c.args.runs.now.entries refl room seats counted batches c.in-Err.ensures.rule

pub returns-clause-answered : goal.returns-clause-answered
returns-clause-answered c =
    λ modules history at seats counted batches room.
    let open' = c.in_default.ensures.run in
    let run = c.in_default.field-0.now in
    subst (λ answer. AnswersBatch history (freeze at c.args.batch c.args.hold) answer modules
    c.freeze_run.new.runs.entries) (sym c.done_or_refused.ensures)
    (freeze_answered history at c.args.batch c.args.hold run modules c.args.runs.now.entries
    c.freeze_run.new.runs.entries c.freeze_run.result room open' (c.freeze_run.ensures.answer run open'.found)
    (on_ok_weaker c.freeze_run.result (λ frozen. frozen run open'.found) c.freeze_run.ensures.frozen)
    (on_err_weaker c.freeze_run.result (λ stays. stays run open'.found) c.freeze_run.ensures.unchanged)
    seats counted batches)

pub freeze_run-requires : goal.freeze_run-requires
freeze_run-requires c = (c.in_default.field-0.now, c.in_default.ensures.run.found)
