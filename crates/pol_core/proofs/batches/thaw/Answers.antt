-- A batch's freeze ends.
use Rattle.std.proofs.Common.{◌∙◌, ◌∷◌, [], sym, ap, refl, subst}
use Rattle.pol_events.specs.Events.{thaw}
use Rattle.pol_history.specs.Looking.{past_of_batch}
use Rattle.pol_history.specs.Rules.{not_frozen}
use Rattle.pol_core.specs.Batches.{AnswersBatch}
use Rattle.pol_core.specs.Seats.{done_or_refused}
use Rattle.pol_core.proofs.Lasting.{not_open_answered, thaw_answered}
use Rattle.pol_core.proofs.batches.thaw.Goals as goal

pub returns-in-Err-clause-answered : goal.returns-in-Err-clause-answered
returns-in-Err-clause-answered c =
    λ modules history at seats counted batches room.
    not_open_answered history (thaw at c.args.batch) c.args.batch
    (not_frozen (past_of_batch c.args.batch history) ∷ []) c.in-Err.rule modules
    c.args.runs.now.entries refl room seats counted batches c.in-Err.ensures.rule

pub returns-clause-answered : goal.returns-clause-answered
returns-clause-answered c =
    λ modules history at seats counted batches room.
    let open' = c.in_default.ensures.run in
    subst (λ answer. AnswersBatch history (thaw at c.args.batch) answer modules c.thaw_run.new.runs.entries)
    (sym (c.done_or_refused.ensures
    ∙ ap done_or_refused (c.thaw_run.ensures.answer c.in_default.field-0.now open'.found)))
    (thaw_answered history at c.args.batch c.in_default.field-0.now modules c.args.runs.now.entries
    c.thaw_run.new.runs.entries room open'
    (c.thaw_run.ensures.changed c.in_default.field-0.now open'.found) seats counted batches)

pub thaw_run-requires : goal.thaw_run-requires
thaw_run-requires c = (c.in_default.field-0.now, c.in_default.ensures.run.found)
