-- The holder's run has an active step on the module.
use Rattle.std.proofs.Common.{◌∙◌, sym, ap, option_map}
use Rattle.pol_events.specs.declared.answer.Rule.TheVariants.{ActiveStep}
use Rattle.pol_core.proofs.Acting.{run_acts}
use Rattle.pol_core.proofs.exchanges.active_step.Goals as goal

pub returns : goal.returns
returns c =
    λ history mirror batches.
    ap (option_map (ActiveStep c.in_ok-batch.batch)) (sym c.in_ok-step.was)
    ∙ run_acts history c.args.tag c.in_ok-batch.batch c.args.modules.now c.args.runs.now.entries c.in_ok-run.run'.now
    c.active_on.result mirror batches (sym c.holder.ensures ∙ c.in_ok-batch.was) (sym c.in_ok-run.ensures.value)
    c.active_on.ensures
