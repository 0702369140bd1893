-- The command goes to the service, or a rule is against it.
use Rattle.std.proofs.Common.{◌∙◌, sym, ap, refl}
use Rattle.std.specs.Option.{option_copied}
use Rattle.pol_events.specs.declared.answer.Answer.TheVariants.{Did, Refused}
use Rattle.pol_core.specs.Seats.{asked_answer}
use Rattle.pol_core.proofs.Asking.{desk_answered}
use Rattle.pol_core.proofs.Plugging.{missing_answered}
use Rattle.pol_core.proofs.modules.desk.Goals as goal

pub returns-in_default : goal.returns-in_default
returns-in_default c = record {
  answered = λ history at seats counted room.
      missing_answered history _ c.args.tag _ c.args.modules.now refl room seats counted
      (sym c.get.ensures ∙ ap option_copied c.in_default.is);
}

pub returns-in-Ok : goal.returns-in-Ok
returns-in-Ok c = record {
  answered = λ history at seats counted room.
      desk_answered history at c.args.tag c.args.service c.args.command c.in-Some.slot.now c.args.modules.now
      (Did c.in-Ok.entry) room seats counted
      (sym c.in-Some.ensures) (ap asked_answer (sym c.in-Ok.is) ∙ ap asked_answer c.ask.ensures);
}

pub returns-in-Err : goal.returns-in-Err
returns-in-Err c = record {
  answered = λ history at seats counted room.
      desk_answered history at c.args.tag c.args.service c.args.command c.in-Some.slot.now c.args.modules.now
      (Refused c.in-Err.rule) room seats counted
      (sym c.in-Some.ensures) (ap asked_answer (sym c.in-Err.is) ∙ ap asked_answer c.ask.ensures);
}
