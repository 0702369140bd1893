-- A variable is reported.
use Rattle.std.proofs.Common.{◌≡◌, ◌∙◌, sym, ap, Some, refl}
use Rattle.std.specs.Option.{option_copied_mut}
use Rattle.std.proofs.lemmas.Result.{on_ok_weaker, on_err_weaker}
use Rattle.pol_history.specs.Looking.{past}
use Rattle.pol_table.specs.Rows.{part_of}
use Rattle.pol_core.specs.Seats.{done_or_refused}
use Rattle.pol_core.proofs.Judging.{variable_judged}
use Rattle.pol_core.proofs.Keeping.{unchanged_keeps, variable_keeps}
use Rattle.pol_core.proofs.Plugging.{missing_answered}
use Rattle.pol_core.proofs.Telling.{seated_slot, slot_answered}
use Rattle.pol_core.proofs.modules.variable.Goals as goal

pub returns-in-None : goal.returns-in-None
returns-in-None c = record {
  answered = λ history at seats counted room.
      missing_answered history _ c.args.tag _ c.args.modules.now refl room seats counted
      (sym c.get_mut.ensures.value ∙ ap option_copied_mut c.in-None.is);
}

pub returns-in-Some : goal.returns-in-Some
returns-in-Some c = record {
  answered =
      λ history at seats counted room.
      let found : part_of c.args.tag c.args.modules.now ≡ Some c.in-Some.slot.now = sym c.get_mut.ensures.value
      ∙ ap option_copied_mut c.in-Some.is in
      let keeps = seated_slot history c.args.tag c.args.modules.now c.in-Some.slot.now seats found in
      slot_answered history _ c.args.tag c.args.modules.now c.in-Some.slot.now c.variable.new.self
      c.variable.result _ refl refl
      c.done_or_refused.ensures
      (ap done_or_refused c.variable.ensures.answer
      ∙ variable_judged history at c.args.tag c.args.name c.args.value.now c.in-Some.slot.now room keeps)
      seats counted found
      (on_ok_weaker c.variable.result (λ reported.
      variable_keeps c.args.tag c.in-Some.slot.now c.variable.new.self
      (past c.args.tag history) at c.args.tag c.args.name c.args.value.now _
      c.variable.ensures.same_module c.variable.ensures.controls reported keeps) c.variable.ensures.reported)
      (on_err_weaker c.variable.result (λ values.
      unchanged_keeps c.args.tag c.in-Some.slot.now c.variable.new.self (past c.args.tag history)
      c.variable.ensures.same_module c.variable.ensures.controls values keeps) c.variable.ensures.unchanged);
}
