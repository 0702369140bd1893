-- The module that is away is docked again, or a rule is against it.
use Rattle.std.proofs.Common.{◌≡◌, ◌∙◌, sym, ap, [], Some, refl}
use Rattle.std.specs.Option.{option_copied_mut}
use Rattle.std.proofs.lemmas.Result.{on_err_weaker}
use Rattle.mtp_codes.specs.Faults.{done_unless}
use Rattle.pol_history.specs.Looking.{past}
use Rattle.pol_slots.specs.Refused.{ticket_rule}
use Rattle.pol_slots.specs.Slots.{slot_ticket}
use Rattle.pol_table.specs.Rows.{part_of}
use Rattle.pol_core.specs.Seats.{done_or_refused}
use Rattle.pol_core.proofs.Away.{last_or}
use Rattle.pol_core.proofs.Ending.{cancel_judged, cancel_keeps, with_right_ticket}
use Rattle.pol_core.proofs.Keeping.{unchanged_keeps}
use Rattle.pol_core.proofs.Plugging.{missing_answered}
use Rattle.pol_core.proofs.Telling.{seated_slot, slot_answered}
use Rattle.pol_core.proofs.exchanges.exchange_cancel.Goals as goal

pub returns-in-None : goal.returns-in-None
returns-in-None c = record {
  answered = λ history at seats counted room.
      missing_answered history _ c.args.tag _ c.args.modules.now refl room seats counted
      (sym c.get_mut.ensures.value ∙ ap option_copied_mut c.in-None.is);
}

pub returns-in-Some : goal.returns-in-Some
returns-in-Some c = record {
  answered =
      λ history at seats counted room.
      let slot = c.in-Some.slot.now in
      let found : part_of c.args.tag c.args.modules.now ≡ Some slot = sym c.get_mut.ensures.value
      ∙ ap option_copied_mut c.in-Some.is in
      let keeps = seated_slot history c.args.tag c.args.modules.now slot seats found in
      let answer = c.cancel.ensures.answer
      ∙ ap done_unless (sym (last_or (ticket_rule c.args.ticket (slot_ticket slot)))) in
      slot_answered history _ c.args.tag c.args.modules.now slot c.cancel.new.self c.cancel.result _ refl refl
      c.done_or_refused.ensures
      (ap done_or_refused answer ∙ cancel_judged history at c.args.tag c.args.ticket slot room keeps)
      seats counted found
      (with_right_ticket c.args.ticket (slot_ticket slot) [] c.cancel.result answer (λ away docks.
      cancel_keeps c.args.tag c.args.ticket slot c.cancel.new.self (past c.args.tag history) at _ away docks keeps)
      c.cancel.ensures.docked)
      (on_err_weaker c.cancel.result (λ same.
      unchanged_keeps c.args.tag slot c.cancel.new.self (past c.args.tag history)
      same.same_module same.controls same.values keeps) c.cancel.ensures.unchanged);
}
