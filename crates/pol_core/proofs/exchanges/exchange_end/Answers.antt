-- Another module is docked, or a rule is against it.
use Rattle.std.proofs.Common.{◌≡◌, ◌∙◌, sym, ap, ◌∷◌, [], Some, refl}
use Rattle.std.specs.Option.{option_copied_mut}
use Rattle.std.proofs.lemmas.Result.{on_err_weaker}
use Rattle.mtp_codes.specs.Faults.{first_of, done_unless}
use Rattle.mtp_desc.specs.PlainDescription.{plain_description}
use Rattle.pol_history.specs.Looking.{past}
use Rattle.pol_history.specs.Rules.{held_back}
use Rattle.pol_slots.specs.Refused.{ticket_rule}
use Rattle.pol_slots.specs.Slots.{slot_ticket}
use Rattle.pol_table.specs.Rows.{part_of}
use Rattle.pol_core.specs.Seats.{done_or_refused}
use Rattle.pol_core.proofs.Again.{end_keeps, stays_mirrored}
use Rattle.pol_core.proofs.Counting.{counted_part}
use Rattle.pol_core.proofs.Ending.{end_judged, with_right_ticket}
use Rattle.pol_core.proofs.Keeping.{unchanged_keeps}
use Rattle.pol_core.proofs.Plugging.{missing_answered}
use Rattle.pol_core.proofs.Telling.{on_err_of, seated_slot, slot_answered}
use Rattle.pol_core.proofs.exchanges.exchange_end.Goals as goal

pub returns-in-None-clause-answered : goal.returns-in-None-clause-answered
returns-in-None-clause-answered c =
    λ history at seats counted batches room.
    missing_answered history _ c.args.tag _ c.args.modules.now refl room seats counted
    (sym c.get_mut.ensures.value ∙ ap option_copied_mut c.in-None.is)

pub returns-in_ok-dock_again-in-Some-clause-answered : goal.returns-in_ok-dock_again-in-Some-clause-answered
returns-in_ok-dock_again-in-Some-clause-answered c =
    λ history at seats counted batches room.
    let tag = c.args.tag in
    let ticket = c.args.ticket in
    let slot = c.in-Some.slot.now in
    let description = plain_description c.args.desc.now.value in
    let after = c.dock_again.new.slot in
    let done = c.in_ok-dock_again-in-Some in
    let found : part_of tag c.args.modules.now ≡ Some slot = sym c.get_mut.ensures.value
    ∙ ap option_copied_mut c.in-Some.is in
    let keeps = seated_slot history tag c.args.modules.now slot seats found in
    let answer : done.field-0 ≡ done_unless (first_of (ticket_rule ticket (slot_ticket slot)
    ∷ held_back history tag description ∷ [])) = done.ensures.answer
    ∙ ap (λ held. done_unless (first_of (ticket_rule ticket (slot_ticket slot) ∷ held ∷ [])))
    (c.held_back-held_back.ensures history seats batches
    ∙ ap (λ desc. held_back history tag (plain_description desc)) c.deref.ensures) in
    slot_answered history _ tag c.args.modules.now slot after done.field-0 _ refl refl c.done_or_refused.ensures
    (ap done_or_refused answer ∙ end_judged history at tag ticket description slot room keeps)
    seats counted found
    (with_right_ticket ticket (slot_ticket slot) (held_back history tag description ∷ []) done.field-0 answer
    (λ away docks. end_keeps tag ticket description slot after (past tag history) at _ away docks keeps)
    done.ensures.docked)
    (on_err_weaker done.field-0 (λ same.
    unchanged_keeps tag slot after (past tag history) same.same_module same.controls same.values keeps)
    done.ensures.refused)

pub returns-in_err-dock_again-in-Some-clause-kept : goal.returns-in_err-dock_again-in-Some-clause-kept
returns-in_err-dock_again-in-Some-clause-kept c =
    on_err_of c.from_residual.result (λ history seats counted. (
      stays_mirrored history c.args.tag c.in-Some.slot.now c.dock_again.new.slot c.args.modules.now
          (sym c.get_mut.ensures.value ∙ ap option_copied_mut c.in-Some.is)
          c.in_err-dock_again-in-Some.ensures.unchanged seats,
      counted_part history c.args.tag c.dock_again.new.slot c.args.modules.now counted,
    ))
