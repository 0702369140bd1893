-- The rules against the begin of an exchange.
use Rattle.std.proofs.Common.{◌∙◌, Option, sym, ap}
use Rattle.std.specs.Option.{option_or}
use Rattle.std.specs.Result.{result_err}
use Rattle.pol_events.specs.Refusals.{in_exchange, not_at_rest}
use Rattle.pol_events.specs.declared.answer.Rule.{Rule}
use Rattle.pol_history.specs.Rules.{active_step}
use Rattle.pol_slots.specs.Slots.{slot_description, last_control}
use Rattle.pol_core.proofs.Away.{begin_rules}
use Rattle.pol_core.proofs.Found.{err_of}
use Rattle.pol_core.proofs.Telling.{seated_slot}
use Rattle.pol_core.proofs.exchanges.begin_rule.Goals as goal

pub returns-in-Some-ticket-clause-rule : goal.returns-in-Some-ticket-clause-rule
returns-in-Some-ticket-clause-rule c =
    λ history at seats batches.
    let slot = c.in-Some.slot.now in
    sym (begin_rules history at c.args.tag slot (seated_slot history c.args.tag c.args.modules.now slot seats
    (sym c.in-Some.ensures))
    ∙ ap (λ ticket. option_or (in_exchange c.args.tag ticket)
    (option_or (active_step history c.args.tag) (not_at_rest (last_control slot) (slot_description slot).services)))
    (sym c.ticket.ensures ∙ c.in-Some-ticket.is))

pub returns-in-Some-active_step-clause-rule : goal.returns-in-Some-active_step-clause-rule
returns-in-Some-active_step-clause-rule c =
    λ history at seats batches.
    let slot = c.in-Some.slot.now in
    sym (begin_rules history at c.args.tag slot (seated_slot history c.args.tag c.args.modules.now slot seats
    (sym c.in-Some.ensures))
    ∙ ap (λ ticket. option_or (in_exchange c.args.tag ticket)
    (option_or (active_step history c.args.tag) (not_at_rest (last_control slot) (slot_description slot).services)))
    (sym c.ticket.ensures ∙ c.in_default-ticket.is)
    ∙ ap (λ (rule : Option Rule). option_or rule (not_at_rest (last_control slot) (slot_description slot).services))
    (sym (c.active_step.ensures history seats batches) ∙ c.in-Some-active_step.is))

pub returns : goal.returns
returns c = record {
  rule =
      λ history at seats batches.
      let slot = c.in-Some.slot.now in
      c.err.ensures.value ∙ ap result_err c.at_rest.ensures
      ∙ err_of (not_at_rest (last_control slot) (slot_description slot).services)
      ∙ sym (begin_rules history at c.args.tag slot (seated_slot history c.args.tag c.args.modules.now slot seats
      (sym c.in-Some.ensures))
      ∙ ap (λ ticket. option_or (in_exchange c.args.tag ticket)
      (option_or (active_step history c.args.tag) (not_at_rest (last_control slot) (slot_description slot).services)))
      (sym c.ticket.ensures ∙ c.in_default-ticket.is)
      ∙ ap (λ (rule : Option Rule). option_or rule (not_at_rest (last_control slot) (slot_description slot).services))
      (sym (c.active_step.ensures history seats batches) ∙ c.in_default-active_step.is));
  docked = λ none. record {
    slot = c.in-Some.slot.now;
    found = sym c.in-Some.ensures;
    docked = sym c.ticket.ensures
        ∙ c.in_default-ticket.is;
  };
}
