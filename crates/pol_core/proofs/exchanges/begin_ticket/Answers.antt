-- The ticket, or the rule that is against it.
use Rattle.std.proofs.Common.{◌∙◌, ap, sym, Some, None}
use Rattle.pol_events.specs.Events.{exchange_begin}
use Rattle.pol_events.specs.declared.answer.Answer.TheVariants.{Ticket}
use Rattle.pol_core.proofs.Judging.{ruled}
use Rattle.pol_core.proofs.exchanges.begin_ticket.Goals as goal

pub next_ticket-requires-clause-docked : goal.next_ticket-requires-clause-docked
next_ticket-requires-clause-docked c = c.begin_rule.ensures.docked c.in-None.is

pub returns-in-Some : goal.returns-in-Some
returns-in-Some c =
    λ history at seats batches room.
    sym (ruled history (exchange_begin at c.args.tag) (Some c.in-Some.rule) room
    (sym (c.begin_rule.ensures.rule history at seats batches) ∙ c.in-Some.is))

pub returns-in-None : goal.returns-in-None
returns-in-None c =
    λ history at seats batches room.
    ap Ticket (c.next_ticket.ensures history seats)
    ∙ sym (ruled history (exchange_begin at c.args.tag) None room
    (sym (c.begin_rule.ensures.rule history at seats batches) ∙ c.in-None.is))
