-- How the end of an exchange is refused.
use Rattle.std.specs.Prelude.{ℕ, Option, Some, None}
use Rattle.pol_events.specs.Refusals.{wrong_ticket}
use Rattle.pol_events.specs.declared.answer.Rule.{Rule}
use Rattle.pol_events.specs.declared.answer.Rule.TheVariants.{NotInExchange}
use Rattle.pol_slots.specs.declared.refusal.SlotRefusal.{SlotRefusal}
use Rattle.pol_slots.specs.declared.refusal.SlotRefusal.TheVariants as refusal

-- the rule that the end or the cancel of an exchange meets first, by the ticket under which the module is away: it is
-- not away, or the given ticket is another
abbrev pub ticket_rule : ℕ → Option ℕ → Option Rule
ticket_rule given None = Some NotInExchange
ticket_rule given (Some kept) = wrong_ticket given (Some kept)

-- why the end of an exchange is refused: by the rule that holds; where none holds, because there was no memory
abbrev pub refusal_by : Option Rule → SlotRefusal
refusal_by (Some rule) = refusal.Rule rule
refusal_by None = refusal.Memory
