-- A rule that the slot refuses by is the ticket's.
use Rattle.std.proofs.Common.{◌≡◌, ◌∷◌, [], Option, Some, None, Result, Err, ap, sym, ◌∙◌}
use Rattle.std.specs.Prelude.{⊤}
use Rattle.mtp_codes.specs.Faults.{first_of, done_unless}
use Rattle.pol_events.specs.declared.answer.Rule.{Rule}
use Rattle.pol_slots.specs.Refused.{refusal_by}
use Rattle.pol_slots.specs.declared.refusal.SlotRefusal.TheVariants as refusal
use Rattle.pol_core.proofs.exchanges.dock_again.Goals as goal

refused : (rule : Rule) (found held : Option Rule) → refusal.Rule rule ≡ refusal_by found
    → ◌≡◌ {A = Result ⊤ Rule} (Err rule) (done_unless (first_of (found ∷ held ∷ [])))
refused rule None held is = cc
refused rule (Some other) held is = let same : rule ≡ other = cc in ap Err same

pub returns-in-Err-Rule-clause-answer : goal.returns-in-Err-Rule-clause-answer
returns-in-Err-Rule-clause-answer c =
    refused c.in-Err-Rule.rule _ c.args.held_back (sym c.in-Err-Rule.field-0-is ∙ c.in-Err-Rule.ensures.refused)
