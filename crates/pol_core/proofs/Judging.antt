-- What the slot answers is what the rules of the event's kind say.
use Rattle.std.proofs.Common.{◌≡◌, ℕ, true, false, List, [], ◌∷◌, Option, Some, None, refl, ap, sym, ◌∙◌}
use Rattle.mtp_codes.specs.Faults.{first_of, done_unless, when}
use Rattle.mtp_codes.specs.declared.value.Value.{Value}
use Rattle.mtp_assembly.specs.declared.control.ServiceControl.{ServiceControl}
use Rattle.pol_events.specs.Events.{PlainEvent, report, variable}
use Rattle.pol_events.specs.Refusals.{report_rules, variable_rules}
use Rattle.pol_events.specs.declared.answer.Answer.{Answer}
use Rattle.pol_events.specs.declared.answer.Answer.TheVariants.{Done, Refused}
use Rattle.pol_events.specs.declared.answer.Rule.{Rule}
use Rattle.pol_events.specs.declared.answer.Rule.TheVariants.{HistoryFull}
use Rattle.pol_history.specs.Answers.{first_rule, rules, otherwise, answer_of, is_full}
use Rattle.pol_history.specs.Looking.{History, past}
use Rattle.pol_history.specs.Modules.{Docking, absent, docked, away, docking_by}
use Rattle.pol_history.specs.Rules.{no_module}
use Rattle.pol_history.proofs.Accepted.{with_room}
use Rattle.pol_slots.specs.Slots.{slot_tag, slot_ticket, slot_description, last_control}
use Rattle.pol_slots.specs.declared.slot.Slot.{Slot}
use Rattle.pol_core.specs.Seats.{SlotKeeps, done_or_refused}

-- a rule that refuses, or else the answer
abbrev pub refuse : Option Rule → Answer → Answer
refuse None answer = answer
refuse (Some rule) answer = Refused rule

-- the first of the rules refuses, or else it is the answer
pub refused_first_is : (rules : List (Option Rule)) (answer : Answer) → first_rule rules answer
    ≡ refuse (first_of rules) answer
refused_first_is [] answer = refl
refused_first_is (None ∷ rules) answer = refused_first_is rules answer
refused_first_is (Some rule ∷ rules) answer = refl

-- the answer by the first of the rules, where the history has room
pub ruled : (history : History) (event : PlainEvent) (rule : Option Rule) → is_full history ≡ false →
    first_of (rules history event) ≡ rule →
    answer_of history event ≡ refuse rule (otherwise history event)
ruled history event rule room is =
    with_room history event room ∙ refused_first_is (rules history event) (otherwise history event)
    ∙ ap (λ rule. refuse rule (otherwise history event)) is

-- a full history refuses every event
pub full_refuses : (history : History) (event : PlainEvent) → is_full history ≡ true →
    answer_of history event ≡ Refused HistoryFull
full_refuses history event full =
    ap (λ full. first_rule (when full HistoryFull ∷ rules history event) (otherwise history event)) full

-- a module that is there meets no rule that it isn't
pub there_is : (tag : List ℕ) (docking : Docking) → (docking ≡ absent → ⊥) → no_module tag docking ≡ None
there_is tag absent there = absurd (there refl)
there_is tag (docked count) there = refl
there_is tag (away ticket) there = refl

-- what the first of the rules leaves of an event that is done
pub rules_done : (rules : List (Option Rule)) → done_or_refused (done_unless (first_of rules)) ≡ first_rule rules Done
rules_done [] = refl
rules_done (None ∷ rules) = rules_done rules
rules_done (Some rule ∷ rules) = refl

-- a report
pub report_judged : (history : History) (at : ℕ) (tag service : List ℕ) (control : ServiceControl) (slot : Slot) →
    is_full history ≡ false
    → SlotKeeps tag slot (past tag history) →
    done_or_refused (done_unless (first_of (report_rules (slot_tag slot) service control.state (slot_ticket slot)
    (Some (slot_description slot)) (last_control slot service))))
    ≡ answer_of history (report at tag service control)
report_judged history at tag service control slot room keeps =
    rules_done (report_rules (slot_tag slot) service control.state (slot_ticket slot) (Some (slot_description slot))
    (last_control slot service))
    ∙ ap (λ last. first_rule (report_rules (slot_tag slot) service control.state (slot_ticket slot)
    (Some (slot_description slot)) last) Done) (keeps.controls service)
    ∙ rw (keeps.tag_is, keeps.ticket)
    (sym (with_room history (report at tag service control) room
    ∙ rw (there_is tag (docking_by (past tag history)) keeps.is_there, keeps.description) refl))

-- a variable
pub variable_judged : (history : History) (at : ℕ) (tag name : List ℕ) (value : Value) (slot : Slot) →
    is_full history ≡ false
    → SlotKeeps tag slot (past tag history) →
    done_or_refused (done_unless (first_of (variable_rules (slot_tag slot) name value (slot_ticket slot)
    (Some (slot_description slot)))))
    ≡ answer_of history (variable at tag name value)
variable_judged history at tag name value slot room keeps =
    rules_done (variable_rules (slot_tag slot) name value (slot_ticket slot) (Some (slot_description slot)))
    ∙ rw (keeps.tag_is, keeps.ticket)
    (sym (with_room history (variable at tag name value) room
    ∙ rw (there_is tag (docking_by (past tag history)) keeps.is_there, keeps.description) refl))
