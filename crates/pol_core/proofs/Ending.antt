-- An exchange ends, or is cancelled.
use Rattle.std.proofs.Common.{◌≡◌, ℕ, ◌+◌, suc, Bool, true, false, not, List, [], ◌∷◌, Option, Some, None, Result, Ok}
use Rattle.std.proofs.Common.{Err, is_some, refl, ap, sym, ◌∙◌}
use Rattle.std.specs.Prelude.{⊤, OnOk, if◌then◌else◌, ◌==◌}
use Rattle.std.proofs.lemmas.Bool.{eqb-true}
use Rattle.std.specs.Option.{option_or}
use Rattle.mtp_codes.specs.Faults.{when, first_of, done_unless}
use Rattle.mtp_desc.specs.Plain.{PlainDescription}
use Rattle.pol_events.specs.Events.{exchange_end, exchange_cancel}
use Rattle.pol_events.specs.Refusals.{wrong_ticket}
use Rattle.pol_events.specs.declared.answer.Answer.{Answer}
use Rattle.pol_events.specs.declared.answer.Answer.TheVariants.{Done}
use Rattle.pol_events.specs.declared.answer.Rule.{Rule}
use Rattle.pol_events.specs.declared.answer.Rule.TheVariants.{WrongTicket}
use Rattle.pol_history.specs.Answers.{first_rule, answer_of, is_full, rules}
use Rattle.pol_history.specs.Looking.{History, past}
use Rattle.pol_history.specs.Modules.{Docking, absent, docked, away, docking_by, ticket_of, dockings_by}
use Rattle.pol_history.specs.Rules.{no_module, not_in_exchange, held_back}
use Rattle.pol_history.proofs.Accepted.{paired, with_room}
use Rattle.pol_slots.specs.Refused.{ticket_rule}
use Rattle.pol_slots.specs.Slots.{slot_ticket, slot_description, slot_begins, IsDocked}
use Rattle.pol_slots.specs.declared.slot.Slot.{Slot}
use Rattle.pol_slots.proofs.Docking.{no_fault}
use Rattle.pol_core.specs.Seats.{SlotKeeps, done_or_refused}
use Rattle.pol_core.proofs.Again.{docked_once_more}
use Rattle.pol_core.proofs.Away.{last_or}
use Rattle.pol_core.proofs.Judging.{rules_done}

-- where no rule holds, the module is away under the given ticket
right_ticket : (given : ℕ) (found : Option ℕ) (rest : List (Option Rule)) →
    first_of (ticket_rule given found ∷ rest) ≡ None → found ≡ Some given
right_ticket given None rest none = cc
right_ticket given (Some kept) rest none = go (kept == given) refl none
  where
    go : (same : Bool) → (kept == given) ≡ same →
        first_of (when (not same) (WrongTicket kept given) ∷ rest) ≡ None → Some kept ≡ Some given
    go true same none = ap Some (eqb-true kept given same)
    go false same none = cc

-- what follows for a module that is away under the ticket follows where the answer is Ok
pub with_right_ticket : {A B : Type 0} (given : ℕ) (found : Option ℕ) (rest : List (Option Rule))
    (result : Result ⊤ Rule) → result ≡ done_unless (first_of (ticket_rule given found ∷ rest)) →
    (found ≡ Some given → A → B) → OnOk result A → OnOk result B
with_right_ticket given found rest (Ok done) is follows holds =
    follows (right_ticket given found rest (no_fault _ (sym is))) holds
with_right_ticket given found rest (Err rule) is follows holds = tt

-- of a module that is there the ticket's rule is the first three of the rules
by_ticket : (tag : List ℕ) (given : ℕ) (found : Option ℕ) (docking : Docking) (rest : List (Option Rule)) →
    (docking ≡ absent → ⊥) → found ≡ ticket_of docking →
    done_or_refused (done_unless (first_of (ticket_rule given found ∷ rest)))
    ≡ first_rule (no_module tag docking ∷ not_in_exchange docking ∷ wrong_ticket given (ticket_of docking) ∷ rest) Done
by_ticket tag given found absent rest there same = absurd (there refl)
by_ticket tag given found (docked count) rest there same =
    ap (λ found. done_or_refused (done_unless (first_of (ticket_rule given found ∷ rest)))) same
by_ticket tag given found (away kept) rest there same =
    ap (λ found. done_or_refused (done_unless (first_of (ticket_rule given found ∷ rest)))) same
    ∙ rules_done (wrong_ticket given (Some kept) ∷ rest)

-- so is the first of them, and of one more rule
rule_by_ticket : (tag : List ℕ) (given : ℕ) (found : Option ℕ) (docking : Docking) (rest : Option Rule) →
    (docking ≡ absent → ⊥) → found ≡ ticket_of docking →
    option_or (ticket_rule given found) rest
    ≡ first_of (no_module tag docking ∷ not_in_exchange docking ∷ wrong_ticket given (ticket_of docking) ∷ rest ∷ [])
rule_by_ticket tag given found absent rest there same = absurd (there refl)
rule_by_ticket tag given found (docked count) rest there same =
    ap (λ found. option_or (ticket_rule given found) rest) same
rule_by_ticket tag given found (away kept) rest there same =
    ap (λ found. option_or (ticket_rule given found) rest) same
    ∙ ap (option_or (wrong_ticket given (Some kept))) (sym (last_or rest))

-- the rules against the end of an exchange, by the slot
pub end_rules : (history : History) (at : ℕ) (tag : List ℕ) (ticket : ℕ) (description : PlainDescription)
    (slot : Slot) → SlotKeeps tag slot (past tag history) →
    option_or (ticket_rule ticket (slot_ticket slot)) (held_back history tag description)
    ≡ first_of (rules history (exchange_end at tag ticket description))
end_rules history at tag ticket description slot keeps =
    rule_by_ticket tag ticket (slot_ticket slot) (docking_by (past tag history)) (held_back history tag description)
    keeps.is_there keeps.ticket

-- what the slot answers to an end is what the rules say
pub end_judged : (history : History) (at : ℕ) (tag : List ℕ) (ticket : ℕ) (description : PlainDescription)
    (slot : Slot) → is_full history ≡ false → SlotKeeps tag slot (past tag history) →
    done_or_refused (done_unless (first_of (ticket_rule ticket (slot_ticket slot) ∷ held_back history tag description
    ∷ []))) ≡ answer_of history (exchange_end at tag ticket description)
end_judged history at tag ticket description slot room keeps =
    by_ticket tag ticket (slot_ticket slot) (docking_by (past tag history)) (held_back history tag description ∷ [])
    keeps.is_there keeps.ticket
    ∙ sym (with_room history (exchange_end at tag ticket description) room)

-- so is what it answers to a cancel
pub cancel_judged : (history : History) (at : ℕ) (tag : List ℕ) (ticket : ℕ) (slot : Slot) →
    is_full history ≡ false → SlotKeeps tag slot (past tag history) →
    done_or_refused (done_unless (first_of (ticket_rule ticket (slot_ticket slot) ∷ [])))
    ≡ answer_of history (exchange_cancel at tag ticket)
cancel_judged history at tag ticket slot room keeps =
    by_ticket tag ticket (slot_ticket slot) (docking_by (past tag history)) [] keeps.is_there keeps.ticket
    ∙ sym (with_room history (exchange_cancel at tag ticket) room)

-- the slot keeps the past that ends in the cancel of the exchange
pub cancel_keeps : (tag : List ℕ) (ticket : ℕ) (old new : Slot) (past : History) (at : ℕ) (answer : Answer) →
    slot_ticket old ≡ Some ticket →
    IsDocked old new (slot_description old) → SlotKeeps tag old past →
    SlotKeeps tag new (paired (exchange_cancel at tag ticket) answer ∷ past)
cancel_keeps tag ticket old new past at answer gone docks keeps =
    record {
      tag_is = docks.tag ∙ keeps.tag_is;
      is_there = λ is. cc;
      ticket = docks.docked;
      description = keeps.description ∙ ap Some (sym docks.description);
      begins = docks.begins ∙ keeps.begins;
      dockings = docked_once_more (slot_begins old) (slot_begins new) (dockings_by past) docks.begins
          (keeps.dockings ∙ ap (λ ticket. dockings_by past + (if is_some ticket then 1 else 0)) gone)
          ∙ ap (λ ticket. suc (dockings_by past) + (if is_some ticket then 1 else 0)) (sym docks.docked);
      controls = docks.unreported.controls;
      values = docks.unreported.values;
    }
