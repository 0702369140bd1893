-- A module that is sent away for exchange: the answer, and the table then.
use Rattle.std.proofs.Common.{◌≡◌, ℕ, ◌+◌, suc, ◌≤◌, length, Bool, true, false, cond, List, [], ◌∷◌, Option, Some, None}
use Rattle.std.proofs.Common.{is_some, refl, ap, sym, ◌∙◌, subst, arith}
use Rattle.std.specs.Prelude.{if◌then◌else◌}
use Rattle.std.proofs.Math.Path.{fun_ext}
use Rattle.std.specs.Option.{option_or, option_and_then}
use Rattle.mtp_codes.specs.Faults.{first_of}
use Rattle.mtp_codes.specs.declared.limits.TheConstants.{LONGEST_HISTORY}
use Rattle.pol_events.specs.Events.{PlainEvent, PlainEntry, exchange_begin}
use Rattle.pol_events.specs.Refusals.{in_exchange, not_at_rest}
use Rattle.pol_events.specs.declared.answer.Answer.TheVariants.{Ticket, Refused}
use Rattle.pol_events.specs.declared.answer.Rule.{Rule}
use Rattle.pol_history.specs.Answers.{rules, answer_of, is_full}
use Rattle.pol_history.specs.Looking.{History, is_accepted, is_accepted_of, past, since}
use Rattle.pol_history.specs.Modules.{docking_by, ticket_of, description_by, begins_by, dockings_by, is_plug, is_begin}
use Rattle.pol_history.specs.Rules.{active_step, module_not_at_rest}
use Rattle.pol_history.specs.Runs.{entry_of}
use Rattle.pol_history.proofs.Accepted.{paired}
use Rattle.pol_history.proofs.Filters.{length_filter}
use Rattle.pol_history.proofs.Pasts.{past_own}
use Rattle.pol_slots.specs.Slots.{slot_ticket, slot_description, slot_begins, last_control}
use Rattle.pol_slots.specs.declared.slot.Slot.{Slot}
use Rattle.pol_table.specs.Rows.{Rows, part_of, with_part}
use Rattle.pol_core.specs.Exchanges.{GoesAway, SendsAway, HaveBegunFew}
use Rattle.pol_core.specs.Seats.{SlotKeeps, SeatsMirror, IsCounted, AnswersModule}
use Rattle.pol_core.proofs.Counting.{counted_part, counted_same}
use Rattle.pol_core.proofs.Judging.{there_is, ruled}
use Rattle.pol_core.proofs.Plugging.{refused_answered}
use Rattle.pol_core.proofs.Telling.{seated_slot, slot_changes}

-- nothing follows the last rule
pub last_or : (rule : Option Rule) → option_or rule None ≡ rule
last_or None = refl
last_or (Some rule) = refl

-- the rules against the begin of an exchange, by the slot
pub begin_rules : (history : History) (at : ℕ) (tag : List ℕ) (slot : Slot) → SlotKeeps tag slot (past tag history) →
    first_of (rules history (exchange_begin at tag))
    ≡ option_or (in_exchange tag (slot_ticket slot)) (option_or (active_step history tag)
    (not_at_rest (last_control slot) (slot_description slot).services))
begin_rules history at tag slot keeps =
    ap (λ gone. option_or gone (option_or (in_exchange tag (ticket_of (docking_by past')))
    (option_or (active_step history tag)
    (option_or (option_and_then (module_not_at_rest past') (description_by past')) None))))
    (there_is tag (docking_by past') keeps.is_there)
    ∙ ap (λ ticket. option_or (in_exchange tag ticket) (option_or (active_step history tag)
    (option_or (option_and_then (module_not_at_rest past') (description_by past')) None))) (sym keeps.ticket)
    ∙ ap (λ description. option_or (in_exchange tag (slot_ticket slot)) (option_or (active_step history tag)
    (option_or (option_and_then (module_not_at_rest past') description) None))) keeps.description
    ∙ ap (λ last. option_or (in_exchange tag (slot_ticket slot)) (option_or (active_step history tag)
    (option_or (not_at_rest last (slot_description slot).services) None))) (sym (fun_ext keeps.controls))
    ∙ ap (λ rule. option_or (in_exchange tag (slot_ticket slot)) (option_or (active_step history tag) rule))
    (last_or (not_at_rest (last_control slot) (slot_description slot).services))
  where
    past' : History
    past' = past tag history

-- the slot keeps the past that ends in the begin of the exchange
away_keeps : (tag : List ℕ) (ticket : ℕ) (old new : Slot) (past : History) (at : ℕ) → slot_ticket old ≡ None →
    GoesAway ticket old new → SlotKeeps tag old past →
    SlotKeeps tag new (paired (exchange_begin at tag) (Ticket ticket) ∷ past)
away_keeps tag ticket old new past at docked' goes keeps =
    record {
      tag_is = goes.tag ∙ keeps.tag_is;
      is_there = λ is. cc;
      ticket = goes.away;
      description = keeps.description ∙ ap Some (sym goes.description);
      begins = goes.begins ∙ goes.answer ∙ more (slot_begins old) (begins_by past) keeps.begins;
      dockings = counts (slot_begins old) (slot_begins new) (dockings_by past) (goes.begins ∙ goes.answer)
          (keeps.dockings ∙ ap (λ ticket. dockings_by past + (if is_some ticket then 1 else 0)) docked')
          ∙ ap (λ ticket. dockings_by past + (if is_some ticket then 1 else 0)) (sym goes.away);
      controls = goes.unreported.controls;
      values = goes.unreported.values;
    }
  where
    more : (b n : ℕ) → b ≡ n → b + 1 ≡ suc n
    more b n is = omega (arith, is)

    counts : (b c d : ℕ) → c ≡ b + 1 → b + 1 ≡ d + 0 → c + 1 ≡ d + 1
    counts b c d is was = omega (arith, is, was)

-- the module goes away
pub begin_answered : (history : History) (at : ℕ) (tag : List ℕ) (ticket : ℕ) (slot : Slot)
    (old new : Rows Slot) → SeatsMirror old history → IsCounted old history →
    is_full history ≡ false → part_of tag old ≡ Some slot → slot_ticket slot ≡ None →
    first_of (rules history (exchange_begin at tag)) ≡ None →
    SendsAway tag ticket slot old new → AnswersModule history (exchange_begin at tag) (Ticket ticket) new
begin_answered history at tag ticket slot old new seats counted room found docked' none sends =
    let keeps = seated_slot history tag old slot seats found in
    let answer : answer_of history (exchange_begin at tag) ≡ Ticket ticket
    = ruled history (exchange_begin at tag) None room none
    ∙ ap Ticket (next (slot_begins slot) (begins_by (past tag history)) keeps.begins ∙ sym sends.goes.answer) in
    let event : PlainEvent = exchange_begin at tag in
    let seats' : SeatsMirror (with_part tag old sends.after) (entry_of history event ∷ history)
    = slot_changes history event tag old slot sends.after refl seats found
    (subst (SlotKeeps tag sends.after)
    (sym (past_own history (entry_of history event) tag refl (ap is_accepted answer)))
    (subst (λ answer. SlotKeeps tag sends.after (paired event answer ∷ past tag history)) (sym answer)
    (away_keeps tag ticket slot sends.after (past tag history) at docked' sends.goes keeps))) in
    record {
      answer_is = sym answer;
      seats = subst (λ rows. SeatsMirror rows (entry_of history event ∷ history)) (sym sends.table) seats';
      counted = subst (λ rows. IsCounted rows (entry_of history event ∷ history)) (sym sends.table)
          (counted_same history (entry_of history event) (with_part tag old sends.after) refl
          (counted_part history tag sends.after old counted));
    }
  where
    next : (b n : ℕ) → b ≡ n → suc n ≡ b + 1
    next b n is = omega (arith, is)

-- a rule is against it
pub begin_refused : (history : History) (at : ℕ) (tag : List ℕ) (rows : Rows Slot) (rule : Rule) →
    is_full history ≡ false → SeatsMirror rows history →
    IsCounted rows history → first_of (rules history (exchange_begin at tag)) ≡ Some rule →
    AnswersModule history (exchange_begin at tag) (Refused rule) rows
begin_refused history at tag rows rule room seats counted is =
    refused_answered history (exchange_begin at tag) (Refused rule) rows
    (sym (ruled history (exchange_begin at tag) (Some rule) room is)) refl seats counted

-- ---- few exchanges

-- at most as many entries since one of them
since_few : (test : PlainEntry → Bool) (past : History) → length (since test past) ≤ length past
since_few test [] = omega arith
since_few test (entry ∷ past) = go (test entry) (since_few test past)
  where
    go : (here : Bool) → length (since test past) ≤ length past →
        length (cond here (entry ∷ []) (entry ∷ since test past)) ≤ length (entry ∷ past)
    go true rest = omega arith
    go false rest = omega (arith, rest)

-- a slot has begun at most as many exchanges as the history has entries
pub begun_few : (rows : Rows Slot) (history : History) → SeatsMirror rows history
    → length history ≤ LONGEST_HISTORY →
    HaveBegunFew rows
begun_few rows history seats few tag slot found =
    let keeps = seated_slot history tag rows slot seats found in
    let same : slot_begins slot ≡ begins_by (past tag history) = keeps.begins in
    let one : begins_by (past tag history) ≤ length (since (λ entry. is_plug entry.event) (past tag history))
    = length_filter (λ entry. is_begin entry.event) (since (λ entry. is_plug entry.event) (past tag history)) in
    let two = since_few (λ entry. is_plug entry.event) (past tag history) in
    let three : length (past tag history) ≤ length history = length_filter (is_accepted_of tag) history in
    omega (arith, same, one, two, three, few)
