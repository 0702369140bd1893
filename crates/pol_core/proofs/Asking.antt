-- The operator commands a service.
use Rattle.std.proofs.Common.{◌≡◌, ℕ, Bool, true, false, List, [], ◌∷◌, Option, Some, None, refl, ap, sym, ◌∙◌}
use Rattle.std.specs.Option.{option_or, option_map, option_and_then}
use Rattle.mtp_codes.specs.Faults.{unless}
use Rattle.mtp_codes.specs.declared.command.Command.{Command}
use Rattle.mtp_modes.specs.declared.view.ServiceView.{ServiceView}
use Rattle.chart_core.specs.declared.entry.LogEntry.TheVariants.{Asked}
use Rattle.pol_events.specs.Events.{PlainEvent, desk}
use Rattle.pol_events.specs.Refusals.{in_exchange, no_service, forbidden}
use Rattle.pol_events.specs.declared.answer.Answer.{Answer}
use Rattle.pol_events.specs.declared.answer.Answer.TheVariants.{Did}
use Rattle.pol_events.specs.declared.answer.Rule.{Rule}
use Rattle.pol_events.specs.declared.answer.Rule.TheVariants.{NotReported}
use Rattle.pol_history.specs.Answers.{first_rule, answer_of, is_full}
use Rattle.pol_history.specs.Looking.{History, is_accepted, past}
use Rattle.pol_history.specs.Modules.{docking_by, ticket_of, control_by, seen_with}
use Rattle.pol_history.specs.Rules.{not_reported}
use Rattle.pol_history.specs.Runs.{entry_of}
use Rattle.pol_history.proofs.Accepted.{paired, with_room}
use Rattle.pol_slots.specs.Sights as sights
use Rattle.pol_slots.specs.Slots.{slot_tag, slot_ticket, slot_description}
use Rattle.pol_slots.specs.declared.slot.Slot.{Slot}
use Rattle.pol_table.specs.Rows.{Rows, part_of}
use Rattle.pol_core.specs.Seats.{SlotKeeps, SeatsMirror, IsCounted, AnswersModule, asked_answer, asked_by, slot_asked}
use Rattle.pol_core.proofs.Counting.{counted_same}
use Rattle.pol_core.proofs.Judging.{there_is}
use Rattle.pol_core.proofs.Plugging.{refused_answered}
use Rattle.pol_core.proofs.Telling.{seated_slot, seats_unmoved}

-- the view of the service, and whether a command may go to it
viewed : (tag service : List ℕ) (command : Command) (view : Option ServiceView) →
    asked_answer (asked_by tag service command (sights.view_unless None (NotReported tag service) view))
    ≡ first_rule (not_reported tag service view ∷ option_and_then (forbidden command) view ∷ [])
    (Did (Asked tag service command))
viewed tag service command None = refl
viewed tag service command (Some view) = go (forbidden command view)
  where
    go : (rule : Option Rule) → asked_answer (unless rule (Asked tag service command))
        ≡ first_rule (rule ∷ []) (Did (Asked tag service command))
    go None = refl
    go (Some rule) = refl

-- the rules before it, and then the view
asked : (tag service : List ℕ) (command : Command) (away lacks : Option Rule) (view : Option ServiceView) →
    asked_answer (asked_by tag service command (sights.view_unless (option_or away lacks)
    (NotReported tag service) view))
    ≡ first_rule (away ∷ lacks ∷ not_reported tag service view ∷ option_and_then (forbidden command) view ∷ [])
    (Did (Asked tag service command))
asked tag service command (Some rule) lacks view = refl
asked tag service command None (Some rule) view = refl
asked tag service command None None view = viewed tag service command view

-- what the slot answers is what the rules say
pub desk_judged : (history : History) (at : ℕ) (tag service : List ℕ) (command : Command) (slot : Slot) →
    is_full history ≡ false →
    SlotKeeps tag slot (past tag history) →
    asked_answer (slot_asked slot tag service command) ≡ answer_of history (desk at tag service command)
desk_judged history at tag service command slot room keeps =
    ap (λ control. asked_answer (asked_by tag service command (sights.view_unless
    (option_or (in_exchange (slot_tag slot) (slot_ticket slot)) (no_service service (slot_description slot)))
    (NotReported (slot_tag slot) service) (option_map (seen_with service (Some (slot_description slot))) control))))
    (keeps.controls service)
    ∙ rw (keeps.tag_is, keeps.ticket)
    (asked tag service command (in_exchange tag (ticket_of (docking_by past')))
    (no_service service (slot_description slot))
    (option_map (seen_with service (Some (slot_description slot))) (control_by service past'))
    ∙ sym (with_room history (desk at tag service command) room
    ∙ rw (there_is tag (docking_by past') keeps.is_there)
    (ap (λ description. first_rule (in_exchange tag (ticket_of (docking_by past')) ∷ option_and_then
    (no_service service) description
    ∷ not_reported tag service (option_map (seen_with service description) (control_by service past'))
    ∷ option_and_then (forbidden command) (option_map (seen_with service description) (control_by service past')) ∷ [])
    (Did (Asked tag service command))) keeps.description)))
  where
    past' : History
    past' = past tag history

-- ---- the table stays

-- an accepted command changes nothing that the slot keeps
asked_keeps : (tag other service : List ℕ) (command : Command) (slot : Slot) (past : History)
    (at : ℕ) (answer : Answer) → SlotKeeps tag slot past →
    SlotKeeps tag slot (paired (desk at other service command) answer ∷ past)
asked_keeps tag other service command slot past at answer keeps =
    record {
      tag_is = keeps.tag_is;
      is_there = keeps.is_there;
      ticket = keeps.ticket;
      description = keeps.description;
      begins = keeps.begins;
      dockings = keeps.dockings;
      controls = keeps.controls;
      values = keeps.values;
    }

-- a command that goes to the service, or a rule
pub desk_answered : (history : History) (at : ℕ) (tag service : List ℕ) (command : Command)
    (slot : Slot) (rows : Rows Slot) (answer : Answer) →
    is_full history ≡ false → SeatsMirror rows history → IsCounted rows history → part_of tag rows ≡ Some slot →
    answer ≡ asked_answer (slot_asked slot tag service command) →
    AnswersModule history (desk at tag service command) answer rows
desk_answered history at tag service command slot rows answer room seats counted found is =
    let event : PlainEvent = desk at tag service command in
    let keeps = seated_slot history tag rows slot seats found in
    let same : answer ≡ answer_of history event = is ∙ desk_judged history at tag service command slot room keeps in
    go (is_accepted answer) refl same
  where
    go : (accepted : Bool) → is_accepted answer ≡ accepted → answer ≡ answer_of history (desk at tag service command) →
        AnswersModule history (desk at tag service command) answer rows
    go false refused same = refused_answered history (desk at tag service command) answer rows
        same refused seats counted
    go true accepted same =
        let event : PlainEvent = desk at tag service command in
        record {
          answer_is = same;
          seats = seats_unmoved history (entry_of history event) tag slot rows refl (ap is_accepted (sym same)
              ∙ accepted) found
              (λ keeps. asked_keeps tag tag service command slot (past tag history) at
              (answer_of history event) keeps) seats;
          counted = counted_same history (entry_of history event) rows refl counted;
        }
