-- A module is plugged.
use Rattle.std.proofs.Common.{◌≡◌, ℕ, ◌+◌, true, false, List, [], ◌∷◌, length, Option, Some, None, is_some, refl, ap}
use Rattle.std.proofs.Common.{sym, ◌∙◌, subst}
use Rattle.std.specs.Prelude.{nat_le}
use Rattle.std.specs.Option.{option_map}
use Rattle.mtp_codes.specs.Faults.{when}
use Rattle.mtp_codes.specs.Names.{is_among}
use Rattle.mtp_codes.specs.declared.limits.TheConstants.{MOST_MODULES}
use Rattle.mtp_desc.specs.Plain.{PlainDescription}
use Rattle.pol_events.specs.Events.{PlainEvent, PlainEntry, plug}
use Rattle.pol_events.specs.declared.answer.Answer.{Answer}
use Rattle.pol_events.specs.declared.answer.Answer.TheVariants.{Done, Refused}
use Rattle.pol_events.specs.declared.answer.Rule.{Rule}
use Rattle.pol_events.specs.declared.answer.Rule.TheVariants.{TagTaken, NoModule, PlantFull}
use Rattle.pol_history.specs.Answers.{first_rule, rules, otherwise, answer_of, is_full}
use Rattle.pol_history.specs.Looking.{History, is_accepted, past}
use Rattle.pol_history.specs.Modules.{Docking, absent, docked, away, docking_by}
use Rattle.pol_history.specs.Rules.{tag_taken, no_module, plant_full}
use Rattle.pol_history.specs.Runs.{entry_of}
use Rattle.pol_history.proofs.Accepted.{paired, with_room}
use Rattle.pol_history.proofs.Pasts.{past_own}
use Rattle.pol_history.proofs.Refused.{refused_nothing}
use Rattle.pol_slots.specs.Slots.{slot_tag, slot_ticket, slot_description, slot_begins, IsUnreported}
use Rattle.pol_slots.specs.declared.slot.Slot.{Slot}
use Rattle.pol_table.specs.Rows.{Row, Rows, look, part_of}
use Rattle.pol_core.specs.Seats.{users_of, SlotKeeps, IsTaken, IsEmpty, IsSeated, SeatsMirror, IsCounted, AnswersModule}
use Rattle.pol_core.proofs.Counting.{counted_more}
use Rattle.pol_core.proofs.Seating.{Changes, seat_changes, seats_refused}

-- a new slot keeps the past that ends in its plug
pub plug_keeps : (tag other : List ℕ) (slot : Slot) (past : History) (at : ℕ) (description : PlainDescription)
    (answer : Answer) → slot_tag slot ≡ tag →
    slot_description slot ≡ description → slot_begins slot ≡ 0 → slot_ticket slot ≡ None → IsUnreported slot →
    SlotKeeps tag slot (paired (plug at other description) answer ∷ past)
plug_keeps tag other slot past at description answer tag_is description_is begins ticket unreported =
    record {
      tag_is = tag_is;
      is_there = λ is. cc;
      ticket = ticket;
      description = ap Some (sym description_is);
      begins = begins;
      dockings = rw (begins, ticket) refl;
      controls = unreported.controls;
      values = unreported.values;
    }

-- a tag that is there is taken
taken_docking : (docking : Docking) → (docking ≡ absent → ⊥) → tag_taken docking ≡ Some TagTaken
taken_docking absent there = absurd (there refl)
taken_docking (docked count) there = refl
taken_docking (away ticket) there = refl

-- a refused event of a module
pub refused_answered : (history : History) (event : PlainEvent) (answer : Answer) (rows : Rows Slot) →
    answer ≡ answer_of history event → is_accepted answer ≡ false →
    SeatsMirror rows history → IsCounted rows history → AnswersModule history event answer rows
refused_answered history event answer rows is refused seats counted =
    let nothing = refused_nothing (entry_of history event) history (ap is_accepted (sym is) ∙ refused) in
    record {
      answer_is = is;
      seats = seats_refused history (entry_of history event) rows nothing seats;
      counted = record {
        members = λ tag. ap (λ tags. is_among tags tag) nothing.present ∙ counted.members tag;
        once = rw nothing.present counted.once;
        count = counted.count ∙ ap length (sym nothing.present);
      };
    }

-- no part, no row
no_row : (found : Option (Row Slot)) → option_map (λ row. row.part) found ≡ None → found ≡ None
no_row None none = refl
no_row (Some row) none = cc

-- a tag without a row is that of no module
no_module_is : (history : History) (tag : List ℕ) (rows : Rows Slot) → SeatsMirror rows history →
    part_of tag rows ≡ None → no_module tag (docking_by (past tag history)) ≡ Some (NoModule tag)
no_module_is history tag rows seats none =
    let empty : IsEmpty (past tag history) (users_of history tag) =
    subst (λ found. IsSeated tag found (past tag history) (users_of history tag)) (no_row (look tag rows) none)
    (seats tag) in
    ap (no_module tag) empty.is_absent

-- an event of a module that isn't there is refused
pub missing_answered : (history : History) (event : PlainEvent) (tag : List ℕ) (later : List (Option Rule))
    (rows : Rows Slot) → rules history event ≡ no_module tag (docking_by (past tag history)) ∷ later →
    is_full history ≡ false → SeatsMirror rows history → IsCounted rows history → part_of tag rows ≡ None →
    AnswersModule history event (Refused (NoModule tag)) rows
missing_answered history event tag later rows begins room seats counted none =
    refused_answered history event (Refused (NoModule tag)) rows
    (sym (with_room history event room
    ∙ ap (λ rules. first_rule rules (otherwise history event)) begins
    ∙ ap (λ rule. first_rule (rule ∷ later) (otherwise history event)) (no_module_is history tag rows seats none)))
    refl seats counted

-- a tag that is there is refused
pub tag_taken_is : (history : History) (at : ℕ) (tag : List ℕ) (description : PlainDescription)
    (rows : Rows Slot) (found : Option (Row Slot)) → look tag rows ≡ found →
    is_some found ≡ true → SeatsMirror rows history → is_full history ≡ false →
    Refused TagTaken ≡ answer_of history (plug at tag description)
tag_taken_is history at tag description rows None is some seats room = cc
tag_taken_is history at tag description rows (Some row) is some seats room =
    let taken : IsTaken tag row (past tag history) (users_of history tag) =
    subst (λ found. IsSeated tag found (past tag history) (users_of history tag)) is (seats tag) in
    sym (with_room history (plug at tag description) room
    ∙ ap (λ rule. first_rule (rule ∷ plant_full history ∷ []) Done)
    (taken_docking (docking_by (past tag history)) taken.slot_keeps.is_there))

-- a new tag is refused where the plant is full, and else done
pub new_tag : (history : History) (at : ℕ) (tag : List ℕ) (description : PlainDescription) (rows : Rows Slot) →
    look tag rows ≡ None → SeatsMirror rows history →
    IsCounted rows history → is_full history ≡ false →
    answer_of history (plug at tag description) ≡ first_rule
    (when (nat_le MOST_MODULES (length rows)) PlantFull ∷ []) Done
new_tag history at tag description rows is seats counted room =
    let empty : IsEmpty (past tag history) (users_of history tag) =
    subst (λ found. IsSeated tag found (past tag history) (users_of history tag)) is (seats tag) in
    with_room history (plug at tag description) room
    ∙ ap (λ docking. first_rule (tag_taken docking ∷ plant_full history ∷ []) Done) empty.is_absent
    ∙ ap (λ n. first_rule (when (nat_le MOST_MODULES n) PlantFull ∷ []) Done) (sym counted.count)

-- a new tag gets a row
pub plug_answered : (history : History) (at : ℕ) (tag : List ℕ) (description : PlainDescription)
    (slot : Slot) (old new : Rows Slot) → look tag old ≡ None →
    nat_le MOST_MODULES (length old) ≡ false → SlotKeeps tag slot
    (paired (plug at tag description) Done ∷ past tag history) →
    Changes tag (Some (record { part = slot; holder = None; watchers = [] })) old new → length new ≡ length old + 1 →
    SeatsMirror old history → IsCounted old history → is_full history ≡ false →
    AnswersModule history (plug at tag description) Done new
plug_answered history at tag description slot old new is few keeps changes more seats counted room =
    let answer = new_tag history at tag description old is seats counted room
    ∙ ap (λ full. first_rule (when full PlantFull ∷ []) Done) few in
    let empty : IsEmpty (past tag history) (users_of history tag) =
    subst (λ found. IsSeated tag found (past tag history) (users_of history tag)) is (seats tag) in
    let entry : PlainEntry = paired (plug at tag description) Done in
    record {
      answer_is = sym answer;
      seats = subst (λ answer. SeatsMirror new (paired (plug at tag description) answer ∷ history)) (sym answer)
          (seat_changes history entry tag (Some (record { part = slot; holder = None; watchers = [] })) old new refl
          changes
          (record {
            slot_keeps = subst (SlotKeeps tag slot) (sym (past_own history entry tag refl refl)) keeps;
            held_by = sym empty.free;
            watched_by = sym empty.unwatched;
          }) seats);
      counted = subst (λ answer. IsCounted new (paired (plug at tag description) answer ∷ history)) (sym answer)
          (counted_more history entry tag (record { part = slot; holder = None; watchers = [] }) old new is refl changes
          more counted);
    }

-- where the plant is full, a new tag is refused
pub full_answered : (history : History) (at : ℕ) (tag : List ℕ) (description : PlainDescription) (rows : Rows Slot) →
    look tag rows ≡ None → nat_le MOST_MODULES (length rows) ≡ true →
    SeatsMirror rows history → IsCounted rows history → is_full history ≡ false →
    AnswersModule history (plug at tag description) (Refused PlantFull) rows
full_answered history at tag description rows is full seats counted room =
    refused_answered history (plug at tag description) (Refused PlantFull) rows
    (sym (new_tag history at tag description rows is seats counted room
    ∙ ap (λ full. first_rule (when full PlantFull ∷ []) Done) full))
    refl seats counted
