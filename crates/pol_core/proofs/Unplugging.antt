-- A module is unplugged.
use Rattle.std.proofs.Common.{◌≡◌, ℕ, suc, ◌+◌, Bool, true, false, cond, not, List, [], ◌∷◌, length, Option, Some, None}
use Rattle.std.proofs.Common.{is_some, refl, ap, sym, ◌∙◌, subst, arith}
use Rattle.std.specs.Prelude.{◌||◌, if◌then◌else◌, is_ok, map, slice_get, unwrap_or, option_and_then, option_map}
use Rattle.mtp_codes.specs.Faults.{first_of}
use Rattle.std.specs.Str.{bytes_eq}
use Rattle.mtp_codes.specs.Names.{is_among}
use Rattle.mtp_codes.proofs.Names.{same_true}
use Rattle.pol_events.specs.Events.{PlainEntry, unplug}
use Rattle.pol_events.specs.Refusals.{in_exchange}
use Rattle.pol_events.specs.declared.answer.Answer.{Answer}
use Rattle.pol_events.specs.declared.answer.Answer.TheVariants.{Done, Refused}
use Rattle.pol_events.specs.declared.answer.Rule.{Rule}
use Rattle.pol_events.specs.declared.answer.Rule.TheVariants.{Held, InExchange, Watched}
use Rattle.pol_history.specs.Answers.{first_rule, answer_of, is_full}
use Rattle.pol_history.specs.Batches.{holder_of, watchers_of}
use Rattle.pol_history.specs.Rules.{watched}
use Rattle.pol_history.specs.Looking.{History, past}
use Rattle.pol_history.specs.Modules.{docking_by, ticket_of, present_tags, tags_without}
use Rattle.pol_history.proofs.Accepted.{paired, with_room}
use Rattle.pol_history.proofs.Pasts.{past_own}
use Rattle.pol_slots.specs.Slots.{slot_ticket}
use Rattle.pol_slots.specs.declared.slot.Slot.{Slot}
use Rattle.pol_table.proofs.Seen.{first_none_empty}
use Rattle.pol_table.specs.Answers.{parting_from, parting_unless, leaving}
use Rattle.pol_table.specs.Rows as tables
use Rattle.pol_table.specs.Rows.{Row, Rows, look, part_of}
use Rattle.pol_core.specs.Seats.{users_of, IsTaken, IsSeated, SeatsMirror, AreOnce, IsCounted, AnswersModule}
use Rattle.pol_core.proofs.Judging.{there_is, refuse}
use Rattle.pol_core.proofs.Plugging.{refused_answered}
use Rattle.pol_core.proofs.Seating.{Changes, seat_changes}
use Rattle.pol_core.proofs.Telling.{has_row}

-- ---- a tag taken out of others

-- another tag is among the rest as before, and this one isn't
among_without : (tag other : List ℕ) (tags : List (List ℕ)) → is_among (tags_without tag tags) other
    ≡ (if bytes_eq tag other then false else is_among tags other)
among_without tag other [] = none (bytes_eq tag other)
  where
    none : (same : Bool) → false ≡ (if same then false else false)
    none true = refl
    none false = refl
among_without tag other (first ∷ tags) =
    go (bytes_eq first tag) refl (bytes_eq tag other) refl (among_without tag other tags)
  where
    apart : bytes_eq first tag ≡ false → bytes_eq tag other ≡ true → bytes_eq first other ≡ false
    apart away same = subst (λ name. bytes_eq first name ≡ false) (same_true tag other same) away

    go : (here : Bool) → bytes_eq first tag ≡ here → (same : Bool) → bytes_eq tag other ≡ same →
        is_among (tags_without tag tags) other ≡ (if bytes_eq tag other then false else is_among tags other) →
        is_among (cond (not (bytes_eq first tag)) (first ∷ tags_without tag tags) (tags_without tag tags)) other
        ≡ (if bytes_eq tag other then false else bytes_eq first other || is_among tags other)
    go true here true same rest = rw (here, same) (rest ∙ rw same refl)
    go false here true same rest = rw (here, same) (ap (λ one. one || is_among (tags_without tag tags) other)
        (apart here same) ∙ rest ∙ rw same refl)
    go true here false away rest =
        rw (here, away) (rest
        ∙ rw away (ap (λ name. name || is_among tags other)
        (sym (subst (λ name. bytes_eq name other ≡ false) (sym (same_true first tag here)) away))))
    go false here false away rest = rw (here, away) (ap (λ among. bytes_eq first other || among) (rest ∙ rw away refl))

-- a tag that isn't among others isn't among fewer of them
out_of_fewer : (tag other : List ℕ) (tags : List (List ℕ)) → is_among tags other ≡ false →
    is_among (tags_without tag tags) other ≡ false
out_of_fewer tag other tags out = among_without tag other tags ∙ go (bytes_eq tag other)
  where
    go : (same : Bool) → (if same then false else is_among tags other) ≡ false
    go true = refl
    go false = out

-- no tag is there twice without one
once_without : (tag : List ℕ) (tags : List (List ℕ)) → AreOnce tags → AreOnce (tags_without tag tags)
once_without tag [] once = tt
once_without tag (first ∷ tags) once = go (bytes_eq first tag) (once_without tag tags once.1)
  where
    go : (here : Bool) → AreOnce (tags_without tag tags) →
        AreOnce (cond (not here) (first ∷ tags_without tag tags) (tags_without tag tags))
    go true rest = rest
    go false rest = (out_of_fewer tag first tags once.0, rest)

-- without a tag that is among them, there is one less
length_without : (tag : List ℕ) (tags : List (List ℕ)) → AreOnce tags → is_among tags tag ≡ true →
    length (tags_without tag tags) + 1 ≡ length tags
length_without tag [] once among = cc
length_without tag (first ∷ tags) once among = go (bytes_eq first tag) refl among (length_without tag tags once.1)
  where
    all_stay : (others : List (List ℕ)) → is_among others tag ≡ false → tags_without tag others ≡ others
    all_stay [] out = refl
    all_stay (other ∷ others) out = stays (bytes_eq other tag) refl out (all_stay others)
      where
        stays : (same : Bool) → bytes_eq other tag ≡ same → bytes_eq other tag || is_among others tag ≡ false →
            (is_among others tag ≡ false → tags_without tag others ≡ others) →
            cond (not (bytes_eq other tag)) (other ∷ tags_without tag others) (tags_without tag others) ≡ other ∷ others
        stays true is out rest = let clash : true ≡ false = ap (λ same. same || is_among others tag) (sym is)
            ∙ out in cc
        stays false is out rest =
            rw is (ap (λ more. other ∷ more) (rest (ap (λ same. same || is_among others tag) (sym is) ∙ out)))

    plus_one : (n : ℕ) → n + 1 ≡ suc n
    plus_one n = omega arith

    go : (here : Bool) → bytes_eq first tag ≡ here → bytes_eq first tag || is_among tags tag ≡ true →
        (is_among tags tag ≡ true → length (tags_without tag tags) + 1 ≡ length tags) →
        length (cond (not (bytes_eq first tag)) (first ∷ tags_without tag tags) (tags_without tag tags)) + 1
        ≡ length (first ∷ tags)
    go true here among rest =
        rw here (ap (λ others. length others + 1) (all_stay tags
        (subst (λ name. is_among tags name ≡ false) (same_true first tag here) once.0)) ∙ plus_one (length tags))
    go false here among rest =
        let shorter : length (tags_without tag tags) + 1 ≡ length tags =
        rest (ap (λ same. same || is_among tags tag) (sym here) ∙ among) in
        rw here (ap (λ n. n + 1) (sym (plus_one (length (tags_without tag tags)))) ∙ ap (λ n. n + 1) shorter
        ∙ plus_one (length tags))

-- one module less
counted_less : (history : History) (entry : PlainEntry) (tag : List ℕ) (row : Row Slot) (old new : Rows Slot) →
    look tag old ≡ Some row →
    present_tags (entry ∷ history) ≡ tags_without tag (present_tags history) → Changes tag None old new →
    length new + 1 ≡ length old →
    IsCounted old history → IsCounted new (entry ∷ history)
counted_less history entry tag row old new found present changes less counted =
    record {
      members = λ other.
          ap (λ tags. is_among tags other) present ∙ among_without tag other (present_tags history)
          ∙ ap (λ among. if bytes_eq tag other then false else among) (counted.members other)
          ∙ go (bytes_eq tag other) (look other old) ∙ ap is_some (sym (changes other));
      once = rw present (once_without tag (present_tags history) counted.once);
      count = same (length new) (length (tags_without tag (present_tags history)))
          (less ∙ counted.count ∙ sym (length_without tag (present_tags history) counted.once (counted.members tag
          ∙ ap is_some found)))
          ∙ ap length (sym present);
    }
  where
    go : (here : Bool) (found : Option (Row Slot)) → (if here then false else is_some found)
        ≡ is_some (cond here None found)
    go true found = refl
    go false found = refl

    same : (m n : ℕ) → m + 1 ≡ n + 1 → m ≡ n
    same m n is = omega (arith, is)

-- ---- the answer

-- the rules after the first
first_of_three : (first second third : Option Rule) →
    first_rule (first ∷ second ∷ third ∷ []) Done ≡ refuse first (refuse second (refuse third Done))
first_of_three (Some rule) second third = refl
first_of_three None (Some rule) third = refl
first_of_three None None (Some rule) = refl
first_of_three None None None = refl

-- the rule that the first of these watchers makes
abbrev watched_rule : List (List ℕ) → Option Rule
watched_rule watchers = first_of (map (λ batch. Some (Watched batch)) watchers)

-- what the holder and the watchers of a row say
abbrev used_answer : Option (List ℕ) → List (List ℕ) → Answer
used_answer holder watchers =
    refuse (option_and_then (λ batch. Some (Held batch)) holder) (refuse (watched_rule watchers) Done)

-- the answer by the row
unplug_answer : (history : History) (at : ℕ) (tag : List ℕ) (row : Row Slot) → is_full history ≡ false →
    IsTaken tag row (past tag history) (users_of history tag) →
    answer_of history (unplug at tag)
    ≡ refuse (in_exchange tag (slot_ticket row.part)) (used_answer row.holder row.watchers)
unplug_answer history at tag row room taken =
    with_room history (unplug at tag) room
    ∙ ap (λ gone. first_rule (gone ∷ in_exchange tag (ticket_of (docking_by (past tag history)))
    ∷ option_and_then (λ batch. Some (Held batch)) (holder_of history tag) ∷ watched history tag ∷ []) Done)
    (there_is tag (docking_by (past tag history)) taken.slot_keeps.is_there)
    ∙ first_of_three (in_exchange tag (ticket_of (docking_by (past tag history))))
    (option_and_then (λ batch. Some (Held batch)) (holder_of history tag)) (watched history tag)
    ∙ ap (λ ticket. refuse (in_exchange tag ticket) (used_answer (holder_of history tag) (watchers_of history tag)))
    (sym taken.slot_keeps.ticket)
    ∙ ap (λ holder. refuse (in_exchange tag (slot_ticket row.part)) (used_answer holder (watchers_of history tag)))
    (sym taken.held_by)
    ∙ ap (λ watchers. refuse (in_exchange tag (slot_ticket row.part)) (used_answer row.holder watchers))
    (sym taken.watched_by)

-- the row of a part, and what it keeps
seated_row : (history : History) (tag : List ℕ) (rows : Rows Slot) (row : Row Slot) →
    SeatsMirror rows history → look tag rows ≡ Some row →
    IsTaken tag row (past tag history) (users_of history tag)
seated_row history tag rows row seats found =
    subst (λ found. IsSeated tag found (past tag history) (users_of history tag)) found (seats tag)

-- a module that is away stays
pub unplug_away : (history : History) (at : ℕ) (tag : List ℕ) (slot : Slot) (ticket : ℕ) (rows : Rows Slot) →
    is_full history ≡ false →
    SeatsMirror rows history → IsCounted rows history → part_of tag rows ≡ Some slot →
    slot_ticket slot ≡ Some ticket →
    AnswersModule history (unplug at tag) (Refused (InExchange tag ticket)) rows
unplug_away history at tag slot ticket rows room seats counted found away =
    let has = has_row tag rows slot found in
    refused_answered history (unplug at tag) (Refused (InExchange tag ticket)) rows
    (sym (unplug_answer history at tag has.row room (seated_row history tag rows has.row seats has.found)
    ∙ ap (λ ticket. refuse (in_exchange tag ticket) (used_answer has.row.holder has.row.watchers))
    (ap (λ slot. slot_ticket slot) has.part_is ∙ away)))
    refl seats counted

-- a module that is held stays
pub unplug_held : (history : History) (at : ℕ) (tag : List ℕ) (slot : Slot) (batch : List ℕ)
    (rows : Rows Slot) → is_full history ≡ false →
    SeatsMirror rows history → IsCounted rows history → part_of tag rows ≡ Some slot → slot_ticket slot ≡ None →
    tables.holder_of tag rows ≡ Some batch → AnswersModule history (unplug at tag) (Refused (Held batch)) rows
unplug_held history at tag slot batch rows room seats counted found docked' is =
    let has = has_row tag rows slot found in
    let held : has.row.holder ≡ Some batch = ap (option_and_then (λ (row : Row Slot). row.holder))
    (sym has.found) ∙ is in
    refused_answered history (unplug at tag) (Refused (Held batch)) rows
    (sym (unplug_answer history at tag has.row room (seated_row history tag rows has.row seats has.found)
    ∙ ap (λ ticket. refuse (in_exchange tag ticket) (used_answer has.row.holder has.row.watchers))
    (ap (λ slot. slot_ticket slot) has.part_is ∙ docked')
    ∙ ap (λ holder. used_answer holder has.row.watchers) held))
    refl seats counted

-- the rule names the first of the watchers
first_watches : (watchers : List (List ℕ)) (batch : List ℕ) → slice_get watchers 0 ≡ Some batch →
    watched_rule watchers ≡ Some (Watched batch)
first_watches [] batch is = cc
first_watches (first ∷ watchers) batch is =
    let same : first ≡ batch = cc in ap (λ batch. Some (Watched batch)) same

-- the watchers of a tag are those of its row
row_watchers : (tag : List ℕ) (rows : Rows Slot) (row : Row Slot) → look tag rows ≡ Some row →
    row.watchers ≡ tables.watchers_of tag rows
row_watchers tag rows row found =
    ap (λ found. unwrap_or (option_map (λ (row : Row Slot). row.watchers) found) []) (sym found)

-- a module that is watched stays
pub unplug_watched : (history : History) (at : ℕ) (tag : List ℕ) (slot : Slot) (batch : List ℕ)
    (rows : Rows Slot) → is_full history ≡ false →
    SeatsMirror rows history → IsCounted rows history → part_of tag rows ≡ Some slot → slot_ticket slot ≡ None →
    tables.holder_of tag rows ≡ None → slice_get (tables.watchers_of tag rows) 0 ≡ Some batch →
    AnswersModule history (unplug at tag) (Refused (Watched batch)) rows
unplug_watched history at tag slot batch rows room seats counted found docked' is first =
    let has = has_row tag rows slot found in
    let free : has.row.holder ≡ None = ap (option_and_then (λ (row : Row Slot). row.holder)) (sym has.found) ∙ is in
    refused_answered history (unplug at tag) (Refused (Watched batch)) rows
    (sym (unplug_answer history at tag has.row room (seated_row history tag rows has.row seats has.found)
    ∙ ap (λ ticket. refuse (in_exchange tag ticket) (used_answer has.row.holder has.row.watchers))
    (ap (λ slot. slot_ticket slot) has.part_is ∙ docked')
    ∙ ap (λ holder. used_answer holder has.row.watchers) free
    ∙ ap (λ rule. refuse rule Done)
    (ap watched_rule (row_watchers tag rows has.row has.found)
    ∙ first_watches (tables.watchers_of tag rows) batch first)))
    refl seats counted

-- a part that no batch holds or watches leaves
leaves : {T : Type 0} (tag : List ℕ) (rows : Rows T) (found : Option (Row T)) → is_some found ≡ true →
    option_and_then (λ (row : Row T). row.holder) found ≡ None →
    unwrap_or (option_map (λ (row : Row T). row.watchers) found) [] ≡ [] → is_ok (parting_from found) ≡ true
leaves tag rows None there free unwatched = cc
leaves {T} tag rows (Some row) there free unwatched = go row.holder row.watchers free unwatched
  where
    go : (holder : Option (List ℕ)) (watchers : List (List ℕ)) → holder ≡ None → watchers ≡ [] →
        is_ok (parting_unless row.part holder watchers) ≡ true
    go None [] free unwatched = refl
    go None (batch ∷ watchers) free unwatched = cc
    go (Some batch) watchers free unwatched = cc

-- a module that no batch holds or watches can leave
pub free_leaves : (tag : List ℕ) (slot : Slot) (rows : Rows Slot) → part_of tag rows ≡ Some slot →
    tables.holder_of tag rows ≡ None → slice_get (tables.watchers_of tag rows) 0 ≡ None →
    is_ok (leaving tag rows) ≡ true
free_leaves tag slot rows found free unwatched =
    let has = has_row tag rows slot found in
    leaves tag rows (look tag rows) (ap is_some has.found) free
    (first_none_empty (tables.watchers_of tag rows) unwatched)

-- a module leaves
pub unplug_answered : (history : History) (at : ℕ) (tag : List ℕ) (slot : Slot) (old new : Rows Slot) →
    is_full history ≡ false →
    SeatsMirror old history → IsCounted old history → part_of tag old ≡ Some slot → slot_ticket slot ≡ None →
    tables.holder_of tag old ≡ None → slice_get (tables.watchers_of tag old) 0 ≡ None →
    Changes tag None old new → length new + 1 ≡ length old → AnswersModule history (unplug at tag) Done new
unplug_answered history at tag slot old new room seats counted found docked' is unwatched changes less =
    let has = has_row tag old slot found in
    let taken = seated_row history tag old has.row seats has.found in
    let free : has.row.holder ≡ None = ap (option_and_then (λ (row : Row Slot). row.holder)) (sym has.found)
    ∙ is in
    let unseen : has.row.watchers ≡ [] =
    row_watchers tag old has.row has.found ∙ first_none_empty (tables.watchers_of tag old) unwatched in
    let answer : answer_of history (unplug at tag) ≡ Done
    = unplug_answer history at tag has.row room taken
    ∙ ap (λ ticket. refuse (in_exchange tag ticket) (used_answer has.row.holder has.row.watchers))
    (ap (λ slot. slot_ticket slot) has.part_is ∙ docked')
    ∙ ap (λ holder. used_answer holder has.row.watchers) free
    ∙ ap (used_answer None) unseen in
    let entry : PlainEntry = paired (unplug at tag) Done in
    record {
      answer_is = sym answer;
      seats = subst (λ answer. SeatsMirror new (paired (unplug at tag) answer ∷ history)) (sym answer)
          (seat_changes history entry tag None old new refl changes
          (record {
            is_absent = ap docking_by (past_own history entry tag refl refl);
            free = sym taken.held_by
                ∙ free;
            unwatched = sym taken.watched_by
                ∙ unseen;
          }) seats);
      counted = subst (λ answer. IsCounted new (paired (unplug at tag) answer ∷ history)) (sym answer)
          (counted_less history entry tag has.row old new has.found refl changes less counted);
    }
