-- The text of entries, one after the other.
use Rattle.std.proofs.Common.{◌≡◌, ◌<◌, ◌≤◌, ◌+◌, ◌-◌, ℕ, zero, suc, true, Option, List, [], ◌∷◌, ◌++◌}
use Rattle.std.proofs.Common.{append_assoc, add-one, arith, drop, get_or, length, map, subst, take, refl, sym, ap, ◌∙◌}
use Rattle.std.specs.Prelude.{nat_lt}
use Rattle.std.proofs.lemmas.Bool.{lt-ltb}
use Rattle.std.proofs.lemmas.List.{reverse-reverse}
use Rattle.serde_json.specs.View.{items_of}
use Rattle.serde_json.specs.Written.{comma_if, compact_text, items_text}
use Rattle.mtp_codes.proofs.Lists.{all_reverse}
use Rattle.pol_events.specs.Events.{plain_entry, plain_history}
use Rattle.pol_events.specs.Orderly.{is_orderly}
use Rattle.pol_events.specs.declared.event.Entry.{Entry}
use Rattle.pol_history.specs.Runs.{IsOrderly}
use Rattle.pol_overview.specs.Entries.{NamedEntry, all_named, entry_data, text_between}

-- each entry of an orderly history is orderly
each_orderly : (entries : List Entry) (place : ℕ) (default : Entry) → IsOrderly (map plain_entry entries)
    → place < length entries → is_orderly (plain_entry (get_or entries place default)).event ≡ true
each_orderly [] place default orderly inside = absurd (omega arith)
each_orderly (entry ∷ entries) zero default orderly inside = orderly.0
each_orderly (entry ∷ entries) (suc place) default orderly inside =
    each_orderly entries place default orderly.1 (omega arith)

-- so is the entry at a place, where the history of the entries is orderly
pub entry_orderly : (entries : List Entry) (place : ℕ) (entry : Entry) → IsOrderly (plain_history entries)
    → place < length entries → entry ≡ get_or entries place entry → is_orderly (plain_entry entry).event ≡ true
entry_orderly entries place entry orderly inside same =
    subst (λ each. is_orderly (plain_entry each).event ≡ true) (sym same)
    (each_orderly entries place entry
    (subst IsOrderly (reverse-reverse (map plain_entry entries))
    (all_reverse (λ each. is_orderly each.event ≡ true) (plain_history entries) orderly)) inside)

-- the entry at a place with who asked for it, and those behind
pub drop_named : (persons : List (Option (List ℕ))) (entries : List Entry) (place : ℕ) (entry : Entry)
    (person : Option (List ℕ)) → length persons ≡ length entries → place < length entries
    → entry ≡ get_or entries place entry → person ≡ get_or persons place person
    → drop place (all_named persons (map plain_entry entries))
    ≡ record { entry = plain_entry entry; person = person }
    ∷ drop (suc place) (all_named persons (map plain_entry entries))
drop_named [] [] place entry person same inside here named = absurd (omega arith)
drop_named [] (other ∷ entries) place entry person same inside here named = absurd (omega arith)
drop_named (other ∷ persons) [] place entry person same inside here named = absurd (omega arith)
drop_named (other_person ∷ persons) (other ∷ entries) zero entry person same inside here named =
    let this : entry ≡ other = here in
    let asked : person ≡ other_person = named in
    rw (this, asked) refl
drop_named (other_person ∷ persons) (other ∷ entries) (suc place) entry person same inside here named =
    drop_named persons entries place entry person (omega arith) (omega arith) here named

-- one more entry is told
pub next_between : (entries : List NamedEntry) (told : NamedEntry) (first place end : ℕ) (old new : List ℕ)
    → drop place entries ≡ told ∷ drop (suc place) entries → first ≤ place → place < end
    → new ≡ (old ++ comma_if (nat_lt first place)) ++ compact_text (entry_data told)
    → new ++ text_between first (place + 1) end entries ≡ old ++ text_between first place end entries
next_between entries told first place end old new cut behind inside wrote =
    let more : end - place ≡ suc (end - (place + 1)) = omega arith in
    let later : nat_lt first (place + 1) ≡ true = lt-ltb first (place + 1) (omega arith) in
    let comma = comma_if (nat_lt first place) in
    let text = compact_text (entry_data told) in
    let rest = items_text true (items_of (map entry_data (take (end - (place + 1)) (drop (suc place) entries)))) in
    let behind_told : text_between first (place + 1) end entries ≡ rest =
    ap (λ is. items_text is (items_of (map entry_data (take (end - (place + 1)) (drop (place + 1) entries))))) later
    ∙ ap (λ from. items_text true (items_of (map entry_data (take (end - (place + 1)) (drop from entries))))) (add-one place) in
    let with_told : text_between first place end entries ≡ comma ++ (text ++ rest) =
    ap (λ count. items_text (nat_lt first place) (items_of (map entry_data (take count (drop place entries))))) more
    ∙ ap
    (λ left. items_text (nat_lt first place) (items_of (map entry_data (take (suc (end - (place + 1))) left)))) cut in
    ap (λ done. done ++ text_between first (place + 1) end entries) wrote
    ∙ ap (λ later. ((old ++ comma) ++ text) ++ later) behind_told
    ∙ append_assoc (old ++ comma) text rest
    ∙ append_assoc old comma (text ++ rest)
    ∙ ap (λ all. old ++ all) (sym with_told)

-- where all are told, the bracket is left
pub ended_between : (first end : ℕ) (entries : List NamedEntry) → text_between first end end entries ≡ 93 ∷ []
ended_between first end entries =
    let none : end - end ≡ 0 = omega arith in
    ap (λ count. items_text (nat_lt first end) (items_of (map entry_data (take count (drop end entries))))) none
