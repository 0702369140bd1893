-- Judging a history: what is found of it, and the steps of the loop over its entries.
use Rattle.std.proofs.Common.{◌≡◌, ◌≤◌, ◌<◌, ◌+◌, ◌∷◌, [], ◌++◌, ℕ, suc, length, map, take, drop, get_or, List, Bool}
use Rattle.std.proofs.Common.{true, false, true≢false, Some, None, refl, sym, ap, ◌∙◌, subst, arith}
use Rattle.std.proofs.Common.{reverse, take-append-drop, if◌then◌else◌}
use Rattle.std.proofs.lemmas.Bool.{false_from_ne_true, leb-true}
use Rattle.std.proofs.lemmas.List.{append-nil, length-map, length-reverse, length-take-le, map-append, reverse-append}
use Rattle.std.proofs.lemmas.List.{reverse-reverse}
use Rattle.std.proofs.Math.Seq.{drop-cons, take-suc}
use Rattle.std.specs.Prelude.{nat_le}
use Rattle.mtp_codes.specs.declared.limits.TheConstants.{LONGEST_HISTORY}
use Rattle.mtp_codes.proofs.Lists.{reverse_next}
use Rattle.pol_history.proofs.Legal.{earlier_orderly}
use Rattle.pol_events.specs.Events.{PlainEntry, plain_entry, plain_event, plain_history}
use Rattle.pol_events.specs.Orderly.{is_orderly}
use Rattle.pol_events.specs.declared.answer.Answer.{Answer}
use Rattle.pol_events.specs.declared.event.Entry.{Entry}
use Rattle.pol_history.specs.Answers.{answer_of, is_full}
use Rattle.pol_history.specs.Looking.{History}
use Rattle.pol_history.specs.Runs.{IsLegal, IsOrderly, is_recorded}
use Rattle.pol_history.proofs.Recording.{recorded_with_room}
use Rattle.pol_entries.specs.Same.{same_answer}
use Rattle.pol_entries.proofs.Sameness.{same_decides}
use Rattle.pol_audit.specs.Judging.{IsFirstWrong, Judges, judged, wrong_after}
use Rattle.pol_audit.specs.declared.judging.Judged.{Judged}
use Rattle.pol_audit.specs.declared.judging.Judged.TheVariants.{Good, Wrong}
use Rattle.pol_audit.specs.declared.judging.TheConstants.{MOST_JUDGED}

-- ---- what is found

-- each of these answers after the history is right, or this is the first wrong one
abbrev JudgesAfter : History → List PlainEntry → Judged → Type 0
JudgesAfter history later Good = IsLegal (reverse later ++ history)
JudgesAfter history later (Wrong place says) = IsFirstWrong (reverse history ++ later) place says

-- what is found behind one more entry is found where that entry is the first of the later ones
moved : (history : History) (entry : PlainEntry) (later : List PlainEntry) (found : Judged)
    → JudgesAfter (entry ∷ history) later found → JudgesAfter history (entry ∷ later) found
moved history entry later Good legal = subst IsLegal (sym (reverse_next later entry history)) legal
moved history entry later (Wrong place says) wrong =
    subst (λ entries. IsFirstWrong entries place says) (reverse_next history entry later) wrong

-- a history that is no longer than what is judged is not full
roomy : (history : History) → length history ≤ MOST_JUDGED → is_full history ≡ false
roomy history few =
    false_from_ne_true (nat_le LONGEST_HISTORY (length history))
    (λ full. let over = leb-true LONGEST_HISTORY (length history) full in absurd (omega (arith, over, few)))

-- what is found of the later entries behind a legal history is right, where they are few together
judges_after : (history : History) (later : List PlainEntry) → IsLegal history
    → length history + length later ≤ MOST_JUDGED → JudgesAfter history later (wrong_after history later)
judges_after history [] legal few = legal
judges_after history (entry ∷ later) legal few =
    go (same_answer entry.answer (answer_of history entry.event)) refl
    (λ legal. judges_after (entry ∷ history) later legal (omega (arith, few)))
  where
    right : Answer
    right = answer_of history entry.event

    go : (same : Bool) → same_answer entry.answer right ≡ same
        → (IsLegal (entry ∷ history) → JudgesAfter (entry ∷ history) later (wrong_after (entry ∷ history) later))
        → JudgesAfter history (entry ∷ later)
        (if same then wrong_after (entry ∷ history) later else Wrong (length history) right)
    go true same further =
        let answered : entry.answer ≡ right = (same_decides entry.answer right).0 same in
        let room = roomy history (omega (arith, few)) in
        let recorded : is_recorded right ≡ true = recorded_with_room history entry.event room in
        moved history entry later (wrong_after (entry ∷ history) later)
        (further (answered, ap is_recorded answered ∙ recorded, legal))
    go false same further =
        record {
          before = reverse history;
          entry = entry;
          later = later;
          cut = refl;
          place_is = length-reverse history;
          legal = subst IsLegal (sym (reverse-reverse history)) legal;
          right = ap (λ past. answer_of past entry.event) (sym (reverse-reverse history));
          wrong = λ is. true≢false (sym ((same_decides entry.answer right).1 is) ∙ same);
        }

-- what is found of entries that are few is right
pub judges_all : (entries : List PlainEntry) → length entries ≤ MOST_JUDGED → (found : Judged) →
    found ≡ judged entries → Judges entries found
judges_all entries few found is =
    go found (subst (JudgesAfter [] entries) (sym is) (judges_after [] entries tt (omega (arith, few))))
  where
    go : (found : Judged) → JudgesAfter [] entries found → Judges entries found
    go Good legal = subst IsLegal (append-nil (reverse entries)) legal
    go (Wrong place says) wrong = wrong

-- what is found of a history is right
pub judges : (entries : List Entry) (found : Judged) → length entries ≤ MOST_JUDGED
    → found ≡ judged (map plain_entry entries) → Judges (map plain_entry entries) found
judges entries found few is = judges_all (map plain_entry entries) (rw (length-map entries plain_entry) few) found is

-- ---- the loop

-- the history of some entries is that of those from a place on, and then that of those before the place
cut_at : (entries : List Entry) (place : ℕ)
    → plain_history entries ≡ plain_history (drop place entries) ++ plain_history (take place entries)
cut_at entries place =
    ap plain_history (sym (take-append-drop place entries))
    ∙ ap reverse (map-append plain_entry (take place entries) (drop place entries))
    ∙ reverse-append (map plain_entry (take place entries)) (map plain_entry (drop place entries))

-- the events before a place are orderly too
pub orderly_before : (entries : List Entry) (place : ℕ) → IsOrderly (plain_history entries)
    → IsOrderly (plain_history (take place entries))
orderly_before entries place orderly =
    earlier_orderly (plain_history (drop place entries)) (plain_history (take place entries))
    (subst IsOrderly (cut_at entries place) orderly)

-- the history of the entries before a place has as many as the place says
taken_length : (entries : List Entry) (place : ℕ) → place < length entries
    → length (plain_history (take place entries)) ≡ place
taken_length entries place inside =
    length-reverse (map plain_entry (take place entries))
    ∙ length-map (take place entries) plain_entry
    ∙ length-take-le place entries (omega (arith, inside))

-- the entries from a place on are the one at the place and those behind it
cut_here : (entries : List Entry) (place : ℕ) (entry : Entry) → place < length entries
    → entry ≡ get_or entries place entry
    → drop place entries ≡ entry ∷ drop (suc place) entries
cut_here entries place entry inside is =
    drop-cons entries place entry inside ∙ ap (λ found. found ∷ drop (suc place) entries) (sym is)

-- the entry's answer is wrong
pub stops_here : (entries : List Entry) (place : ℕ) (entry : Entry) (says : Answer) → place < length entries
    → entry ≡ get_or entries place entry
    → Some says
    ≡ (if same_answer entry.answer (answer_of (plain_history (take place entries)) (plain_event entry.event)) then None
    else Some (answer_of (plain_history (take place entries)) (plain_event entry.event)))
    → Wrong place says ≡ wrong_after (plain_history (take place entries)) (map plain_entry (drop place entries))
stops_here entries place entry says inside is wrong =
    sym (ap (λ rest. wrong_after (plain_history (take place entries)) (map plain_entry rest))
    (cut_here entries place entry inside is)
    ∙ by (same_answer entry.answer right) wrong)
  where
    right : Answer
    right = answer_of (plain_history (take place entries)) (plain_event entry.event)

    by : (same : Bool) → Some says ≡ (if same then None else Some right)
        → (if same then wrong_after (plain_entry entry ∷ plain_history (take place entries))
        (map plain_entry (drop (suc place) entries))
        else Wrong (length (plain_history (take place entries))) right)
        ≡ Wrong place says
    by true is = absurd cc
    by false is =
        let own : right ≡ says = cc in
        ap (λ n. Wrong n right) (taken_length entries place inside) ∙ ap (Wrong place) own

-- the history of the entries up to a place is the entry there and then the history before it
one_later : (entries : List Entry) (place : ℕ) (entry : Entry) → place < length entries
    → entry ≡ get_or entries place entry
    → plain_history (take (suc place) entries) ≡ plain_entry entry ∷ plain_history (take place entries)
one_later entries place entry inside is =
    ap plain_history (take-suc entries place entry inside ∙ ap (λ found. take place entries ++ found ∷ []) (sym is))
    ∙ ap reverse (map-append plain_entry (take place entries) (entry ∷ []))
    ∙ reverse-append (map plain_entry (take place entries)) (plain_entry entry ∷ [])

-- the event at a place is as a line says it
pub orderly_at : (entries : List Entry) (place : ℕ) (entry : Entry) → IsOrderly (plain_history entries)
    → place < length entries → entry ≡ get_or entries place entry → is_orderly (plain_event entry.event) ≡ true
orderly_at entries place entry orderly inside is =
    (subst IsOrderly (one_later entries place entry inside is) (orderly_before entries (suc place) orderly)).0

-- the entry's answer is right
pub goes_on : (entries : List Entry) (place next : ℕ) (entry : Entry) → next ≡ suc place → place < length entries
    → entry ≡ get_or entries place entry
    → None
    ≡ (if same_answer entry.answer (answer_of (plain_history (take place entries)) (plain_event entry.event)) then None
    else Some (answer_of (plain_history (take place entries)) (plain_event entry.event)))
    → wrong_after (plain_history (take next entries)) (map plain_entry (drop next entries))
    ≡ wrong_after (plain_history (take place entries)) (map plain_entry (drop place entries))
goes_on entries place next entry after inside is right =
    ap (λ n. wrong_after (plain_history (take n entries)) (map plain_entry (drop n entries))) after
    ∙ ap (λ history. wrong_after history (map plain_entry (drop (suc place) entries)))
    (one_later entries place entry inside is)
    ∙ sym (ap (λ rest. wrong_after (plain_history (take place entries)) (map plain_entry rest))
    (cut_here entries place entry inside is)
    ∙ by (same_answer entry.answer (answer_of (plain_history (take place entries)) (plain_event entry.event))) right)
  where
    by : (same : Bool)
        → None ≡ (if same then None else Some
        (answer_of (plain_history (take place entries)) (plain_event entry.event)))
        → (if same then wrong_after (plain_entry entry ∷ plain_history (take place entries))
        (map plain_entry (drop (suc place) entries))
        else Wrong (length (plain_history (take place entries)))
        (answer_of (plain_history (take place entries)) (plain_event entry.event)))
        ≡ wrong_after (plain_entry entry ∷ plain_history (take place entries))
        (map plain_entry (drop (suc place) entries))
    by true is = refl
    by false is = absurd cc
