-- Counts over a history, and over the entries that a plant keeps.
use Rattle.std.proofs.Common.{ℕ, ◌+◌, ◌≡◌, ◌≤◌, Bool, List, [], ◌∷◌, ◌++◌, cond, length, take, map, reverse, refl, sym}
use Rattle.std.proofs.Common.{ap, ◌∙◌, arith}
use Rattle.std.specs.List.{count_by}
use Rattle.std.proofs.lemmas.List.{length-map, length-reverse, reverse-append, take_all}
use Rattle.std.proofs.lemmas.List.Sums.{sum_by-append}
use Rattle.mtp_desc.proofs.Views.{count_map}
use Rattle.pol_events.specs.Events.{plain_entry, plain_history}
use Rattle.pol_events.specs.declared.answer.Answer.{Answer}
use Rattle.pol_events.specs.declared.event.Entry.{Entry}
use Rattle.pol_demo.specs.Summary.{is_completed, is_refused, summary_of}

-- as many pass from the last one on
count_reversed : {X : Type 0} (test : X → Bool) (xs : List X) → count_by test (reverse xs) ≡ count_by test xs
count_reversed test [] = refl
count_reversed test (x ∷ xs) =
    let others = count_reversed test xs in
    let one : ℕ = count_by test (x ∷ []) in
    let turned : count_by test (reverse (x ∷ xs)) ≡ count_by test (reverse xs ++ x ∷ []) =
    ap (count_by test) (reverse-append (x ∷ []) xs) in
    let behind : count_by test (reverse xs ++ x ∷ []) ≡ count_by test (reverse xs) + one =
    sum_by-append (λ each. cond (test each) 1 0) (reverse xs) (x ∷ []) in
    let before : count_by test (x ∷ xs) ≡ one + count_by test xs =
    sum_by-append (λ each. cond (test each) 1 0) (x ∷ []) xs in
    turned ∙ (behind ∙ (ap (λ count. count + one) others ∙ (omega arith ∙ sym before)))

-- as many answers pass in the history as in the entries
pub count_viewed : (test : Answer → Bool) (entries : List Entry) →
    count_by (λ entry. test entry.answer) entries ≡ count_by (λ entry. test entry.answer) (plain_history entries)
count_viewed test entries =
    sym (count_reversed (λ entry. test entry.answer) (map plain_entry entries)
    ∙ count_map plain_entry (λ entry. test entry.answer) entries)

-- the history has as many
pub length_viewed : (entries : List Entry) → length entries ≡ length (plain_history entries)
length_viewed entries = sym (length-reverse (map plain_entry entries) ∙ length-map entries plain_entry)

-- what was counted of all entries is the summary of the history
pub summed_up : (entries : List Entry) (index closed refused : ℕ) → length entries ≤ index →
    closed ≡ count_by (λ entry. is_completed entry.answer) (take index entries) →
    refused ≡ count_by (λ entry. is_refused entry.answer) (take index entries) →
    record { answers = length entries; closed = closed; refused = refused } ≡ summary_of (plain_history entries)
summed_up entries index closed refused all closed_is refused_is =
    let history = plain_history entries in
    let whole = take_all index entries all in
    let closes : closed ≡ count_by (λ entry. is_completed entry.answer) history =
    closed_is ∙ (ap (count_by (λ entry. is_completed entry.answer)) whole ∙ count_viewed is_completed entries) in
    let refuses : refused ≡ count_by (λ entry. is_refused entry.answer) history =
    refused_is ∙ (ap (count_by (λ entry. is_refused entry.answer)) whole ∙ count_viewed is_refused entries) in
    rw (closes, refuses, length_viewed entries) refl
