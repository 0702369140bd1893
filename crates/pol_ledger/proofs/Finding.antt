-- Which item a text is that of.
use Rattle.std.proofs.Common.{◌≡◌, ◌≢◌, ◌+◌, ◌≤◌, ◌<◌, ℕ, Bool, true, false, List, ◌++◌, length, Option, Some, None, is_some, refl, sym, ap, subst, take, drop, take-append-drop, ◌∙◌, arith}
use Rattle.std.specs.Prelude.{nat_le, not}
use Rattle.std.specs.Str.{bytes_eq}
use Rattle.std.proofs.lemmas.Bool.{le-leb, leb-true}
use Rattle.std.proofs.lemmas.List.{length-map, length-take-le}
use Rattle.std.proofs.lemmas.Slice.Eq.{bytes_eq-Decides}
use Rattle.pol_core.specs.Plants.{PlainPlant, plant_history}
use Rattle.pol_history.specs.Runs.{events_of}
use Rattle.pol_ledger.specs.Bodies.{length-sum, one_body, same_front}
use Rattle.pol_ledger.specs.Items.{IsInForm, PlainItem, asked, body_of, sum_of}
use Rattle.pol_ledger.specs.Ledgers.{IsLedger, all_asked, begun_by}
use Rattle.pol_ledger.specs.Sums.{sum_after}
use Rattle.pol_ledger.specs.Work.{HasPlace, IsTextOf, items_of}
use Rattle.pol_ledger.proofs.Taking.{length-asked, many_events, text_long}

-- a text with fewer bytes than a sum has is that of no item
pub too_short : (before : List PlainItem) (text : List ℕ) → length text < 32 → (item : PlainItem) →
    IsTextOf before item text → ⊥
too_short before text short item is =
    let long = text_long before item text is.written in absurd (omega (arith, short, long))

-- the sum and the body of a text
pub cut_text : (before : List PlainItem) (text sum body : List ℕ) → text ≡ sum ++ body → length sum ≡ 32 →
    (item : PlainItem) → IsTextOf before item text →
    (sum ≡ sum_after (sum_of before) (body_of item)) × (body ≡ body_of item)
cut_text before text sum body cut long item is =
    same_front sum (sum_after (sum_of before) (body_of item)) body (body_of item)
    (long ∙ sym (length-sum (sum_of before) (body_of item))) (sym cut ∙ is.written)

-- one whose sum doesn't go on from the sum before is that of no item
pub not_sealed : (before : List PlainItem) (text sum body last : List ℕ) → text ≡ sum ++ body → length sum ≡ 32 →
    last ≡ sum_of before → sum_after last body ≢ sum → (item : PlainItem) → IsTextOf before item text → ⊥
not_sealed before text sum body last cut long last_is other item is =
    let parts = cut_text before text sum body cut long item is in
    other (ap (λ (l : List ℕ). sum_after l body) last_is ∙ ap (sum_after (sum_of before)) parts.1 ∙ sym parts.0)

-- one whose body is that of no item is that of no item
pub no_body : (before : List PlainItem) (text sum body : List ℕ) → text ≡ sum ++ body → length sum ≡ 32 →
    ((item : PlainItem) → IsInForm item → body ≡ body_of item → ⊥) → (item : PlainItem) → IsTextOf before item text → ⊥
no_body before text sum body cut long none item is =
    none item is.form (cut_text before text sum body cut long item is).1

-- one whose body is that of an item which has its place is that of this item
pub found_item : (before : List PlainItem) (text sum body last : List ℕ) (item : PlainItem) → text ≡ sum ++ body →
    last ≡ sum_of before → sum_after last body ≡ sum → body ≡ body_of item → IsInForm item → HasPlace before item →
    IsTextOf before item text
found_item before text sum body last item cut last_is sealed body_is form place = record {
  written =
      cut
      ∙ ap (λ (s : List ℕ). s ++ body) (sym sealed)
      ∙ ap (λ (l : List ℕ). sum_after l body ++ body) last_is
      ∙ ap (λ (b : List ℕ). sum_after (sum_of before) b ++ b) body_is;
  form = form;
  place = place;
}

-- one whose item has no place is that of no item
pub no_place : (before : List PlainItem) (text sum body : List ℕ) (found : PlainItem) → text ≡ sum ++ body →
    length sum ≡ 32 → body ≡ body_of found → IsInForm found → (HasPlace before found → ⊥) → (item : PlainItem) →
    IsTextOf before item text → ⊥
no_place before text sum body found cut long body_is form none item is =
    let same : item ≡ found = one_body item found is.form form
    (sym (cut_text before text sum body cut long item is).1 ∙ body_is) in
    none (subst (HasPlace before) same is.place)

-- a ledger that was begun has one item more than names
pub length-items : (plant : PlainPlant) (names : List (Option (List ℕ))) (build sum : Option (List ℕ)) →
    IsLedger (record { plant = plant; names = names; build = build }) sum → is_some build ≡ true →
    length (items_of (begun_by build (all_asked names (events_of (plant_history plant))))) ≡ length names + 1
length-items plant names None sum is begun = absurd cc
length-items plant names (Some build) sum is begun =
    let so_far = all_asked names (events_of (plant_history plant)) in
    let asks = length-map so_far asked in
    let many = length-asked names (events_of (plant_history plant)) (many_events plant names is.many) in
    omega (arith, asks, many)

-- so it is full where there are as many names as a history has entries
pub full_names : (names items most : ℕ) → items ≡ names + 1 →
    (nat_le most names ≡ true → most + 1 ≤ items) × (most + 1 ≤ items → nat_le most names ≡ true)
full_names names items most is = (
  λ full. let many = leb-true most names full in omega (arith, many, is),
  λ full. le-leb most names (omega (arith, full, is)),
)

-- the front of a text and what stands behind it are the text
pub cut_of : (text sum body : List ℕ) → sum ≡ take 32 text → body ≡ drop 32 text → text ≡ sum ++ body
cut_of text sum body front back = rw (front, back) (sym (take-append-drop 32 text))

-- and the front has so many bytes
pub long_of : (text sum body : List ℕ) → sum ≡ take 32 text → length body + 32 ≡ length text → length sum ≡ 32
long_of text sum body front whole = rw front (length-take-le 32 text (omega (arith, whole)))

-- nothing is true and false
pub not_both : (test : Bool) → test ≡ true → test ≡ false → ⊥
not_both true is isnt = cc
not_both false is isnt = cc

-- bytes that compare unlike aren't the same
pub unlike : (xs ys : List ℕ) (test : Bool) → test ≡ not (bytes_eq xs ys) → test ≡ true → xs ≢ ys
unlike xs ys test is told same =
    let like : bytes_eq xs ys ≡ true = (bytes_eq-Decides xs ys).1 same in
    absurd (not_both test told (is ∙ ap not like))

-- and those that don't are
pub alike : (xs ys : List ℕ) (test : Bool) → test ≡ not (bytes_eq xs ys) → test ≡ false → xs ≡ ys
alike xs ys test is told = by_test (bytes_eq xs ys) refl
  where
    by_test : (like : Bool) → bytes_eq xs ys ≡ like → xs ≡ ys
    by_test true like = (bytes_eq-Decides xs ys).0 like
    by_test false like = absurd (not_both test (is ∙ ap not like) told)
