-- A sum is that of one list of items, or two messages have one SHA-256.
use Rattle.std.proofs.Common.{◌≡◌, ◌⊎◌, append_assoc, inl, inr, ◌+◌, ℕ, Bool, true, false, List, [], ◌∷◌, ◌++◌, length, IsTrue, refl, sym, ap, ◌∙◌, arith}
use Rattle.std.specs.Prelude.{reverse}
use Rattle.std.specs.List.{list_all}
use Rattle.std.specs.Str.{bytes_eq}
use Rattle.std.proofs.lemmas.Bool.{and_parts}
use Rattle.std.proofs.lemmas.List.{append-nil, length_push, reverse-append, reverse-reverse, same_from_push}
use Rattle.std.proofs.lemmas.Slice.Eq.{bytes_eq-Decides}
use Rattle.sha2.specs.Sha256.{sha256}
use Rattle.pol_kept.specs.Stands.{AreTextsOf}
use Rattle.pol_kept.proofs.Texts.{texts-push}
use Rattle.pol_ledger.proofs.Taking.{sum_of_text}
use Rattle.pol_ledger.specs.Bodies.{length-sum, one_body, same_front, same_tail}
use Rattle.pol_ledger.specs.Builds.{is_build, is_printable}
use Rattle.pol_ledger.specs.Items.{IsInForm, PlainItem, asked, body_of, header, sum_from, sum_of, who_bytes}
use Rattle.pol_ledger.specs.Sums.{sum_after}
use Rattle.pol_ledger.specs.Told.{HasCollision, RecordsFollowOne, SumsTellItems}
use Rattle.pol_ledger.specs.Work.{HasPlace, ledger_work}
use Rattle.pol_record.specs.Texts.{event_text}

-- ---- items, the newest first

-- their sum
abbrev sum_back : List PlainItem → List ℕ
sum_back [] = []
sum_back (item ∷ before) = sum_after (sum_back before) (body_of item)

-- a header is the first one, and an event isn't
abbrev HasPlaceBack : List PlainItem → PlainItem → Type 0
HasPlaceBack [] (header build) = Unit {0}
HasPlaceBack [] (asked one) = ⊥
HasPlaceBack (last ∷ before) (header build) = ⊥
HasPlaceBack (last ∷ before) (asked one) = Unit {0}

-- each can be read from its body and has its place
abbrev AreInForm : List PlainItem → Type 0
AreInForm [] = Unit {0}
AreInForm (item ∷ before) = IsInForm item × HasPlaceBack before item × AreInForm before

-- one list behind another one, which is turned
abbrev turned_onto : List PlainItem → List PlainItem → List PlainItem
turned_onto [] back = back
turned_onto (item ∷ items) back = turned_onto items (item ∷ back)

-- it is the list turned
turned_is : (items back : List PlainItem) → turned_onto items back ≡ reverse items ++ back
turned_is [] back = refl
turned_is (item ∷ items) back =
    turned_is items (item ∷ back)
    ∙ (sym (append_assoc (reverse items) (item ∷ []) back)
    ∙ ap (λ (l : List PlainItem). l ++ back) (sym (reverse-append (item ∷ []) items)))

-- which lists turn into one are one
turned_one : (xs ys : List PlainItem) → turned_onto xs [] ≡ turned_onto ys [] → xs ≡ ys
turned_one xs ys same =
    sym (reverse-reverse xs)
    ∙ ap reverse
    (sym (append-nil (reverse xs)) ∙ sym (turned_is xs []) ∙ same ∙ turned_is ys [] ∙ append-nil (reverse ys))
    ∙ reverse-reverse ys

-- the sum is the same
sum_turned : (items back : List PlainItem) → sum_from (sum_back back) items ≡ sum_back (turned_onto items back)
sum_turned [] back = refl
sum_turned (item ∷ items) back = sum_turned items (item ∷ back)

-- an item has its place behind as many
place_back : (before back : List PlainItem) (item : PlainItem) → length before ≡ length back → HasPlace before item →
    HasPlaceBack back item
place_back [] [] (header build) long place = tt
place_back [] [] (asked one) long place = absurd place
place_back [] (last ∷ back) item long place = absurd (omega (arith, long))
place_back (first ∷ before) [] item long place = absurd (omega (arith, long))
place_back (first ∷ before) (last ∷ back) (header build) long place = absurd place
place_back (first ∷ before) (last ∷ back) (asked one) long place = tt

-- items with texts are in form
in_form : (before items : List PlainItem) (texts : List (List ℕ)) (back : List PlainItem) →
    length before ≡ length back → AreInForm back → AreTextsOf ledger_work before items texts →
    AreInForm (turned_onto items back)
in_form before [] [] back long form are = form
in_form before [] (text ∷ texts) back long form are = absurd are
in_form before (item ∷ items) [] back long form are = absurd are
in_form before (item ∷ items) (text ∷ texts) back long form are =
    in_form (before ++ item ∷ []) items texts (item ∷ back)
    (length_push before item ∙ ap (λ (n : ℕ). n + 1) long ∙ omega arith)
    (are.0.form, place_back before back item long are.0.place, form) are.1

-- ---- one sum

-- each byte behind others that all pass passes
passes_behind : (front rest : List ℕ) (byte : ℕ) → list_all is_printable (front ++ byte ∷ rest) ≡ true →
    is_printable byte ≡ true
passes_behind [] rest byte all = (and_parts _ _ all).0
passes_behind (first ∷ front) rest byte all = passes_behind front rest byte (and_parts _ _ all).1

-- a header's body isn't a sum with an event's body behind it
not_behind : (build sum rest : List ℕ) → IsTrue (is_build build) → length sum ≡ 32 → 0 ∷ 1 ∷ build ≡ sum ++ 1 ∷ rest → ⊥
not_behind build [] rest is long same = absurd (omega (arith, long))
not_behind build (x ∷ []) rest is long same = absurd (omega (arith, long))
not_behind build (x ∷ y ∷ sum) rest is long same =
    let tail : build ≡ sum ++ 1 ∷ rest =
    same_tail 1 y build (sum ++ 1 ∷ rest) (same_tail 0 x (1 ∷ build) (y ∷ sum ++ 1 ∷ rest) same) in
    no_both (passes_behind sum rest 1 (ap (list_all is_printable) (sym tail) ∙ (and_parts _ _ is).1))
  where
    no_both : false ≡ true → ⊥
    no_both is = cc

-- what was sealed is the same, or two messages have one sum
same_sealed : (one other : List ℕ) → sha256 one ≡ sha256 other → (one ≡ other) ⊎ HasCollision
same_sealed one other same = by_test (bytes_eq one other) refl
  where
    by_test : (like : Bool) → bytes_eq one other ≡ like → (one ≡ other) ⊎ HasCollision
    by_test true like = inl ((bytes_eq-Decides one other).0 like)
    by_test false like = inr (record {
      one = one;
      other = other;
      differ = λ is. no_both ((bytes_eq-Decides one other).1 is);
      same = same;
    })
      where
        no_both : bytes_eq one other ≡ true → ⊥
        no_both is = cc

-- one item and those before it
same_more : (x y : PlainItem) (xs ys : List PlainItem) → x ≡ y → (xs ≡ ys) ⊎ HasCollision →
    (x ∷ xs ≡ y ∷ ys) ⊎ HasCollision
same_more x y xs ys same (inl rest) = inl cc
same_more x y xs ys same (inr two) = inr two

-- where the sum before is that of one list of items, so is the sum of one item more
one_before : (xs ys : List PlainItem) (x y : PlainItem) → AreInForm (x ∷ xs) → AreInForm (y ∷ ys) →
    (sum_back xs ≡ sum_back ys → (xs ≡ ys) ⊎ HasCollision) →
    (sum_back xs ++ body_of x ≡ sum_back ys ++ body_of y) ⊎ HasCollision → (x ∷ xs ≡ y ∷ ys) ⊎ HasCollision
one_before xs ys x y form form' next (inr two) = inr two
one_before [] [] x y form form' next (inl same) =
    inl (ap (λ (z : PlainItem). z ∷ []) (one_body x y form.0 form'.0 same))
one_before [] (last ∷ ys) (header build) (asked one) form form' next (inl same) =
    absurd (not_behind build (sum_back (last ∷ ys)) (who_bytes one.by ++ event_text one.event) form.0
    (length-sum (sum_back ys) (body_of last)) same)
one_before [] (last ∷ ys) (asked other) y form form' next (inl same) = absurd form.1
one_before [] (last ∷ ys) (header build) (header other) form form' next (inl same) = absurd form'.1
one_before (last ∷ xs) [] (asked one) (header build) form form' next (inl same) =
    absurd (not_behind build (sum_back (last ∷ xs)) (who_bytes one.by ++ event_text one.event) form'.0
    (length-sum (sum_back xs) (body_of last)) (sym same))
one_before (last ∷ xs) [] x (asked other) form form' next (inl same) = absurd form'.1
one_before (last ∷ xs) [] (header build) (header other) form form' next (inl same) = absurd form.1
one_before (last ∷ xs) (last' ∷ ys) x y form form' next (inl same) =
    let parts = same_front (sum_back (last ∷ xs)) (sum_back (last' ∷ ys)) (body_of x) (body_of y)
    (length-sum (sum_back xs) (body_of last) ∙ sym (length-sum (sum_back ys) (body_of last'))) same in
    same_more x y (last ∷ xs) (last' ∷ ys) (one_body x y form.0 form'.0 parts.1)
    (next parts.0)

-- a sum is that of one list of items
one_sum : (xs ys : List PlainItem) → AreInForm xs → AreInForm ys → sum_back xs ≡ sum_back ys →
    (xs ≡ ys) ⊎ HasCollision
one_sum [] [] form form' same = inl refl
one_sum [] (y ∷ ys) form form' same =
    let long = length-sum (sum_back ys) (body_of y) in absurd (omega (arith, ap length same, long))
one_sum (x ∷ xs) [] form form' same =
    let long = length-sum (sum_back xs) (body_of x) in absurd (omega (arith, ap length same, long))
one_sum (x ∷ xs) (y ∷ ys) form form' same =
    one_before xs ys x y form form' (one_sum xs ys form.2 form'.2)
    (same_sealed (sum_back xs ++ body_of x) (sum_back ys ++ body_of y) same)

-- where lists of items with texts have one sum, they are the same
texts_tell : (items others : List PlainItem) (texts more : List (List ℕ)) → AreTextsOf ledger_work [] items texts →
    AreTextsOf ledger_work [] others more → sum_of items ≡ sum_of others → (items ≡ others) ⊎ HasCollision
texts_tell items others texts more are are' same = by_sum (one_sum (turned_onto items []) (turned_onto others [])
    (in_form [] items texts [] refl tt are) (in_form [] others more [] refl tt are')
    (sym (sum_turned items []) ∙ same ∙ sum_turned others []))
  where
    by_sum : (turned_onto items [] ≡ turned_onto others []) ⊎ HasCollision → (items ≡ others) ⊎ HasCollision
    by_sum (inl one) = inl (turned_one items others one)
    by_sum (inr two) = inr two

-- so where two images stand for ledgers with one sum, they stand for the same items
pub sums_tell : SumsTellItems
sums_tell image other items others stands stands' same =
    texts_tell items others stands.texts stands'.texts stands.are stands'.are same

-- and where one record follows both
pub follows_one : RecordsFollowOne
follows_one image other items others stands stands' one last text is is' =
    by_items (texts_tell (items ++ one ∷ []) (others ++ last ∷ []) (stands.texts ++ text ∷ [])
    (stands'.texts ++ text ∷ []) (texts-push ledger_work [] items stands.texts one text stands.are is)
    (texts-push ledger_work [] others stands'.texts last text stands'.are is')
    (sym (sum_of_text items one text is.written) ∙ sum_of_text others last text is'.written))
  where
    by_items : (items ++ one ∷ [] ≡ others ++ last ∷ []) ⊎ HasCollision → (items ≡ others) ⊎ HasCollision
    by_items (inl same) = inl (same_from_push items others one last same).0
    by_items (inr two) = inr two
