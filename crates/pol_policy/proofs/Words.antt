-- The places of a set, as bits of its four words.
use Rattle.std.proofs.Common.{ℕ, zero, suc, ◌≡◌, ◌≢◌, ◌+◌, ◌*◌, ◌/◌, ◌%◌, ◌<◌, ◌^◌, ◌==◌, ◌||◌, ◌&&◌, Bool, true, false, List, [], ◌∷◌, length, get_or, min, max, refl, sym, arith, bit_or, bit_and, w64, ⊎_elim}
use Rattle.std.specs.Int.{bit_at, trailing_zeros}
use Rattle.std.proofs.Math.ListN.{set}
use Rattle.std.proofs.lemmas.Bool.{cases_eq, eq-eqb, ne_eqb}
use Rattle.std.proofs.lemmas.List.{get_or_past, get_or-set_same, get_or-set_other}
use Rattle.std.proofs.lemmas.Nat.Bits.{bit_at-lt, bit_at_and, bit_at_or, bit_at_set_same, bit_at_set_other, bit_at-trailing_zeros}

-- a place is a bit of a word
abbrev pub word_has : List ℕ → ℕ → Bool
word_has words place = bit_at (get_or words (place / 64) 0) (place % 64) == 1

-- ---- two sets

-- the greater of two bits is one where one of them is
either : (x y : ℕ) → x < 2 → y < 2 → (max x y == 1) ≡ ((x == 1) || (y == 1))
either zero zero a b = refl
either zero (suc zero) a b = refl
-- the greater of two bits is one where one of them is
either (suc zero) zero a b = refl
-- the greater of two bits is one where one of them is
either (suc zero) (suc zero) a b = refl
-- the greater of two bits is one where one of them is
either (suc (suc x)) y a b = absurd (omega arith)
either x (suc (suc y)) a b = absurd (omega arith)

-- the lesser of two bits is one where both are
both : (x y : ℕ) → x < 2 → y < 2 → (min x y == 1) ≡ ((x == 1) && (y == 1))
both zero zero a b = refl
both zero (suc zero) a b = refl
-- the lesser of two bits is one where both are
both (suc zero) zero a b = refl
-- the lesser of two bits is one where both are
both (suc zero) (suc zero) a b = refl
-- the lesser of two bits is one where both are
both (suc (suc x)) y a b = absurd (omega arith)
both x (suc (suc y)) a b = absurd (omega arith)

-- four words made of the words of two sets, one by one
abbrev paired : (ℕ → ℕ → ℕ) → List ℕ → List ℕ → List ℕ
paired op xs ys =
    op (get_or xs 0 0) (get_or ys 0 0) ∷ op (get_or xs 1 0) (get_or ys 1 0)
    ∷ op (get_or xs 2 0) (get_or ys 2 0) ∷ op (get_or xs 3 0) (get_or ys 3 0) ∷ []

-- each word of the pair is made of the words at its place
each_word : (op : ℕ → ℕ → ℕ) (xs ys : List ℕ) → op 0 0 ≡ 0 → length xs ≡ 4 → length ys ≡ 4 → (place : ℕ)
    → get_or (paired op xs ys) place 0 ≡ op (get_or xs place 0) (get_or ys place 0)
each_word op xs ys none l m zero = refl
each_word op xs ys none l m (suc zero) = refl
each_word op xs ys none l m (suc (suc zero)) = refl
each_word op xs ys none l m (suc (suc (suc zero))) = refl
each_word op xs ys none l m (suc (suc (suc (suc place)))) =
    let past = get_or_past xs (suc (suc (suc (suc place)))) 0 (omega arith) in
    let over = get_or_past ys (suc (suc (suc (suc place)))) 0 (omega arith) in
    rw (past, over) (sym none)

-- the places of either set
pub union_has : (xs ys : List ℕ) → length xs ≡ 4 → length ys ≡ 4 → (place : ℕ)
    → word_has (paired bit_or xs ys) place ≡ (word_has xs place || word_has ys place)
union_has xs ys l m place =
    let x = get_or xs (place / 64) 0 in
    let y = get_or ys (place / 64) 0 in
    rw (each_word bit_or xs ys refl l m (place / 64), bit_at_or x y (place % 64))
    (either (bit_at x (place % 64)) (bit_at y (place % 64)) (bit_at-lt x (place % 64)) (bit_at-lt y (place % 64)))

-- the places of both sets
pub intersection_has : (xs ys : List ℕ) → length xs ≡ 4 → length ys ≡ 4 → (place : ℕ)
    → word_has (paired bit_and xs ys) place ≡ (word_has xs place && word_has ys place)
intersection_has xs ys l m place =
    let x = get_or xs (place / 64) 0 in
    let y = get_or ys (place / 64) 0 in
    rw (each_word bit_and xs ys refl l m (place / 64), bit_at_and x y (place % 64))
    (both (bit_at x (place % 64)) (bit_at y (place % 64)) (bit_at-lt x (place % 64)) (bit_at-lt y (place % 64)))

-- ---- one more place

-- the words with the bit of a place
abbrev with_bit : List ℕ → ℕ → List ℕ
with_bit words place =
    set words (place / 64)
    (bit_or (get_or words (place / 64) 0) (1 * 2 ^ (place % 64) % 18446744073709551616))

-- the place that was added is there
same_place : (words : List ℕ) (place : ℕ) → length words ≡ 4 → place < 256
    → word_has (with_bit words place) place ≡ true
same_place words place l inside =
    rw (
      get_or-set_same words (place / 64) (bit_or (get_or words (place / 64) 0) (1 * 2 ^
          (place % 64) % 18446744073709551616)) 0 (omega arith),
      bit_at_set_same w64 (get_or words (place / 64) 0) (place % 64) (omega arith),
    ) refl

-- every other place is there where it was
other_place : (words : List ℕ) (place other : ℕ) → length words ≡ 4 → place < 256 → other ≢ place
    → word_has (with_bit words place) other ≡ word_has words other
other_place words place other l inside apart =
    ⊎_elim
    (λ (same : other / 64 ≡ place / 64).
    let apart_in : other % 64 ≢ place % 64 = λ e. apart (omega arith) in
    rw (
      same,
      get_or-set_same words (place / 64) (bit_or (get_or words (place / 64) 0) (1 * 2 ^
          (place % 64) % 18446744073709551616)) 0 (omega arith),
      bit_at_set_other w64 (get_or words (place / 64) 0) (place % 64) (omega arith) (other % 64) apart_in,
    ) refl)
    (λ differs.
    rw (get_or-set_other words (place / 64) (other / 64) (bit_or (get_or words (place / 64) 0) (1 * 2 ^
    (place % 64) % 18446744073709551616)) 0 differs) refl)
    (cases_eq (other / 64) (place / 64))

-- one place more
pub insert_has : (words : List ℕ) (place : ℕ) → length words ≡ 4 → place < 256 → (other : ℕ)
    → word_has (with_bit words place) other ≡ ((other == place) || word_has words other)
insert_has words place l inside other =
    ⊎_elim
    (λ (same : other ≡ place). rw (same, same_place words place l inside, eq-eqb place place refl) refl)
    (λ apart. rw (other_place words place other l inside apart, ne_eqb other place apart) refl)
    (cases_eq other place)

-- ---- the first place

-- no place below this one
abbrev pub NoneBelow : List ℕ → ℕ → Type 0
NoneBelow words limit = (place : ℕ) → place < limit → word_has words place ≡ false

-- a word of some place gives the first
pub first_in_word : (words : List ℕ) (i : ℕ) → 0 < get_or words i 0 → get_or words i 0 < 18446744073709551616
    → NoneBelow words (64 * i)
    → (word_has words (64 * i + trailing_zeros w64 (get_or words i 0)) ≡ true)
    × NoneBelow words (64 * i + trailing_zeros w64 (get_or words i 0))
first_in_word words i some fits below =
    let found = bit_at-trailing_zeros w64 (get_or words i 0) some fits in
    let t = trailing_zeros w64 (get_or words i 0) in
    let inside : t < 64 = found.0 in
    let quotient : (64 * i + t) / 64 ≡ i = omega arith in
    let rest : (64 * i + t) % 64 ≡ t = omega arith in (
      rw (quotient, rest, found.1) refl,
      λ place before.
          ⊎_elim
          (λ (here : place / 64 ≡ i). rw (here, found.2 (place % 64) (omega arith)) refl)
          (λ elsewhere. below place (omega arith))
          (cases_eq (place / 64) i),
    )
