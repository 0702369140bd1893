-- Bits of a set of places.
use Rattle.std.proofs.Common.{◌≡◌, ◌≢◌, ℕ, ◌-◌, ◌*◌, ◌/◌, ◌%◌, ◌^◌, ◌<◌, ◌≤◌, ◌==◌, true, false, ◌||◌, min, refl, arith}
use Rattle.std.proofs.Common.{sym, ◌∙◌, ap, ⊎_elim}
use Rattle.std.specs.Int.{bit_at, trailing_zeros, w64}
use Rattle.std.specs.Prelude.{bit_and, bit_or}
use Rattle.std.proofs.lemmas.Bool.Decides.{nat_tests}
use Rattle.std.proofs.lemmas.Bool.{cases_Bool, cases_eq, cases_lt}
use Rattle.std.proofs.lemmas.Nat.{and_le_l, and_le_r}
use Rattle.std.proofs.lemmas.Nat.Bits.{shr_and_one, bit_at_set_same, bit_at_set_other, bit_at_and, bit_at_not}
use Rattle.std.proofs.lemmas.Nat.Bits.{bit_at-lt, bit_at-zero, bit_at-trailing_zeros, bit_at_above, bit_at_ones}
use Rattle.std.proofs.lemmas.Nat.Bits.{same_from_bits}
use Rattle.pol_match.specs.Places.{is_in, has_all, IsWithin, IsFirstBeyond}

-- what the test by a shift says
pub has_by_shift : (set place : ℕ) → (bit_and (set / 2 ^ place) 1 == 1) ≡ is_in set place
unfolding is_in
has_by_shift set place = rw shr_and_one

-- a place whose bit is 1 is in the set
pub one_in : (set place : ℕ) → bit_at set place ≡ 1 → is_in set place ≡ true
unfolding is_in
one_in set place equal = rw equal refl

-- a place whose bit is 0 isn't in the set
pub zero_in : (set place : ℕ) → bit_at set place ≡ 0 → is_in set place ≡ false
unfolding is_in
zero_in set place equal = rw equal refl

-- the bit of a place in the set is 1
pub in_one : (set place : ℕ) → is_in set place ≡ true → bit_at set place ≡ 1
unfolding is_in
in_one set place there = grind (arith, nat_tests)

-- the bit of a place that isn't in the set is 0
pub in_zero : (set place : ℕ) → is_in set place ≡ false → bit_at set place ≡ 0
unfolding is_in
in_zero set place there = let two = bit_at-lt set place in grind (arith, nat_tests)

-- no place from 64 on is in a set
pub above : (set place : ℕ) → set < 2 ^ 64 → 64 ≤ place → is_in set place ≡ false
above set place small high = zero_in set place (bit_at_above set 64 place small high)

-- what is in a set is below 64
pub below : (set place : ℕ) → set < 2 ^ 64 → is_in set place ≡ true → place < 64
below set place small there =
    ⊎_elim
    (λ low. low)
    (λ high. let fails = above set place small high in cc)
    (cases_lt place 64)

-- a set that has only places below 64 is a number of 64 bits
pub small_where_below : (set : ℕ) → ((place : ℕ) → is_in set place ≡ true → place < 64) → set < 2 ^ 64
small_where_below set each_below =
    let low = and_le_r set (2 ^ 64 - 1) in
    let same : bit_and set (2 ^ 64 - 1) ≡ set = same_from_bits (bit_and set (2 ^ 64 - 1)) set (λ place.
    let both = bit_at_and set (2 ^ 64 - 1) place in
    ⊎_elim
    (λ lower. let bit = bit_at-lt set place in let one = bit_at_ones 64 place lower in grind (arith, both, bit, one))
    (λ high. ⊎_elim
    (λ holds. let lower = each_below place holds in absurd (omega arith))
    (λ fails. let bit = in_zero set place fails in grind (arith, both, bit))
    (cases_Bool (is_in set place)))
    (cases_lt place 64)) in
    omega (arith, low, same)

-- nothing is in the empty set
pub nothing_in : (place : ℕ) → is_in 0 place ≡ false
nothing_in place = zero_in 0 place (bit_at-zero place)

-- the place that a bit was set for is in the set
more_here : (set place : ℕ) → place < 64 → is_in (bit_or set (1 * 2 ^ place % 2 ^ 64)) place ≡ true
more_here set place low = one_in (bit_or set (1 * 2 ^ place % 2 ^ 64)) place (bit_at_set_same w64 set place low)

-- each other place is as before
more_elsewhere : (set place each : ℕ) → place < 64 → each ≢ place
    → is_in (bit_or set (1 * 2 ^ place % 2 ^ 64)) each ≡ is_in set each
unfolding is_in
more_elsewhere set place each low apart = ap (λ bit. bit == 1) (bit_at_set_other w64 set place low each apart)

-- what is in a set with one more place
pub in_more : (set place each : ℕ) → place < 64
    → is_in (bit_or set (1 * 2 ^ place % 2 ^ 64)) each ≡ (each == place || is_in set each)
in_more set place each low =
    ⊎_elim
    (λ equal. let here = more_here set place low in
    let hit : (each == place) ≡ true = grind (arith, nat_tests) in
    let there : is_in (bit_or set (1 * 2 ^ place % 2 ^ 64)) each ≡ true = rw equal here in
    there ∙ sym (ap (λ answer. answer || is_in set each) hit))
    (λ apart. let there = more_elsewhere set place each low apart in
    let miss : (each == place) ≡ false = grind (arith, nat_tests) in
    there ∙ sym (ap (λ answer. answer || is_in set each) miss))
    (cases_eq each place)

-- what is in the one set and not in the other
pub in_rest : (set other each : ℕ) → other < 2 ^ 64 → each < 64
    → bit_at (bit_and set (2 ^ 64 - 1 - other)) each ≡ min (bit_at set each) (1 - bit_at other each)
in_rest set other each small low = bit_at_and set (2 ^ 64 - 1 - other) each
    ∙ ap (λ bit. min (bit_at set each) bit) (bit_at_not w64 other each small low)

-- nothing is left of a set that is within the other
pub within_by_rest : (set other : ℕ) → set < 2 ^ 64 → other < 2 ^ 64 → bit_and set (2 ^ 64 - 1 - other) ≡ 0
    → IsWithin set other
within_by_rest set other small small_other none place there =
    let low = below set place small there in
    let rest = in_rest set other place small_other low in
    let zero : bit_at (bit_and set (2 ^ 64 - 1 - other)) place ≡ 0 = rw none (bit_at-zero place) in
    ⊎_elim
    (λ holds. holds)
    (λ fails. let bit = in_one set place there in let other_bit = in_zero other place fails in
    absurd (grind (arith, bit, other_bit, rest, zero)))
    (cases_Bool (is_in other place))

-- a bit that is left is one of the set and none of the other
in_both : (set other each : ℕ) → other < 2 ^ 64 → each < 64 → bit_at (bit_and set (2 ^ 64 - 1 - other)) each ≡ 1
    → (bit_at set each ≡ 1) × (bit_at other each ≡ 0)
in_both set other each small low one =
    let equal = in_rest set other each small low in
    let bit = bit_at-lt set each in
    let other_bit = bit_at-lt other each in
    (grind (arith, equal, one, bit, other_bit), grind (arith, equal, one, bit, other_bit))

-- the lowest bit of what is left is the first place
pub first_by_rest : (set other : ℕ) → set < 2 ^ 64 → other < 2 ^ 64 → 0 < bit_and set (2 ^ 64 - 1 - other)
    → IsFirstBeyond set other (trailing_zeros w64 (bit_and set (2 ^ 64 - 1 - other)))
first_by_rest set other small small_other some =
    let rest = bit_and set (2 ^ 64 - 1 - other) in
    let less = and_le_l set (2 ^ 64 - 1 - other) in
    let lowest = bit_at-trailing_zeros w64 rest some (omega arith) in
    record {
      below = lowest.0;
      here = one_in set (trailing_zeros w64 rest) (in_both set other (trailing_zeros w64 rest) small_other lowest.0
          lowest.1).0;
      new = zero_in other (trailing_zeros w64 rest) (in_both set other (trailing_zeros w64 rest) small_other lowest.0
          lowest.1).1;
      first = λ each lower there. ⊎_elim
          (λ holds. holds)
          (λ fails. let bit = in_one set each there in
          let other_bit = in_zero other each fails in
          let equal = in_rest set other each small_other (omega arith) in
          let zero = lowest.2 each lower in
          absurd (grind (arith, bit, other_bit, equal, zero)))
          (cases_Bool (is_in other each));
    }

-- no bit is left of a set that is within the other
none_left : (set other place : ℕ) → set < 2 ^ 64 → other < 2 ^ 64 → IsWithin other set
    → bit_at (bit_and other (2 ^ 64 - 1 - set)) place ≡ 0
none_left set other place small small_other within =
    ⊎_elim
    (λ low. let rest = in_rest other set place small low in
    ⊎_elim
    (λ holds. let bit = in_one set place (within place holds) in grind (arith, rest, bit))
    (λ fails. let bit = in_zero other place fails in grind (arith, rest, bit))
    (cases_Bool (is_in other place)))
    (λ high. let less = and_le_l other (2 ^ 64 - 1 - set) in
    bit_at_above (bit_and other (2 ^ 64 - 1 - set)) 64 place (omega arith) high)
    (cases_lt place 64)

-- the test lets a set through that is within the other
pub test_from_within : (set other : ℕ) → other < 2 ^ 64 → IsWithin other set → has_all set other ≡ true
unfolding has_all
test_from_within set other small_other within =
    let zero : bit_and other (2 ^ 64 - 1 - set) ≡ 0 = ⊎_elim
    (λ small. same_from_bits (bit_and other (2 ^ 64 - 1 - set)) 0
    (λ place. none_left set other place small small_other within ∙ sym (bit_at-zero place)))
    (λ large. let less = and_le_r other (2 ^ 64 - 1 - set) in omega arith)
    (cases_lt set (2 ^ 64)) in
    rw zero refl

-- a place of a row that is within the set is in the set
pub in_where_has_all : (set row place : ℕ) → set < 2 ^ 64 → place < 64 → has_all set row ≡ true → is_in row place ≡ true
    → is_in set place ≡ true
unfolding has_all
in_where_has_all set row place small low has there =
    let none : bit_and row (2 ^ 64 - 1 - set) ≡ 0 = grind (arith, nat_tests) in
    let rest = in_rest row set place small low in
    let zero : bit_at (bit_and row (2 ^ 64 - 1 - set)) place ≡ 0 = rw none (bit_at-zero place) in
    ⊎_elim
    (λ holds. holds)
    (λ fails. let bit = in_one row place there in let other_bit = in_zero set place fails in
    absurd (grind (arith, bit, other_bit, rest, zero)))
    (cases_Bool (is_in set place))
