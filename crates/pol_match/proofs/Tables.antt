-- Sets made of tests, one after the other.
use Rattle.std.proofs.Common.{◌≡◌, ℕ, zero, suc, ◌+◌, ◌*◌, ◌/◌, ◌<◌, ◌≤◌, Bool, true, false, ◌&&◌, ◌||◌, if◌then◌else◌}
use Rattle.std.proofs.Common.{List, [], ◌∷◌, map, length, get_or, refl, ◌==◌, arith, sym, ◌∙◌, ap, ⊎_elim}
use Rattle.std.proofs.lemmas.Bool.{cases_Bool, cases_eq, cases_lt}
use Rattle.std.proofs.lemmas.Bool.Decides.{nat_tests}
use Rattle.std.proofs.lemmas.List.{get_or-map, length-map}
use Rattle.std.proofs.Math.ListN.{get_or-eq_default}
use Rattle.std.proofs.lemmas.Nat.Bits.{bit_at_lowest, bit_at-suc, same_from_bits}
use Rattle.pol_match.specs.Places.{is_in, set_of}
use Rattle.pol_match.proofs.PlaceSets.{nothing_in, in_one, in_zero, one_in, zero_in}

-- half of a number whose lowest bit is known is the rest
half : (each : Bool) (rest : ℕ) → ((if each then 1 else 0) + 2 * rest) / 2 ≡ rest
half true rest = omega arith
half false rest = omega arith

-- the lowest bit of a set says whether the place 0 is in it
lowest : (each : Bool) (rest : ℕ) → is_in ((if each then 1 else 0) + 2 * rest) 0 ≡ each
lowest true rest = one_in (1 + 2 * rest) 0 (bit_at_lowest (1 + 2 * rest) ∙ omega arith)
lowest false rest = zero_in (0 + 2 * rest) 0 (bit_at_lowest (0 + 2 * rest) ∙ omega arith)

-- each next place is one of the half
in_half : (set place : ℕ) → is_in set (suc place) ≡ is_in (set / 2) place
unfolding is_in
in_half set place = ap (λ bit. bit == 1) (bit_at-suc set place)

-- what is in the set of a list of tests
pub in_set_of : (tests : List Bool) (place : ℕ) → is_in (set_of tests) place ≡ get_or tests place false
unfolding set_of
in_set_of [] place = nothing_in place
in_set_of (each ∷ others) zero = lowest each (set_of others)
in_set_of (each ∷ others) (suc place) =
    in_half ((if each then 1 else 0) + 2 * set_of others) place
    ∙ (ap (λ set. is_in set place) (half each (set_of others)) ∙ in_set_of others place)

-- sets that have the same places are the same
pub same_set : (one other : ℕ) → ((place : ℕ) → is_in one place ≡ is_in other place) → one ≡ other
same_set one other same = same_from_bits one other (λ place. ⊎_elim
    (λ holds. in_one one place holds ∙ sym (in_one other place (sym (same place) ∙ holds)))
    (λ fails. in_zero one place fails ∙ sym (in_zero other place (sym (same place) ∙ fails)))
    (cases_Bool (is_in one place)))

-- where a list of tests has true, there is an element that passes
pub passes_at : {Each : Type 0} (test : Each → Bool) (all : List Each) (place : ℕ) (blank : Each)
    → get_or (map test all) place false ≡ true → (place < length all) × (test (get_or all place blank) ≡ true)
passes_at test all place blank holds =
    ⊎_elim
    (λ low. (low, sym (get_or-map test all place blank false low) ∙ holds))
    (λ high. let fails : get_or (map test all) place false ≡ false =
    get_or-eq_default (map test all) false (omega (arith, length-map all test)) in cc)
    (cases_lt place (length all))

-- a set that has the tests' places below a place, and no other
pub record IsSetBelow (tests : List Bool) (place set : ℕ) : Type 0 where
  pub done : (each : ℕ) → each < place → is_in set each ≡ get_or tests each false
  pub rest : (each : ℕ) → place ≤ each → is_in set each ≡ false

-- at first no place is done
pub set_below_zero : (tests : List Bool) → IsSetBelow tests 0 0
set_below_zero tests =
    record {
      done = λ each low. absurd (omega arith);
      rest = λ each high. nothing_in each;
    }

-- one more place is done where it was added just where its test is true
pub set_below_more : (tests : List Bool) (place old new : ℕ) (wanted : Bool)
    → ((each : ℕ) → is_in new each ≡ ((wanted && each == place) || is_in old each)) → wanted ≡ get_or tests place false
    → IsSetBelow tests place old → IsSetBelow tests (place + 1) new
set_below_more tests place old new wanted has test below =
    record {
      done = λ each low. ⊎_elim
          (λ equal. let same : (each == place) ≡ true = grind (arith, nat_tests) in
          let out = below.rest each (omega arith) in
          has each ∙ (ap (λ answer. (wanted && answer) || is_in old each) same
          ∙ (only_wanted wanted (is_in old each) out ∙ (test ∙ ap (λ index. get_or tests index false) (sym equal)))))
          (λ apart. let differs : (each == place) ≡ false = grind (arith, nat_tests) in
          has each ∙ (ap (λ answer. (wanted && answer) || is_in old each) differs
          ∙ (not_here wanted (is_in old each) ∙ below.done each (omega arith))))
          (cases_eq each place);
      rest = λ each high.
          let differs : (each == place) ≡ false = grind (arith, nat_tests) in
          has each ∙ (ap (λ answer. (wanted && answer) || is_in old each) differs
          ∙ (not_here wanted (is_in old each) ∙ below.rest each (omega arith)));
    }
  where
    only_wanted : (one answer : Bool) → answer ≡ false → ((one && true) || answer) ≡ one
    only_wanted true answer equal = refl
    only_wanted false answer equal = equal

    not_here : (one answer : Bool) → ((one && false) || answer) ≡ answer
    not_here true answer = refl
    not_here false answer = refl

-- where all places are done the set is that of the tests
pub set_below_all : (tests : List Bool) (place set : ℕ) → length tests ≤ place → IsSetBelow tests place set
    → set ≡ set_of tests
set_below_all tests place set all below = same_set set (set_of tests) (λ each. ⊎_elim
    (λ low. below.done each (omega arith) ∙ sym (in_set_of tests each))
    (λ high. out_there each high ∙ sym (in_set_of tests each ∙ get_or-eq_default tests false high))
    (cases_lt each (length tests)))
  where
    out_there : (each : ℕ) → length tests ≤ each → is_in set each ≡ false
    out_there each high = ⊎_elim
        (λ low. below.done each low ∙ get_or-eq_default tests false high)
        (λ late. below.rest each late)
        (cases_lt each place)
