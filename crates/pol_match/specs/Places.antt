-- Sets of places below 64, as the bits of a number.
use Rattle.std.specs.Prelude.{ℕ, zero, suc, ◌+◌, ◌*◌, ◌≡◌, ◌<◌, ◌==◌, List, [], ◌∷◌, Bool, true, false, if◌then◌else◌}
use Rattle.std.specs.Prelude.{bit_and}
use Rattle.std.specs.Int.{bit_at, bit_not, w64}
use Rattle.pol_match.specs.declared.limits.TheConstants.{MOST_PLACES}

-- the place is in the set
unfoldable pub is_in : ℕ → ℕ → Bool
is_in set place = bit_at set place == 1

-- the numbers below n that pass a test, the greatest first
abbrev pub passing : (ℕ → Bool) → ℕ → List ℕ
passing test zero = []
passing test (suc n) = if test n then n ∷ passing test n else passing test n

-- the places of the set
unfoldable pub places_of : ℕ → List ℕ
places_of set = passing (is_in set) MOST_PLACES

-- the set of the places at which the list has true
unfoldable pub set_of : List Bool → ℕ
set_of [] = 0
set_of (each ∷ others) = (if each then 1 else 0) + 2 * set_of others

-- the first set has each place of the other
unfoldable pub has_all : ℕ → ℕ → Bool
has_all set other = bit_and other (bit_not w64 set) == 0

-- each place of the one set is in the other
abbrev pub IsWithin : ℕ → ℕ → Type 0
IsWithin set other = (place : ℕ) → is_in set place ≡ true → is_in other place ≡ true

-- the place is the first one of the set that the other lacks
pub record IsFirstBeyond (set other place : ℕ) : Type 0 where
  pub below : place < MOST_PLACES
  pub here : is_in set place ≡ true
  pub new : is_in other place ≡ false
  pub first : (each : ℕ) → each < place → is_in set each ≡ true → is_in other each ≡ true
