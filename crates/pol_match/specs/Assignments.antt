-- Rows that each have a place of their own, the least such places, and rows that are too many for their places.
use Rattle.std.specs.Prelude.{ℕ, ◌≡◌, ◌<◌, ◌≤◌, ◌==◌, List, length, true, false, if◌then◌else◌, slice_index, Option}
use Rattle.std.specs.Prelude.{Some, None}
use Rattle.pol_match.specs.Places.{is_in, passing, has_all, places_of}
use Rattle.pol_match.specs.Seats.{fits, holder_at, AreInside, IsSeating, IsStuck}
use Rattle.pol_match.specs.declared.limits.TheConstants.{MOST_PLACES}

-- each row has the place at its number, which it fits, and no two have the same
pub record IsAssignment (rows places : List ℕ) : Type 0 where
  pub all : length places ≡ length rows
  pub fit : (row : ℕ) → row < length rows → fits rows row (slice_index places row) ≡ true
  pub once : (one other : ℕ) → one < length rows → other < length rows
      → slice_index places one ≡ slice_index places other → one ≡ other

-- the two lists of places agree at each row below this one
abbrev pub AgreeBelow : List ℕ → List ℕ → ℕ → Type 0
AgreeBelow others places row = (each : ℕ) → each < row → slice_index others each ≡ slice_index places each

-- another assignment has no lower place at the first row where it differs
pub record IsLeastAssignment (rows places : List ℕ) : Type 0 where
  pub assignment : IsAssignment rows places
  pub least : (others : List ℕ) (row : ℕ) → IsAssignment rows others → row < length rows → AgreeBelow others places row
      → slice_index places row ≤ slice_index others row

-- the rows have no assignment
abbrev pub HaveNone : List ℕ → Type 0
HaveNone rows = (places : List ℕ) → IsAssignment rows places → ⊥

-- more rows fit places of this set alone than it has places
abbrev pub IsCrowded : List ℕ → ℕ → Type 0
IsCrowded rows set = length (places_of set) < length (passing (λ row. has_all set (slice_index rows row)) (length rows))

-- each row below the number holds one place, and no other row holds one
pub record AreSeated (rows : List ℕ) (holders : List (Option ℕ)) (row : ℕ) : Type 0 where
  pub seating : IsSeating rows holders 0
  pub known : (place each : ℕ) → holder_at holders place ≡ Some each → each < row
  pub sits : (each : ℕ) → each < row → (place : ℕ) × (holder_at holders place ≡ Some each)

-- the first row that can't have a place beside those below it, and the least closed set that it lies within
pub record IsFirstCrowd (rows : List ℕ) (set : ℕ) : Type 0 where
  pub row : ℕ
  pub low : row < length rows
  pub holders : List (Option ℕ)
  pub few : length holders ≤ MOST_PLACES
  pub inside : AreInside rows holders
  pub seated : AreSeated rows holders row
  pub stuck : IsStuck rows holders holders 0 set row

-- the holder of a place once this row holds none
abbrev pub other_than : ℕ → Option ℕ → Option ℕ
other_than row None = None
other_than row (Some holder) = if holder == row then None else Some holder

-- the row holds no place, and each other row holds what it held
abbrev pub IsUnseated : List (Option ℕ) → List (Option ℕ) → ℕ → Type 0
IsUnseated before after row = (place : ℕ) → holder_at after place ≡ other_than row (holder_at before place)

-- a place is settled exactly where a row below this one holds it
pub record IsSettled (holders : List (Option ℕ)) (settled row : ℕ) : Type 0 where
  pub early : (place each : ℕ) → holder_at holders place ≡ Some each → each < row → is_in settled place ≡ true
  pub only : (place : ℕ) → is_in settled place ≡ true
      → (each : ℕ) × (each < row) × (holder_at holders place ≡ Some each)

-- no assignment that leaves the settled places to the rows below this one gives it a lower place
abbrev pub IsLowest : List ℕ → ℕ → ℕ → ℕ → Type 0
IsLowest rows settled row place =
    (others : List ℕ) → IsAssignment rows others
    → ((each : ℕ) → row ≤ each → each < length rows → is_in settled (slice_index others each) ≡ false)
    → place ≤ slice_index others row

-- the row has got its lowest place, and the settled places are held as before
pub record IsReseated (rows : List ℕ) (before after : List (Option ℕ)) (settled row place : ℕ) : Type 0 where
  pub seated : AreSeated rows after (length rows)
  pub kept : (each : ℕ) → is_in settled each ≡ true → holder_at after each ≡ holder_at before each
  pub here : holder_at after place ≡ Some row
  pub new : is_in settled place ≡ false
  pub lowest : IsLowest rows settled row place
