-- Rows that hold places, and places that no exchange among holders sets free.
use Rattle.std.specs.Prelude.{ℕ, ◌≡◌, ◌<◌, ◌⊎◌, List, length, Bool, true, false, Option, Some, None, slice_index}
use Rattle.std.specs.Prelude.{slice_index_or}
use Rattle.pol_match.specs.Places.{is_in, IsWithin}

-- the row fits the place
abbrev pub fits : List ℕ → ℕ → ℕ → Bool
fits rows row place = is_in (slice_index rows row) place

-- the row that holds the place, if one does
abbrev pub holder_at : List (Option ℕ) → ℕ → Option ℕ
holder_at holders place = slice_index_or holders place None

-- each place that a row fits is one of the places that can be held
abbrev pub AreInside : List ℕ → List (Option ℕ) → Type 0
AreInside rows holders = (row place : ℕ) → fits rows row place ≡ true → place < length holders

-- the row holds a place outside the set
pub record Sits (holders : List (Option ℕ)) (set row : ℕ) : Type 0 where
  pub place : ℕ
  pub outside : is_in set place ≡ false
  pub held : holder_at holders place ≡ Some row

-- each row that holds a place fits it, and none holds two outside the set
pub record IsSeating (rows : List ℕ) (holders : List (Option ℕ)) (set : ℕ) : Type 0 where
  pub fit : (place row : ℕ) → holder_at holders place ≡ Some row → fits rows row place ≡ true
  pub once : (one other row : ℕ) → is_in set one ≡ false → is_in set other ≡ false → holder_at holders one ≡ Some row
      → holder_at holders other ≡ Some row → one ≡ other

-- a row that holds the place fits none outside the set
pub record IsHeldWithin (rows : List ℕ) (holders : List (Option ℕ)) (set place : ℕ) : Type 0 where
  pub holder : ℕ
  pub held : holder_at holders place ≡ Some holder
  pub within : IsWithin (slice_index rows holder) set

-- beside the places seen, the set has only places whose holders fit none outside it
pub record IsClosed (rows : List ℕ) (holders : List (Option ℕ)) (seen set : ℕ) : Type 0 where
  pub grown : IsWithin seen set
  pub held : (place : ℕ) → is_in set place ≡ true → is_in seen place ≡ false → IsHeldWithin rows holders set place

-- each closed set that the row lies within has all these places
abbrev pub AreForced : List ℕ → List (Option ℕ) → ℕ → ℕ → ℕ → Type 0
AreForced rows holders seen row set =
    (other : ℕ) → IsClosed rows holders seen other → IsWithin (slice_index rows row) other → IsWithin set other

-- a closed set that has each lower place that the row fits
pub record IsFirstOpen (rows : List ℕ) (holders : List (Option ℕ)) (seen row place : ℕ) : Type 0 where
  pub set : ℕ
  pub closed : IsClosed rows holders seen set
  pub lower : (each : ℕ) → each < place → fits rows row each ≡ true → is_in set each ≡ true

-- the row has got the place, and whoever sat outside the places seen still does
pub record IsSeated (rows : List ℕ) (before after : List (Option ℕ)) (seen row place : ℕ) : Type 0 where
  pub seating : IsSeating rows after seen
  pub kept : (each : ℕ) → is_in seen each ≡ true → holder_at after each ≡ holder_at before each
  pub here : holder_at after place ≡ Some row
  pub outside : is_in seen place ≡ false
  pub still : (each : ℕ) → Sits before seen each → Sits after seen each
  pub only : (each : ℕ) → Sits after seen each → (each ≡ row) ⊎ Sits before seen each
  pub first : IsFirstOpen rows before seen row place

-- the row fits no place outside a closed set, the least such set
pub record IsStuck (rows : List ℕ) (before after : List (Option ℕ)) (seen set row : ℕ) : Type 0 where
  pub same : after ≡ before
  pub closed : IsClosed rows before seen set
  pub within : IsWithin (slice_index rows row) set
  pub forced : AreForced rows before seen row set

-- whoever held the place sits outside the places seen, with all who sat there
pub record IsVacated (rows : List ℕ) (before after : List (Option ℕ)) (seen place : ℕ) : Type 0 where
  pub seating : IsSeating rows after seen
  pub kept : (each : ℕ) → is_in seen each ≡ true → holder_at after each ≡ holder_at before each
  pub moved : (each : ℕ) → holder_at before place ≡ Some each → Sits after seen each
  pub still : (each : ℕ) → Sits before seen each → Sits after seen each
  pub only : (each : ℕ) → Sits after seen each → (holder_at before place ≡ Some each) ⊎ Sits before seen each

-- the place stays held, in a closed set, the least in which it is
pub record IsKept (rows : List ℕ) (before after : List (Option ℕ)) (seen set place : ℕ) : Type 0 where
  pub same : after ≡ before
  pub closed : IsClosed rows before seen set
  pub here : IsHeldWithin rows before set place
  pub forced : (other : ℕ) → IsClosed rows before seen other → IsHeldWithin rows before other place
      → IsWithin set other
