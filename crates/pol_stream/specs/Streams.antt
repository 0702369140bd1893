-- What reading a source takes of it.
use Rattle.std.specs.Prelude.{◌≡◌, ◌≤◌, ◌++◌, List, ℕ, [], Bool, true, false, Option, length}
use Rattle.std.specs.Io.KnownBytes.{Consumes, IsAtEnd}

-- the bytes are all that there were, and none is left
abbrev pub IsAll : List ℕ → List ℕ → List ℕ → Type 0
IsAll all bytes left = (bytes ≡ all) × (left ≡ [])

-- one read put what it took behind the bytes, at most so many; at the end it took nothing
pub record TakesMore (left left' : Option (List ℕ)) (most : ℕ) (bytes bytes' : List ℕ) (more : Bool) : Type 0 where
  pub piece : List ℕ
  pub took : Consumes left left' piece
  pub few : length piece ≤ most
  pub behind : bytes' ≡ bytes ++ piece
  pub ended : more ≡ false → (piece ≡ []) × IsAtEnd left'

-- some bytes were taken, or none
pub record TakesSome (left left' : Option (List ℕ)) : Type 0 where
  pub piece : List ℕ
  pub took : Consumes left left' piece
