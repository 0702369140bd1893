-- How a line is cut from the front of a text.
use Rattle.std.specs.Prelude.{ℕ, ◌<◌, ◌≡◌, ◌⊎◌, List, [], ◌∷◌, ◌++◌, length, take, Bool, IsTrue, slice_index}
use Rattle.pol_io.specs.Pieces.{has_no_feed}

-- the first line feed is at place i
pub record FeedAt (bytes : List ℕ) (i : ℕ) : Type 0 where
  pub within : i < length bytes
  pub before : IsTrue (has_no_feed (take i bytes))
  pub feed : slice_index bytes i ≡ 10

-- the rest is the text without more than n bytes at its front, none of them a line feed
pub record PassesLong (n : ℕ) (text rest : List ℕ) : Type 0 where
  pub part : List ℕ
  pub no_feed : IsTrue (has_no_feed part)
  pub cut : text ≡ part ++ rest
  pub long : n < length part

-- the line is at the front of the text, and the rest comes after it; the line lacks its line feed only at the end of
-- input
pub record Cuts (ended : Bool) (line text rest : List ℕ) : Type 0 where
  pub no_feed : IsTrue (has_no_feed line)
  pub cut : (text ≡ line ++ 10 ∷ rest) ⊎ (IsTrue ended × (text ≡ line) × (rest ≡ []) × (0 < length line))

-- the line at the front of the text is longer than n, and the rest comes after it
pub record CutsLong (n : ℕ) (ended : Bool) (text rest : List ℕ) : Type 0 where
  pub line : List ℕ
  pub cuts : Cuts ended line text rest
  pub long : n < length line
