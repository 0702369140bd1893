-- The lines of a text: its bytes, cut after each line feed.
use Rattle.std.specs.Prelude.{ℕ, ◌≡◌, List, [], ◌∷◌, ◌++◌, Bool, true, ◌==◌, ◌||◌, if◌then◌else◌, not, IsTrue}
use Rattle.std.specs.List.{list_all}

-- the byte put before the first of the pieces
abbrev pub onto_first : ℕ → List (List ℕ) → List (List ℕ)
onto_first x [] = (x ∷ []) ∷ []
onto_first x (piece ∷ pieces) = (x ∷ piece) ∷ pieces

-- the bytes cut after each line feed: a rest without a line feed is the last piece, where it isn't empty
abbrev pub pieces : List ℕ → List (List ℕ)
pieces [] = []
pieces (x ∷ xs) = if x == 10 then (x ∷ []) ∷ pieces xs else onto_first x (pieces xs)

-- the line of a piece: the piece without its line feed
abbrev pub line_of : List ℕ → List ℕ
line_of [] = []
line_of (x ∷ xs) = if x == 10 then [] else x ∷ line_of xs

-- whether no byte is a line feed
abbrev pub has_no_feed : List ℕ → Bool
has_no_feed bytes = list_all (λ b. not (b == 10)) bytes

-- whether the bytes are whole lines: none at all, or the last one is a line feed
abbrev pub is_whole : List ℕ → Bool
is_whole [] = true
is_whole (x ∷ []) = x == 10
is_whole (x ∷ (y ∷ ys)) = is_whole (y ∷ ys)

-- the line is the first one of the text, and the others are those of the rest; it lacks its line feed only where the
-- end of input was seen, and then nothing is left
pub record IsFirstLine (ended : Bool) (line text rest : List ℕ) : Type 0 where
  pub piece : List ℕ
  pub cut : text ≡ piece ++ rest
  pub pieces_are : pieces text ≡ piece ∷ pieces rest
  pub line_is : line ≡ line_of piece
  pub whole : IsTrue (is_whole piece || ended)
  pub spent : IsTrue ended → rest ≡ []

-- these bytes are done, and the rest is to come: whole lines are done, or the end of input was seen and nothing comes
pub record IsDone (ended : Bool) (bytes done rest : List ℕ) : Type 0 where
  pub cut : bytes ≡ done ++ rest
  pub pieces_are : pieces bytes ≡ pieces done ++ pieces rest
  pub whole : IsTrue (is_whole done || ended)
  pub spent : IsTrue ended → rest ≡ []

-- the rest is the text without a part at its front that holds no line feed
pub record Passes (text rest : List ℕ) : Type 0 where
  pub part : List ℕ
  pub no_feed : IsTrue (has_no_feed part)
  pub cut : text ≡ part ++ rest

-- the rest is the text without a part at its front that holds no line feed, and without one more byte behind that part
pub record PassesMore (text rest : List ℕ) : Type 0 where
  pub last : ℕ
  pub passes : Passes text (last ∷ rest)
