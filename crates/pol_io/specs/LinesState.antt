-- Lines, as their callers see them, and what one call of next_line does to them.
use Rattle.std.specs.Prelude.{ℕ, ◌≤◌, ◌<◌, ◌-◌, ◌≡◌, List, [], length, Bool, ◌||◌, not, IsTrue, Option, ⊤}
use Rattle.std.specs.Io.KnownBytes.{IsAtEnd}
use Rattle.pol_io.specs.Known.{Between, Counts, joined}
use Rattle.pol_io.specs.Pieces.{has_no_feed, IsFirstLine}
use Rattle.pol_io.specs.declared.limits.TheConstants.{LONGEST_LINE, LONGEST_INPUT}
use Rattle.pol_io.specs.declared.lines.Line.{Line}
use Rattle.pol_io.specs.declared.lines.Line.TheVariants.{Text, TooLong, End}

-- the state of lines: the bytes that wait, how many were taken, whether the end of input was seen, and whether no call
-- failed
pub record LinesState : Type 0 where
  pub waiting : List ℕ
  pub taken : ℕ
  pub ended : Bool
  pub sound : Bool

-- how many bytes were given so far
abbrev pub given : LinesState → ℕ
given reading = reading.taken - length reading.waiting

-- the bytes that wait, and then those that the source has left, unless the end was seen
abbrev pub ahead : LinesState → Option (List ℕ) → Option (List ℕ)
ahead reading left = joined reading.ended reading.waiting left

-- whether the next line can be given without the source: a whole line waits, or the end was seen
abbrev pub needs_no_source : LinesState → Bool
needs_no_source reading = reading.ended || not (has_no_feed reading.waiting)

-- the line that is answered is the first one of the text, or its end, and the rest is left
abbrev pub Answers : Line → Bool → List ℕ → List ℕ → Type 0
Answers (Text line) ended text rest = IsFirstLine ended line.now text rest
Answers TooLong ended text rest = (line : List ℕ) × IsFirstLine ended line text rest × (LONGEST_LINE < length line)
Answers End ended text rest = (text ≡ []) × (rest ≡ [])

-- a line that is given has at most 1,048,576 bytes, the longest line
abbrev pub IsInLimit : Line → Type 0
IsInLimit (Text line) = length line.now ≤ LONGEST_LINE
IsInLimit TooLong = ⊤
IsInLimit End = ⊤

-- each line gives some bytes, and the end is answered only where it was seen
abbrev pub Gives : Line → LinesState → LinesState → Type 0
Gives (Text line) old new = given old < given new
Gives TooLong old new = given old < given new
Gives End old new = IsTrue new.ended

-- a call that answered a line; left is what the source had before, left' what it has after
pub record Reads (left left' : Option (List ℕ)) (old new : LinesState) (line : Line) : Type 0 where
  pub answers : Between (Answers line new.ended) (ahead old left) (ahead new left')
  pub in_limit : IsInLimit line
  pub gives : Gives line old new
  pub counted : Between (Counts old.taken new.taken) left left'
  pub limit : new.taken ≤ LONGEST_INPUT
  pub spent : IsTrue new.ended → new.waiting ≡ []
  pub at_end : IsTrue new.ended → (IsTrue old.ended → IsAtEnd left) → IsAtEnd left'
  pub sound : IsTrue new.sound
