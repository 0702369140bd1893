-- The bytes that wait in a window onto the input.
use Rattle.std.specs.Prelude.{ℕ, ◌≤◌, ◌<◌, ◌+◌, ◌-◌, ◌≡◌, List, [], ◌++◌, length, slice_range, true, Option, Some, IsTrue, ⊤}
use Rattle.std.specs.Io.KnownBytes.{Keeps, IsAtEnd}
use Rattle.pol_io.specs.declared.limits.TheConstants.{LONGEST_LINE}
use Rattle.pol_io.specs.declared.window.Window.{Window}
use Rattle.pol_io.specs.declared.window.Found.{Found}
use Rattle.pol_io.specs.declared.window.Found.TheVariants as found
use Rattle.pol_io.specs.declared.window.Cut.{Cut}
use Rattle.pol_io.specs.declared.window.Cut.TheVariants.{Text, TooLong, End}
use Rattle.pol_io.specs.Known.{joined}
use Rattle.pol_io.specs.Pieces.{has_no_feed}
use Rattle.pol_io.specs.Cuts.{FeedAt, Cuts, CutsLong}

-- the bytes that were taken and not given yet
abbrev pub waiting : Window → List ℕ
waiting window = slice_range window.buffer.items window.start window.end

-- the bytes that wait, and then those that the source has left, unless the end was seen
abbrev pub ahead : Window → Option (List ℕ) → Option (List ℕ)
ahead window left = joined window.ended (waiting window) left

-- how many bytes were given so far
abbrev pub given : Window → ℕ
given window = window.taken + window.start - window.end

-- more bytes were taken behind those that wait
pub record Fills (old new : Window) : Type 0 where
  pub more : List ℕ
  pub waiting : waiting new ≡ waiting old ++ more
  pub taken : new.taken ≡ old.taken + length more

-- all that was ahead waits now, and the source has nothing left
pub record IsEnd (old new : Window) (left left' : Option (List ℕ)) : Type 0 where
  pub all : Keeps (ahead old left) (Some (waiting new))
  pub at_end : (old.ended ≡ true → IsAtEnd left) → IsAtEnd left'

-- what a look into the waiting bytes found
abbrev pub IsFound : List ℕ → Found → Type 0
IsFound bytes (found.Feed i) = FeedAt bytes i
IsFound bytes found.Long = IsTrue (has_no_feed bytes) × (LONGEST_LINE < length bytes)
IsFound bytes found.End = IsTrue (has_no_feed bytes) × (length bytes ≤ LONGEST_LINE)

-- what was cut from the front of the text, and the rest that is left
abbrev pub IsCut : Window → Cut → List ℕ → List ℕ → Type 0
IsCut window (Text from to) text rest = Cuts window.ended (slice_range window.buffer.items from to) text rest
IsCut window TooLong text rest = CutsLong LONGEST_LINE window.ended text rest
IsCut window End text rest = (text ≡ []) × (rest ≡ [])

-- a line that was cut lies in the buffer and is short enough, and the end is cut only where the end of input was seen
abbrev pub CutFits : Window → Cut → Type 0
CutFits window (Text from to) = (from ≤ to) × (to ≤ window.buffer.len) × (to - from ≤ LONGEST_LINE)
CutFits window TooLong = ⊤
CutFits window End = window.ended ≡ true

-- a cut gave some bytes, unless it is the end
abbrev pub CutGives : Cut → ℕ → ℕ → Type 0
CutGives (Text from to) old new = old < new
CutGives TooLong old new = old < new
CutGives End old new = ⊤
