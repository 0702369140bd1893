-- How at most four readings are kept inline.
use Rattle.std.specs.Prelude.{ℕ, List, length, ◌≡◌, ◌≤◌, ◌-◌, ◌++◌, take, drop, replicate, false}
use Rattle.std.proofs.Common.{take-append-drop, arith}
use Rattle.std.proofs.lemmas.List.{length-take-le}
use Rattle.mtp_codes.specs.declared.value.Reading.{Reading}
use Rattle.mtp_codes.specs.declared.value.Reading.TheVariants.{Bit}
use Rattle.chart_core.specs.declared.limits.TheConstants.{MOST_READS}

-- the first `len` items are in use, and the others are blank
pub record IsFilledUp (items : List Reading) (len : ℕ) : Type 0 where
  pub whole : length items ≡ MOST_READS
  pub fits : len ≤ MOST_READS
  pub blanks : drop len items ≡ replicate (MOST_READS - len) (Bit false)

-- these readings with blanks behind them
abbrev pub filled_up : List Reading → List Reading
filled_up used = used ++ replicate (MOST_READS - length used) (Bit false)

-- as many items are in use as the length says
pub length-used : (items : List Reading) (len : ℕ) → IsFilledUp items len → length (take len items) ≡ len
length-used items len kept = let inside : len ≤ length items = omega arith in length-take-le len items inside

-- the items in use, with blanks behind them, are all the items
pub filled_up-used : (items : List Reading) (len : ℕ) → IsFilledUp items len → filled_up (take len items) ≡ items
filled_up-used items len kept = rw (length-used items len kept, ← kept.blanks, take-append-drop len items)
