-- What is left after a fault in the middle of a line.
use Rattle.std.specs.Prelude.{ℕ, ◌+◌, ◌≤◌, ◌≡◌, List, Option}
use Rattle.pol_io.specs.Known.{Between, Counts}
use Rattle.pol_io.specs.Pieces.{Passes, PassesMore}
use Rattle.pol_io.specs.declared.limits.TheConstants.{LONGEST_INPUT}
use Rattle.pol_io.specs.declared.lines.IoFault.{IoFault}
use Rattle.pol_io.specs.declared.lines.IoFault.TheVariants.{Read, TooMuch}

-- A fault with this text ahead, of which so many bytes more than before were taken that they are `reached` in all.
-- What is gone of the text holds no line feed; where the input is too long, one byte more is gone.
pub record Stops (taken : ℕ) (text left left' : Option (List ℕ)) (fault : IoFault) : Type 0 where
  pub reached : ℕ
  pub counted : Between (Counts taken reached) left left'
  pub read : fault ≡ Read → (reached ≤ LONGEST_INPUT) × Between Passes text left'
  pub too_much : fault ≡ TooMuch → (reached ≡ LONGEST_INPUT + 1) × Between PassesMore text left'
