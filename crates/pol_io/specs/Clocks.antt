-- Clocks, as contracts see them.
use Rattle.std.specs.Prelude.{ℕ, List, [], ◌∷◌}
use Rattle.pol_io.specs.Scripted.{counted}

-- a clock: the number that the last call answered, 0 before any, and how many calls there were
pub record Ticking : Type 0 where
  pub last : ℕ
  pub calls : ℕ

-- a clock in memory: the moments still to come, the number that the last call answered, 0 before any, and how many
-- calls there were
pub record Timed : Type 0 where
  pub moments : List ℕ
  pub last : ℕ
  pub calls : ℕ

-- the first of the moments, or the number before where none is left
abbrev pub first_or : List ℕ → ℕ → ℕ
first_or [] last = last
first_or (moment ∷ moments) last = moment

-- the moments behind the first
abbrev pub others : List ℕ → List ℕ
others [] = []
others (moment ∷ moments) = moments

-- what the next call answers
abbrev pub next_moment : Timed → ℕ
next_moment clock = first_or clock.moments clock.last

-- the clock after the next call
abbrev pub after_call : Timed → Timed
after_call clock = record { moments = others clock.moments; last = next_moment clock; calls = counted clock.calls }
