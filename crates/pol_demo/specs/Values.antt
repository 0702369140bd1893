-- The values of the variables in a demo journal.
use Rattle.std.specs.Prelude.{ℕ, zero, suc, ◌+◌, ◌*◌, ◌/◌, ◌%◌, ◌^◌}

-- the number behind a number in the sequence that the values are made of
abbrev pub following : ℕ → ℕ
following number = (6364136223846793005 * number + 1442695040888963407) % 2 ^ 64

-- the number so many places behind a number
unfoldable pub drawn : ℕ → ℕ → ℕ
drawn number zero = number
drawn number (suc places) = following (drawn number places)

-- the value that a number of the sequence makes: its upper 31 bits
abbrev pub value_of : ℕ → ℕ
value_of number = number / 2 ^ 33
