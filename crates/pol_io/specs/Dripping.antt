-- Sources and sinks in memory that give or take few bytes at a time.
use Rattle.std.specs.Prelude.{ℕ, List}

-- a source or a sink: the bytes that are left or held, and how many of them a call moves at most
pub record Dripping : Type 0 where
  pub bytes : List ℕ
  pub at_most : ℕ
