-- Readers and writers of std, as contracts see them.
use Rattle.std.specs.Prelude.{ℕ, List, Option}

-- a reader or a writer: the bytes that are left or held, where they are known, and how many faults there were
pub record Edge : Type 0 where
  pub bytes : Option (List ℕ)
  pub faults : ℕ
