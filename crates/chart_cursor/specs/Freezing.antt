-- How a batch is frozen.
use Rattle.std.specs.Prelude.{ℕ, List}

-- How a batch is frozen: not at all; so that it only waits; or so that its services are held, with the steps that were
-- asked to hold since.
pub data Freezing : Type 0 where
  thawed : Freezing
  waiting : Freezing
  holding : (asked : List (List ℕ)) → Freezing
