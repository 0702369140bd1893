-- The worked example, computed.
use Rattle.std.proofs.Common.{refl}
use Rattle.pol_compaction.specs.Example.{ExampleIsCompacted}

-- the example is compacted so
pub example_computed : ExampleIsCompacted
example_computed props = (refl, refl)
