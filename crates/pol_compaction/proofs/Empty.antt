-- Two plants in which nothing happened are alike.
use Rattle.std.proofs.Common.{[], refl, inl, arith}
use Rattle.pol_compaction.specs.Alike.{BatchesAlike, AnswersAlike}

-- their batches
pub batches_empty : BatchesAlike [] [] []
batches_empty = record {
  batches = λ batch out. record {
    start = refl;
    outcome = refl;
    log = refl;
    frozen = refl;
    holding = refl;
    asked = refl;
  };
  fresh = λ batch out none. (refl, refl);
  started = λ batch inside. cc;
  closed = λ batch inside. cc;
  same_recipes = refl;
  holders = λ tag. refl;
  watchers = λ tag. refl;
  fewer_starts = omega arith;
  fewer = omega arith;
  listed = refl;
}

-- with no batch forgotten
pub alike_empty : AnswersAlike [] [] []
alike_empty = record {
  running = batches_empty;
  modules = λ tag. inl (refl, refl);
  same_tags = refl;
}
