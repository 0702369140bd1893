-- The tokens so far and those of the recipes that are left are all.
use Rattle.std.proofs.Common.{◌≡◌, ◌++◌, drop}
use Rattle.pol_match.specs.Candidates.{plain_candidates}
use Rattle.pol_record.specs.Objects.{data_tokens}
use Rattle.pol_find.specs.Offers.{offers_of}
use Rattle.pol_find.proofs.Entries.{recipes_in}
use Rattle.pol_find.proofs.Tokens.{offers_tokens}
use Rattle.pol_find.proofs.bindings.write_each.Given as goal

abbrev pub invariant-loop-entry : goal.invariant-loop-entry
invariant-loop-entry l = record {
  tokens : l.writer.tokens ++ offers_tokens (plain_candidates l.candidates) (recipes_in (drop l.entry-index l.entries))
      ≡ l.fn.writer.tokens ++ data_tokens (offers_of (plain_candidates l.candidates) (recipes_in l.entries));
  before : l.writer.before ≡ l.fn.writer.before;
}
