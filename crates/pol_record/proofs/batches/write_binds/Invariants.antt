-- The tokens so far and those of the binds that are left are all.
use Rattle.std.proofs.Common.{◌≡◌, ◌++◌, drop}
use Rattle.event_json.specs.Written.{written_binds}
use Rattle.pol_record.specs.Objects.{data_tokens}
use Rattle.pol_record.proofs.Tokens.{binds_tokens}
use Rattle.pol_record.proofs.batches.write_binds.Given as goal

abbrev pub invariant-loop-bind : goal.invariant-loop-bind
invariant-loop-bind l = record {
  tokens : l.writer.tokens ++ binds_tokens (drop l.bind-index l.binds)
      ≡ l.fn.writer.tokens ++ data_tokens (written_binds l.binds);
  before : l.writer.before ≡ l.fn.writer.before;
}
