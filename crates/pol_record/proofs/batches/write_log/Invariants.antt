-- The tokens so far and those of the entries that are left are all.
use Rattle.std.proofs.Common.{◌≡◌, ◌++◌, drop}
use Rattle.pol_record.specs.Objects.{data_tokens}
use Rattle.pol_record.specs.Texts.{log_data}
use Rattle.pol_record.proofs.Tokens.{entries_tokens}
use Rattle.pol_record.proofs.batches.write_log.Given as goal

abbrev pub invariant-loop-entry : goal.invariant-loop-entry
invariant-loop-entry l = record {
  tokens : l.writer.tokens ++ entries_tokens (drop l.entry-index l.log)
      ≡ l.fn.writer.tokens ++ data_tokens (log_data l.log);
  before : l.writer.before ≡ l.fn.writer.before;
}
