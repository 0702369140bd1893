-- The tokens so far and those of the readings that are left are all.
use Rattle.std.proofs.Common.{◌≡◌, ◌++◌, drop}
use Rattle.pol_record.specs.Objects.{data_tokens, readings_data}
use Rattle.pol_record.proofs.Tokens.{readings_tokens}
use Rattle.pol_record.proofs.objects.write_readings.Given as goal

abbrev pub invariant-loop-reading : goal.invariant-loop-reading
invariant-loop-reading l = record {
  tokens : l.writer.tokens ++ readings_tokens (drop l.reading-index l.readings)
      ≡ l.fn.writer.tokens ++ data_tokens (readings_data l.readings);
  before : l.writer.before ≡ l.fn.writer.before;
}
