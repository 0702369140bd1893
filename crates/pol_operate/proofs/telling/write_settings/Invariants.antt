-- The tokens so far and those of the settings that are left are all.
use Rattle.std.proofs.Common.{◌≡◌, ◌++◌, drop}
use Rattle.chart_json.specs.Written.{written_settings}
use Rattle.pol_record.specs.Objects.{data_tokens}
use Rattle.pol_operate.proofs.Tokens.{settings_tokens}
use Rattle.pol_operate.proofs.telling.write_settings.Given as goal

abbrev pub invariant-loop-setting : goal.invariant-loop-setting
invariant-loop-setting l = record {
  tokens : l.writer.tokens ++ settings_tokens (drop l.setting-index l.settings)
      ≡ l.fn.writer.tokens ++ data_tokens (written_settings l.settings);
  before : l.writer.before ≡ l.fn.writer.before;
}
