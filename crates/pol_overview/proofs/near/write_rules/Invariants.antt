-- The tokens so far and those of the rules that are left are all.
use Rattle.std.proofs.Common.{◌≡◌, ◌++◌, drop}
use Rattle.pol_record.specs.Objects.{data_tokens}
use Rattle.pol_overview.specs.Near.{rule_data, rules_data}
use Rattle.pol_overview.proofs.Places.{rest_tokens}
use Rattle.pol_overview.proofs.near.write_rules.Given as goal

abbrev pub invariant-loop-rule : goal.invariant-loop-rule
invariant-loop-rule l = record {
  tokens : l.writer.tokens ++ rest_tokens rule_data (drop l.rule-index l.rules)
      ≡ l.fn.writer.tokens ++ data_tokens (rules_data l.rules);
  before : l.writer.before ≡ l.fn.writer.before;
}
