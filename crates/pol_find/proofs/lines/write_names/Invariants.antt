-- The tokens so far and those of the names that are left are all.
use Rattle.std.proofs.Common.{◌≡◌, ◌++◌, drop}
use Rattle.pol_record.specs.Objects.{data_tokens}
use Rattle.pol_find.specs.Lines.{names_data}
use Rattle.pol_find.proofs.Tokens.{names_tokens}
use Rattle.pol_find.proofs.lines.write_names.Given as goal

abbrev pub invariant-loop-name : goal.invariant-loop-name
invariant-loop-name l = record {
  tokens : l.writer.tokens ++ names_tokens (drop l.name-index l.names)
      ≡ l.fn.writer.tokens ++ data_tokens (names_data l.names);
  before : l.writer.before ≡ l.fn.writer.before;
}
