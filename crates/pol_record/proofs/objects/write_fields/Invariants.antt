-- The tokens so far and those of the fields that are left are all.
use Rattle.std.proofs.Common.{◌≡◌, ◌++◌, drop, map}
use Rattle.event_json.specs.Fields.{plain_field, fields_of}
use Rattle.pol_record.specs.Objects.{data_tokens, fields_data}
use Rattle.pol_record.proofs.Tokens.{fields_tokens}
use Rattle.pol_record.proofs.objects.write_fields.Given as goal

abbrev pub invariant-loop-field : goal.invariant-loop-field
invariant-loop-field l = record {
  tokens : l.writer.tokens ++ fields_tokens (map plain_field (drop l.field-index l.field-items))
      ≡ l.fn.writer.tokens ++ data_tokens (fields_data (fields_of l.fields));
  before : l.writer.before ≡ l.fn.writer.before;
}
