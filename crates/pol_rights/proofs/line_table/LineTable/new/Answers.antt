use Rattle.std.proofs.Common.{◌∙◌, sym}
use Rattle.std.specs.Prelude.{is_none}
use Rattle.pol_policy.specs.Allowing.{lists}
use Rattle.pol_policy.proofs.Passing.{passes_map}
use Rattle.pol_rights.specs.Rules.{plain_line_rule}
use Rattle.pol_rights.specs.Verdicts.{same_kind}
use Rattle.pol_rights.proofs.line_table.LineTable.new.Goals as goal

pub returns : goal.returns
returns c = record {
  people = c.in_ok-people.ensures;
  unnamed = λ place. c.places_where.ensures place
      ∙ sym (passes_map plain_line_rule (λ rule. is_none rule.who) c.args.rules.now place);
  kinds = λ kind place. c.new-2.ensures kind place
      ∙ sym (passes_map plain_line_rule (λ rule. lists same_kind rule.kinds kind) c.args.rules.now place);
}
