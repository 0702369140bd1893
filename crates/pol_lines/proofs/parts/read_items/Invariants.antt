use Rattle.pol_lines.specs.Parts.{OpensItems}
use Rattle.pol_lines.proofs.parts.read_items.Given as goal

abbrev pub invariant-loop : goal.invariant-loop
invariant-loop l = OpensItems l.fn.text l.rest
