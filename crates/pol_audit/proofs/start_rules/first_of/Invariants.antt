use Rattle.std.proofs.Common.{◌≡◌, drop}
use Rattle.mtp_codes.specs.Faults.{first_of}
use Rattle.pol_audit.proofs.start_rules.first_of.Given as goal

abbrev pub invariant-loop-rule : goal.invariant-loop-rule
invariant-loop-rule l = first_of (drop l.rule-index l.rules) ≡ first_of l.rules
