use Rattle.std.proofs.Common.{◌≡◌, ◌+◌, drop, map}
use Rattle.std.specs.Option.{option_map}
use Rattle.pol_audit.specs.Verdict.{first_other}
use Rattle.pol_audit.proofs.tails.first_other.Given as goal

abbrev pub invariant-loop-line : goal.invariant-loop-line
invariant-loop-line l = record {
  same : first_other l.place (map (λ line. line.items) (drop l.line-index l.wanted))
      (map (option_map (λ line. line.items)) l.rest)
      ≡ first_other l.first (map (λ line. line.items) l.wanted) (map (option_map (λ line. line.items)) l.lines);
  counted : l.place ≡ l.first + l.line-index;
}
