use Rattle.std.proofs.Common.{◌≡◌, length}
use Rattle.mtp_codes.specs.Repeats.{repeats_by}
use Rattle.mtp_json.proofs.alike.repeats_seen.Given as goal

abbrev pub invariant-loop-first : goal.invariant-loop-first
invariant-loop-first g l =
    repeats_by (λ first other. g.T.Alike.same (g.T.Alike.plain first) (g.T.Alike.plain other)) l.rest
    ≡ repeats_by (λ first other. g.T.Alike.same (g.T.Alike.plain first) (g.T.Alike.plain other)) l.items

abbrev pub decreases-loop-first : goal.decreases-loop-first
decreases-loop-first g l = length l.rest
