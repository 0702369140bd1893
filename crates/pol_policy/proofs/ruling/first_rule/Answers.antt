use Rattle.std.proofs.Common.{◌&&◌}
use Rattle.pol_policy.proofs.Matching.{of_kind}
use Rattle.pol_policy.proofs.ruling.first_rule.Goals as goal

pub returns : goal.returns
returns g c = λ matches is_kind matching kind.
    c.rule_at.ensures (λ rule. matches rule && is_kind rule)
    (of_kind g.R.Rule.plain c.args.rules.now c.args.matching c.args.kind c.intersection.result matches is_kind
    c.intersection.ensures matching kind)
