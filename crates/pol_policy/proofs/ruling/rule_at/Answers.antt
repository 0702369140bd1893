use Rattle.std.proofs.Common.{◌∙◌}
use Rattle.pol_policy.proofs.Matching.{name_at_first, named_plain}
use Rattle.pol_policy.proofs.ruling.rule_at.Goals as goal

pub returns : goal.returns
returns g c = λ test same.
    c.name_at.ensures
    ∙ (named_plain g.R.Rule.plain g.R.Rule.named c.args.rules.now c.first.result
    ∙ name_at_first g.R.Rule.plain g.R.Rule.named c.args.rules.now c.args.places c.first.result c.first.ensures test
    same)
