use Rattle.std.proofs.Common.{not, refl, ◌∙◌}
use Rattle.pol_policy.proofs.people_table.PeopleTable.verdict.Goals as goal

pub returns : goal.returns
returns g c = λ groups matches table matching.
    let denied = c.first_rule-denying.ensures matches (λ rule. not (g.R.Rule.allows rule)) matching table.denying in
    let allowed = c.first_rule-allowing.ensures matches g.R.Rule.allows matching table.allowing in
    c.verdict_by.ensures ∙ rw (denied, allowed) refl
