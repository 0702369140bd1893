use Rattle.std.proofs.Common.{◌∙◌}
use Rattle.pol_rights.specs.Verdicts.{matches_line}
use Rattle.pol_rights.proofs.Matching.{line_matches}
use Rattle.pol_rights.proofs.line_rules.LineRules.judge.Goals as goal

pub returns : goal.returns
returns c = λ groups made.
    let decided = rw c.deref.ensures.value at c.verdict.ensures in
    decided groups (matches_line groups c.args.by c.args.kind) made.people
    (λ place. c.matching-matching.ensures place
    ∙ line_matches groups _ c.args.self.now.table made c.args.by c.args.kind place)
