use Rattle.std.proofs.Common.{sym, subst}
use Rattle.pol_rights.specs.Giving.{SaysToLine}
use Rattle.pol_rights.specs.PlainPlantPolicy.{plain_plant_policy}
use Rattle.pol_rights.proofs.Judging.{lines_judged}
use Rattle.pol_rights.proofs.plant_policy.PlantPolicy.judge_line.Goals as goal

pub returns-clause-judged : goal.returns-clause-judged
returns-clause-judged c =
    subst (SaysToLine (plain_plant_policy c.args.self.now) c.args.by c.args.kind) (sym c.verdict_on.ensures)
    (lines_judged (plain_plant_policy c.args.self.now) c.args.by c.args.kind)
