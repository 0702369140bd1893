-- By the first of the rules.
use Rattle.std.proofs.Common.{refl}
use Rattle.pol_events.specs.Events.{report}
use Rattle.pol_core.specs.Plants.{plant_history}
use Rattle.pol_foresight.proofs.Ruled.{by_rule}
use Rattle.pol_foresight.proofs.modules.report.Goals as goal

pub returns : goal.returns
returns c =
    λ at room.
    by_rule (plant_history c.args.plant.now) (report at c.args.tag c.args.service c.args.control) c.report_rule.result
    c.done_unless.result (c.report_rule.ensures at) refl c.done_unless.ensures room
