-- The table has the tags that are there.
use Rattle.std.proofs.Common.{◌∙◌}
use Rattle.std.proofs.lemmas.Result.{IfOk-weaker}
use Rattle.pol_core.proofs.Counting.{counted_order}
use Rattle.pol_core.proofs.modules.tags.Goals as goal

pub returns : goal.returns
returns c =
    IfOk-weaker c.tags.result _ _ (λ tags is history counted.
    is ∙ counted_order history c.args.modules.now counted) c.tags.ensures
