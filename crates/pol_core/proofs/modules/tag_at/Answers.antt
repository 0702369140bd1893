-- The table has the tags that are there.
use Rattle.std.proofs.Common.{◌∙◌, ap}
use Rattle.std.specs.Prelude.{slice_get}
use Rattle.pol_core.proofs.Counting.{counted_order}
use Rattle.pol_core.proofs.modules.tag_at.Goals as goal

pub returns : goal.returns
returns c =
    λ history counted.
    c.tag_at.ensures
    ∙ ap (λ tags. slice_get tags c.args.place) (counted_order history c.args.modules.now counted)
