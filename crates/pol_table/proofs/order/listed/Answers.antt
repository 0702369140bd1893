-- All keys are listed.
use Rattle.std.proofs.Common.{◌∙◌}
use Rattle.std.specs.Map.{keys_of}
use Rattle.std.proofs.lemmas.Iterator.Consumers.{YieldsList-end, YieldsList-from_rest}
use Rattle.pol_table.proofs.order.listed.Goals as goal

pub returns-clause-tags : goal.returns-clause-tags
returns-clause-tags c =
    c.loop-tag.invariant
    ∙ (YieldsList-end (YieldsList-from_rest (keys_of c.args.seats.now.entries)
    (c.into_iter-tag-iterator.ensures.into_iter_gives ∙ c.keys-tag-items.ensures.rest))
    c.loop-tag.yielded _ c.loop-tag.yielded_by _ _ c.in-None.is c.next.ensures.steps).0
