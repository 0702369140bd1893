-- The tags that were listed, once they are sorted.
use Rattle.std.proofs.Common.{subst}
use Rattle.std.specs.Map.{keys_of}
use Rattle.std.specs.List.Sorted.{IsPermutation}
use Rattle.pol_table.proofs.ByteOrder.{sorted_is}
use Rattle.pol_table.proofs.order.tags.Goals as goal

pub returns : goal.returns
returns c =
    sorted_is (keys_of c.args.seats.now.entries) c.sort_unstable.new.self.items c.listed.ensures.once
    (subst (λ tags. IsPermutation tags c.sort_unstable.new.self.items) c.in_ok-tags.ensures.tags
    c.sort_unstable.ensures.permutation)
    c.sort_unstable.ensures.sorted
