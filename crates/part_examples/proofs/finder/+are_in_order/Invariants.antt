use Rattle.std.proofs.Common.{length}
use Rattle.part_examples.proofs.finder.+are_in_order.Given as goal

abbrev pub decreases-are_in_order : goal.decreases-are_in_order
decreases-are_in_order l = length l.candidates.now
