-- The tags so far are listed.
use Rattle.std.proofs.Common.{◌≡◌, map}
use Rattle.pol_table.proofs.order.listed.Given as goal

abbrev pub invariant-loop-tag : goal.invariant-loop-tag
invariant-loop-tag l = l.tags.items ≡ map (λ tag. tag.now) l.yielded
