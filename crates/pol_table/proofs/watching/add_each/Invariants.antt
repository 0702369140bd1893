-- The watches of the tags so far stand behind the others, and there is room for those that are left.
use Rattle.std.proofs.Common.{◌≡◌, ◌≤◌, ◌+◌, ◌++◌, length, take}
use Rattle.std.specs.Vec.{vec_capacity}
use Rattle.pol_table.specs.Watches.{watches_of}
use Rattle.pol_table.proofs.watching.add_each.Given as goal

abbrev pub invariant-loop-tag : goal.invariant-loop-tag
invariant-loop-tag l = record {
  added : l.watches.items ≡ l.fn.watches.items ++ watches_of l.batch (take l.tag-index l.tags);
  room : length l.fn.watches.items + length l.tags ≤ vec_capacity l.watches;
}
