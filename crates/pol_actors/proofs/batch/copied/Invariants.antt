-- The binds so far are copied.
use Rattle.std.proofs.Common.{◌≡◌, take}
use Rattle.pol_actors.proofs.batch.copied.Given as goal

abbrev pub invariant-loop-bind : goal.invariant-loop-bind
invariant-loop-bind l = l.all.items ≡ take l.bind-index l.binds
