-- The binds so far are copied.
use Rattle.std.proofs.Common.{◌≡◌, ◌++◌, take}
use Rattle.pol_core.proofs.starting.all_binds.Given as goal

abbrev pub invariant-loop-bind : goal.invariant-loop-bind
invariant-loop-bind l = l.all.items ≡ l.binds.held.now ++ take l.bind-index l.binds.watched.now
