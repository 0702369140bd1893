-- The tags so far are listed.
use Rattle.std.proofs.Common.{◌≡◌, take}
use Rattle.pol_events.specs.Bound.{tags_of}
use Rattle.pol_core.proofs.starting.tags_of.Given as goal

abbrev pub invariant-loop-bind : goal.invariant-loop-bind
invariant-loop-bind l = l.tags.items ≡ tags_of (take l.bind-index l.binds)
