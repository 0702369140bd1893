-- The pairs so far are some of what the actor made before the least place that may come.
use Rattle.std.specs.Prelude.{◌≡◌, take}
use Rattle.pol_live.specs.Parts.{IsPart, least_after}
use Rattle.pol_live.proofs.closing.compare.Given as goal

abbrev pub invariant-loop-placed : goal.invariant-loop-placed
invariant-loop-placed l =
    (l.least ≡ least_after 0 (take l.placed-index l.list))
    × IsPart l.actor 0 (take l.least l.ran.by.items) (take l.least l.ran.history.items) (take l.placed-index l.list)
