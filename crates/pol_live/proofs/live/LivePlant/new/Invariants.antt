-- The share that is left has a part for each actor that has no seat yet, and no seat made anything.
use Rattle.std.specs.Prelude.{◌≡◌, ◌+◌, length}
use Rattle.pol_site.specs.Actors.{actors}
use Rattle.pol_live.specs.Parts.{made_in_all}
use Rattle.pol_live.specs.Seats.{AreSeated}
use Rattle.pol_live.proofs.live.LivePlant.new.Given as goal

abbrev pub invariant-loop-actor : goal.invariant-loop-actor
invariant-loop-actor g l =
    (l.rest.parts + l.actor ≡ length (actors g.J.Job.site)) × (l.rest.amount ≡ 0) × AreSeated l.actor l.seats.items
    × (made_in_all l.seats.items ≡ 0)
