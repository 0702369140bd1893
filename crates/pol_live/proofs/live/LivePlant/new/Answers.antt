use Rattle.std.proofs.Common.{rules, ◌≡◌, ◌≤◌, length, subst, arith}
use Rattle.pol_site.specs.Actors.{actors}
use Rattle.pol_live.specs.Seats.{AreSeated}
use Rattle.pol_live.proofs.Seats.{seated_more, unmade_more}
use Rattle.pol_live.proofs.live.LivePlant.new.Goals as goal

pub loop-actor-preserved : goal.loop-actor-preserved
loop-actor-preserved g c =
    let before = c.loop-actor.invariant in (
      omega (arith, before.0, c.split_off-share.ensures.parts_left),
      omega (arith, before.1, c.split_off-share.ensures.amount_left),
      rw c.in_ok-push.ensures.items (seated_more _ _ _ before.2 c.new-in-loop-actor.ensures.0),
      rw c.in_ok-push.ensures.items (unmade_more _ _ before.3 c.new-in-loop-actor.ensures.1),
    )

pub returns-clause-seats : goal.returns-clause-seats
returns-clause-seats g c =
    let most : length (actors g.J.Job.site) ≤ c.loop-actor.actor = search rules in
    let parts = c.loop-actor.invariant.0 in
    let same : c.loop-actor.actor ≡ length (actors g.J.Job.site) = omega (arith, most, parts) in
    subst (λ n. AreSeated n c.loop-actor.seats.items) same c.loop-actor.invariant.2

pub put_under-requires : goal.put_under-requires
put_under-requires g c =
    let most : length (actors g.J.Job.site) ≤ c.loop-actor.actor = search rules in
    let parts = c.loop-actor.invariant.0 in
    record {
      counted = search rules;
      spent = (omega (arith, most, parts), c.loop-actor.invariant.1);
    }
