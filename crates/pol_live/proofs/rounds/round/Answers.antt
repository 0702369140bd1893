use Rattle.std.proofs.Common.{rules, ◌≤◌, length, inl, arith}
use Rattle.pol_site.specs.Actors.{actors}
use Rattle.pol_site.specs.Settled.{IsSettledActor}
use Rattle.pol_simulated.proofs.Values.{place_within}
use Rattle.pol_actors.proofs.Owners.{all_from}
use Rattle.pol_live.specs.Turns.{history_of}
use Rattle.pol_live.proofs.rounds.round.Goals as goal

pub returns : goal.returns
returns g c =
    λ all_rested.
    let site = g.J.Job.site in
    let end : length (actors site) ≤ c.loop-actor.actor = search rules in
    inl (all_from (IsSettledActor site (history_of c.loop-actor.plant)) (actors site)
    (λ n who at. let within = place_within (actors site) n who at in
    c.loop-actor.invariant all_rested n who (omega (arith, within, end)) at))
