use Rattle.std.proofs.Common.{rules, ◌<◌, ◌≤◌, length, arith}
use Rattle.std.proofs.lemmas.Result.{err_from_is_err_and}
use Rattle.pol_site.specs.Actors.{actors}
use Rattle.pol_simulated.proofs.Values.{place_within}
use Rattle.pol_live.specs.Parts.{IsPart}
use Rattle.pol_live.specs.Seats.{Seated}
use Rattle.pol_actors.proofs.Owners.{all_from}
use Rattle.pol_live.proofs.AllCompared.{parts_more, strays_of}
use Rattle.pol_live.proofs.closing.compare_all.Goals as goal

pub returns-in_err-compare-clause-err : goal.returns-in_err-compare-clause-err
returns-in_err-compare-clause-err g c =
    let within : c.loop-seat.seat-index < length c.args.seats.now = search rules in
    let fault = err_from_is_err_and c.from_residual.result c.from_residual.ensures.1 in
    rw (fault.1, fault.2)
    (strays_of c.args.ran.now.by.items c.args.ran.now.history.items
    (length (actors g.J.Job.site)) c.args.seats.now
    c.loop-seat.seat-index c.actor.result _ _ c.list.result.now c.seat-item.result _ _ c.requires.seats within
    c.seat-item.is c.actor.ensures.same c.list.ensures c.in_err-compare.ensures.actor c.in_err-compare.ensures.err
    c.loop-seat.invariant)

pub loop-seat-preserved : goal.loop-seat-preserved
loop-seat-preserved g c =
    let within : c.loop-seat.seat-index < length c.args.seats.now = search rules in
    parts_more c.args.ran.now.by.items c.args.ran.now.history.items c.args.seats.now c.loop-seat.seat-index
    c.actor.result c.list.result.now c.seat-item.result within c.seat-item.is c.actor.ensures.same c.list.ensures
    c.in_ok-compare.ensures.ok c.loop-seat.invariant

pub returns-clause-ok : goal.returns-clause-ok
returns-clause-ok g c =
    let all : length c.args.seats.now ≤ c.loop-seat.seat-index = search rules in
    all_from (λ (seat : Seated). IsPart seat.actor 0 c.args.ran.now.by.items c.args.ran.now.history.items seat.list)
    c.args.seats.now
    (λ place seat at.
    let within = place_within c.args.seats.now place seat at in
    c.loop-seat.invariant place seat (omega (arith, within, all)) at)
