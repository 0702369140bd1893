use Rattle.std.proofs.Common.{rules, ◌≡◌, ◌<◌, length, arith}
use denote.Param.{param}
use Rattle.pol_site.specs.Actors.{actors}
use Rattle.pol_live.proofs.Shared.{captured_send, crew_sync, seat_send}
use Rattle.pol_live.proofs.Joined.{joined, all_home, room_left, seated_long}
use Rattle.pol_live.proofs.run.fn.drive.scope.Goals as goal

pub loop-seat-init : goal.loop-seat-init
loop-seat-init g c =
    let long = seated_long (length (actors g.J.Job.site)) c.captures.seats.items c.requires.5 in (
      tt,
      tt,
      search rules,
      omega (arith, long, c.captures.seats.ok.0, c.len.ensures, c.in_ok-children.ensures.capacity),
      omega (arith, long, c.captures.seats.ok.0, c.len-2.ensures, c.in_ok-here.ensures.capacity),
    )

pub push_reserved-requires : goal.push_reserved-requires
push_reserved-requires g c =
    let some : 0 < length c.loop-seat.seat-iterator.rest.items = search rules in
    let room = room_left (length (actors g.J.Job.site)) c.loop-seat.children.items c.loop-seat.here.items _
    c.loop-seat.invariant.2 some in
    omega (arith, room, c.loop-seat.here.ok.0, c.loop-seat.invariant.4)

pub push_reserved-requires-in-Ok : goal.push_reserved-requires-in-Ok
push_reserved-requires-in-Ok g c =
    let some : 0 < length c.loop-seat.seat-iterator.rest.items = search rules in
    let room = room_left (length (actors g.J.Job.site)) c.loop-seat.children.items c.loop-seat.here.items _
    c.loop-seat.invariant.2 some in
    omega (arith, room, c.loop-seat.children.ok.0, c.loop-seat.invariant.3)

pub returns : goal.returns
returns g c =
    let none : length c.loop-seat.seat-iterator.rest.items ≡ 0 = search rules in
    let same : length c.in_ok-home.home.items ≡ length c.loop-seat.children.items = search rules in
    let each = c.in_ok-home.ensures.each in
    rw c.in_ok-append.ensures.items
    (all_home (length (actors g.J.Job.site)) _ _ _ _ _ c.loop-seat.invariant.2 none
    (joined _ _ same (λ i other less. let kept = (each i other (search rules)).1 in
    (kept.handle, kept.handle_is, kept.kept)))
    c.rotate.ensures)

pub spawn_with-begun-requires-send-F : goal.spawn_with-begun-requires-send-F
spawn_with-begun-requires-send-F g c =
    λ κs outlives.
    captured_send _ _ _ _ _ _ _ c.requires.0
    (crew_sync (param 0 g.row.J) (param 2 g.row.C) g.J.Job g.J.Ledger g.C.Clock _ (param 3 g.row.G) c.requires.3
    c.requires.2 c.requires.1) (seat_send (param 0 g.row.J) g.J.Job g.J.Ledger)
