use Rattle.std.proofs.Common.{rules, ◌≡◌, length, refl}
use denote.RattleType.{RattleType}
use denote.Ref.{NamedLft}
use denote.Struct.Field.{shr_ref_field}
use denote.Param.{param}
use denote.Param.Send.{IsSend, IsSync, sendable, shr_sync}
use denote.Param.SendFields.{as_row_sync, declared_sync}
use Rattle.std.proofs.Crossing as heap
use Rattle.std.specs.declared.sync.ledger.Ledger as ledgers
use Rattle.pol_io.specs.declared.clock.Clock as clocks
use Rattle.pol_site.specs.Actors.{actors}
use Rattle.pol_live.specs.declared.job.Job as jobs
use Rattle.pol_live.specs.contracts.live.LivePlant as live
use Rattle.live_examples.specs.contracts.threads.Watched as watched
use Rattle.pol_live.proofs.Joined.{all_home, joined}
use Rattle.pol_live.proofs.Shared.{captured_send, live_sync, seat_send}
use Rattle.live_examples.proofs.threads.fn.drive_two.scope.Goals as goal

-- what the threads share may be shared
watched_sync : (life : NamedLft) (J C : RattleType) (job : jobs.Ghosts J.Denot) (ledger : ledgers.Ghosts J.Denot)
    (clock : clocks.Ghosts C.Denot) → IsSend J → IsSend C → IsSync (watched.the_row life J C job clock ledger)
watched_sync life J C job ledger clock j c =
    let plant : IsSync (live.the_row J C job clock ledger) = live_sync J C job ledger clock j c in
    declared_sync (watched.the_type life J C job clock ledger) (
      as_row_sync (shr_ref_field life (live.the_row J C job clock ledger) tt)
          (shr_sync life.mir life.lft (live.the_row J C job clock ledger) plant),
      (search (sendable, heap.crosses) depth 20, tt),
    )

pub returns : goal.returns
returns g c =
    let none : length c.loop-seat.seat-iterator.rest.items ≡ 0 = search rules in
    let same : length c.in_ok-home.home.items ≡ length c.loop-seat.children.items = search rules in
    let each = c.in_ok-home.ensures.each in
    rw c.in_ok-append.ensures.items
    (all_home (length (actors g.J.Job.site)) _ _ _ _ _ c.loop-seat.invariant.2 none
    (joined _ _ same (λ i other less. let kept = (each i other (search rules)).1 in
    (kept.handle, kept.handle_is, kept.kept)))
    refl)

pub spawn_with-requires-send-F : goal.spawn_with-requires-send-F
spawn_with-requires-send-F g c =
    λ κs outlives.
    captured_send _ _ _ _ _ _ _ c.requires.0
    (watched_sync _ (param 0 g.row.J) (param 2 g.row.C) g.J.Job g.J.Ledger g.C.Clock c.requires.2 c.requires.1)
    (seat_send (param 0 g.row.J) g.J.Job g.J.Ledger)
