-- A plant that threads share may be shared, and a seat may go to another thread.
use mathlib.Core.List.{List, [], ◌∷◌}
use Prim.Native.Nat.{ℕ}
use mir.Syntax.{Ty}
use denote.RattleType.{RattleType}
use denote.Exit.{no}
use denote.Ref.{NamedLft, ShrRef}
use denote.Struct.Field.{bool-field, row_field, shr_ref_field, u32-field}
use denote.Struct.Tuple.{TupleAt, type_at}
use denote.Param.{arg, param}
use denote.Param.Send.{IsSend, IsSync, arg_send, param_send, plain_send, sendable, shr_send, shr_sync, view_send}
use denote.Param.SendFields.{as_row_send, as_row_sync, declared_send, declared_sync}
use Rattle.std.proofs.Crossing as heap
use Rattle.std.proofs.sync.ledger.Book.TheSendSync as books
use Rattle.std.proofs.sync.ledger.Share.TheSendSync as shares
use Rattle.std.specs.declared.sync.ledger.Ledger as ledgers
use Rattle.pol_io.specs.declared.clock.Clock as clocks
use Rattle.pol_site.specs.contracts.site.Site as site
use Rattle.pol_actors.specs.contracts.batch.Stage as stage
use Rattle.pol_actors.specs.contracts.desk.Desk as orders
use Rattle.pol_actors.specs.contracts.exchanger.Exchanger as exchanger
use Rattle.pol_actors.specs.contracts.unit.Unit as unit
use Rattle.pol_live.specs.declared.job.Job as jobs
use Rattle.pol_live.specs.contracts.acting.Crew as crew
use Rattle.pol_live.specs.contracts.cast.Cast as cast
use Rattle.pol_live.specs.contracts.cast.Cast.TheInside as cast_inside
use Rattle.pol_live.specs.contracts.live.LivePlant as live
use Rattle.pol_live.specs.contracts.live.Under as under
use Rattle.pol_live.specs.contracts.locked.LockedPlant as locked
use Rattle.pol_live.specs.contracts.locked.LockedPlant.TheInside as locked_inside
use Rattle.pol_live.specs.contracts.notes.Notes as notes
use Rattle.pol_live.specs.contracts.seat.ActorSeat as seat
use Rattle.pol_live.specs.contracts.seat.ActorSeat.TheInside as seat_inside
use Rattle.pol_live.specs.contracts.turned.Placed as placed
use Rattle.pol_shown.proofs.Crossing.{display_send}
use Rattle.pol_live.proofs.Sending.{placed_send, plant_send, site_send, site_sync, unit_send}

-- ---- where the actors of a plant stand

-- where the exchanger stands may go to another thread
exchanger_send : IsSend exchanger.the_row
exchanger_send = search (sendable, heap.crosses) depth 20

-- where a batch stands may go to another thread
stage_send : IsSend stage.the_row
stage_send = search (sendable, heap.crosses) depth 20

-- where the desk stands may go to another thread
orders_send : IsSend orders.the_row
orders_send = search (sendable, heap.crosses) depth 20

-- which actors rest may go to another thread
notes_send : IsSend notes.the_row
notes_send = declared_send notes.the_type (search (sendable, heap.crosses) depth 20, tt)

-- ---- a plant and its seats

module _ (J C : RattleType) (job : jobs.Ghosts J.Denot) (ledger : ledgers.Ghosts J.Denot)
    (clock : clocks.Ghosts C.Denot) where
  -- the plant with its actors may go to another thread
  cast_send : IsSend J → IsSend C → IsSend (cast.the_row J C job ledger clock)
  cast_send j c =
      view_send _ _ _ _ _
      (declared_send (cast_inside.the_type J C job ledger clock) (
        heap.send,
        (
          heap.Arc-send site.the_row site_send site_sync,
          (
            plant_send,
            (
              as_row_send (row_field _) c,
              (
                exchanger_send,
                (
                  heap.Vec-send unit.the_row unit_send,
                  (
                    heap.Vec-send stage.the_row stage_send,
                    (
                      orders_send,
                      (
                        search (sendable, heap.crosses) depth 20,
                        (search (sendable, heap.crosses) depth 20, tt),
                      ),
                    ),
                  ),
                ),
              ),
            ),
          ),
        ),
      ))

  -- so may the plant that only its turns change
  locked_send : IsSend J → IsSend C → IsSend (locked.the_row J C job ledger clock)
  locked_send j c =
      view_send _ _ _ _ _
      (declared_send (locked_inside.the_type J C job ledger clock)
      (as_row_send (row_field _) (cast_send j c), (display_send, tt)))

  -- so may all that lies under the lock
  under_send : IsSend J → IsSend C → IsSend (under.the_row J C job clock ledger)
  under_send j c =
      declared_send (under.the_type J C job clock ledger) (
        heap.Box-send (locked.the_row J C job ledger clock) (locked_send j c),
        (
          search (sendable, heap.crosses, books.the_send) depth 20,
          (
            search (sendable, heap.crosses, shares.the_send) depth 20,
            (notes_send, (as_row_send bool-field (plain_send _ _ _ _ _), tt)),
          ),
        ),
      )

  -- threads can share a locked plant
  pub live_sync : IsSend J → IsSend C → IsSync (live.the_row J C job clock ledger)
  live_sync j c =
      let inner : IsSend (under.the_row J C job clock ledger) = under_send j c in
      declared_sync (live.the_type J C job clock ledger) (
        search (sendable, heap.crosses, inner) depth 20,
        (search (sendable, heap.crosses) depth 20, (search (sendable, heap.crosses) depth 20, tt)),
      )

  -- they can share what each of them is handed
  pub crew_sync : (life : NamedLft) (G : RattleType) → IsSend J → IsSend C → IsSync G →
      IsSync (crew.the_row life J C G job clock ledger)
  crew_sync life G j c shared =
      let plant : IsSync (live.the_row J C job clock ledger) = live_sync j c in
      declared_sync (crew.the_type life J C G job clock ledger) (
        as_row_sync (shr_ref_field life (live.the_row J C job clock ledger) tt)
            (shr_sync life.mir life.lft (live.the_row J C job clock ledger) plant),
        (
          as_row_sync (row_field _) (shr_sync _ _ _ shared),
          (search (sendable, heap.crosses) depth 20, tt),
        ),
      )

-- the seat of an actor may go to another thread
pub seat_send : (J : RattleType) (job : jobs.Ghosts J.Denot) (ledger : ledgers.Ghosts J.Denot) →
    IsSend (seat.the_row J job ledger)
seat_send J job ledger =
    view_send _ _ _ _ _
    (declared_send (seat_inside.the_type J job ledger) (
      as_row_send u32-field (plain_send _ _ _ _ _),
      (
        heap.Vec-send placed.the_row placed_send,
        (search (sendable, heap.crosses, shares.the_send) depth 20, tt),
      ),
    ))

-- ---- what the closure of an actor's thread has

-- two shared things and one of its own may go to another thread with the closure
pub captured_send : (name : List ℕ) (ty : Ty) (one other : NamedLft) (R C S : RattleType) → IsSync R → IsSync C →
    IsSend S → IsSend (param 2
    (arg ty no (TupleAt name (ShrRef one.mir one.lft R ∷ ShrRef other.mir other.lft C ∷ S ∷ []))))
captured_send name ty one other R C S runtime shared own =
    param_send 2 (arg ty no (TupleAt name (ShrRef one.mir one.lft R ∷ ShrRef other.mir other.lft C ∷ S ∷ [])))
    (arg_send ty no (TupleAt name (ShrRef one.mir one.lft R ∷ ShrRef other.mir other.lft C ∷ S ∷ []))
    (declared_send (type_at name (ShrRef one.mir one.lft R ∷ ShrRef other.mir other.lft C ∷ S ∷ [])) (
      as_row_send (row_field (ShrRef one.mir one.lft R)) (shr_send one.mir one.lft R runtime),
      (
        as_row_send (row_field (ShrRef other.mir other.lft C)) (shr_send other.mir other.lft C shared),
        (as_row_send (row_field S) own, tt),
      ),
    )))
