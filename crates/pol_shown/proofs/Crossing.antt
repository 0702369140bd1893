-- A display may lie under a lock that threads share, and a watcher may go to another thread.
use denote.Param.Send.{IsSend, IsSync, sendable}
use Rattle.std.proofs.Crossing as heap
use Rattle.atomic_table.proofs.send_lease.SendLease.TheSendSync as leases
use Rattle.atomic_table.proofs.shared.Seat.TheSendSync as seats
use Rattle.atomic_table.proofs.shared.Shared.TheSendSync as tables
use Rattle.mtp_codes.specs.contracts.name.Name as name
use Rattle.pol_board.specs.contracts.board.Board as board
use Rattle.pol_board.specs.contracts.publisher.Publisher as publisher
use Rattle.pol_board.specs.contracts.reader.Reader as reader
use Rattle.pol_shown.specs.contracts.display.Display as display
use Rattle.pol_shown.specs.contracts.watcher.Watcher as watcher

-- a name may go to another thread
name_send : IsSend name.the_row
name_send = search (sendable, heap.crosses) depth 40 fits 100000

-- a board may go to another thread
board_send : IsSend board.the_row
board_send = search (sendable, heap.crosses, tables.the_send, leases.the_send) depth 40 fits 100000

-- a board may be read by other threads
board_sync : IsSync board.the_row
board_sync = search (sendable, heap.crosses, tables.the_sync, leases.the_sync) depth 40 fits 100000

-- a publisher may go to another thread
publisher_send : IsSend publisher.the_row
publisher_send = search (sendable, heap.crosses, seats.the_send) depth 40 fits 100000

-- a reader may go to another thread
reader_send : IsSend reader.the_row
reader_send = search (sendable, heap.crosses, seats.the_send) depth 40 fits 100000

-- a display may go to another thread
pub display_send : IsSend display.the_row
display_send = search (sendable, heap.crosses, name_send, board_send, board_sync, publisher_send) depth 40 fits 100000

-- a watcher too
pub watcher_send : IsSend watcher.the_row
watcher_send = search (sendable, heap.crosses, board_send, board_sync, reader_send) depth 40 fits 100000
