-- How much waits in a window.
use Rattle.std.proofs.Common.{◌-◌, ◌<◌, ◌≡◌, [], length, true, length-take, length-drop, arith}
use Rattle.pol_io.specs.declared.window.Window.{Window}
use Rattle.pol_io.specs.Window.{waiting, given}
use Rattle.pol_io.proofs.Ranges.{range_none}

-- how many bytes wait
pub length_waiting : (window : Window) → length (waiting window) ≡ window.end - window.start
length_waiting window = simp (length-take, length-drop) (omega arith)

-- how many were given
pub given_is : (window : Window) → window.taken - length (waiting window) ≡ given window
given_is window = rw (length_waiting window) (omega arith)

-- at the end all was given
pub waiting_ended : (window : Window) → window.ended ≡ true → waiting window ≡ []
waiting_ended window ended = range_none window.buffer.items window.start window.end (window.spent ended)
