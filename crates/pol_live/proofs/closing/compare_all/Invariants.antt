-- The list of each seat so far has some of what its actor made.
use Rattle.std.specs.Prelude.{◌≡◌, ◌<◌, ℕ, Some, slice_get}
use Rattle.pol_live.specs.Parts.{IsPart}
use Rattle.pol_live.specs.Seats.{Seated}
use Rattle.pol_live.proofs.closing.compare_all.Given as goal

abbrev pub invariant-loop-seat : goal.invariant-loop-seat
invariant-loop-seat g l =
    (place : ℕ) (seat : Seated) → place < l.seat-index → slice_get l.seats place ≡ Some seat →
    IsPart seat.actor 0 l.ran.by.items l.ran.history.items seat.list
