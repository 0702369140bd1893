-- A tag has the part at its seat's place.
use Rattle.std.proofs.Common.{sym, ◌∙◌}
use Rattle.pol_table.proofs.Views.{no_row, part_of_seat}
use Rattle.pol_table.proofs.holdings.Holdings.get.Goals as goal

pub returns-in_err-seat : goal.returns-in_err-seat
returns-in_err-seat g c = rw (
  ← c.self.view_is,
  no_row _ _ c.self.invariant _
      (sym c.in_err-seat.ensures.value),
  c.from_residual.ensures,
)

pub returns : goal.returns
returns g c = rw (← c.self.view_is)
    (c.get-2.ensures ∙ sym (part_of_seat _ _ c.self.invariant _ _ (sym c.in_ok-seat.ensures.value)))
