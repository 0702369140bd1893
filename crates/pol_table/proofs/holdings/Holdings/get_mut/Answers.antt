-- A tag has the part at its seat's place, and what is written there is written in its row.
use Rattle.std.proofs.Common.{sym, refl, ◌∙◌, ap}
use borrow.Follows.Closed.{read_of}
use Rattle.std.proofs.Math.Path.{fun_ext}
use Rattle.std.specs.Option.{ghost_name_of}
use Rattle.pol_table.specs.Places.{rows_of}
use Rattle.pol_table.proofs.Views.{no_row, part_of_seat}
use Rattle.pol_table.proofs.Parts.{rows_set_part}
use Rattle.pol_table.proofs.holdings.Holdings.get_mut.Goals as goal

pub returns-in_err-place : goal.returns-in_err-place
returns-in_err-place g c =
    rw (← c.self.view_is, c.from_residual.ensures, no_row _ _ c.self.invariant _ (sym c.in_err-place.ensures.value))
    (refl, record { writes_back = tt; value = refl })

pub returns : goal.returns
returns g c = rw (← c.self.view_is) (
  ap (λ change. read_of (ghost_name_of c.get_mut.result) change
      (rows_of c.self.inside.seats.entries c.self.inside.parts.slots))
      (fun_ext (λ part. rows_set_part _ _ _ _ part c.self.invariant
      (sym c.in_ok-place.ensures.value))),
  record {
    writes_back = tt;
    value = c.get_mut.ensures.value ∙ sym (part_of_seat _ _ c.self.invariant _ _ (sym c.in_ok-place.ensures.value));
  },
)
