-- A tag has the holder of its seat.
use Rattle.std.proofs.Common.{◌∙◌, sym}
use Rattle.pol_table.proofs.Views.{holder_rows_of}
use Rattle.pol_table.proofs.holdings.Holdings.holder.Goals as goal

pub returns : goal.returns
returns g c = rw (← c.self.view_is) (c.holder_of_seat.ensures ∙ sym (holder_rows_of _ _ c.self.invariant _))
