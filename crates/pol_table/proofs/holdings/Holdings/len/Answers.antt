-- There are as many rows as seats.
use Rattle.std.proofs.Common.{sym, ◌∙◌}
use Rattle.pol_table.proofs.Views.{length_rows_of}
use Rattle.pol_table.proofs.holdings.Holdings.len.Goals as goal

pub returns : goal.returns
returns g c = rw (← c.self.view_is) (c.len.ensures.len ∙ sym (length_rows_of _ _ c.self.invariant))
