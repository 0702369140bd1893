-- The rows have the tags of the seats.
use Rattle.pol_table.proofs.Views.{keys_rows_of}
use Rattle.pol_table.proofs.holdings.Holdings.tags.Goals as goal

pub returns : goal.returns
returns g c = rw (← c.self.view_is, keys_rows_of _ _ c.self.invariant) c.tags.ensures
