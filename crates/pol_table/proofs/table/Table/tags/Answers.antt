-- The rows have the tags of the holdings.
use Rattle.pol_table.proofs.Seen.{keys_seen}
use Rattle.pol_table.proofs.table.Table.tags.Goals as goal

pub returns : goal.returns
returns g c = rw (← c.self.view_is, keys_seen) c.tags.ensures
