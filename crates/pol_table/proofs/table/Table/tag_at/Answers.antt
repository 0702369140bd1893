-- The rows have the tags of the holdings.
use Rattle.pol_table.proofs.Seen.{keys_seen}
use Rattle.pol_table.proofs.table.Table.tag_at.Goals as goal

pub returns : goal.returns
returns g c = rw (← c.self.view_is, keys_seen) c.tag_at.ensures
