-- There are as many rows as in the holdings.
use Rattle.std.proofs.Common.{sym, ◌∙◌}
use Rattle.pol_table.proofs.Seen.{length_seen}
use Rattle.pol_table.proofs.table.Table.len.Goals as goal

pub returns : goal.returns
returns g c = rw (← c.self.view_is)
    (c.len.ensures ∙ sym (length_seen c.self.inside.watches.items c.self.inside.holdings))
