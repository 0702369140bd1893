-- A tag has the part that it has in the holdings.
use Rattle.std.proofs.Common.{sym, ◌∙◌}
use Rattle.pol_table.proofs.Seen.{part_seen}
use Rattle.pol_table.proofs.table.Table.get.Goals as goal

pub returns : goal.returns
returns g c = rw (← c.self.view_is)
    (c.get.ensures ∙ sym (part_seen c.self.inside.watches.items c.self.inside.holdings c.args.tag))
