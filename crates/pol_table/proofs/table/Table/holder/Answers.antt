-- A tag has the holder that it has in the holdings.
use Rattle.std.proofs.Common.{sym, ◌∙◌}
use Rattle.pol_table.proofs.Seen.{holder_seen}
use Rattle.pol_table.proofs.table.Table.holder.Goals as goal

pub returns : goal.returns
returns g c = rw (← c.self.view_is)
    (c.holder.ensures ∙ sym (holder_seen c.self.inside.watches.items c.self.inside.holdings c.args.tag))
