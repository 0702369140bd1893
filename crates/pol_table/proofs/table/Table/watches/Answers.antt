-- A tag has the watchers that the list gives it.
use Rattle.std.proofs.Common.{sym, ap, ◌∙◌}
use Rattle.pol_table.specs.Watches.{watchers_in}
use Rattle.pol_table.proofs.Seen.{watchers_seen}
use Rattle.pol_table.proofs.table.Table.watches.Goals as goal

pub returns : goal.returns
returns g c tag = rw (← c.self.view_is)
    (ap (watchers_in tag) c.deref.ensures.value
    ∙ sym (watchers_seen c.self.inside.watches.items c.self.inside.holdings tag c.self.invariant))
