-- The rows are freed as the holdings are, and watched as the list says.
use Rattle.pol_table.proofs.Seen.{freed_seen, there_freed}
use Rattle.pol_table.proofs.table.Table.release.Goals as goal

pub invariant_of-self : goal.invariant_of-self
invariant_of-self g c =
    rw (c.end_each.ensures)
    (there_freed c.args.batch c.self.inside.watches.items c.self.inside.holdings c.release.new.self c.self.invariant
    c.release.ensures.freed)

pub returns-clause-freed : goal.returns-clause-freed
returns-clause-freed g c tag =
    rw (← c.self.view_is, c.end_each.ensures)
    (freed_seen c.args.batch c.self.inside.watches.items c.self.inside.holdings c.release.new.self
    c.release.ensures.freed tag)
