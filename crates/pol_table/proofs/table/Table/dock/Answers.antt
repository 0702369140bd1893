-- The holdings take the part, which nobody watches yet.
use Rattle.std.proofs.Common.{◌∙◌}
use Rattle.std.proofs.lemmas.Result.{on_ok_weaker}
use Rattle.pol_table.proofs.Seen.{dock_seen, docked_after, there_after_dock}
use Rattle.pol_table.proofs.table.Table.dock.Goals as goal

pub invariant_of-self : goal.invariant_of-self
invariant_of-self g c =
    there_after_dock c.dock.result c.self.inside.watches.items c.args.tag c.args.part c.self.inside.holdings
    c.dock.new.self c.self.invariant c.dock.ensures.docked c.dock.ensures.unchanged

pub returns-clause-ok : goal.returns-clause-ok
returns-clause-ok g c = rw (← c.self.view_is)
    (on_ok_weaker c.dock.result
    (λ none. dock_seen c.self.inside.watches.items c.self.inside.holdings c.args.tag ∙ none) c.dock.ensures.ok)

pub returns-clause-docked : goal.returns-clause-docked
returns-clause-docked g c = rw (← c.self.view_is)
    (docked_after c.dock.result c.self.inside.watches.items c.args.tag c.args.part c.self.inside.holdings
    c.dock.new.self c.self.invariant c.dock.ensures.ok c.dock.ensures.docked)

pub returns-clause-err : goal.returns-clause-err
returns-clause-err g c = rw (← c.self.view_is, dock_seen c.self.inside.watches.items c.self.inside.holdings c.args.tag)
    c.dock.ensures.err
