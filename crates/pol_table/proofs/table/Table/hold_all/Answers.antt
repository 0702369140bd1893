-- The holdings hold the tags, or answer why not.
use Rattle.std.proofs.Common.{◌∙◌, sym}
use Rattle.pol_table.proofs.Seen.{holding_seen, held_after, there_after_hold}
use Rattle.pol_table.proofs.table.Table.hold_all.Goals as goal

pub invariant_of-self : goal.invariant_of-self
invariant_of-self g c =
    there_after_hold c.hold_all.result c.self.inside.watches.items c.args.tags.now c.args.batch c.self.inside.holdings
    c.hold_all.new.self c.self.invariant c.hold_all.ensures.held c.hold_all.ensures.unchanged

pub returns-clause-answer : goal.returns-clause-answer
returns-clause-answer g c = rw (← c.self.view_is)
    (c.hold_all.ensures.answer
    ∙ sym (holding_seen c.self.inside.watches.items c.self.inside.holdings c.args.tags.now))

pub returns-clause-held : goal.returns-clause-held
returns-clause-held g c = rw (← c.self.view_is)
    (held_after c.hold_all.result c.self.inside.watches.items c.args.tags.now c.args.batch c.self.inside.holdings
    c.hold_all.new.self c.hold_all.ensures.held)
