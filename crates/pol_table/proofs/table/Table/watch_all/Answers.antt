-- The list grows by the watches of these tags.
use Rattle.std.proofs.Common.{ap, ◌∙◌}
use Rattle.std.proofs.lemmas.Result.{on_ok_weaker}
use Rattle.pol_table.specs.Rows.{look}
use Rattle.pol_table.specs.Watches.{seen_rows}
use Rattle.pol_table.proofs.Seen.{there_added, watched_seen}
use Rattle.pol_table.proofs.table.Table.watch_all.Goals as goal

pub invariant_of-self : goal.invariant_of-self
invariant_of-self g c =
    there_added c.add_each.result c.args.batch c.args.tags.now c.self.inside.watches.items c.add_each.new.watches.items
    c.self.inside.holdings c.add_each.ensures.added c.add_each.ensures.unchanged c.self.invariant
    (λ tag among. rw c.self.view_is (c.requires tag among))

pub returns-clause-watched : goal.returns-clause-watched
returns-clause-watched g c =
    on_ok_weaker c.add_each.result
    (λ added tag. rw (← c.self.view_is)
    (ap (λ watches. look tag (seen_rows watches c.self.inside.holdings)) added
    ∙ watched_seen c.args.batch c.args.tags.now c.self.inside.watches.items c.self.inside.holdings tag))
    c.add_each.ensures.added
