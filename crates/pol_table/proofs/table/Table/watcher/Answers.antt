-- A tag has the watchers that the list gives it.
use Rattle.std.proofs.Common.{sym, ap, ◌∙◌}
use Rattle.std.specs.Prelude.{slice_get}
use Rattle.pol_table.specs.Watches.{watchers_in}
use Rattle.pol_table.proofs.Seen.{watchers_seen}
use Rattle.pol_table.proofs.table.Table.watcher.Goals as goal

pub returns : goal.returns
returns g c = rw (← c.self.view_is)
    (c.watcher_at.ensures
    ∙ ap (λ watches. slice_get (watchers_in c.args.tag watches) c.args.place) c.deref.ensures.value
    ∙ ap (λ found. slice_get found c.args.place)
    (sym (watchers_seen c.self.inside.watches.items c.self.inside.holdings c.args.tag c.self.invariant)))
