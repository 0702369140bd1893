-- The watches that are left have at this place what all have at the first place.
use Rattle.std.proofs.Common.{◌≡◌, drop, slice_get}
use Rattle.pol_table.specs.Watches.{watchers_in}
use Rattle.pol_table.proofs.watching.watcher_at.Given as goal

abbrev pub invariant-loop-watch : goal.invariant-loop-watch
invariant-loop-watch l = slice_get (watchers_in l.tag (drop l.watch-index l.watches)) l.left
    ≡ slice_get (watchers_in l.tag l.watches) l.place
