use Rattle.std.proofs.Common.{rules}
use Rattle.pol_table.proofs.Seen.{counts_one}
use Rattle.pol_table.proofs.watching.watcher_at.Goals as goal

pub loop-watch-preserved : goal.loop-watch-preserved
loop-watch-preserved c = counts_one c.args.tag c.args.watches.now c.loop-watch.watch-index c.watch-item.result
    c.loop-watch-test.true c.watch-item.is (search rules) c.loop-watch.left _ _ (search rules)
    c.loop-watch.invariant
