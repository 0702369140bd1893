-- No watcher so far is against it.
use Rattle.std.proofs.Common.{◌≡◌, drop, map}
use Rattle.mtp_codes.specs.Faults.{first_of}
use Rattle.mtp_desc.specs.PlainDescription.{plain_description}
use Rattle.pol_table.specs.Rows.{watchers_of}
use Rattle.pol_table.specs.Watches.{watchers_in}
use Rattle.pol_core.specs.Exchanges.{lacks}
use Rattle.pol_core.proofs.exchanges.held_back_by_watcher.Given as goal

abbrev pub invariant-loop-watch : goal.invariant-loop-watch
invariant-loop-watch l =
    first_of (map (lacks l.runs.entries l.tag (plain_description l.desc))
    (watchers_in l.tag (drop l.watch-index l.watch-items)))
    ≡ first_of (map (lacks l.runs.entries l.tag (plain_description l.desc)) (watchers_of l.tag l.modules))
