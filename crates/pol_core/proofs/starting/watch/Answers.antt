-- Distinct tags are each watched once more; that changes nothing of what can be held.
use Rattle.std.proofs.lemmas.Result.{on_ok_weaker}
use Rattle.pol_core.proofs.Starts.{watches_now, watching_holds}
use Rattle.pol_core.proofs.starting.watch.Goals as goal

pub returns-clause-watches : goal.returns-clause-watches
returns-clause-watches c =
    on_ok_weaker c.watch_all.result
    (watches_now c.args.tags.now c.args.batch c.args.modules.now c.watch_all.new.self c.requires.distinct)
    c.watch_all.ensures.watched

pub returns-clause-holding : goal.returns-clause-holding
returns-clause-holding c held =
    watching_holds c.watch_all.result c.args.tags.now c.args.batch c.args.modules.now c.watch_all.new.self
    (on_ok_weaker c.watch_all.result
    (watches_now c.args.tags.now c.args.batch c.args.modules.now c.watch_all.new.self c.requires.distinct)
    c.watch_all.ensures.watched) c.watch_all.ensures.unchanged held
