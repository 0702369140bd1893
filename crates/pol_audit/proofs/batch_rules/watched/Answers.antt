use Rattle.std.proofs.Common.{sym, ◌∙◌}
use Rattle.pol_events.specs.Events.{plain_history}
use Rattle.pol_audit.proofs.Watching.{watched_is}
use Rattle.pol_audit.proofs.batch_rules.watched.Goals as goal

pub returns : goal.returns
returns c =
    c.first_watcher.ensures
    ∙ sym (watched_is (plain_history c.args.history.now) c.args.tag c.starts.result.now c.starts.ensures)
