use Rattle.std.proofs.Common.{sym}
use Rattle.std.proofs.lemmas.Result.{on_ok_weaker}
use Rattle.pol_audit.specs.Listed.{items_under}
use Rattle.pol_audit.proofs.cursors.Cursors.begin.Goals as goal

pub returns-in-Start : goal.returns-in-Start
returns-in-Start c =
    on_ok_weaker c.follow.result
    (λ follows. follows (items_under c.args.runs.now.named.entries) (sym c.of.ensures)) c.follow.ensures
