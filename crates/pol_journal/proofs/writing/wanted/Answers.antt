use Rattle.std.proofs.lemmas.Result.{IfOk-weaker}
use Rattle.pol_events.specs.Events.{plain_history}
use Rattle.pol_journal.proofs.Wanted.{all_wanted, kept_wanted, many_kept}
use Rattle.pol_journal.proofs.writing.wanted.Goals as goal

pub returns-in-Whole-clause-text : goal.returns-in-Whole-clause-text
returns-in-Whole-clause-text c =
    rw c.in-Whole.is (IfOk-weaker c.all_up.result _ _
    (λ flags up. all_wanted c.args.history.now flags.items up) c.all_up.ensures)

pub returns-in-Compacted-clause-each : goal.returns-in-Compacted-clause-each
returns-in-Compacted-clause-each c =
    IfOk-weaker c.kept.result _ _
    (λ flags is. many_kept (plain_history c.args.history.now) c.args.history.now flags.items is) c.kept.ensures.flags

pub returns-in-Compacted-clause-text : goal.returns-in-Compacted-clause-text
returns-in-Compacted-clause-text c =
    rw c.in-Compacted.is (IfOk-weaker c.kept.result _ _
    (λ flags kept. kept_wanted c.args.history.now flags.items c.requires kept) c.kept.ensures.kept)
