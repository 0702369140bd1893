use Rattle.kept_jobs.proofs.Admitting.{admitted}
use Rattle.pol_ledger.specs.Items.{asked, plain_asked}
use Rattle.pol_ledger.specs.Lawful.{ledgers_are_lawful}
use Rattle.pol_ledger.specs.Ledgers.{ledger_state}
use Rattle.pol_ledger.specs.Work.{ledger_work}
use Rattle.pol_operate.proofs.asking.admit.Goals as goal

pub returns-in-Ok-clause-admits : goal.returns-in-Ok-clause-admits
returns-in-Ok-clause-admits g c =
    admitted ledger_work ledger_state c.args.store.now c.admit.new.self c.admit.ensures.uncalled c.admit.ensures.closed
    ledgers_are_lawful (asked (plain_asked c.args.one)) c.in-Ok.ensures.after c.in-Ok.ensures.waits
