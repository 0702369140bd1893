use Rattle.pol_demo.proofs.Runs.{journal_told}
use Rattle.pol_demo.proofs.journal.tell_journal.Goals as goal

pub returns : goal.returns
returns c =
    journal_told c.args.seed _ _ _ _ _ c.in_ok-teller.ensures.nothing c.in_ok-dock.ensures.told
    c.in_ok-report_idle.ensures.told c.in_ok-make_known.ensures.told c.in_ok-run_batches.ensures
