use Rattle.pol_events.specs.Events.{plain_entry}
use Rattle.pol_retold.proofs.Entries.{entries_retold}
use Rattle.pol_cli.proofs.jobs.plant.put_entry.Goals as goal

pub returns-clause-retold : goal.returns-clause-retold
returns-clause-retold g c =
    entries_retold (plain_entry c.args.entry.now) c.in_ok-put_entry_line.ensures.held
    c.in_ok-put_entry_line.ensures.written
