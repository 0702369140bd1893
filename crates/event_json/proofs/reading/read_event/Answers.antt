use Rattle.event_json.proofs.Orderly.{told_orderly}
use Rattle.event_json.proofs.reading.read_event.Goals as goal

pub returns-clause-orderly : goal.returns-clause-orderly
returns-clause-orderly c = told_orderly c.args.line.now c.read_valid.result c.read_valid.ensures
