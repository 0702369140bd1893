use Rattle.serde_json.specs.View.{view}
use Rattle.event_json.proofs.Orderly.{from_orderly}
use Rattle.event_json.proofs.reading.event_from.Goals as goal

pub returns-clause-orderly : goal.returns-clause-orderly
returns-clause-orderly c = from_orderly (view c.args.value.now) c.told_from.result c.told_from.ensures
