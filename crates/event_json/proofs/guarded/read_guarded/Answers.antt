use Rattle.event_json.proofs.Named.{told_named, told_orderly}
use Rattle.event_json.proofs.guarded.read_guarded.Goals as goal

pub returns-clause-orderly : goal.returns-clause-orderly
returns-clause-orderly c = told_orderly c.args.line.now c.read_valid.result c.read_valid.ensures

pub returns-clause-named : goal.returns-clause-named
returns-clause-named c = told_named c.args.line.now c.read_valid.result c.read_valid.ensures
