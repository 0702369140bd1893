use Rattle.serde_json.specs.View.{view}
use Rattle.named_lines.proofs.Said.{told_orderly, told_person}
use Rattle.named_lines.proofs.named.named_from.Goals as goal

pub returns-clause-orderly : goal.returns-clause-orderly
returns-clause-orderly c = told_orderly (view c.args.value) c.told_from.result c.told_from.ensures

pub returns-clause-named : goal.returns-clause-named
returns-clause-named c = told_person (view c.args.value) c.told_from.result c.told_from.ensures
