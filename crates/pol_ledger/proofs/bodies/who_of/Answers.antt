use Rattle.pol_ledger.proofs.Reading.{begins_with_name}
use Rattle.pol_ledger.proofs.bodies.who_of.Goals as goal

pub returns-in-Some-clause-some : goal.returns-in-Some-clause-some
returns-in-Some-clause-some c =
    let cut = c.in_ok-name.ensures.cases in
    begins_with_name c.args.bytes.now c.in_ok-len.rest.now c.in_ok-name.name.now c.in_ok-name.behind.now c.in-Some.name
    c.in_ok-len.len.now c.in_ok-len.ensures.cases.0 cut.1 cut.2 cut.3 c.in-Some.ensures
