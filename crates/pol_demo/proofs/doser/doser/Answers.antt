use Rattle.pol_demo.proofs.Versions.{doser_version}
use Rattle.pol_demo.proofs.doser.doser.Goals as goal

pub invariant_of-result-clause-versioned : goal.invariant_of-result-clause-versioned
invariant_of-result-clause-versioned c = rw (c.short.ensures, c.new.ensures) doser_version
