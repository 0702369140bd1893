use Rattle.std.proofs.Common.{sym, ◌∙◌}
use Rattle.pol_runs.proofs.run.Run.settle.Goals as goal

pub did-requires : goal.did-requires
did-requires c = (c.requires.0, λ log asked follows asks. sym c.in-Did.is ∙ c.requires.1 log asked follows asks)
