use Rattle.std.proofs.Common.{◌∙◌}
use Rattle.pol_bind.proofs.Requirements.{matches_as_read}
use Rattle.pol_bind.proofs.cover.is_met.Goals as goal

pub returns : goal.returns
returns c = c.matches.ensures ∙ matches_as_read c.args.role.now.wants c.args.role.now.req c.args.version.now
    c.args.role.now.reads
