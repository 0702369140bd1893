use Rattle.std.proofs.Common.{ap, ◌∙◌}
use Rattle.std.specs.Prelude.{position}
use Rattle.std.specs.Str.{bytes_eq}
use Rattle.mtp_sim.specs.Commands.{place_of}
use Rattle.mtp_sim.proofs.Indexed.{place_named}
use Rattle.mtp_sim.proofs.sim.Sim.place_of.Goals as goal

pub returns : goal.returns
returns c =
    c.get_index_of.ensures.index ∙ ap (position (bytes_eq c.args.name)) c.self.invariant.indexed
    ∙ place_named c.self.inside.services.items c.args.name ∙ ap (place_of c.args.name) c.self.view_is
