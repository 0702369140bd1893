use Rattle.std.proofs.Common.{ap, ◌∙◌}
use Rattle.std.specs.Str.{bytes_eq}
use Rattle.indexmap.specs.IndexSet.{insert_key}
use Rattle.mtp_sim.proofs.Indexed.{next_named}
use Rattle.mtp_sim.proofs.sim.names_of.Goals as goal

pub loop-service-preserved : goal.loop-service-preserved
loop-service-preserved c =
    c.in_ok-insert.ensures.keys ∙ ap (λ keys. insert_key bytes_eq keys c.service-item.result.name)
    c.loop-service.invariant
    ∙ next_named c.args.services.now c.loop-service.service-index c.service-item.result c.requires
    c.loop-service-test.true c.service-item.is
