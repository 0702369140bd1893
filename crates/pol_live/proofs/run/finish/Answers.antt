use Rattle.std.proofs.Common.{◌∙◌, List, ap, subst, sym}
use Rattle.pol_events.specs.Events.{plain_history}
use Rattle.pol_events.specs.declared.event.Entry.{Entry}
use Rattle.pol_site.specs.Settled.{IsSettled}
use Rattle.pol_live.specs.Turns.{Locked}
use Rattle.pol_live.proofs.run.finish.Goals as goal

pub returns-clause-settled : goal.returns-clause-settled
returns-clause-settled g c =
    subst (λ (entries : List Entry). IsSettled g.J.Job.site (plain_history entries))
    (sym (c.into_parts-history.ensures.entries ∙ ap (λ (plant : Locked). plant.entries) c.into_inner.ensures))
    c.in_ok-settle.ensures
