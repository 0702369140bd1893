use Rattle.std.proofs.Common.{◌∙◌, ap, length, reverse, sym, subst}
use Rattle.pol_events.specs.Events.{plain_history}
use Rattle.pol_site.specs.Actors.{actors}
use Rattle.pol_live.specs.Parts.{AreParts}
use Rattle.pol_live.specs.Turns.{Locked}
use Rattle.pol_live.proofs.AllCompared.{all_counted}
use Rattle.pol_live.proofs.Makers.{owners_long, owners_within}
use Rattle.pol_live.proofs.OwnParts.{all_own}
use Rattle.pol_live.proofs.live.LivePlant.close.Goals as goal

pub returns-in-Ok-clause-own : goal.returns-in-Ok-clause-own
returns-in-Ok-clause-own g c =
    let site = g.J.Job.site in
    let left = c.into_inner-plant.result in
    let ran = c.leave-ran.result in
    let owned = c.leave-ran.ensures.run.owned in
    let long = owners_long site ran.history.items ran.by.items owned in
    let counted = all_counted (length (actors site)) g.J.Ledger.parts left.rest.parts left.rest.amount
    c.gather-whole.result.parts c.gather-whole.result.amount left.book.total (length c.into_inner.result.entries)
    c.args.seats.items
    c.requires.seats c.requires.parts left.spent.0 left.spent.1 c.gather-whole.ensures.parts
    c.gather-whole.ensures.amount
    c.audit.ensures.whole
    (left.counted ∙ ap (λ (plant : Locked). length plant.entries) (sym c.into_inner.ensures)) in
    all_own ran.by.items ran.history.items (length (actors site)) c.args.seats.items long
    (owners_within site ran.by.items (reverse (plain_history ran.history.items)) owned) c.requires.seats
    (subst (AreParts ran.by.items ran.history.items) c.deref.ensures.value c.in-Ok.ensures.ok)
    (counted ∙ ap length (sym c.leave-ran.ensures.entries) ∙ sym long)

pub returns-in-Ok-clause-counted : goal.returns-in-Ok-clause-counted
returns-in-Ok-clause-counted g c =
    let left = c.into_inner-plant.result in
    all_counted (length (actors g.J.Job.site)) g.J.Ledger.parts left.rest.parts left.rest.amount
    c.gather-whole.result.parts c.gather-whole.result.amount left.book.total _ c.args.seats.items c.requires.seats
    c.requires.parts left.spent.0 left.spent.1 c.gather-whole.ensures.parts c.gather-whole.ensures.amount
    c.audit.ensures.whole (left.counted ∙ ap (λ (plant : Locked). length plant.entries) (sym c.into_inner.ensures)
    ∙ ap length (sym c.leave-ran.ensures.entries))

pub returns-clause-strayed_counted : goal.returns-clause-strayed_counted
returns-clause-strayed_counted g c =
    let left = c.into_inner-plant.result in
    rw c.in_run.ensures.run
    (all_counted (length (actors g.J.Job.site)) g.J.Ledger.parts left.rest.parts left.rest.amount
    c.gather-whole.result.parts c.gather-whole.result.amount left.book.total _ c.args.seats.items c.requires.seats
    c.requires.parts left.spent.0 left.spent.1 c.gather-whole.ensures.parts c.gather-whole.ensures.amount
    c.audit.ensures.whole (left.counted ∙ ap (λ (plant : Locked). length plant.entries) (sym c.into_inner.ensures)
    ∙ ap length (sym c.leave-ran.ensures.entries)))
