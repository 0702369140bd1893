use Rattle.std.proofs.Common.{◌≡◌, ◌∙◌, Some, None, ap, sym, subst}
use Rattle.std.specs.Prelude.{IfOk, slice_get}
use Rattle.pol_site.specs.PlainSite.{plain_site}
use Rattle.pol_site.specs.Views.{plain_module}
use Rattle.pol_site.specs.declared.parts.SiteExchange.{SiteExchange}
use Rattle.pol_actors.specs.Turning.{Origin, first_made, origin_by, origin_of}
use Rattle.pol_actors.proofs.Lists.{exchange_at}
use Rattle.pol_actors.proofs.unit.Unit.start.Goals as goal

pub returns-in-Some-item_at : goal.returns-in-Some-item_at
returns-in-Some-item_at c =
    let at : slice_get c.args.site.now.exchanges.items c.in-Some.place ≡ Some c.in-Some-item_at.exchange.now =
    ap (λ items. slice_get {X = SiteExchange} items c.in-Some.place) (sym c.deref.ensures.value)
    ∙ sym c.in-Some-item_at.ensures in
    subst (λ (origin : Origin). IfOk c.first_made.result (λ made. made ≡ first_made origin c.args.length))
    (sym (ap (origin_of (plain_site c.args.site.now) (plain_module c.args.unit.now)) c.in-Some.is
    ∙ ap (origin_by (plain_module c.args.unit.now))
    (exchange_at c.args.site.now c.in-Some.place (Some c.in-Some-item_at.exchange.now) at)))
    c.first_made.ensures

pub returns-in-None-item_at : goal.returns-in-None-item_at
returns-in-None-item_at c =
    let at : slice_get c.args.site.now.exchanges.items c.in-Some.place ≡ None =
    ap (λ items. slice_get {X = SiteExchange} items c.in-Some.place) (sym c.deref.ensures.value)
    ∙ sym c.in-None-item_at.ensures in
    subst (λ (origin : Origin). IfOk c.first_made-in-None-item_at.result
    (λ made. made ≡ first_made origin c.args.length))
    (sym (ap (origin_of (plain_site c.args.site.now) (plain_module c.args.unit.now)) c.in-Some.is
    ∙ ap (origin_by (plain_module c.args.unit.now)) (exchange_at c.args.site.now c.in-Some.place None at)))
    c.first_made-in-None-item_at.ensures
