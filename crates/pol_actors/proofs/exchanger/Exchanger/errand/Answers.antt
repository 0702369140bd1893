use Rattle.std.proofs.Common.{rules, ◌≡◌, ◌∙◌, Some, None, ap, sym, arith}
use Rattle.std.specs.Prelude.{slice_get}
use Rattle.pol_core.specs.Plants.{plant_history}
use Rattle.pol_site.specs.PlainSite.{plain_site}
use Rattle.pol_site.specs.Views.{plain_exchange}
use Rattle.pol_site.specs.declared.parts.SiteExchange.{SiteExchange}
use Rattle.pol_actors.proofs.Lists.{all_opened, errand_closed, exchange_at}
use Rattle.pol_actors.proofs.exchanger.Exchanger.errand.Goals as goal

pub returns-in_err-item_at-in-Closed : goal.returns-in_err-item_at-in-Closed
returns-in_err-item_at-in-Closed c =
    let site = c.args.site.now in
    let all = all_opened site c.args.self.now.opened c.len.result c.len-2.result (search rules) (search rules)
    (omega (arith, c.if-self-len.false)) in
    let at : slice_get site.exchanges.items c.args.self.now.begun ≡ None =
    ap (λ items. slice_get {X = SiteExchange} items c.args.self.now.begun) (sym c.deref.ensures.value)
    ∙ sym c.in_err-item_at-in-Closed.ensures in
    c.from_residual.ensures
    ∙ sym (errand_closed (plain_site site)
    (plant_history c.args.plant.now) c.args.length c.args.self.now None all c.in-Closed.is
    (exchange_at site c.args.self.now.begun None at))

pub returns-in_ok-item_at-in-Closed : goal.returns-in_ok-item_at-in-Closed
returns-in_ok-item_at-in-Closed c =
    let site = c.args.site.now in
    let all = all_opened site c.args.self.now.opened c.len.result c.len-2.result (search rules) (search rules)
    (omega (arith, c.if-self-len.false)) in
    let found = c.in_ok-item_at-in-Closed.field-0.now in
    let at : slice_get site.exchanges.items c.args.self.now.begun ≡ Some found =
    ap (λ items. slice_get {X = SiteExchange} items c.args.self.now.begun) (sym c.deref.ensures.value)
    ∙ sym c.in_ok-item_at-in-Closed.ensures in
    c.begin_errand.ensures
    ∙ sym (errand_closed (plain_site site) (plant_history c.args.plant.now) c.args.length c.args.self.now
    (Some (plain_exchange found)) all c.in-Closed.is (exchange_at site c.args.self.now.begun (Some found) at))
