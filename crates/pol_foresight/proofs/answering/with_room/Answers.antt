-- Each kind of event, by what its function ensures.
use Rattle.std.proofs.Common.{◌∙◌, ap, sym, subst}
use Rattle.mtp_desc.specs.PlainDescription.{plain_description}
use Rattle.mtp_desc.specs.declared.description.Description.{Description}
use Rattle.chart_core.specs.Charts.{plain_chart}
use Rattle.pol_events.specs.Events.{plain_event, start, exchange_end}
use Rattle.pol_foresight.specs.Foreseen.{IsForeseen}
use Rattle.pol_foresight.proofs.answering.with_room.Goals as goal

pub returns-in-Plug : goal.returns-in-Plug
returns-in-Plug c =
    subst (λ event. IsForeseen c.args.plant.now event c.plug.result) (ap plain_event (sym c.in-Plug.is))
    (c.plug.ensures (plain_description c.in-Plug.desc.value) c.in-Plug.at)

pub returns-in-Unplug : goal.returns-in-Unplug
returns-in-Unplug c =
    subst (λ event. IsForeseen c.args.plant.now event c.unplug.result) (ap plain_event (sym c.in-Unplug.is))
    (c.unplug.ensures c.in-Unplug.at)

pub returns-in-Report : goal.returns-in-Report
returns-in-Report c =
    subst (λ event. IsForeseen c.args.plant.now event c.report.result) (ap plain_event (sym c.in-Report.is))
    (c.report.ensures c.in-Report.at)

pub returns-in-Variable : goal.returns-in-Variable
returns-in-Variable c =
    subst (λ event. IsForeseen c.args.plant.now event c.variable.result) (ap plain_event (sym c.in-Variable.is))
    (c.variable.ensures c.in-Variable.at)

pub returns-in-Recipe : goal.returns-in-Recipe
returns-in-Recipe c =
    subst (λ event. IsForeseen c.args.plant.now event c.recipe.result) (ap plain_event (sym c.in-Recipe.is))
    (c.recipe.ensures (plain_chart c.in-Recipe.chart.value) c.in-Recipe.at)

pub returns-in-Start : goal.returns-in-Start
returns-in-Start c =
    subst (λ event. IsForeseen c.args.plant.now event c.start.result)
    (ap (λ held. start c.in-Start.at c.in-Start.batch c.in-Start.name
    (record { held = held; watched = c.deref-in-Start.result.now })) c.deref.ensures.value
    ∙ ap (λ watched. start c.in-Start.at c.in-Start.batch c.in-Start.name
    (record { held = c.in-Start.bind.items; watched = watched })) c.deref-in-Start.ensures.value
    ∙ ap plain_event (sym c.in-Start.is))
    (c.start.ensures c.in-Start.at)

pub returns-in-Advance : goal.returns-in-Advance
returns-in-Advance c =
    subst (λ event. IsForeseen c.args.plant.now event c.advance.result) (ap plain_event (sym c.in-Advance.is))
    (c.advance.ensures c.in-Advance.at)

pub returns-in-Freeze : goal.returns-in-Freeze
returns-in-Freeze c =
    subst (λ event. IsForeseen c.args.plant.now event c.freeze.result) (ap plain_event (sym c.in-Freeze.is))
    (c.freeze.ensures c.in-Freeze.at)

pub returns-in-Thaw : goal.returns-in-Thaw
returns-in-Thaw c =
    subst (λ event. IsForeseen c.args.plant.now event c.thaw.result) (ap plain_event (sym c.in-Thaw.is))
    (c.thaw.ensures c.in-Thaw.at)

pub returns-in-StopBatch : goal.returns-in-StopBatch
returns-in-StopBatch c =
    subst (λ event. IsForeseen c.args.plant.now event c.stop.result) (ap plain_event (sym c.in-StopBatch.is))
    (c.stop.ensures c.in-StopBatch.at)

pub returns-in-Abandon : goal.returns-in-Abandon
returns-in-Abandon c =
    subst (λ event. IsForeseen c.args.plant.now event c.abandon.result) (ap plain_event (sym c.in-Abandon.is))
    (c.abandon.ensures c.in-Abandon.at)

pub returns-in-Desk : goal.returns-in-Desk
returns-in-Desk c =
    subst (λ event. IsForeseen c.args.plant.now event c.desk.result) (ap plain_event (sym c.in-Desk.is))
    (c.desk.ensures c.in-Desk.at)

pub returns-in-ExchangeBegin : goal.returns-in-ExchangeBegin
returns-in-ExchangeBegin c =
    subst (λ event. IsForeseen c.args.plant.now event c.exchange_begin.result) (ap plain_event (sym c.in-ExchangeBegin.is))
    (c.exchange_begin.ensures c.in-ExchangeBegin.at)

pub returns-in-ExchangeEnd : goal.returns-in-ExchangeEnd
returns-in-ExchangeEnd c =
    subst (λ event. IsForeseen c.args.plant.now event c.exchange_end.result)
    (ap (λ (desc : Description). exchange_end c.in-ExchangeEnd.at c.in-ExchangeEnd.tag c.in-ExchangeEnd.ticket
    (plain_description desc)) c.deref-in-ExchangeEnd.ensures
    ∙ ap plain_event (sym c.in-ExchangeEnd.is))
    (c.exchange_end.ensures c.in-ExchangeEnd.at)

pub returns-in-ExchangeCancel : goal.returns-in-ExchangeCancel
returns-in-ExchangeCancel c =
    subst (λ event. IsForeseen c.args.plant.now event c.exchange_cancel.result) (ap plain_event (sym c.in-ExchangeCancel.is))
    (c.exchange_cancel.ensures c.in-ExchangeCancel.at)
