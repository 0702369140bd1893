-- Each kind of event, by what its function ensures.
use Rattle.std.proofs.Common.{◌≡◌, ◌∙◌, sym, ap, subst, refl, true}
use Rattle.std.proofs.lemmas.Bool.{and_parts}
use Rattle.std.proofs.lemmas.Result.{IfOk-weaker, on_err_weaker}
use Rattle.mtp_desc.specs.PlainDescription.{plain_description}
use Rattle.chart_core.specs.Charts.{plain_chart}
use Rattle.chart_core.specs.Roles.{is_chart_form}
use Rattle.pol_events.specs.Events.{plain_event, plug, unplug, report, variable, recipe, start, advance, freeze, thaw}
use Rattle.pol_events.specs.Events.{stop_batch, abandon, desk, exchange_begin, exchange_end, exchange_cancel}
use Rattle.pol_events.specs.Orderly.{is_allocation, is_orderly, is_valid}
use Rattle.pol_core.specs.Mirrors.{Answers}
use Rattle.pol_core.proofs.Learned.{recipe_answered}
use Rattle.pol_core.proofs.Together.{module_told, batch_told, module_kept}
use Rattle.pol_core.proofs.answering.answer_event.Goals as goal

pub returns-in-Plug-clause-answered : goal.returns-in-Plug-clause-answered
returns-in-Plug-clause-answered c =
    IfOk-weaker c.plug.result _ _ (λ answer answered history mirrors room.
    module_told (plug c.in-Plug.at c.in-Plug.tag (plain_description c.in-Plug.desc.value)) c.in-Plug.tag
    (ap plain_event (sym c.in-Plug.is)) refl refl mirrors
    (answered history c.in-Plug.at mirrors.seats mirrors.counted room)) c.plug.ensures.answered

pub returns-in-Unplug-clause-answered : goal.returns-in-Unplug-clause-answered
returns-in-Unplug-clause-answered c =
    λ history mirrors room.
    module_told (unplug c.in-Unplug.at c.in-Unplug.tag) c.in-Unplug.tag
    (ap plain_event (sym c.in-Unplug.is)) refl refl mirrors
    (c.unplug.ensures.answered history c.in-Unplug.at mirrors.seats mirrors.counted room)

pub returns-in-Report-clause-answered : goal.returns-in-Report-clause-answered
returns-in-Report-clause-answered c =
    λ history mirrors room.
    module_told (report c.in-Report.at c.in-Report.tag c.in-Report.service c.in-Report.control) c.in-Report.tag
    (ap plain_event (sym c.in-Report.is)) refl refl mirrors
    (c.report.ensures.answered history c.in-Report.at mirrors.seats mirrors.counted room)

pub returns-in-Variable-clause-answered : goal.returns-in-Variable-clause-answered
returns-in-Variable-clause-answered c =
    λ history mirrors room.
    module_told (variable c.in-Variable.at c.in-Variable.tag c.in-Variable.name c.in-Variable.value) c.in-Variable.tag
    (ap plain_event (sym c.in-Variable.is)) refl refl mirrors
    (c.variable.ensures.answered history c.in-Variable.at mirrors.seats mirrors.counted room)

pub returns-in-Recipe-clause-answered : goal.returns-in-Recipe-clause-answered
returns-in-Recipe-clause-answered c =
    let event = recipe c.in-Recipe.at c.in-Recipe.name (plain_chart c.in-Recipe.chart.value) in
    let same : event ≡ plain_event c.args.event.now = ap plain_event (sym c.in-Recipe.is) in
    IfOk-weaker c.recipe.result _ _ (λ answer taken history mirrors room.
    subst (λ event. Answers history event answer c.args.modules.now c.args.runs.now.entries
    c.recipe.new.recipes.entries) same
    (recipe_answered history c.in-Recipe.at c.in-Recipe.name
    (plain_chart c.in-Recipe.chart.value) answer c.args.modules.now c.args.runs.now.entries c.args.recipes.now.entries
    c.recipe.new.recipes.entries mirrors (taken history c.in-Recipe.at mirrors.recipes room))) c.recipe.ensures.answered

pub recipe-requires : goal.recipe-requires
recipe-requires c =
    let orderly : is_orderly (recipe c.in-Recipe.at c.in-Recipe.name (plain_chart c.in-Recipe.chart.value))
    ≡ true = ap (λ event. is_orderly (plain_event event)) (sym c.in-Recipe.is) ∙ c.requires.orderly in
    (and_parts (is_chart_form (plain_chart c.in-Recipe.chart.value)) (is_valid (plain_chart c.in-Recipe.chart.value))
    orderly).1

pub returns-in-Start-clause-answered : goal.returns-in-Start-clause-answered
returns-in-Start-clause-answered c =
    let event = start c.in-Start.at c.in-Start.batch c.in-Start.name
    (record { held = c.deref.result.now; watched = c.deref-in-Start.result.now }) in
    let same : event ≡ plain_event c.args.event.now =
    ap (λ held. start c.in-Start.at c.in-Start.batch c.in-Start.name
    (record { held = held; watched = c.deref-in-Start.result.now })) c.deref.ensures.value
    ∙ ap (λ watched. start c.in-Start.at c.in-Start.batch c.in-Start.name
    (record { held = c.in-Start.bind.items; watched = watched })) c.deref-in-Start.ensures.value
    ∙ ap plain_event (sym c.in-Start.is) in
    IfOk-weaker c.start.result _ _ (λ answer taken history mirrors room.
    subst (λ event. Answers history event answer c.start.new.modules c.start.new.runs.entries
    c.args.recipes.now.entries) same
    (taken history c.in-Start.at mirrors room)) c.start.ensures.answered

pub start-requires-clause-orderly : goal.start-requires-clause-orderly
start-requires-clause-orderly c =
    ap (λ held. is_allocation (record { held = held; watched = c.deref-in-Start.result.now })) c.deref.ensures.value
    ∙ ap (λ watched. is_allocation (record { held = c.in-Start.bind.items; watched = watched }))
    c.deref-in-Start.ensures.value
    ∙ ap (λ event. is_orderly (plain_event event)) (sym c.in-Start.is) ∙ c.requires.orderly

pub returns-in-Advance-clause-answered : goal.returns-in-Advance-clause-answered
returns-in-Advance-clause-answered c =
    λ history mirrors room.
    batch_told (advance c.in-Advance.at c.in-Advance.batch) c.in-Advance.batch
    (ap plain_event (sym c.in-Advance.is)) refl refl
    mirrors
    (c.advance.ensures.answered history c.in-Advance.at mirrors.seats mirrors.counted mirrors.batches room)
    c.advance.ensures.names

pub returns-in-Freeze-clause-answered : goal.returns-in-Freeze-clause-answered
returns-in-Freeze-clause-answered c =
    λ history mirrors room.
    batch_told (freeze c.in-Freeze.at c.in-Freeze.batch c.in-Freeze.hold) c.in-Freeze.batch
    (ap plain_event (sym c.in-Freeze.is)) refl refl
    mirrors
    (c.freeze.ensures.answered c.args.modules.now history c.in-Freeze.at mirrors.seats mirrors.counted
    mirrors.batches room)
    c.freeze.ensures.names

pub returns-in-Thaw-clause-answered : goal.returns-in-Thaw-clause-answered
returns-in-Thaw-clause-answered c =
    λ history mirrors room.
    batch_told (thaw c.in-Thaw.at c.in-Thaw.batch) c.in-Thaw.batch (ap plain_event (sym c.in-Thaw.is)) refl refl
    mirrors
    (c.thaw.ensures.answered c.args.modules.now history c.in-Thaw.at mirrors.seats mirrors.counted mirrors.batches room)
    c.thaw.ensures.names

pub returns-in-StopBatch-clause-answered : goal.returns-in-StopBatch-clause-answered
returns-in-StopBatch-clause-answered c =
    λ history mirrors room.
    batch_told (stop_batch c.in-StopBatch.at c.in-StopBatch.batch) c.in-StopBatch.batch
    (ap plain_event (sym c.in-StopBatch.is)) refl refl
    mirrors
    (c.stop.ensures.answered c.args.modules.now history c.in-StopBatch.at mirrors.seats mirrors.counted
    mirrors.batches room)
    c.stop.ensures.names

pub returns-in-Abandon-clause-answered : goal.returns-in-Abandon-clause-answered
returns-in-Abandon-clause-answered c =
    λ history mirrors room.
    batch_told (abandon c.in-Abandon.at c.in-Abandon.batch) c.in-Abandon.batch
    (ap plain_event (sym c.in-Abandon.is)) refl refl
    mirrors
    (c.abandon.ensures.answered history c.in-Abandon.at mirrors.seats mirrors.counted mirrors.batches room)
    c.abandon.ensures.names

pub returns-in-Desk-clause-answered : goal.returns-in-Desk-clause-answered
returns-in-Desk-clause-answered c =
    λ history mirrors room.
    module_told (desk c.in-Desk.at c.in-Desk.tag c.in-Desk.service c.in-Desk.command) c.in-Desk.tag
    (ap plain_event (sym c.in-Desk.is)) refl refl mirrors
    (c.desk.ensures.answered history c.in-Desk.at mirrors.seats mirrors.counted room)

pub returns-in-ExchangeBegin-clause-answered : goal.returns-in-ExchangeBegin-clause-answered
returns-in-ExchangeBegin-clause-answered c =
    λ history mirrors room.
    module_told (exchange_begin c.in-ExchangeBegin.at c.in-ExchangeBegin.tag) c.in-ExchangeBegin.tag
    (ap plain_event (sym c.in-ExchangeBegin.is)) refl refl mirrors
    (c.exchange_begin.ensures.answered history c.in-ExchangeBegin.at mirrors.seats mirrors.counted mirrors.batches room)

pub returns-in-ExchangeEnd-clause-answered : goal.returns-in-ExchangeEnd-clause-answered
returns-in-ExchangeEnd-clause-answered c =
    IfOk-weaker c.exchange_end.result _ _ (λ answer answered history mirrors room.
    module_told (exchange_end c.in-ExchangeEnd.at c.in-ExchangeEnd.tag c.in-ExchangeEnd.ticket
    (plain_description c.in-ExchangeEnd.desc.value)) c.in-ExchangeEnd.tag
    (ap plain_event (sym c.in-ExchangeEnd.is)) refl refl mirrors
    (answered history c.in-ExchangeEnd.at mirrors.seats mirrors.counted mirrors.batches room))
    c.exchange_end.ensures.answered

pub returns-in-ExchangeEnd-clause-kept : goal.returns-in-ExchangeEnd-clause-kept
returns-in-ExchangeEnd-clause-kept c =
    on_err_weaker c.exchange_end.result (λ kept history mirrors.
    let same = kept history mirrors.seats mirrors.counted in
    module_kept history c.args.modules.now c.exchange_end.new.modules c.args.runs.now.entries
    c.args.recipes.now.entries mirrors same.0 same.1) c.exchange_end.ensures.kept

pub returns-in-ExchangeCancel-clause-answered : goal.returns-in-ExchangeCancel-clause-answered
returns-in-ExchangeCancel-clause-answered c =
    λ history mirrors room.
    module_told (exchange_cancel c.in-ExchangeCancel.at c.in-ExchangeCancel.tag c.in-ExchangeCancel.ticket)
    c.in-ExchangeCancel.tag (ap plain_event (sym c.in-ExchangeCancel.is)) refl refl mirrors
    (c.exchange_cancel.ensures.answered history c.in-ExchangeCancel.at mirrors.seats mirrors.counted room)
