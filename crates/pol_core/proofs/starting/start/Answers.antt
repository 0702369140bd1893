-- A batch is started, or a rule is against it.
use Rattle.std.proofs.Common.{◌∙◌, sym, ap}
use Rattle.chart_core.specs.Charts.{plain_chart}
use Rattle.chart_core.specs.declared.chart.Chart.{Chart}
use Rattle.pol_events.specs.Bound.{plain_allocation}
use Rattle.pol_events.specs.declared.answer.Rule.TheVariants.{NoRecipe}
use Rattle.pol_core.specs.Judging.{chart_rule}
use Rattle.pol_core.proofs.Begun.{charted_is, no_recipe_rules, start_rules_are, start_refused, fresh_batch, tags_free}
use Rattle.pol_core.proofs.Begun.{watched_distinct, watched_there, binds_fit, start_answered}
use Rattle.pol_core.proofs.starting.start.Goals as goal

pub returns-in_default-clause-answered : goal.returns-in_default-clause-answered
returns-in_default-clause-answered c =
    λ history at mirrors room.
    start_refused history at c.args.batch c.args.name (plain_allocation c.args.binds) NoRecipe c.args.modules.now
    c.args.runs.now.entries c.args.recipes.now.entries mirrors room
    (no_recipe_rules history at c.args.batch c.args.name (plain_allocation c.args.binds) c.args.recipes.now.entries
    mirrors.recipes (sym c.in_default.ensures.value))

pub returns-in-Some-chart_rule-clause-answered : goal.returns-in-Some-chart_rule-clause-answered
returns-in-Some-chart_rule-clause-answered c =
    λ history at mirrors room.
    start_refused history at c.args.batch c.args.name (plain_allocation c.args.binds) c.in-Some-chart_rule.rule
    c.args.modules.now c.args.runs.now.entries
    c.args.recipes.now.entries mirrors room
    (start_rules_are history at c.args.batch c.args.name (plain_allocation c.args.binds)
    (plain_chart c.in-Some.chart.now.value) c.args.modules.now c.args.runs.now.entries
    c.args.recipes.now.entries mirrors
    (charted_is history c.args.recipes.now.entries c.args.name c.in-Some.chart.now mirrors.recipes
    (sym c.in-Some.ensures.value))
    ∙ ap (λ (chart : Chart). chart_rule c.args.modules.now c.args.runs.now.entries c.args.batch
    (plain_allocation c.args.binds) (plain_chart chart)) (sym c.deref.ensures)
    ∙ sym c.chart_rule.ensures ∙ c.in-Some-chart_rule.is)

pub begin-requires-clause-free : goal.begin-requires-clause-free
begin-requires-clause-free c =
    let none =
    ap (λ (chart : Chart). chart_rule c.args.modules.now c.args.runs.now.entries c.args.batch
    (plain_allocation c.args.binds) (plain_chart chart)) (sym c.deref.ensures)
    ∙ sym c.chart_rule.ensures ∙ c.in_default-chart_rule.is in
    let fresh = fresh_batch c.args.modules.now c.args.runs.now.entries c.args.batch (plain_allocation c.args.binds)
    (plain_chart c.in-Some.chart.now.value) none in
    tags_free c.args.modules.now (plain_chart c.in-Some.chart.now.value) (plain_allocation c.args.binds)
    c.requires.orderly fresh.1

pub begin-requires-clause-there : goal.begin-requires-clause-there
begin-requires-clause-there c =
    let none =
    ap (λ (chart : Chart). chart_rule c.args.modules.now c.args.runs.now.entries c.args.batch
    (plain_allocation c.args.binds) (plain_chart chart)) (sym c.deref.ensures)
    ∙ sym c.chart_rule.ensures ∙ c.in_default-chart_rule.is in
    let fresh = fresh_batch c.args.modules.now c.args.runs.now.entries c.args.batch (plain_allocation c.args.binds)
    (plain_chart c.in-Some.chart.now.value) none in
    watched_there c.args.modules.now (plain_chart c.in-Some.chart.now.value) (plain_allocation c.args.binds)
    c.requires.orderly fresh.1

pub begin-requires-clause-distinct : goal.begin-requires-clause-distinct
begin-requires-clause-distinct c =
    let none =
    ap (λ (chart : Chart). chart_rule c.args.modules.now c.args.runs.now.entries c.args.batch
    (plain_allocation c.args.binds) (plain_chart chart)) (sym c.deref.ensures)
    ∙ sym c.chart_rule.ensures ∙ c.in_default-chart_rule.is in
    let fresh = fresh_batch c.args.modules.now c.args.runs.now.entries c.args.batch (plain_allocation c.args.binds)
    (plain_chart c.in-Some.chart.now.value) none in
    watched_distinct c.args.modules.now (plain_chart c.in-Some.chart.now.value) (plain_allocation c.args.binds)
    c.requires.orderly fresh.1

pub begin-requires-clause-new : goal.begin-requires-clause-new
begin-requires-clause-new c =
    let none =
    ap (λ (chart : Chart). chart_rule c.args.modules.now c.args.runs.now.entries c.args.batch
    (plain_allocation c.args.binds) (plain_chart chart)) (sym c.deref.ensures)
    ∙ sym c.chart_rule.ensures ∙ c.in_default-chart_rule.is in
    (fresh_batch c.args.modules.now c.args.runs.now.entries c.args.batch (plain_allocation c.args.binds)
    (plain_chart c.in-Some.chart.now.value) none).0

pub begin-requires-clause-paired : goal.begin-requires-clause-paired
begin-requires-clause-paired c =
    let none =
    ap (λ (chart : Chart). chart_rule c.args.modules.now c.args.runs.now.entries c.args.batch
    (plain_allocation c.args.binds) (plain_chart chart)) (sym c.deref.ensures)
    ∙ sym c.chart_rule.ensures ∙ c.in_default-chart_rule.is in
    let fresh = fresh_batch c.args.modules.now c.args.runs.now.entries c.args.batch (plain_allocation c.args.binds)
    (plain_chart c.in-Some.chart.now.value) none in
    (binds_fit c.args.modules.now (plain_chart c.in-Some.chart.now.value) (plain_allocation c.args.binds)
    c.requires.orderly fresh.1).paired

pub returns-clause-answered : goal.returns-clause-answered
returns-clause-answered c =
    λ history at mirrors room.
    let none =
    ap (λ (chart : Chart). chart_rule c.args.modules.now c.args.runs.now.entries c.args.batch
    (plain_allocation c.args.binds) (plain_chart chart)) (sym c.deref.ensures)
    ∙ sym c.chart_rule.ensures ∙ c.in_default-chart_rule.is in
    start_answered history at c.args.batch c.args.name (plain_allocation c.args.binds) c.in-Some.chart.now
    c.args.modules.now c.begin.new.modules c.args.runs.now.entries
    c.begin.new.runs.entries c.args.recipes.now.entries mirrors room
    (sym c.in-Some.ensures.value) none c.in_ok-begin.ensures.begun c.begin.ensures.count
