-- A recipe is made known, or a rule is against it.
use Rattle.std.proofs.Common.{◌<◌, ◌≤◌, ◌∙◌, sym, ap, subst, length, arith}
use Rattle.std.proofs.lemmas.Bool.{le-leb, lt-leb}
use Rattle.mtp_codes.specs.declared.limits.TheConstants.{MOST_RECIPES}
use Rattle.chart_core.specs.Charts.{plain_chart}
use Rattle.chart_core.specs.declared.chart.Chart.{Chart}
use Rattle.pol_events.specs.Events.{recipe}
use Rattle.pol_events.specs.Orderly.{is_valid}
use Rattle.pol_events.specs.declared.answer.Answer.TheVariants.{Done}
use Rattle.pol_core.specs.Recipes.{AnswersRecipe}
use Rattle.pol_core.proofs.Learned.{known_recipe, no_room_recipe, new_recipe}
use Rattle.pol_core.proofs.recipes.recipe.Goals as goal

pub returns-then-contains_key-clause-answered : goal.returns-then-contains_key-clause-answered
returns-then-contains_key-clause-answered c =
    λ history at mirror room.
    known_recipe history at c.args.name (plain_chart c.args.chart.now.value) c.args.recipes.now.entries mirror room
    (sym c.contains_key.ensures ∙ c.if-contains_key.true)

pub returns-then-len-ge-MOST_RECIPES-clause-answered : goal.returns-then-len-ge-MOST_RECIPES-clause-answered
returns-then-len-ge-MOST_RECIPES-clause-answered c =
    λ history at mirror room.
    no_room_recipe history at c.args.name (plain_chart c.args.chart.now.value) c.args.recipes.now.entries mirror room
    (sym c.contains_key.ensures ∙ c.if-contains_key.false)
    (let many = c.if-len-ge-MOST_RECIPES.true in let len = c.len.ensures.len in
    let above : MOST_RECIPES ≤ length c.args.recipes.now.entries = omega arith in
    le-leb MOST_RECIPES (length c.args.recipes.now.entries) above)

pub returns-clause-answered : goal.returns-clause-answered
returns-clause-answered c =
    λ history at mirror room.
    let same = c.in_ok-chart.ensures.cases in
    subst (λ (chart : Chart). AnswersRecipe history (recipe at c.args.name (plain_chart chart)) Done
    c.keep.new.recipes.entries) same
    (new_recipe history at c.args.name c.in_ok-chart.chart c.args.recipes.now.entries c.keep.new.recipes.entries
    mirror room
    (sym c.contains_key.ensures ∙ c.if-contains_key.false)
    (let few = c.if-len-ge-MOST_RECIPES.false in let len = c.len.ensures.len in
    let below : length c.args.recipes.now.entries < MOST_RECIPES = omega arith in
    lt-leb MOST_RECIPES (length c.args.recipes.now.entries) below)
    (ap (λ (chart : Chart). is_valid (plain_chart chart)) same ∙ c.requires)
    c.in_ok-keep.ensures.looks c.in_ok-keep.ensures.count c.in_ok-keep.ensures.order)
