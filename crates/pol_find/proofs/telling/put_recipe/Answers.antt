-- The line is right; where there was no memory for it, nothing of it was written.
use Rattle.std.proofs.Common.{◌≤◌, ◌∙◌, arith, length}
use Rattle.std.proofs.lemmas.List.{length-map}
use Rattle.std.proofs.lemmas.Result.{err_from_is_err_and, on_err_weaker, on_ok_weaker}
use Rattle.pol_match.specs.Candidates.{plain_candidate, plain_candidates}
use Rattle.pol_match.proofs.Told.{each_rightly}
use Rattle.pol_find.specs.Found.{Tells}
use Rattle.pol_find.specs.Recipes.{plain_recipe}
use Rattle.pol_find.proofs.Possible.{can_tell, some_told}
use Rattle.pol_find.proofs.Written.{none_begun}
use Rattle.pol_find.proofs.telling.put_recipe.Goals as goal

pub returns-in_err-recipe_line-clause-part : goal.returns-in_err-recipe_line-clause-part
returns-in_err-recipe_line-clause-part g c =
    let candidates = plain_candidates c.args.candidates.now in
    let recipe = plain_recipe c.args.recipe.now in
    let few : length candidates ≤ 64 = omega (arith, length-map c.args.candidates.now plain_candidate) in
    let text = can_tell candidates recipe c.args.recipe.now.chart.now.form few c.requires.order in
    let fault = err_from_is_err_and c.from_residual.result c.from_residual.ensures.1 in
    rw fault.1
    (none_begun (Tells candidates recipe) _ text.0 text.1 (some_told candidates recipe text.0 text.1))

pub returns-clause-text : goal.returns-clause-text
returns-clause-text g c =
    let candidates = plain_candidates c.args.candidates.now in
    let recipe = plain_recipe c.args.recipe.now in
    let few : length candidates ≤ 64 = omega (arith, length-map c.args.candidates.now plain_candidate) in
    on_ok_weaker c.put.result
    (λ appended. record {
      text = c.deref.result.now;
      may = record {
        is = c.deref.ensures.value ∙ c.in_ok-recipe_line.ensures;
        right = each_rightly recipe.chart candidates c.args.recipe.now.chart.now.form few c.requires.order;
      };
      appended = appended;
    })
    c.put.ensures.text

pub returns-clause-part : goal.returns-clause-part
returns-clause-part g c =
    let candidates = plain_candidates c.args.candidates.now in
    let recipe = plain_recipe c.args.recipe.now in
    let few : length candidates ≤ 64 = omega (arith, length-map c.args.candidates.now plain_candidate) in
    on_err_weaker c.put.result
    (λ part. record {
      text = c.deref.result.now;
      may = record {
        is = c.deref.ensures.value ∙ c.in_ok-recipe_line.ensures;
        right = each_rightly recipe.chart candidates c.args.recipe.now.chart.now.form few c.requires.order;
      };
      part = part;
    })
    c.put.ensures.part
