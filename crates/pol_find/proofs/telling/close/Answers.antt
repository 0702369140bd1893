-- The lines of the recipes, and then the last line.
use Rattle.std.proofs.Common.{◌≡◌, ℕ, List, arith, ap, length, refl, subst, sym, ◌∙◌}
use Rattle.std.proofs.lemmas.List.{length-map}
use Rattle.std.proofs.lemmas.Result.{err_from_is_err_and, on_err_weaker, on_ok_weaker}
use Rattle.pol_jobs.specs.Written.{Closes, ClosesPart}
use Rattle.pol_core.specs.Plants.{plant_history}
use Rattle.pol_match.specs.Bindings.{AreInOrder}
use Rattle.pol_match.specs.Candidates.{plain_candidate, plain_candidates}
use Rattle.pol_match.specs.Fits.{PlainCandidate}
use Rattle.pol_find.specs.Candidates.{candidates_of}
use Rattle.pol_find.specs.Found.{IsFound, TellsEach}
use Rattle.pol_find.specs.Lines.{bad_text}
use Rattle.pol_find.specs.Recipes.{PlainRecipe, recipes_of}
use Rattle.pol_find.specs.Told.{AreToldRightly}
use Rattle.pol_find.specs.declared.candidates.Pool.TheVariants.{Free}
use Rattle.pol_find.proofs.Entries.{all_recipes, recipes_in}
use Rattle.pol_find.proofs.Free.{candidates_few, candidates_in_order}
use Rattle.pol_find.proofs.Possible.{all_rightly, can_be_found, some_bad, some_found}
use Rattle.pol_find.proofs.Written.{both_written, first_begun, none_begun, second_begun}
use Rattle.pol_find.proofs.telling.close.Goals as goal

-- what is known of the lines by the lists that were handed on is known by what they are
as_found : (Known : (List ℕ → Type 0) → Type 0) {one other : List PlainCandidate} {these those : List PlainRecipe} →
    one ≡ other → these ≡ those → Known (TellsEach one these) → Known (TellsEach other those)
as_found Known {one = one} {those = those} candidates recipes known =
    subst (λ candidates. Known (TellsEach candidates those)) candidates
    (subst (λ recipes. Known (TellsEach one recipes)) recipes known)

pub returns-in_err-candidates-clause-part : goal.returns-in_err-candidates-clause-part
returns-in_err-candidates-clause-part g c =
    let history = plant_history c.args.plant.now in
    let text = can_be_found history c.args.bad c.history-history.ensures.legal c.history-history.ensures.orderly in
    let fault = err_from_is_err_and c.from_residual.result c.from_residual.ensures.1 in
    rw fault.1
    (none_begun (IsFound history c.args.bad) _ text.0 text.1 (some_found history c.args.bad text.0 text.1))

pub put_recipes-requires-clause-few : goal.put_recipes-requires-clause-few
put_recipes-requires-clause-few g c = omega (
  arith,
  ap length (ap plain_candidates c.deref.ensures.value ∙ c.in_ok-candidates.ensures),
  length-map c.deref.result.now plain_candidate,
  candidates_few Free (plant_history c.args.plant.now) c.history-history.ensures.legal,
)

pub put_recipes-requires-clause-order : goal.put_recipes-requires-clause-order
put_recipes-requires-clause-order g c =
    subst AreInOrder (sym (ap plain_candidates c.deref.ensures.value ∙ c.in_ok-candidates.ensures))
    (candidates_in_order Free (plant_history c.args.plant.now))

pub put_recipes-requires-clause-right : goal.put_recipes-requires-clause-right
put_recipes-requires-clause-right g c =
    let history = plant_history c.args.plant.now in
    subst (λ candidates. AreToldRightly candidates (recipes_in c.history-history.result.now))
    (sym (ap plain_candidates c.deref.ensures.value ∙ c.in_ok-candidates.ensures))
    (subst (λ recipes. AreToldRightly (candidates_of history) recipes)
    (sym (ap recipes_in c.history-history.ensures.entries ∙ all_recipes c.args.plant.now.entries))
    (all_rightly history c.history-history.ensures.legal c.history-history.ensures.orderly))

pub returns-in_err-put_recipes-clause-part : goal.returns-in_err-put_recipes-clause-part
returns-in_err-put_recipes-clause-part g c =
    let history = plant_history c.args.plant.now in
    let held = g.K.Sink.held in
    let fault = err_from_is_err_and c.from_residual-in_err-put_recipes.result
    c.from_residual-in_err-put_recipes.ensures.1 in
    rw fault.1
    (first_begun (TellsEach (candidates_of history) (recipes_of history)) (λ text. text ≡ bad_text c.args.bad)
    (held c.args.sink.now) (held c.put_recipes.new.sink)
    (as_found (λ May. ClosesPart May (held c.args.sink.now) (held c.put_recipes.new.sink))
    (ap plain_candidates c.deref.ensures.value ∙ c.in_ok-candidates.ensures)
    (ap recipes_in c.history-history.ensures.entries ∙ all_recipes c.args.plant.now.entries)
    c.in_err-put_recipes.ensures.part)
    (bad_text c.args.bad, refl))

pub returns-in_err-bad_line-clause-part : goal.returns-in_err-bad_line-clause-part
returns-in_err-bad_line-clause-part g c =
    let history = plant_history c.args.plant.now in
    let held = g.K.Sink.held in
    let fault = err_from_is_err_and c.from_residual-in_err-bad_line.result
    c.from_residual-in_err-bad_line.ensures.1 in
    rw fault.1
    (second_begun (TellsEach (candidates_of history) (recipes_of history)) (λ text. text ≡ bad_text c.args.bad)
    (held c.args.sink.now) (held c.put_recipes.new.sink) (held c.put_recipes.new.sink)
    (as_found (λ May. Closes May (held c.args.sink.now) (held c.put_recipes.new.sink))
    (ap plain_candidates c.deref.ensures.value ∙ c.in_ok-candidates.ensures)
    (ap recipes_in c.history-history.ensures.entries ∙ all_recipes c.args.plant.now.entries)
    c.in_ok-put_recipes.ensures.text)
    (none_begun (λ text. text ≡ bad_text c.args.bad) (held c.put_recipes.new.sink) (bad_text c.args.bad) refl
    (some_bad c.args.bad)))

pub returns-clause-text : goal.returns-clause-text
returns-clause-text g c =
    let history = plant_history c.args.plant.now in
    let held = g.K.Sink.held in
    on_ok_weaker c.put.result
    (λ appended. both_written (TellsEach (candidates_of history) (recipes_of history))
    (λ text. text ≡ bad_text c.args.bad)
    (held c.args.sink.now) (held c.put_recipes.new.sink) (held c.put.new.sink)
    (as_found (λ May. Closes May (held c.args.sink.now) (held c.put_recipes.new.sink))
    (ap plain_candidates c.deref.ensures.value ∙ c.in_ok-candidates.ensures)
    (ap recipes_in c.history-history.ensures.entries ∙ all_recipes c.args.plant.now.entries)
    c.in_ok-put_recipes.ensures.text)
    (record {
      text = c.deref-2.result.now;
      may = c.deref-2.ensures.value ∙ c.in_ok-bad_line.ensures;
      appended = appended;
    }))
    c.put.ensures.text

pub returns-clause-part : goal.returns-clause-part
returns-clause-part g c =
    let history = plant_history c.args.plant.now in
    let held = g.K.Sink.held in
    on_err_weaker c.put.result
    (λ part. second_begun (TellsEach (candidates_of history) (recipes_of history))
    (λ text. text ≡ bad_text c.args.bad)
    (held c.args.sink.now) (held c.put_recipes.new.sink) (held c.put.new.sink)
    (as_found (λ May. Closes May (held c.args.sink.now) (held c.put_recipes.new.sink))
    (ap plain_candidates c.deref.ensures.value ∙ c.in_ok-candidates.ensures)
    (ap recipes_in c.history-history.ensures.entries ∙ all_recipes c.args.plant.now.entries)
    c.in_ok-put_recipes.ensures.text)
    (record {
      text = c.deref-2.result.now;
      may = c.deref-2.ensures.value ∙ c.in_ok-bad_line.ensures;
      part = part;
    }))
    c.put.ensures.part
