-- The candidates and the recipes that are handed on are those of the history.
use Rattle.std.proofs.Common.{◌≡◌, ◌++◌, ◌∙◌, ℕ, List, OnOk, ap, arith, codes, length, subst, sym}
use Rattle.std.proofs.lemmas.List.{length-map}
use Rattle.pol_core.specs.Plants.{plant_history}
use Rattle.pol_match.specs.Bindings.{AreInOrder}
use Rattle.pol_match.specs.Candidates.{plain_candidate, plain_candidates}
use Rattle.pol_record.specs.Texts.{line_text, under_key}
use Rattle.pol_find.specs.Candidates.{docked_candidates_of}
use Rattle.pol_find.specs.Offers.{offers_of}
use Rattle.pol_find.specs.declared.candidates.Pool.TheVariants.{Docked}
use Rattle.pol_find.proofs.Entries.{all_recipes, recipes_in}
use Rattle.pol_find.proofs.Free.{candidates_few, candidates_in_order}
use Rattle.pol_find.proofs.bindings.put_bindings_line.Goals as goal

pub put_line-requires-clause-few : goal.put_line-requires-clause-few
put_line-requires-clause-few c = omega (
  arith,
  ap length (ap plain_candidates c.deref.ensures.value ∙ c.in_ok-candidates.ensures),
  length-map c.deref.result.now plain_candidate,
  candidates_few Docked (plant_history c.args.plant.now) c.history-history.ensures.legal,
)

pub put_line-requires-clause-order : goal.put_line-requires-clause-order
put_line-requires-clause-order c =
    subst AreInOrder (sym (ap plain_candidates c.deref.ensures.value ∙ c.in_ok-candidates.ensures))
    (candidates_in_order Docked (plant_history c.args.plant.now))

pub returns : goal.returns
returns c =
    let history = plant_history c.args.plant.now in
    let candidates = ap plain_candidates c.deref.ensures.value ∙ c.in_ok-candidates.ensures in
    let recipes = ap recipes_in c.history-history.ensures.entries ∙ all_recipes c.args.plant.now.entries in
    let text = ap (λ free. line_text (under_key (codes "bindings")
    (offers_of free (recipes_in c.history-history.result.now)))) candidates
    ∙ ap (λ known. line_text (under_key (codes "bindings") (offers_of (docked_candidates_of history) known))) recipes in
    subst (λ (line : List ℕ). OnOk c.put_line.result (c.put_line.new.out.items ≡ c.args.out.now.items ++ line)) text
    c.put_line.ensures
