-- The bindings of all recipes after a history, as a function of it.
use Rattle.std.specs.Prelude.{ℕ, ◌≡◌, List, true, codes}
use Rattle.pol_history.specs.Looking.{History}
use Rattle.pol_record.specs.Texts.{line_text, under_key}
use Rattle.pol_find.specs.Candidates.{docked_candidates_of, candidates_of}
use Rattle.pol_find.specs.Offers.{is_all_stepped, offer_of, offers_of}
use Rattle.pol_find.specs.Recipes.{PlainRecipe, recipes_of}
use Rattle.pol_find.specs.Told.{told_of}

-- the line of the bindings: what each recipe is offered, with the modules that are docked
abbrev pub bindings_text : History → List ℕ
bindings_text history =
    line_text (under_key (codes "bindings") (offers_of (docked_candidates_of history) (recipes_of history)))

-- Where each role of a recipe has a step, the recipe is offered what a finder writes of it.
abbrev pub OffersAreTold : Type 0
OffersAreTold =
    (history : History) (recipe : PlainRecipe) → is_all_stepped recipe.chart ≡ true
    → offer_of (docked_candidates_of history) recipe ≡ told_of (candidates_of history) recipe
