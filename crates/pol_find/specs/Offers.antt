-- What a new batch of a recipe is offered, as a function of the recipe and of the candidates: modules to hold and to
-- watch.
use Rattle.std.specs.Prelude.{Bool, not, List, filter, map, Option, Some, None}
use Rattle.std.specs.List.{list_all}
use Rattle.serde_json.specs.Data.{Data, array}
use Rattle.serde_json.specs.View.{items_of}
use Rattle.chart_core.specs.Roles.{PlainChart, role_names}
use Rattle.pol_events.specs.BindRules.{has_step}
use Rattle.pol_events.specs.Bound.{PlainAllocation}
use Rattle.pol_events.specs.ByRole.{by_role}
use Rattle.pol_events.specs.declared.event.Bind.{Bind}
use Rattle.pol_match.specs.Chosen.{binding_of, short_roles, short_tags}
use Rattle.pol_match.specs.Fits.{PlainCandidate, steps_of}
use Rattle.pol_find.specs.Lines.{names_data, offer_object, short_object}
use Rattle.pol_find.specs.Recipes.{PlainRecipe}
use Rattle.pol_find.specs.declared.offers.Offer.{Offer}

-- a step of the chart is of the bind's role
abbrev pub is_stepped : PlainChart → Bind → Bool
is_stepped chart bind = has_step (steps_of chart) bind.role

-- each role of the chart has a step
abbrev pub is_all_stepped : PlainChart → Bool
is_all_stepped chart = list_all (has_step (steps_of chart)) (role_names chart)

-- what a start with these binds holds and watches, in byte order of roles: it holds the modules of the roles that have
-- a step, and watches those of the others, which the chart only reads
abbrev pub allocation_of : PlainChart → List Bind → PlainAllocation
allocation_of chart binds =
    record {
      held = by_role (filter (is_stepped chart) binds);
      watched = by_role (filter (λ bind. not (is_stepped chart bind)) binds);
    }

-- the object of a recipe with this binding; without one, with the shortage
abbrev pub offer_with : List PlainCandidate → PlainRecipe → Option (List Bind) → Data
offer_with candidates recipe (Some binds) = offer_object (allocation_of recipe.chart binds) recipe.name
offer_with candidates recipe None =
    short_object recipe.name (names_data (short_roles recipe.chart candidates))
    (names_data (short_tags recipe.chart candidates))

-- the object of what a recipe is offered
abbrev pub offer_of : List PlainCandidate → PlainRecipe → Data
offer_of candidates recipe = offer_with candidates recipe (binding_of recipe.chart candidates)

-- the objects of what recipes are offered, in their order
abbrev pub offers_of : List PlainCandidate → List PlainRecipe → Data
offers_of candidates recipes = array (items_of (map (offer_of candidates) recipes))

-- what contracts see of an offer
abbrev pub plain_offer : Offer → PlainAllocation
plain_offer offer = record { held = offer.held.items; watched = offer.watched.items }
