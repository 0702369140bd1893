use Rattle.std.proofs.Common.{rules, ◌≡◌, ◌∙◌, length, Some, None, ap, sym, subst}
use Rattle.std.specs.Prelude.{IfOk, option_map, slice_get}
use Rattle.pol_events.specs.Events.{plain_event}
use Rattle.pol_site.specs.declared.parts.SiteRecipe.{SiteRecipe}
use Rattle.pol_actors.proofs.Lists.{opening_first, opening_second}
use Rattle.pol_actors.proofs.exchanger.opening_event.Goals as goal

pub returns-in_ok-recipe_event-in-Some : goal.returns-in_ok-recipe_event-in-Some
returns-in_ok-recipe_event-in-Some c =
    ap Some c.in_ok-recipe_event-in-Some.ensures ∙ sym (opening_first c.args.site.now c.args.place c.in-Some.recipe.now
    (ap (λ items. slice_get {X = SiteRecipe} items c.args.place) (sym c.deref.ensures.value) ∙ sym c.in-Some.ensures))

pub returns-in-None : goal.returns-in-None
returns-in-None c =
    let none : slice_get c.args.site.now.recipes.items c.args.place ≡ None =
    ap (λ items. slice_get {X = SiteRecipe} items c.args.place) (sym c.deref.ensures.value) ∙ sym c.in-None.ensures in
    let count : c.len.result ≡ length c.args.site.now.recipes.items = search rules in
    subst (λ found. IfOk c.plugging_event.result (λ event. option_map plain_event event ≡ found))
    (opening_second c.args.site.now c.args.place c.len.result none count) c.plugging_event.ensures
