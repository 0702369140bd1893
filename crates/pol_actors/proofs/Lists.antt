-- The lists of a site, as contracts see them.
use Rattle.std.proofs.Common.{◌≡◌, ◌≤◌, ◌+◌, ◌-◌, ℕ, length, map, Option, Some, None, refl, ap, sym, ◌∙◌, arith}
use Rattle.std.specs.Prelude.{option_map, slice_get}
use Rattle.std.proofs.lemmas.List.{length-map}
use Rattle.pol_history.specs.Looking.{History}
use Rattle.pol_site.specs.Following.{openings}
use Rattle.pol_site.specs.Sites.{PlainSite, PlainSiteExchange}
use Rattle.pol_site.specs.PlainSite.{plain_site}
use Rattle.pol_site.specs.Views.{plain_exchange, plain_module, plain_recipe}
use Rattle.pol_site.specs.declared.parts.SiteExchange.{SiteExchange}
use Rattle.pol_site.specs.declared.parts.SiteRecipe.{SiteRecipe}
use Rattle.pol_site.specs.declared.site.Site.{Site}
use Rattle.pol_simulated.proofs.Places.{lt_false}
use Rattle.pol_actors.specs.Exchanges.{begin_errand, errand_of, know_event, plug_event}
use Rattle.pol_actors.specs.declared.exchanger.Exchanger.{Exchanger}
use Rattle.pol_actors.specs.declared.exchanger.Standing.TheVariants as standing
use Rattle.pol_actors.proofs.Numbers.{item_first, item_mapped, item_second}

-- a recipe is an opening at its place
pub opening_first : (site : Site) (place : ℕ) (each : SiteRecipe) → slice_get site.recipes.items place ≡ Some each →
    slice_get (openings (plain_site site)) place ≡ Some (know_event (plain_recipe each))
opening_first site place each at =
    item_first know_event (map plain_recipe site.recipes.items)
    (map plug_event (map plain_module site.modules.items)) place
    (plain_recipe each) (item_mapped plain_recipe site.recipes.items place ∙ ap (option_map plain_recipe) at)

-- a module is one behind the recipes
pub opening_second : (site : Site) (place count : ℕ) → slice_get site.recipes.items place ≡ None →
    count ≡ length site.recipes.items →
    option_map plug_event (slice_get (plain_site site).modules (place - count))
    ≡ slice_get (openings (plain_site site)) place
opening_second site place count none is =
    sym (item_second know_event (map plain_recipe site.recipes.items)
    (map plug_event (map plain_module site.modules.items)) place
    (item_mapped plain_recipe site.recipes.items place ∙ ap (option_map plain_recipe) none)
    ∙ ap (λ n. slice_get (map plug_event (map plain_module site.modules.items)) (place - n))
    (length-map site.recipes.items plain_recipe ∙ sym is)
    ∙ item_mapped plug_event (map plain_module site.modules.items) (place - count))

-- an exchange
pub exchange_at : (site : Site) (place : ℕ) (found : Option SiteExchange) →
    slice_get site.exchanges.items place ≡ found →
    slice_get (plain_site site).exchanges place ≡ option_map plain_exchange found
exchange_at site place found at =
    item_mapped plain_exchange site.exchanges.items place ∙ ap (option_map plain_exchange) at

-- all recipes and modules had their events, by the lengths of the site's lists
pub all_opened : (site : Site) (opened recipes modules : ℕ) → recipes ≡ length site.recipes.items →
    modules ≡ length site.modules.items → recipes + modules ≤ opened →
    length (plain_site site).recipes + length (plain_site site).modules ≤ opened
all_opened site opened recipes modules one other left =
    let first = length-map site.recipes.items plain_recipe in
    let second = length-map site.modules.items plain_module in
    omega (arith, one, other, left, first, second)

-- with all recipes and modules done and no exchange open, the next exchange decides
pub errand_closed : (site : PlainSite) (history : History) (count : ℕ) (exchanger : Exchanger)
    (found : Option PlainSiteExchange) → length site.recipes + length site.modules ≤ exchanger.opened →
    exchanger.standing ≡ standing.Closed → slice_get site.exchanges exchanger.begun ≡ found →
    errand_of site history count exchanger ≡ begin_errand history count found
errand_closed site history count exchanger found all closed at =
    rw (lt_false exchanger.opened (length site.recipes + length site.modules) all, closed, at) refl
