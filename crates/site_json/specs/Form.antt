-- The form of a site: what a value says, or its first fault in reading order.
use Rattle.std.specs.Prelude.{codes, Ok}
use Rattle.serde_json.specs.Data.{Data}
use Rattle.mtp_codes.specs.Codes.{command_codes}
use Rattle.mtp_codes.specs.declared.limits.TheConstants.{LONGEST_HISTORY, MOST_BATCHES, MOST_MODULES, MOST_RECIPES}
use Rattle.mtp_codes.specs.Numbers.{least_i32, greatest_i32}
use Rattle.mtp_json.specs.Form.{required, nested, list, object_here, nothing_but}
use Rattle.mtp_json.specs.Leaf.{code, count, name, whole}
use Rattle.mtp_json.specs.ReadResult.{ReadResult, ◌>>=◌}
use Rattle.desc_json.specs.Form.{description_of}
use Rattle.mtp_sim.specs.declared.plan.Drift.{Drift}
use Rattle.mtp_sim.specs.Sims.{PlainPlan}
use Rattle.chart_json.specs.Form.{chart_from, roles_of, tree_of}
use Rattle.event_json.specs.Binds.{allocation_from, binds_of, binds_or_none}
use Rattle.pol_site.specs.declared.limits.TheConstants.{MOST_DRIFTS, MOST_EXCHANGES, MOST_ORDERS, MOST_TICKS}
use Rattle.pol_site.specs.Sites.{PlainSite, PlainSiteModule, PlainSiteRecipe, PlainSiteBatch, PlainSiteExchange}
use Rattle.pol_site.specs.Sites.{PlainSiteDesk}
use Rattle.site_json.specs.Ruled.{ruled_site}

-- a drift
unfoldable pub drift_of : Data → ReadResult Drift
drift_of value =
    object_here value >>= λ _.
    required (codes "name") name value >>= λ named.
    required (codes "from") (whole least_i32 greatest_i32) value >>= λ from.
    required (codes "by") (whole least_i32 greatest_i32) value >>= λ by.
    required (codes "to") (whole least_i32 greatest_i32) value >>= λ to.
    nothing_but (codes "name from by to") value >>= λ _.
    Ok (record { name = named; from = from; by = by; to = to })

-- how a module is simulated
unfoldable pub plan_of : Data → ReadResult PlainPlan
plan_of value =
    object_here value >>= λ _.
    required (codes "ticks") (count 1 MOST_TICKS) value >>= λ ticks.
    required (codes "run") (count 1 MOST_TICKS) value >>= λ run.
    list (codes "drift") 0 MOST_DRIFTS drift_of value >>= λ drifts.
    nothing_but (codes "ticks run drift") value >>= λ _.
    Ok (record { ticks = ticks; run = run; drifts = drifts })

-- a module
unfoldable pub module_of : Data → ReadResult PlainSiteModule
module_of value =
    object_here value >>= λ _.
    required (codes "tag") name value >>= λ tag.
    nested (codes "desc") description_of value >>= λ description.
    nested (codes "sim") plan_of value >>= λ plan.
    nothing_but (codes "tag desc sim") value >>= λ _.
    Ok (record { tag = tag; description = description; plan = plan })

-- a recipe: that no role is named twice is checked when all else of it was read
unfoldable pub recipe_of : Data → ReadResult PlainSiteRecipe
recipe_of value =
    object_here value >>= λ _.
    required (codes "recipe") name value >>= λ named.
    nested (codes "roles") roles_of value >>= λ roles.
    nested (codes "chart") tree_of value >>= λ root.
    nothing_but (codes "recipe roles chart") value >>= λ _.
    chart_from roles root >>= λ chart.
    Ok (record { recipe = named; chart = chart })

-- a batch: that no role is held and watched is checked when all else of it was read
unfoldable pub batch_of : Data → ReadResult PlainSiteBatch
batch_of value =
    object_here value >>= λ _.
    required (codes "batch") name value >>= λ batch.
    required (codes "recipe") name value >>= λ named.
    nested (codes "bind") binds_of value >>= λ held.
    binds_or_none (codes "watch") value >>= λ watched.
    nothing_but (codes "batch recipe bind watch") value >>= λ _.
    allocation_from (record { held = held; watched = watched }) >>= λ binds.
    Ok (record { batch = batch; recipe = named; binds = binds })

-- an exchange
unfoldable pub exchange_of : Data → ReadResult PlainSiteExchange
exchange_of value =
    object_here value >>= λ _.
    required (codes "tag") name value >>= λ tag.
    required (codes "after") (count 0 LONGEST_HISTORY) value >>= λ after.
    nested (codes "desc") description_of value >>= λ description.
    nested (codes "sim") plan_of value >>= λ plan.
    nothing_but (codes "tag after desc sim") value >>= λ _.
    Ok (record { tag = tag; after = after; description = description; plan = plan })

-- a command of the desk
unfoldable pub desk_of : Data → ReadResult PlainSiteDesk
desk_of value =
    object_here value >>= λ _.
    required (codes "tag") name value >>= λ tag.
    required (codes "service") name value >>= λ service.
    required (codes "CommandOp") (code command_codes) value >>= λ command.
    required (codes "after") (count 0 LONGEST_HISTORY) value >>= λ after.
    nothing_but (codes "tag service CommandOp after") value >>= λ _.
    Ok (record { tag = tag; service = service; command = command; after = after })

-- a site: its own rules are checked when all of it was read
unfoldable pub site_in : Data → ReadResult PlainSite
site_in value =
    object_here value >>= λ _.
    list (codes "modules") 1 MOST_MODULES module_of value >>= λ modules.
    list (codes "recipes") 0 MOST_RECIPES recipe_of value >>= λ recipes.
    list (codes "batches") 0 MOST_BATCHES batch_of value >>= λ batches.
    list (codes "exchanges") 0 MOST_EXCHANGES exchange_of value >>= λ exchanges.
    list (codes "desk") 0 MOST_ORDERS desk_of value >>= λ desk.
    nothing_but (codes "modules recipes batches exchanges desk") value >>= λ _.
    ruled_site
    (record { modules = modules; recipes = recipes; batches = batches; exchanges = exchanges; desk = desk })
