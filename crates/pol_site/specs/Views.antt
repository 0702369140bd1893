-- What the members of a site say, and what they say together.
use Rattle.std.specs.Prelude.{List, map}
use Rattle.mtp_desc.specs.PlainDescription.{plain_description}
use Rattle.mtp_sim.specs.Sims.{plain_plan}
use Rattle.chart_core.specs.Charts.{plain_chart}
use Rattle.pol_site.specs.Sites.{PlainSite, PlainSiteModule, PlainSiteRecipe, PlainSiteBatch, PlainSiteExchange}
use Rattle.pol_site.specs.Sites.{PlainSiteDesk}
use Rattle.pol_site.specs.declared.parts.SiteModule.{SiteModule}
use Rattle.pol_site.specs.declared.parts.SiteRecipe.{SiteRecipe}
use Rattle.pol_site.specs.declared.parts.SiteBatch.{SiteBatch}
use Rattle.pol_site.specs.declared.parts.SiteExchange.{SiteExchange}
use Rattle.pol_site.specs.declared.parts.SiteDesk.{SiteDesk}

-- a module as plain data
abbrev pub plain_module : SiteModule → PlainSiteModule
plain_module unit =
    record { tag = unit.tag; description = plain_description unit.desc.value; plan = plain_plan unit.sim }

-- a recipe as plain data
abbrev pub plain_recipe : SiteRecipe → PlainSiteRecipe
plain_recipe each = record { recipe = each.recipe; chart = plain_chart each.chart.value }

-- a batch as plain data
abbrev pub plain_batch : SiteBatch → PlainSiteBatch
plain_batch batch =
    record {
      batch = batch.batch;
      recipe = batch.recipe;
      binds = record { held = batch.bind.items; watched = batch.watch.items };
    }

-- an exchange as plain data
abbrev pub plain_exchange : SiteExchange → PlainSiteExchange
plain_exchange exchange =
    record {
      tag = exchange.tag;
      after = exchange.after;
      description = plain_description exchange.desc.value;
      plan = plain_plan exchange.sim;
    }

-- a command of the desk as plain data
abbrev pub plain_desk : SiteDesk → PlainSiteDesk
plain_desk order =
    record { tag = order.tag; service = order.service; command = order.command; after = order.after }

-- the site of these members
abbrev pub site_form :
    List SiteModule → List SiteRecipe → List SiteBatch → List SiteExchange → List SiteDesk → PlainSite
site_form modules recipes batches exchanges desk =
    record {
      modules = map plain_module modules;
      recipes = map plain_recipe recipes;
      batches = map plain_batch batches;
      exchanges = map plain_exchange exchanges;
      desk = map plain_desk desk;
    }
