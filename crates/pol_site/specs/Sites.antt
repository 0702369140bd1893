-- A site as plain data: its modules with their simulations, recipes, batches, exchanges and the desk's commands.
use Rattle.std.specs.Prelude.{ℕ, List}
use Rattle.mtp_codes.specs.declared.command.Command.{Command}
use Rattle.mtp_desc.specs.Plain.{PlainDescription}
use Rattle.mtp_sim.specs.Sims.{PlainPlan}
use Rattle.chart_core.specs.Roles.{PlainChart}
use Rattle.pol_events.specs.Bound.{PlainAllocation}

-- a module of the site: its tag, its description, and how it is simulated
pub record PlainSiteModule : Type 0 where
  pub tag : List ℕ
  pub description : PlainDescription
  pub plan : PlainPlan

-- a recipe of the site: its name and its chart
pub record PlainSiteRecipe : Type 0 where
  pub recipe : List ℕ
  pub chart : PlainChart

-- a batch of the site: its name, its recipe, and which module that it holds or watches plays which role
pub record PlainSiteBatch : Type 0 where
  pub batch : List ℕ
  pub recipe : List ℕ
  pub binds : PlainAllocation

-- an exchange of the site: whose module is exchanged, after how many entries at least, for one of what description, and
-- how that is simulated
pub record PlainSiteExchange : Type 0 where
  pub tag : List ℕ
  pub after : ℕ
  pub description : PlainDescription
  pub plan : PlainPlan

-- a command that the desk sends: to which service of which module, and after how many entries at least
pub record PlainSiteDesk : Type 0 where
  pub tag : List ℕ
  pub service : List ℕ
  pub command : Command
  pub after : ℕ

-- a site
pub record PlainSite : Type 0 where
  pub modules : List PlainSiteModule
  pub recipes : List PlainSiteRecipe
  pub batches : List PlainSiteBatch
  pub exchanges : List PlainSiteExchange
  pub desk : List PlainSiteDesk
