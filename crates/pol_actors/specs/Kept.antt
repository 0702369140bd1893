-- What the actors of a running plant keep of its history.
use Rattle.std.specs.Prelude.{ℕ, pred, ◌+◌, ◌≡◌, ◌<◌, ◌≤◌, Bool, true, false, List, [], length, map, reverse, Option}
use Rattle.std.specs.Prelude.{Some, None, is_some, slice_get}
use Rattle.std.specs.List.{AllByRecursion}
use Rattle.mtp_desc.specs.Plain.{PlainDescription}
use Rattle.mtp_sim.specs.Sims.{PlainPlan}
use Rattle.pol_events.specs.Events.{PlainEntry}
use Rattle.pol_history.specs.Batches.{Started, start_of}
use Rattle.pol_history.specs.Looking.{History, past, is_accepted}
use Rattle.pol_safety.specs.Known.{is_there}
use Rattle.pol_history.specs.Modules.{docking_of, description_by, present_tags, since_docking}
use Rattle.pol_history.specs.Runs.{IsLegal, IsOrderly}
use Rattle.pol_site.specs.Actors.{owner_of}
use Rattle.pol_site.specs.Commanded.{IsCommanded}
use Rattle.pol_site.specs.Following.{Exchanging, FollowsSite, exchanging, last_entry_of, last_exchanging, opened}
use Rattle.pol_site.specs.Following.{ordered}
use Rattle.pol_site.specs.Plans.{begun_in, plan_by}
use Rattle.pol_site.specs.Sites.{PlainSite, PlainSiteModule, PlainSiteBatch}
use Rattle.pol_site.specs.Sound.{IsSite}
use Rattle.pol_site.specs.Stories.{story}
use Rattle.pol_stillness.specs.KeepingUp.{KeepsUp}
use Rattle.pol_actors.specs.declared.batch.Stage.{Stage}
use Rattle.pol_actors.specs.declared.batch.Stage.TheVariants as stage
use Rattle.pol_actors.specs.declared.desk.Desk.{Desk}
use Rattle.pol_actors.specs.declared.exchanger.Exchanger.{Exchanger}
use Rattle.pol_actors.specs.declared.exchanger.Standing.{Standing}
use Rattle.pol_actors.specs.declared.exchanger.Standing.TheVariants as standing
use Rattle.pol_actors.specs.declared.simulation.Simulation.{Simulation}
use Rattle.pol_actors.specs.declared.unit.Unit.{Unit as Module}
use Rattle.pol_actors.specs.Exchanges.{exchanging_in}
use Rattle.pol_actors.specs.Turning.{Origin, origin_of}

-- ---- the exchanger

-- an exchange was begun
abbrev pub is_begun : Standing → Bool
is_begun standing.Closed = false
is_begun (standing.Begun tag ticket) = true
is_begun (standing.SentBack tag ticket) = false

-- what a history says to the exchanger: how many recipes and modules had their events, how many exchanges were begun
-- and in what state they are, which tags are there and how many
pub record Progress : Type 0 where
  pub opened : ℕ
  pub begun : ℕ
  pub exchanging : Exchanging
  pub last_exchanging : Option Exchanging
  pub there : List ℕ → Bool
  pub present : ℕ

-- what a history says to the exchanger, where these tags are there
abbrev pub progress_with : History → (List ℕ → Bool) → Progress
progress_with history there =
    record {
      opened = opened history;
      begun = begun_in history;
      exchanging = exchanging history;
      last_exchanging = last_exchanging history;
      there = there;
      present = length (present_tags history);
    }

-- what a history says to the exchanger, where the tags that are docked or away are there
abbrev pub progress_of : History → Progress
progress_of history = progress_with history (λ tag. is_there (docking_of history tag))

-- the exchanger is where the history says; no exchange began before all recipes and modules had their events; the
-- exchange that was begun is one of the site's; the modules that had their events are there, and no others are
pub record StandsAt (site : PlainSite) (now : Progress) (exchanger : Exchanger) : Type 0 where
  pub opened_is : exchanger.opened ≡ now.opened
  pub begun_is : exchanger.begun ≡ now.begun
  pub standing_is : exchanging_in exchanger.standing ≡ now.exchanging
  pub unexchanged : now.opened < length site.recipes + length site.modules → now.last_exchanging ≡ None
  pub within : now.opened ≤ length site.recipes + length site.modules
  pub begun_within : now.begun ≤ length site.exchanges
  pub listed : is_begun exchanger.standing ≡ true → is_some (slice_get site.exchanges (pred now.begun)) ≡ true
  pub there :
      (place : ℕ) (unit : PlainSiteModule) → slice_get site.modules place ≡ Some unit →
      length site.recipes + place < now.opened → now.there unit.tag ≡ true
  pub few : 0 < now.present → now.present + length site.recipes ≤ now.opened

-- the exchanger is where its history says
abbrev pub IsExchanger : PlainSite → History → Exchanger → Type 0
IsExchanger site history exchanger = StandsAt site (progress_of history) exchanger

-- ---- a batch

-- the stage of a batch by its last entry and its start: neither is there; its start was refused; or it was started, and
-- its last entry was accepted
abbrev pub IsStageBy : Option PlainEntry → Option Started → Stage → Type 0
IsStageBy last begun stage.Unsent = (last ≡ None) × (begun ≡ None)
IsStageBy last begun stage.Refused =
    ((entry : PlainEntry) × (last ≡ Some entry) × (is_accepted entry.answer ≡ false)) × (begun ≡ None)
IsStageBy last begun stage.Started =
    ((entry : PlainEntry) × (last ≡ Some entry) × (is_accepted entry.answer ≡ true)) × (is_some begun ≡ true)

-- the batch of this name is at this stage
abbrev pub IsStage : History → List ℕ → Stage → Type 0
IsStage history batch stage = IsStageBy (last_entry_of batch history) (start_of history batch) stage

-- ---- a module

-- a module that is described and planned so is of this origin
pub record IsOrigin (description : Option PlainDescription) (plan : Option PlainPlan) (origin : Origin) : Type 0 where
  pub described : description ≡ Some origin.description
  pub planned : plan ≡ Some origin.plan

-- what is docked under the tag, or away, is of this origin
abbrev pub IsBrought : PlainSite → List ℕ → History → Origin → Type 0
IsBrought site tag past origin = IsOrigin (description_by past) (plan_by site tag past) origin

-- a module's simulation keeps up with the history; before there is one nothing happened to the module since docking
abbrev pub IsMadeUp : PlainSite → List ℕ → History → Option Simulation → Type 0
IsMadeUp site tag history None =
    (since_docking (past tag history) ≡ []) × (since_docking (story tag history) ≡ [])
IsMadeUp site tag history (Some made) = KeepsUp site tag made.place history made.sim

-- a module of the site: before it is there no exchange brought it and it isn't simulated; then it is of the origin that
-- brought it, and its simulation keeps up
pub record IsUnit (site : PlainSite) (unit : PlainSiteModule) (history : History) (own : Module) : Type 0 where
  pub unbrought : is_there (docking_of history unit.tag) ≡ false → (own.brought ≡ None) × (own.made ≡ None)
  pub brought :
      is_there (docking_of history unit.tag) ≡ true →
      IsBrought site unit.tag (past unit.tag history) (origin_of site unit own.brought)
  pub made : IsMadeUp site unit.tag history own.made

-- ---- all

-- each batch of the site is at its stage
abbrev pub AreStages : PlainSite → History → List Stage → Type 0
AreStages site history stages =
    (place : ℕ) (batch : PlainSiteBatch) (stage : Stage) → slice_get site.batches place ≡ Some batch →
    slice_get stages place ≡ Some stage → IsStage history batch.batch stage

-- each module of the site is what the history says
abbrev pub AreUnits : PlainSite → History → List Module → Type 0
AreUnits site history units =
    (place : ℕ) (unit : PlainSiteModule) (own : Module) → slice_get site.modules place ≡ Some unit →
    slice_get units place ≡ Some own → IsUnit site unit history own

-- these are the owners of the entries, the oldest first
abbrev pub AreOwners : PlainSite → History → List ℕ → Type 0
AreOwners site history by = map Some by ≡ map (λ entry. owner_of site entry.event) (reverse history)

-- the history is legal, follows its site, each change has its command, each entry has its owner, and each actor is
-- where the history says
pub record IsKept (site : PlainSite) (history : History) (by : List ℕ) (exchanger : Exchanger)
    (units : List Module) (stages : List Stage) (desk : Desk) : Type 0 where
  pub sound : IsSite site
  pub legal : IsLegal history
  pub orderly : IsOrderly history
  pub follows : FollowsSite site history
  pub commanded : IsCommanded history
  pub owned : AreOwners site history by
  pub exchanger_is : IsExchanger site history exchanger
  pub units_are : AreUnits site history units
  pub unit_count : length units ≡ length site.modules
  pub stages_are : AreStages site history stages
  pub stage_count : length stages ≡ length site.batches
  pub desk_is : desk.ordered ≡ ordered history
  pub desk_within : ordered history ≤ length site.desk

-- the modules at first: none was brought by an exchange, and none is simulated
abbrev pub AreFirstUnits : ℕ → List Module → Type 0
AreFirstUnits count units =
    (length units ≡ count)
    × AllByRecursion (λ (own : Module). (own.made ≡ None) × (own.brought ≡ None)) units

-- the batches at first: the start of none was sent
abbrev pub AreFirstStages : ℕ → List Stage → Type 0
AreFirstStages count stages = (length stages ≡ count) × AllByRecursion (λ each. each ≡ stage.Unsent) stages
