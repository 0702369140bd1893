-- What a turn at the locked plant does.
use Rattle.std.specs.Prelude.{ℕ, suc, ◌≡◌, ◌≢◌, ◌+◌, ◌<◌, ◌++◌, ◌∷◌, List, [], length, ◌⊎◌, Bool, true, false, Option}
use Rattle.std.specs.Prelude.{Some, None, slice_get, slice_set, slice_index}
use Rattle.pol_events.specs.Events.{PlainEvent, plain_history}
use Rattle.pol_events.specs.declared.event.Entry.{Entry}
use Rattle.pol_history.specs.Answers.{answer_of, is_full}
use Rattle.pol_history.specs.Looking.{History}
use Rattle.pol_history.specs.Modules.{Docking, absent, docked, away, docking_of}
use Rattle.pol_io.specs.Causes.{Rose}
use Rattle.pol_shown.specs.Displays.{said_by}
use Rattle.pol_site.specs.Actors.{Actor, a_module, actors, owner_of}
use Rattle.pol_site.specs.Settled.{is_settled, is_settled_module}
use Rattle.pol_site.specs.Shown.{board_word}
use Rattle.pol_site.specs.Sites.{PlainSite, PlainSiteModule}
use Rattle.pol_actors.specs.Stamps.{stamped}
use Rattle.pol_actors.specs.Turning.{made_looked, made_of, next_found, simulated}
use Rattle.pol_actors.specs.declared.simulation.Simulation.{Simulation}
use Rattle.pol_actors.specs.declared.unit.Unit.{Unit as Module}
use Rattle.pol_core.specs.Plants.{is_spared}
use Rattle.pol_core.specs.declared.commands.Sent.{Sent}
use Rattle.mtp_sim.specs.Ticks.{is_pending, tick_report, ticked}
use Rattle.pol_live.specs.Parts.{IsRun}
use Rattle.pol_live.specs.declared.actor_kind.ActorKind.{ActorKind}
use Rattle.pol_live.specs.declared.actor_kind.ActorKind.TheVariants as kind
use Rattle.pol_live.specs.declared.turned.Placed.{Placed}
use Rattle.pol_live.specs.declared.turned.Turned.{Turned}
use Rattle.pol_live.specs.declared.turned.Turned.TheVariants.{Made, Looked, Rested, Full}

-- what contracts see of a locked plant: its entries and who made each, the oldest first; the number that its clock
-- answered last, and how often that was asked; and the modules, each with its simulation and the place from which that
-- looks for commands
pub record Locked : Type 0 where
  pub entries : List Entry
  pub by : List ℕ
  pub last : ℕ
  pub calls : ℕ
  pub units : List Module

-- the history of a locked plant, the newest entry first
abbrev pub history_of : Locked → History
history_of locked = plain_history locked.entries

-- the event entered the history at its end, with the stamp that the clock gave in this call, and with the defined
-- answer
pub record Enters (calls_before calls last : ℕ) (before after : History) (event : PlainEvent) (placed : Placed) :
    Type 0 where
  pub place_is : placed.place ≡ length before
  pub answer_is : placed.answer ≡ answer_of before event
  pub entered : after ≡ record { event = stamped last event; answer = placed.answer } ∷ before
  pub rose : Rose calls_before calls

-- the history had room, the actor wasn't settled, and one event of it entered the history, with the stamp that the
-- clock gave in this turn
pub record HasMade (site : PlainSite) (before after : Locked) (actor : ℕ) (placed : Placed) : Type 0 where
  pub room : is_full (history_of before) ≡ false
  pub who : Actor
  pub who_is : slice_get (actors site) actor ≡ Some who
  pub unsettled : is_settled site (history_of before) who ≡ false
  pub event : PlainEvent
  pub owner : owner_of site event ≡ Some actor
  pub enters : Enters before.calls after.calls after.last (history_of before) (history_of after) event placed
  pub by_is : after.by ≡ before.by ++ actor ∷ []

-- a module is docked
abbrev pub is_docked : Docking → Bool
is_docked absent = false
is_docked (docked count) = true
is_docked (away ticket) = false

-- the history, who made it and the clock are as before
pub record IsCalm (before after : Locked) : Type 0 where
  pub entries_are : after.entries ≡ before.entries
  pub by_is : after.by ≡ before.by
  pub last_is : after.last ≡ before.last
  pub calls_are : after.calls ≡ before.calls

-- a simulation took the command that comes next, and looks from the place behind it on; or it had something pending, or
-- no command comes, and it made a tick that gave nothing
pub data IsLook (found : Option Sent × ℕ) (before after : Simulation) : Type 0 where
  took_command :
      (sent : Sent) → is_pending before.sim ≡ false → found.0 ≡ Some sent →
      after ≡ made_looked (Some sent) found.1 before → IsLook found before after
  ticked_in_vain :
      (is_pending before.sim ≡ true) ⊎ (found.0 ≡ None) → tick_report before.sim ≡ None →
      after.sim ≡ ticked before.sim → IsLook found before after

-- the actor is a docked module that isn't settled, its simulation looked, and nothing else changed
pub record HasLooked (site : PlainSite) (before after : Locked) (actor : ℕ) : Type 0 where
  pub calm : IsCalm before after
  pub room : is_full (history_of before) ≡ false
  pub unit : PlainSiteModule
  pub who : slice_get (actors site) actor ≡ Some (a_module unit)
  pub count : ℕ
  pub is_docked : docking_of (history_of before) unit.tag ≡ docked count
  pub unsettled : is_settled_module site (history_of before) unit.tag ≡ false
  pub place : ℕ
  pub own : Module
  pub stands : slice_get before.units place ≡ Some own
  pub turned : Simulation
  pub units_are : after.units ≡ slice_set before.units place (simulated own turned)
  pub looked :
      IsLook (next_found unit.tag (made_of site unit (length before.entries) own) before.entries)
      (made_of site unit (length before.entries) own) turned
  pub actor_is : actor ≡ suc place

-- the actor is settled, and the history stayed
pub record HasRested (site : PlainSite) (before after : Locked) (actor : ℕ) : Type 0 where
  pub calm : IsCalm before after
  pub room : is_full (history_of before) ≡ false
  pub who : Actor
  pub who_is : slice_get (actors site) actor ≡ Some who
  pub settled : is_settled site (history_of before) who ≡ true

-- the history is full, and nothing changed
pub record WasFull (before after : Locked) : Type 0 where
  pub same : after ≡ before
  pub full : is_full (history_of before) ≡ true

-- the words of a reader are what the history shows
abbrev pub Tells : PlainSite → History → List ℕ → Type 0
Tells site history words = (word : ℕ) → slice_index words word ≡ said_by (board_word site history word)

-- what a turn of the actor did
abbrev pub Turns : PlainSite → Locked → Locked → ℕ → Turned → Type 0
Turns site before after actor (Made placed) = HasMade site before after actor placed
Turns site before after actor Looked = HasLooked site before after actor
Turns site before after actor Rested = HasRested site before after actor
Turns site before after actor Full = WasFull before after

-- the clock was asked for the stamp of an event of the actor that takes memory, and there was none for it
pub record AskedInVain (site : PlainSite) (before after : Locked) (actor : ℕ) : Type 0 where
  pub event : PlainEvent
  pub owner : owner_of site event ≡ Some actor
  pub takes : is_spared event ≡ false
  pub rose : Rose before.calls after.calls

-- a turn that found no memory changed nothing; at most the clock was asked in vain
pub record IsAsBefore (site : PlainSite) (before after : Locked) (actor : ℕ) : Type 0 where
  pub entries_are : after.entries ≡ before.entries
  pub by_is : after.by ≡ before.by
  pub units_are : after.units ≡ before.units
  pub clock_is :
      ((after.last ≡ before.last) × (after.calls ≡ before.calls)) ⊎ AskedInVain site before after actor

-- at some moment of a run of the site the actor took such a turn
pub record TookTurn (site : PlainSite) (actor : ℕ) (turned : Turned) : Type 0 where
  pub before : Locked
  pub after : Locked
  pub run_before : IsRun site before.entries before.by
  pub run_after : IsRun site after.entries after.by
  pub turns : Turns site before after actor turned

-- the actor took a turn that didn't find the history full
pub record WentOn (site : PlainSite) (actor : ℕ) : Type 0 where
  pub turned : Turned
  pub took : TookTurn site actor turned
  pub room : turned ≢ Full

-- who the actor with this number is
abbrev pub IsActorKind : PlainSite → ℕ → ActorKind → Type 0
IsActorKind site actor kind.Exchanger = actor ≡ 0
IsActorKind site actor (kind.Module place) = (actor ≡ suc place) × (place < length site.modules)
IsActorKind site actor (kind.Batch place) =
    (actor ≡ suc (length site.modules + place)) × (place < length site.batches)
IsActorKind site actor kind.Desk = actor ≡ suc (length site.modules + (length site.batches + 0))
