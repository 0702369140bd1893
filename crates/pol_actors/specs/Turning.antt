-- What a simulated module does in a turn.
use Rattle.std.specs.Prelude.{ℕ, List, drop, map, Option, Some, None, option_and_then, slice_get, if◌then◌else◌}
use Rattle.mtp_desc.specs.Plain.{PlainDescription}
use Rattle.mtp_sim.specs.declared.report.SimReport.{SimReport}
use Rattle.mtp_sim.specs.Sims.{PlainPlan, first_sim}
use Rattle.mtp_sim.specs.Ticks.{is_at_rest, is_pending, tick_report, ticked}
use Rattle.mtp_sim.specs.Commands.{after_command, took}
use Rattle.pol_events.specs.Events.{plain_entry}
use Rattle.pol_events.specs.declared.event.Entry.{Entry}
use Rattle.pol_core.specs.Commands.{next_sent}
use Rattle.pol_core.specs.declared.commands.Sent.{Sent}
use Rattle.pol_site.specs.Sites.{PlainSite, PlainSiteModule, PlainSiteExchange}
use Rattle.pol_actors.specs.declared.simulation.Decision.{Decision}
use Rattle.pol_actors.specs.declared.simulation.Decision.TheVariants.{Reports, Looks, Rests}
use Rattle.pol_actors.specs.declared.simulation.Simulation.{Simulation}
use Rattle.pol_actors.specs.declared.unit.Unit.{Unit as Module}

-- ---- a turn of a simulated module

-- what a module does by a report of its simulation: it reports that, or without one it looked
abbrev pub decision_by : Option SimReport → Decision
decision_by None = Looks
decision_by (Some report) = Reports report

-- a simulation after a tick
abbrev pub made_ticked : Simulation → Simulation
made_ticked made = record { sim = ticked made.sim; place = made.place }

-- a simulation after it looked at the next command, if there is one; it then looks from the place after that on
abbrev pub made_looked : Option Sent → ℕ → Simulation → Simulation
made_looked None place made = record { sim = made.sim; place = place }
made_looked (Some sent) place made =
    record { sim = after_command made.sim (took made.sim sent.service sent.command sent.procedure); place = place }

-- what a simulation does with nothing pending, where this is the next command
abbrev pub free_decides : Option Sent → Simulation → Decision
free_decides (Some sent) made = Looks
free_decides None made = if is_at_rest made.sim then Rests else decision_by (tick_report made.sim)

-- a simulation after a turn with nothing pending
abbrev pub free_after : Option Sent → ℕ → Simulation → Simulation
free_after (Some sent) place made = made_looked (Some sent) place made
free_after None place made =
    if is_at_rest made.sim then made_looked None place made else made_ticked (made_looked None place made)

-- what a simulation does in a turn, where this is the next command, with the place after it
abbrev pub made_decides : Option Sent × ℕ → Simulation → Decision
made_decides found made =
    if is_pending made.sim then decision_by (tick_report made.sim) else free_decides found.0 made

-- a simulation after a turn, where this is the next command, with the place after it
abbrev pub made_after : Option Sent × ℕ → Simulation → Simulation
made_after found made = if is_pending made.sim then made_ticked made else free_after found.0 found.1 made

-- ---- a module that was docked

-- what a module is, and how it is simulated
pub record Origin : Type 0 where
  pub description : PlainDescription
  pub plan : PlainPlan

-- the module of an exchange, or else that of the site
abbrev pub origin_by : PlainSiteModule → Option PlainSiteExchange → Origin
origin_by unit None = record { description = unit.description; plan = unit.plan }
origin_by unit (Some exchange) = record { description = exchange.description; plan = exchange.plan }

-- the origin of a module: that of the exchange that brought it, if one did, or else that of the site
abbrev pub origin_of : PlainSite → PlainSiteModule → Option ℕ → Origin
origin_of site unit brought = origin_by unit (option_and_then (slice_get site.exchanges) brought)

-- the simulation of a module at first, which looks from a place on
abbrev pub first_made : Origin → ℕ → Simulation
first_made origin place = record { sim = first_sim origin.description origin.plan; place = place }

-- the simulation that a module has, or else a first one
abbrev pub made_or : Option Simulation → Simulation → Simulation
made_or None first = first
made_or (Some made) first = made

-- the simulation with which a module takes its turn, where the history has this length
abbrev pub made_of : PlainSite → PlainSiteModule → ℕ → Module → Simulation
made_of site unit count own = made_or own.made (first_made (origin_of site unit own.brought) count)

-- the module with this simulation
abbrev pub simulated : Module → Simulation → Module
simulated own made = record { made = Some made; brought = own.brought }

-- the next command to the module that the simulation looks for, by the plant's entries
abbrev pub next_found : List ℕ → Simulation → List Entry → Option Sent × ℕ
next_found tag made entries = next_sent tag made.place (map plain_entry (drop made.place entries))
