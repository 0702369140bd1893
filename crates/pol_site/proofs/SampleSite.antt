-- A small site and entries of its history, by hand: one doser, one recipe, one batch, one exchange, one command.
use Rattle.std.specs.Prelude.{ℕ, pos, codes, true, false, List, [], ◌∷◌, None}
use Rattle.mtp_codes.specs.declared.command.Command.TheVariants as command
use Rattle.mtp_codes.specs.declared.mode.Mode.TheVariants as mode
use Rattle.mtp_codes.specs.declared.mode.Origin.TheVariants as origin
use Rattle.mtp_codes.specs.declared.state.State.{State}
use Rattle.mtp_codes.specs.declared.state.State.TheVariants as state
use Rattle.mtp_codes.specs.declared.value.Value.TheVariants as value
use Rattle.mtp_assembly.specs.declared.control.ServiceControl.{ServiceControl}
use Rattle.mtp_assembly.specs.declared.variable.ViewKind.TheVariants as kind
use Rattle.mtp_desc.specs.Plain.{PlainDescription}
use Rattle.mtp_sim.specs.declared.plan.Drift.{Drift}
use Rattle.mtp_sim.specs.Sims.{PlainPlan}
use Rattle.chart_core.specs.Roles.{PlainChart}
use Rattle.chart_core.specs.Trees.{leaf}
use Rattle.chart_core.specs.declared.entry.LogEntry.TheVariants as entry
use Rattle.pol_events.specs.Events.{PlainEvent, PlainEntry, plug, report, variable, recipe, start, advance, desk}
use Rattle.pol_events.specs.Events.{exchange_begin, exchange_end}
use Rattle.pol_events.specs.declared.answer.Answer.{Answer}
use Rattle.pol_events.specs.declared.answer.Answer.TheVariants as answer
use Rattle.pol_events.specs.Bound.{PlainAllocation}
use Rattle.pol_site.specs.Sites.{PlainSite}

-- the tag of the doser, its service and its variable; the batch and its recipe
abbrev pub tag : List ℕ
tag = codes "M"

abbrev pub dose : List ℕ
dose = codes "dose"

abbrev pub level : List ℕ
level = codes "level"

abbrev pub batch : List ℕ
batch = codes "b"

abbrev pub charge : List ℕ
charge = codes "r"

-- a doser of this version: procedure 1 completes by itself, procedure 2 doesn't
abbrev pub doser_of : ℕ → PlainDescription
doser_of minor =
    record {
      type_name = codes "D";
      version_text = codes "1.0.0";
      version = (1, minor, 0, [], []);
      services =
          record {
            name = dose;
            procedures =
                record { number = 1; is_default = true; self_completing = true; params = [] }
                ∷ record { number = 2; is_default = false; self_completing = false; params = [] } ∷ [];
          } ∷ [];
      variables = record { name = level; kind = kind.Ana } ∷ [];
    }

-- the doser that is plugged, and the one that it is exchanged for
abbrev pub doser : PlainDescription
doser = doser_of 0

abbrev pub other_doser : PlainDescription
other_doser = doser_of 1

-- its level rises from 0 by 5 to 8; that of the other one from 0 by 3 to 3
abbrev pub drift : Drift
drift = record { name = level; from = pos 0; by = pos 5; to = pos 8 }

abbrev pub other_drift : Drift
other_drift = record { name = level; from = pos 0; by = pos 3; to = pos 3 }

-- a change takes one tick, an execution two
abbrev pub plan_of : Drift → PlainPlan
plan_of drift = record { ticks = 1; run = 2; drifts = drift ∷ [] }

-- one step, which doses by procedure 1
abbrev pub chart : PlainChart
chart =
    record {
      roles = record { role = codes "A"; type_name = codes "D"; wants = codes "^1" } ∷ [];
      root =
          leaf (record {
            name = codes "s";
            role = codes "A";
            service = dose;
            procedure = 1;
            settings = [];
            finish = None;
          });
    }

-- what the batch holds
abbrev pub binds : PlainAllocation
binds = record { held = record { role = codes "A"; tag = tag } ∷ []; watched = [] }

-- the site: the exchange begins once there are three entries, the desk's command comes once there are two
abbrev pub site : PlainSite
site =
    record {
      modules = record { tag = tag; description = doser; plan = plan_of drift } ∷ [];
      recipes = record { recipe = charge; chart = chart } ∷ [];
      batches = record { batch = batch; recipe = charge; binds = binds } ∷ [];
      exchanges = record { tag = tag; after = 3; description = other_doser; plan = plan_of other_drift } ∷ [];
      desk = record { tag = tag; service = dose; command = command.Start; after = 2 } ∷ [];
    }

-- ---- entries

-- an event with its answer
abbrev pub of : PlainEvent → Answer → PlainEntry
of event answer = record { event = event; answer = answer }

-- the recipe is made known
abbrev pub known : PlainEntry
known = of (recipe 7 charge chart) answer.Done

-- the doser is plugged
abbrev pub plugged : PlainEntry
plugged = of (plug 8 tag doser) answer.Done

-- what a service reports
abbrev pub control : State → ℕ → ℕ → ServiceControl
control state mask procedure =
    record { state = state; mask = mask; mode = mode.Automatic; origin = origin.External; procedure = procedure }

-- the service reports this control
abbrev pub told : State → ℕ → ℕ → PlainEntry
told state mask procedure = of (report 9 tag dose (control state mask procedure)) answer.Done

-- it is idle, starting by procedure 1, executing by it
abbrev pub idle : PlainEntry
idle = told state.Idle 268 0

abbrev pub starting : PlainEntry
starting = told state.Starting 280 1

abbrev pub executing : PlainEntry
executing = told state.Execute 856 1

-- the level has this value
abbrev pub valued : ℕ → PlainEntry
valued number = of (variable 10 tag level (value.Whole (pos number))) answer.Done

-- the batch is started, and sends Start with procedure 1
abbrev pub started : PlainEntry
started = of (start 11 batch charge binds) answer.Done

abbrev pub sent : PlainEntry
sent = of (advance 12 batch) (answer.Did (entry.Start (codes "s") tag dose 1))

-- the exchange begins, ends, is held back or cancelled
abbrev pub begun : PlainEntry
begun = of (exchange_begin 13 tag) (answer.Ticket 1)

abbrev pub ended : PlainEntry
ended = of (exchange_end 14 tag 1 other_doser) answer.Done

-- the desk commands a start
abbrev pub ordered : PlainEntry
ordered = of (desk 15 tag dose command.Start) (answer.Did (entry.Asked tag dose command.Start))
