-- A history of two modules and two batches, and what stays of it.
use Rattle.std.specs.Prelude.{ℕ, ◌≡◌, List, [], ◌∷◌, reverse}
use Rattle.mtp_codes.specs.declared.value.Value.{Value}
use Rattle.mtp_codes.specs.declared.state.State.{State}
use Rattle.mtp_codes.specs.declared.state.State.TheVariants.{Idle, Starting, Execute, Completing, Completed, Resetting}
use Rattle.mtp_codes.specs.declared.mode.Mode.TheVariants.{Automatic}
use Rattle.mtp_codes.specs.declared.mode.Origin.TheVariants.{External}
use Rattle.mtp_desc.specs.Plain.{PlainDescription}
use Rattle.chart_core.specs.Roles.{PlainChart}
use Rattle.chart_core.specs.declared.entry.LogEntry.{LogEntry}
use Rattle.chart_core.specs.declared.why.Why.{Why}
use Rattle.chart_core.specs.declared.next.Outcome.TheVariants as outcome
use Rattle.pol_events.specs.Events.{PlainEvent, plug, unplug, report, variable, recipe, start, advance, exchange_begin}
use Rattle.pol_events.specs.Events.{exchange_end, PlainEntry}
use Rattle.pol_events.specs.Bound.{PlainAllocation}
use Rattle.pol_events.specs.declared.answer.Answer.{Answer}
use Rattle.pol_events.specs.declared.answer.Answer.TheVariants.{Done, Ticket, Did, Waiting, Closed}
use Rattle.pol_compaction.specs.Compaction.{compacted}

-- what an example needs beside names and states: it is the same for any of these
pub record Props : Type 0 where
  pub description : PlainDescription
  pub other_description : PlainDescription
  pub chart : PlainChart
  pub value : ℕ → Value
  pub entry : LogEntry
  pub why : Why

-- the modules M and N
abbrev pub module_m : List ℕ
module_m = 77 ∷ []

abbrev pub module_n : List ℕ
module_n = 78 ∷ []

-- the service dose and the variable level of M
abbrev pub dose : List ℕ
dose = 100 ∷ 111 ∷ 115 ∷ 101 ∷ []

abbrev pub level : List ℕ
level = 108 ∷ 101 ∷ 118 ∷ 101 ∷ 108 ∷ []

-- the recipe one, and its role A
abbrev pub recipe_one : List ℕ
recipe_one = 111 ∷ 110 ∷ 101 ∷ []

abbrev pub role_a : List ℕ
role_a = 65 ∷ []

-- the batches b1 and b2
abbrev pub batch_one : List ℕ
batch_one = 98 ∷ 49 ∷ []

abbrev pub batch_two : List ℕ
batch_two = 98 ∷ 50 ∷ []

-- M plays A and is held
abbrev pub m_as_a : PlainAllocation
m_as_a = record { held = record { role = role_a; tag = module_m } ∷ []; watched = [] }

-- an event with its answer
abbrev pub answered : PlainEvent → Answer → PlainEntry
answered event answer = record { event = event; answer = answer }

-- dose is in this state, and enables the commands of this mask
abbrev pub dose_is : State → ℕ → PlainEntry
dose_is state mask = answered
    (report 0 module_m dose
    (record { state = state; mask = mask; mode = Automatic; origin = External; procedure = 0 })) Done

-- level has this value
abbrev pub level_is : Value → PlainEntry
level_is value = answered (variable 0 module_m level value) Done

-- the entries, the oldest first: b1 runs and is completed, M is exchanged, N comes and goes, b2 is started and waits
abbrev pub example : Props → List PlainEntry
example props =
    answered (plug 0 module_m props.description) Done
    ∷ dose_is Idle 0
    ∷ answered (recipe 0 recipe_one props.chart) Done
    ∷ answered (start 0 batch_one recipe_one m_as_a) Done
    ∷ answered (advance 0 batch_one) (Did props.entry)
    ∷ dose_is Starting 0
    ∷ dose_is Execute 0
    ∷ level_is (props.value 100)
    ∷ answered (advance 0 batch_one) (Waiting props.why)
    ∷ dose_is Completing 0
    ∷ dose_is Completed 0
    ∷ answered (advance 0 batch_one) (Did props.entry)
    ∷ dose_is Resetting 0
    ∷ dose_is Idle 0
    ∷ answered (advance 0 batch_one) (Did props.entry)
    ∷ answered (advance 0 batch_one) (Closed outcome.Completed)
    ∷ answered (exchange_begin 0 module_m) (Ticket 1)
    ∷ answered (exchange_end 0 module_m 1 props.other_description) Done
    ∷ dose_is Idle 0
    ∷ answered (plug 0 module_n props.description) Done
    ∷ answered (unplug 0 module_n) Done
    ∷ level_is (props.value 1)
    ∷ level_is (props.value 2)
    ∷ answered (start 0 batch_two recipe_one m_as_a) Done
    ∷ level_is (props.value 3)
    ∷ answered (advance 0 batch_two) (Did props.entry)
    ∷ answered (advance 0 batch_two) (Waiting props.why)
    ∷ dose_is Starting 0
    ∷ dose_is Execute 0
    ∷ dose_is Execute 16
    ∷ level_is (props.value 4)
    ∷ []

-- what stays: the plug of M, the recipe, both events of the exchange, what the start of b2 reads, that start, what its
-- advance reads, that advance, and what was reported since then, but for the first of two reports of one state
abbrev pub example_kept : Props → List PlainEntry
example_kept props =
    answered (plug 0 module_m props.description) Done
    ∷ answered (recipe 0 recipe_one props.chart) Done
    ∷ answered (exchange_begin 0 module_m) (Ticket 1)
    ∷ answered (exchange_end 0 module_m 1 props.other_description) Done
    ∷ dose_is Idle 0
    ∷ level_is (props.value 2)
    ∷ answered (start 0 batch_two recipe_one m_as_a) Done
    ∷ level_is (props.value 3)
    ∷ answered (advance 0 batch_two) (Did props.entry)
    ∷ dose_is Starting 0
    ∷ dose_is Execute 16
    ∷ level_is (props.value 4)
    ∷ []

-- The example is compacted to what stays, and that once more to itself.
abbrev pub ExampleIsCompacted : Type 0
ExampleIsCompacted = (props : Props) →
    (compacted (reverse (example props)) ≡ example_kept props)
    × (compacted (reverse (example_kept props)) ≡ example_kept props)
