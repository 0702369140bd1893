-- The demo journal of a seed.
use Rattle.std.specs.Prelude.{ℕ, ◌+◌, ◌*◌, ◌%◌, ◌==◌, List, [], ◌∷◌, ◌++◌, map, codes, pos, if◌then◌else◌}
use Rattle.std.specs.List.{flat_map, range_with_len}
use Rattle.mtp_codes.specs.declared.mode.Mode.TheVariants.{Automatic}
use Rattle.mtp_codes.specs.declared.mode.Origin.TheVariants.{External}
use Rattle.mtp_codes.specs.declared.state.State.{State}
use Rattle.mtp_codes.specs.declared.state.State.TheVariants.{Idle, Starting, Execute, Completing, Completed, Resetting}
use Rattle.mtp_codes.specs.declared.value.Value.TheVariants.{Whole}
use Rattle.pol_events.specs.Events.{PlainEvent, advance, plug, recipe, report, start, variable}
use Rattle.pol_demo.specs.Doser.{doser, dosing}
use Rattle.pol_demo.specs.Names.{batch_of, busy_batch_of, tag_of}
use Rattle.pol_demo.specs.Values.{drawn, value_of}
use Rattle.pol_demo.specs.declared.journal.TheConstants.{MODULES, VALUES}

-- what happens in a line, by the line's number
abbrev pub Happening : Type 0
Happening = ℕ → PlainEvent

-- a module is docked
abbrev pub docked : ℕ → Happening
docked place = λ at. plug at (tag_of place) doser

-- the service of a module reports a state, and the sum of the codes of the commands that it enables
abbrev pub reported : List ℕ → State → ℕ → Happening
reported tag state mask = λ at. report at tag (codes "dose")
    (record { state = state; mask = mask; mode = Automatic; origin = External; procedure = 0 })

-- a module reports for the first time
abbrev pub idle : ℕ → Happening
idle place = reported (tag_of place) Idle 4

-- the recipe is made known
abbrev pub known : Happening
known = λ at. recipe at (codes "one") dosing

-- a batch is started on a module
abbrev pub started : List ℕ → List ℕ → Happening
started batch tag = λ at. start at batch (codes "one")
    (record { held = record { role = codes "A"; tag = tag } ∷ []; watched = [] })

-- a batch is advanced
abbrev pub advanced : List ℕ → Happening
advanced batch = λ at. advance at batch

-- the level of a module is reported
abbrev pub leveled : List ℕ → ℕ → Happening
leveled tag value = λ at. variable at tag (codes "level") (Whole (pos value))

-- the value that is reported so many places behind the first of those that follow on a number of the sequence
abbrev pub measured : List ℕ → ℕ → ℕ → Happening
measured tag number places = leveled tag (value_of (drawn number (places + 1)))

-- the lines of 0, 1, 2 and so on, so many
unfoldable pub each : (ℕ → Happening) → ℕ → List Happening
each line count = map line (range_with_len 0 count)

-- behind each tenth batch another one is started on its module, which is busy then
unfoldable pub busy : ℕ → List ℕ → List Happening
busy number tag = if number % 10 == 9 then started (busy_batch_of number) tag ∷ [] else []

-- the recipe is run: its one step is started, the module doses, and is reset
unfoldable pub dosed : List ℕ → List ℕ → List Happening
dosed batch tag =
    advanced batch ∷ reported tag Starting 0 ∷ reported tag Execute 0 ∷ reported tag Completing 0
    ∷ reported tag Completed 2 ∷ advanced batch ∷ reported tag Resetting 0 ∷ reported tag Idle 4
    ∷ advanced batch ∷ advanced batch ∷ []

-- a batch on a module from its start to its end, with the values that follow on a number of the sequence
unfoldable pub batch_on : List ℕ → List ℕ → ℕ → ℕ → List Happening
batch_on tag batch sequence number =
    started batch tag ∷ busy number tag ++ each (measured tag sequence) VALUES ++ dosed batch tag

-- the batch of a number; the modules take turns
abbrev pub batch_run : ℕ → ℕ → List Happening
batch_run sequence number = batch_on (tag_of (number % MODULES)) (batch_of number) sequence number

-- so many batches, one after another; they share one sequence of values, which begins behind the seed
unfoldable pub batch_runs : ℕ → ℕ → List Happening
batch_runs seed count = flat_map (λ number. batch_run (drawn seed (VALUES * number)) number) (range_with_len 0 count)

-- how many batches a seed has: 1 to 120
abbrev pub batches_of : ℕ → ℕ
batches_of seed = 1 + seed % 120

-- all that happens: the modules are docked and report, the recipe is made known, and the batches are run
unfoldable pub happenings : ℕ → List Happening
happenings seed = each docked MODULES ++ each idle MODULES ++ known ∷ batch_runs seed (batches_of seed)

-- what happens, numbered on from a line
abbrev pub numbered : ℕ → List Happening → List PlainEvent
numbered at [] = []
numbered at (happening ∷ others) = happening at ∷ numbered (at + 1) others

-- the events of the demo journal of a seed
abbrev pub demo_events : ℕ → List PlainEvent
demo_events seed = numbered 1 (happenings seed)
