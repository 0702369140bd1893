-- What a start changes in the tables.
use Rattle.std.specs.Prelude.{ℕ, ◌≡◌, ◌+◌, IsSome, length, true, List, [], ◌∷◌, ◌++◌, Some, None, if◌then◌else◌}
use Rattle.std.specs.Prelude.{Ok}
use Rattle.std.specs.Map.{keys_of, lookup}
use Rattle.std.specs.Option.{option_map}
use Rattle.std.specs.Str.{bytes_eq}
use Rattle.mtp_codes.specs.Names.{is_among}
use Rattle.chart_core.specs.Charts.{plain_chart}
use Rattle.chart_core.specs.Roles.{PlainChart}
use Rattle.pol_events.specs.Bound.{PlainAllocation, given, tags_of}
use Rattle.pol_slots.specs.declared.slot.Slot.{Slot}
use Rattle.pol_table.specs.Answers.{hold_answer}
use Rattle.pol_table.specs.Rows.{Row, Rows, look, held_by}
use Rattle.pol_runs.specs.Logs.{Asks, Follows}
use Rattle.pol_runs.specs.declared.freeze.Freeze.TheVariants.{Thawed}
use Rattle.pol_runs.specs.Runs.{PlainRun}

-- a run that has just begun
pub record IsNew (batch recipe : List ℕ) (chart : PlainChart) (binds : PlainAllocation) (run : PlainRun) : Type 0 where
  pub batch_is : run.batch ≡ batch
  pub recipe_is : run.recipe ≡ recipe
  pub chart_is : plain_chart run.chart ≡ chart
  pub binds_are : run.binds ≡ given binds
  pub held_are : run.held ≡ length binds.held
  pub freeze_is : run.freeze ≡ Thawed
  pub outcome_is : run.outcome ≡ None
  pub follows : Follows run []
  pub asks : Asks run []

-- the batch holds all of these tags
pub record Holds (tags : List (List ℕ)) (batch : List ℕ) (old new : Rows Slot) : Type 0 where
  pub free : hold_answer tags old ≡ Ok tt
  pub held : (tag : List ℕ) →
      look tag new ≡ option_map (λ row. if is_among tags tag then held_by batch row else row) (look tag old)

-- the row, watched by this batch behind all others
abbrev pub watched_by : List ℕ → Row Slot → Row Slot
watched_by batch row = record row { watchers = row.watchers ++ batch ∷ [] }

-- the batch watches all of these tags, which are distinct
abbrev pub Watches : List (List ℕ) → List ℕ → Rows Slot → Rows Slot → Type 0
Watches tags batch old new = (tag : List ℕ) →
    look tag new ≡ option_map (λ row. if is_among tags tag then watched_by batch row else row) (look tag old)

-- the batch watches and holds all of its modules, and has a run that has just begun
pub record Begins (batch recipe : List ℕ) (chart : PlainChart) (binds : PlainAllocation) (old new : Rows Slot)
    (runs after : List (List ℕ × PlainRun)) : Type 0 where
  pub run : PlainRun
  pub is_new : IsNew batch recipe chart binds run
  pub watched : Rows Slot
  pub watches : Watches (tags_of binds.watched) batch old watched
  pub there : (tag : List ℕ) → is_among (tags_of binds.watched) tag ≡ true → IsSome (look tag old)
  pub holds : Holds (tags_of binds.held) batch watched new
  pub runs_are : (other : List ℕ) → lookup (bytes_eq other) after
      ≡ (if bytes_eq batch other then Some run else lookup (bytes_eq other) runs)
  pub count : length after ≡ length runs + 1
  pub order : keys_of after ≡ keys_of runs ++ batch ∷ []
