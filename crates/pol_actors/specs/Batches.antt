-- What a batch does next.
use Rattle.std.specs.Prelude.{ℕ, Bool, true, false, List, Option, Some, None, Result, Ok, Err, ⊤, if◌then◌else◌}
use Rattle.chart_core.specs.declared.next.Next.{Next}
use Rattle.chart_core.specs.declared.next.Next.TheVariants as next
use Rattle.pol_events.specs.Events.{PlainEvent, start, advance}
use Rattle.pol_events.specs.declared.answer.Answer.{Answer}
use Rattle.pol_events.specs.declared.answer.Answer.TheVariants.{Refused}
use Rattle.pol_events.specs.declared.answer.Rule.{Rule}
use Rattle.pol_history.specs.Answers.{answer_of}
use Rattle.pol_history.specs.Looking.{History}
use Rattle.pol_core.specs.Calls.{open_next, refusal}
use Rattle.pol_site.specs.Following.{is_passing}
use Rattle.pol_site.specs.Sites.{PlainSiteBatch}
use Rattle.pol_actors.specs.declared.batch.Stage.{Stage}
use Rattle.pol_actors.specs.declared.batch.Stage.TheVariants as stage

-- the refusal is one that passes
abbrev pub is_refusal_passing : Result ⊤ Rule → Bool
is_refusal_passing (Ok done) = false
is_refusal_passing (Err rule) = is_passing rule

-- the start of a batch, unless it waits
abbrev pub start_event : History → PlainSiteBatch → Option PlainEvent
start_event history batch =
    if is_refusal_passing (refusal (answer_of history (start 0 batch.batch batch.recipe batch.binds)))
    then None
    else Some (start 0 batch.batch batch.recipe batch.binds)

-- a batch of which this comes next goes on
abbrev pub goes_on : Option Next → Bool
goes_on None = false
goes_on (Some (next.Waiting obstacle)) = false
goes_on (Some (next.Did entry)) = true
goes_on (Some (next.Closed outcome)) = true

-- the advance of a batch, where it goes on
abbrev pub advance_event : List ℕ → Option Next → Option PlainEvent
advance_event batch next = if goes_on next then Some (advance 0 batch) else None

-- the next event of a batch: its start, and once it is started its advance
abbrev pub batch_event : History → PlainSiteBatch → Stage → Option PlainEvent
batch_event history batch stage.Unsent = start_event history batch
batch_event history batch stage.Refused = None
batch_event history batch stage.Started = advance_event batch.batch (open_next history batch.batch)

-- the stage of a batch after its event was answered so
abbrev pub stage_after : Stage → Answer → Stage
stage_after stage.Unsent (Refused rule) = stage.Refused
stage_after stage.Unsent answer = stage.Started
stage_after stage.Refused answer = stage.Refused
stage_after stage.Started answer = stage.Started
