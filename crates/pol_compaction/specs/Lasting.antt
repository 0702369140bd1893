-- The entries that last: those that anything later can still depend on, before it is asked which of them stay.
use Rattle.std.specs.Prelude.{ℕ, Bool, true, false, not, ◌&&◌, List, filter}
use Rattle.pol_events.specs.Events.{PlainEvent, advance, desk, PlainEntry}
use Rattle.pol_events.specs.declared.answer.Answer.{Answer}
use Rattle.pol_events.specs.declared.answer.Answer.TheVariants.{Waiting}
use Rattle.pol_history.specs.Looking.{History, Subject, of_module, of_batch, of_recipe, subject, is_accepted}
use Rattle.pol_history.specs.Batches.{batches, is_open}

-- the event is an operator's command
abbrev pub is_desk : PlainEvent → Bool
is_desk (desk at tag service command) = true
is_desk _ = false

-- the event asks a batch for its next entry
abbrev pub is_advance : PlainEvent → Bool
is_advance (advance at batch) = true
is_advance _ = false

-- the answer says that a batch waits
abbrev pub is_waiting : Answer → Bool
is_waiting (Waiting obstacle) = true
is_waiting _ = false

-- the entry is a batch's wait
abbrev pub is_wait : PlainEntry → Bool
is_wait entry = is_advance entry.event && is_waiting entry.answer

-- the batches that were started and are closed
abbrev pub closed_batches : History → List (List ℕ)
closed_batches history = filter (λ batch. not (is_open history batch)) (batches history)

-- the subject is a batch that is closed
abbrev pub is_closed_batch : History → Subject → Bool
is_closed_batch whole (of_module tag) = false
is_closed_batch whole (of_batch batch) = not (is_open whole batch)
is_closed_batch whole (of_recipe name) = false

-- the entry was accepted, is neither a wait nor an operator's command, and is of no batch that is closed
abbrev pub is_lasting : History → PlainEntry → Bool
is_lasting whole entry =
    is_accepted entry.answer
    && (not (is_wait entry) && (not (is_desk entry.event)
    && not (is_closed_batch whole (subject entry.event))))
