-- What a kept plant writes and keeps, by the run of the old events and of those of lines.
use Rattle.std.proofs.Common.{ℕ, ◌≡◌, ◌∙◌, List, [], ◌∷◌, ◌++◌, map, Bool, true, false, refl, sym, ap, append_assoc}
use Rattle.std.proofs.Common.{append-nil}
use Rattle.std.specs.Prelude.{if◌then◌else◌}
use Rattle.kept_jobs.specs.Life.{KeepsOld}
use Rattle.pol_events.specs.Events.{PlainEvent}
use Rattle.pol_history.specs.Answers.{answer_of}
use Rattle.pol_history.specs.Looking.{History}
use Rattle.pol_history.specs.Runs.{entry_of, history_after, is_recorded, recorded, events_of}
use Rattle.pol_io.specs.Pieces.{pieces}
use Rattle.pol_jobs.specs.LineWork.{after_all, output_by, replies}
use Rattle.pol_record.specs.Lines.{answered_lines_after, answered_texts, closing_text, events_in, input_line_of}
use Rattle.pol_record.proofs.Appending.{history_after_append}
use Rattle.pol_replay.specs.Replay.{replay_work}
use Rattle.pol_replay.proofs.Replaying.{after_rows, replies_rows}
use Rattle.pol_store.specs.Lawful.{events-cons, recorded_is}
use Rattle.pol_store.specs.Work.{plant_work}
use Rattle.pol_keep.specs.Keeping.{plant_job}
use Rattle.pol_keep.specs.Kept.{answers_with, events_with, kept_events, kept_output, run_with}

-- ---- the run of the old and the new events

-- the events of a history after more events
events_more : (history : History) (events : List PlainEvent) →
    events_of (history_after history events) ≡ events_of history ++ kept_events history events
events_more history [] = sym (append-nil (events_of history))
events_more history (event ∷ events) =
    events_more (recorded (entry_of history event) history) events
    ∙ by_record (is_recorded (answer_of history event)) refl
  where
    later : List PlainEvent
    later = kept_events (recorded (entry_of history event) history) events

    by_record : (new : Bool) → is_recorded (answer_of history event) ≡ new →
        events_of (recorded (entry_of history event) history) ++ later
        ≡ events_of history ++ (if is_recorded (answer_of history event) then event ∷ later else later)
    by_record true is =
        ap (λ events. events ++ later)
        (ap events_of (recorded_is history event is) ∙ events-cons (entry_of history event) history)
        ∙ (append_assoc (events_of history) (event ∷ []) later
        ∙ ap (λ new. events_of history ++ (if new then event ∷ later else later)) (sym is))
    by_record false is = rw is refl

-- where a history is the run of its events, what follows is told by the run of these and more
module _ (history : History) (is : history ≡ history_after [] (events_of history)) where
  -- the history after the lines
  after_run : (parts : List (List ℕ)) → after_all replay_work history parts ≡ run_with (events_of history) parts
  after_run parts =
      after_rows history parts ∙ (ap (λ history. history_after history (events_in (map input_line_of parts))) is
      ∙ sym (history_after_append [] (events_of history) (events_in (map input_line_of parts))))

  -- its events
  pub events_run : (parts : List (List ℕ)) →
      events_of (after_all replay_work history parts) ≡ events_with (events_of history) parts
  events_run parts =
      ap events_of (after_rows history parts)
      ∙ (events_more history (events_in (map input_line_of parts))
      ∙ ap (λ run. events_of history ++ kept_events run (events_in (map input_line_of parts))) is)

  -- the replies
  pub replies_run : (parts : List (List ℕ)) → replies replay_work history parts ≡ answers_with (events_of history) parts
  replies_run parts =
      replies_rows history parts
      ∙ ap (λ history. answered_texts (answered_lines_after history (map input_line_of parts))) is

  -- so the output is that of a kept plant
  pub output_run : output_by replay_work history ≡ kept_output (events_of history)
  output_run =
      λ i. record {
        replies = λ bytes. replies_run (pieces bytes) i;
        Closing = λ bytes text. text ≡ closing_text (after_run (pieces bytes) i);
        Refuses = λ bytes line reason. ⊥;
        RefusesEnd = λ bytes reason. ⊥;
      }

-- the old events stand before those of lines
pub keeps_old : KeepsOld plant_work plant_job
keeps_old old image stands lines = (kept_events (history_after [] old) (events_in (map input_line_of lines)), refl)
