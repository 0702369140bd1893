-- The work of a replay, line by line, gives its output.
use Rattle.std.proofs.Common.{◌≡◌, ℕ, List, [], ◌∷◌, ◌++◌, refl, ap, sym}
use Rattle.std.specs.Prelude.{map}
use Rattle.pol_io.specs.Pieces.{pieces, line_of}
use Rattle.pol_events.specs.Events.{PlainEvent}
use Rattle.event_json.specs.Lines.{event_of}
use Rattle.pol_history.specs.Looking.{History}
use Rattle.pol_history.specs.Answers.{answer_of}
use Rattle.pol_record.specs.Lines.{as_input_line, input_line_of, events_in, answered_lines_after, answered_texts}
use Rattle.pol_record.specs.Lines.{closing_text}
use Rattle.pol_history.specs.Runs.{entry_of, recorded, history_after}
use Rattle.pol_record.specs.Texts.{answer_text, fault_text}
use Rattle.pol_jobs.specs.LineWork.{replies, after_all, line_met, output_by}
use Rattle.pol_replay.specs.Replay.{replay_work, replayed}
use Rattle.pol_replay.specs.Meanings.{LineMeaning, after_meaning, at_fault, meaning_met, nothing, reply_text, says}
use Rattle.pol_replay.proofs.Spoken.{in_journal, met_means}

-- the replies to lines are the texts of their rows
pub replies_rows : (history : History) (parts : List (List ℕ)) →
    replies replay_work history parts ≡ answered_texts (answered_lines_after history (map input_line_of parts))
replies_rows history [] = refl
replies_rows history (piece ∷ parts) =
    rw (sym (met_means (line_of piece)))
    (by_meaning (meaning_met event_of (line_met piece)) (λ later. replies_rows later parts))
  where
    by_meaning : (meaning : LineMeaning PlainEvent) → ((later : History) → replies replay_work later parts
        ≡ answered_texts (answered_lines_after later (map input_line_of parts))) →
        reply_text history meaning ++ replies replay_work (after_meaning history meaning) parts
        ≡ answered_texts
        (answered_lines_after history (as_input_line piece (in_journal meaning) ∷ map input_line_of parts))
    by_meaning nothing rest = rest history
    by_meaning (at_fault fault) rest = ap (λ text. fault_text fault ++ text) (rest history)
    by_meaning (says event) rest =
        ap (λ text. answer_text (answer_of history event) ++ text) (rest (recorded (entry_of history event) history))

-- what the replay knows after lines is the history of their events
pub after_rows : (history : History) (parts : List (List ℕ)) → after_all replay_work history parts
    ≡ history_after history (events_in (map input_line_of parts))
after_rows history [] = refl
after_rows history (piece ∷ parts) =
    rw (sym (met_means (line_of piece)))
    (by_meaning (meaning_met event_of (line_met piece)) (λ later. after_rows later parts))
  where
    by_meaning : (meaning : LineMeaning PlainEvent) → ((later : History) → after_all replay_work later parts
        ≡ history_after later (events_in (map input_line_of parts))) →
        after_all replay_work (after_meaning history meaning) parts
        ≡ history_after history (events_in (as_input_line piece (in_journal meaning) ∷ map input_line_of parts))
    by_meaning nothing rest = rest history
    by_meaning (at_fault fault) rest = rest history
    by_meaning (says event) rest = rest (recorded (entry_of history event) history)

-- the output of a replay that begins with no history is the defined one
pub replay_output : output_by replay_work [] ≡ replayed
replay_output =
    λ i. record {
      replies = λ bytes. replies_rows [] (pieces bytes) i;
      Closing = λ bytes text. text ≡ closing_text (after_rows [] (pieces bytes) i);
      Refuses = λ bytes line reason. ⊥;
      RefusesEnd = λ bytes reason. ⊥;
    }
