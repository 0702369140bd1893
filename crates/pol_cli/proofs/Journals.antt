-- The journal theorem, from the laws of all legal histories.
use Rattle.std.proofs.Common.{◌<◌, ℕ, List, [], ◌∷◌, length, sym, subst, arith, length-append}
use Rattle.pol_io.specs.Pieces.{pieces}
use Rattle.pol_history.specs.Looking.{History}
use Rattle.pol_record.specs.Lines.{answers_of, closing_text, events_in, history_of, input_lines_of, output_of}
use Rattle.pol_history.specs.Runs.{IsLegal, IsOrderly}
use Rattle.pol_record.specs.Texts.{batches_text, end_text}
use Rattle.pol_history.proofs.Legal.{legal_after, orderly_after, earlier_legal, earlier_orderly}
use Rattle.pol_safety.specs.Sound.{HistoriesAreSound, EntriesAreRight}
use Rattle.pol_removal.proofs.Reading.{events_orderly}
use Rattle.pol_removal.specs.Removal.{RemovalOfLines}
use Rattle.pol_cli.specs.Journal.{Was, JournalTheorem}
use Rattle.pol_replay.proofs.BatchLines.{some_end}

-- so what the history was at some time is legal
was_legal : (bytes : List ℕ) (history : History) → Was bytes history → IsLegal history
was_legal bytes history was =
    earlier_legal was.0 history (subst IsLegal (sym was.1) (legal_after [] (events_in (input_lines_of bytes)) tt))

-- and orderly
was_orderly : (bytes : List ℕ) (history : History) → Was bytes history → IsOrderly history
was_orderly bytes history was =
    earlier_orderly was.0 history (subst IsOrderly (sym was.1)
    (orderly_after [] (events_in (input_lines_of bytes)) tt (events_orderly (pieces bytes))))

-- the output goes on behind the answers: the end line at least
longer_output : (bytes : List ℕ) → length (answers_of bytes) < length (output_of bytes)
longer_output bytes =
    let end = some_end in
    rw (
      length-append (answers_of bytes) (closing_text (history_of bytes)),
      length-append (batches_text (history_of bytes)) end_text,
    ) (omega arith)

-- what holds of all legal histories of orderly events holds of it
pub journal : HistoriesAreSound → EntriesAreRight → RemovalOfLines → (bytes : List ℕ) → JournalTheorem bytes
journal sound right removal bytes = record {
  sound = λ history was. sound history (was_legal bytes history was) (was_orderly bytes history was);
  right = λ history entry was.
      right history entry (was_legal bytes (entry ∷ history) was) (was_orderly bytes (entry ∷ history) was).1;
  removal = λ tags. removal tags bytes;
  longer = longer_output bytes;
}
