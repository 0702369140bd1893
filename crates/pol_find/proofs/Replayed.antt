-- The work of a finder, line by line, gives its output.
use Rattle.std.proofs.Common.{◌≡◌, ◌≤◌, ◌+◌, ℕ, suc, min, List, [], ◌∷◌, map, length, refl, ap, sym, ◌∙◌, arith}
use Rattle.std.specs.Prelude.{filter}
use Rattle.mtp_codes.specs.Numbers.{greatest_u64}
use Rattle.pol_io.specs.Pieces.{pieces, line_of}
use Rattle.pol_events.specs.Events.{PlainEvent}
use Rattle.event_json.specs.Lines.{event_of}
use Rattle.event_json.specs.declared.fault.LineFault.{LineFault}
use Rattle.pol_history.specs.Looking.{History}
use Rattle.pol_history.specs.Runs.{entry_of, recorded, history_after}
use Rattle.pol_record.specs.Lines.{as_input_line, events_in, history_of, input_line_of}
use Rattle.pol_jobs.specs.LineWork.{Line, after_all, line_met, output_by, replies}
use Rattle.pol_replay.specs.Meanings.{LineMeaning, at_fault, meaning_met, nothing, says}
use Rattle.pol_replay.proofs.Spoken.{in_journal, met_means}
use Rattle.pol_find.specs.Found.{IsFound}
use Rattle.pol_find.specs.Finding.{Known, after_saying, bad_lines, find_work, found, is_at_fault, nothing_known}
use Rattle.pol_find.specs.Finding.{one_more}

-- what a finder knows after a line that says an event
pub after_event : (known : Known) (line : Line) (event : PlainEvent) → meaning_met event_of line ≡ says event →
    find_work.after known line
    ≡ record known { history = recorded (entry_of known.history event) known.history }
after_event known line event is = ap (after_saying known) is

-- and after one that is at fault
pub after_fault : (known : Known) (line : Line) (fault : LineFault) → meaning_met event_of line ≡ at_fault fault →
    find_work.after known line ≡ record known { bad = one_more known.bad }
after_fault known line fault is = ap (after_saying known) is

-- a finder replies nothing to any line
no_replies : (known : Known) (parts : List (List ℕ)) → replies find_work known parts ≡ []
no_replies known [] = refl
no_replies known (piece ∷ parts) = no_replies (find_work.after known (line_met piece)) parts

-- how many of these lines are at fault
abbrev faults_in : List (List ℕ) → ℕ
faults_in parts = length (filter is_at_fault (map input_line_of parts))

-- the history after these lines, and this number of lines at fault and those among them
abbrev known_after : History → ℕ → List (List ℕ) → Known
known_after history bad parts = record {
  history = history_after history (events_in (map input_line_of parts));
  bad = min (bad + faults_in parts) greatest_u64;
}

-- so much more is known after lines
after_rows : (history : History) (bad : ℕ) (parts : List (List ℕ)) → bad ≤ greatest_u64 →
    after_all find_work (record { history = history; bad = bad }) parts ≡ known_after history bad parts
after_rows history bad [] few =
    let same : bad ≡ min (bad + 0) greatest_u64 = omega arith in
    λ i. record { history = history; bad = same i }
after_rows history bad (piece ∷ parts) few =
    rw (sym (met_means (line_of piece)))
    (by_meaning (meaning_met event_of (line_met piece)) (λ later count low. after_rows later count parts low))
  where
    by_meaning : (meaning : LineMeaning PlainEvent) →
        ((later : History) (count : ℕ) → count ≤ greatest_u64 →
        after_all find_work (record { history = later; bad = count }) parts ≡ known_after later count parts) →
        after_all find_work (after_saying (record { history = history; bad = bad }) meaning) parts
        ≡ record {
          history = history_after history
              (events_in (as_input_line piece (in_journal meaning) ∷ map input_line_of parts));
          bad = min
              (bad + length (filter is_at_fault
              (as_input_line piece (in_journal meaning) ∷ map input_line_of parts))) greatest_u64;
        }
    by_meaning nothing rest = rest history bad few
    by_meaning (says event) rest = rest (recorded (entry_of history event) history) bad few
    by_meaning (at_fault fault) rest =
        let low : one_more bad ≤ greatest_u64 = omega arith in
        let same : min (one_more bad + faults_in parts) greatest_u64
        ≡ min (bad + suc (faults_in parts)) greatest_u64 = omega arith in
        rest history (one_more bad) low
        ∙ (λ i. record { history = history_after history (events_in (map input_line_of parts)); bad = same i })

-- what is known after an input
after_input : (bytes : List ℕ) →
    after_all find_work nothing_known (pieces bytes) ≡ record { history = history_of bytes; bad = bad_lines bytes }
after_input bytes =
    let same : min (0 + faults_in (pieces bytes)) greatest_u64 ≡ min (faults_in (pieces bytes)) greatest_u64
    = omega arith in
    after_rows [] 0 (pieces bytes) (omega arith) ∙ (λ i. record { history = history_of bytes; bad = same i })

-- the output of a finder that has read nothing is what is found
pub find_output : output_by find_work nothing_known ≡ found
find_output =
    λ i. record {
      replies = λ bytes. no_replies nothing_known (pieces bytes) i;
      Closing = λ bytes. let known = after_input bytes i in IsFound known.history known.bad;
      Refuses = λ bytes line reason. ⊥;
      RefusesEnd = λ bytes reason. ⊥;
    }
