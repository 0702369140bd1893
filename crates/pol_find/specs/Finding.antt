-- The finder as a job over lines: its work and its output.
use Rattle.std.specs.Prelude.{ℕ, ◌+◌, min, Bool, true, false, List, [], length, filter}
use Rattle.std.specs.declared.convert.Infallible.{Infallible}
use Rattle.mtp_codes.specs.Numbers.{greatest_u64}
use Rattle.pol_events.specs.Events.{PlainEvent}
use Rattle.event_json.specs.Lines.{event_of}
use Rattle.pol_history.specs.Looking.{History}
use Rattle.pol_history.specs.Runs.{entry_of, recorded}
use Rattle.pol_record.specs.Lines.{InputLine, blank, faulty, happening, history_of, input_lines_of}
use Rattle.pol_jobs.specs.LineWork.{LineWork, Output}
use Rattle.pol_replay.specs.Meanings.{LineMeaning, at_fault, meaning_met, nothing, says}
use Rattle.pol_core.specs.Plants.{plant_history}
use Rattle.pol_find.specs.Found.{IsFound}
use Rattle.pol_find.specs.declared.finding.Finding.{Finding}

-- what a finder knows: the history, and how many lines were at fault
pub record Known : Type 0 where
  pub history : History
  pub bad : ℕ

-- what a finder knows at first: nothing
abbrev pub nothing_known : Known
nothing_known = record { history = []; bad = 0 }

-- what a finder knows at some time
abbrev pub known_by : Finding → Known
known_by finding = record { history = plant_history finding.plant; bad = finding.bad }

-- one more line at fault; the count stays at the greatest number of 64 bits, which no input reaches
abbrev pub one_more : ℕ → ℕ
one_more bad = min (bad + 1) greatest_u64

-- what a finder knows after a line that says this
abbrev pub after_saying : Known → LineMeaning PlainEvent → Known
after_saying known nothing = known
after_saying known (at_fault fault) = record known { bad = one_more known.bad }
after_saying known (says event) = record known { history = recorded (entry_of known.history event) known.history }

-- what a finder does with each line, and at the end: it replies nothing, and closes with what is found
abbrev pub find_work : LineWork Known Infallible
find_work =
    record {
      reply = λ known line. [];
      after = λ known line. after_saying known (meaning_met event_of line);
      Closing = λ known. IsFound known.history known.bad;
      Refuses = λ known line reason. ⊥;
      RefusesEnd = λ known reason. ⊥;
    }

-- the line is at fault
abbrev pub is_at_fault : InputLine → Bool
is_at_fault (blank piece) = false
is_at_fault (faulty piece fault) = true
is_at_fault (happening piece event) = false

-- how many lines of an input are at fault, as far as a number of 64 bits counts them
abbrev pub bad_lines : List ℕ → ℕ
bad_lines bytes = min (length (filter is_at_fault (input_lines_of bytes))) greatest_u64

-- the output of a finder: nothing for the lines, and then what is found after all of them
abbrev pub found : Output Infallible
found =
    record {
      replies = λ lines. [];
      Closing = λ bytes. IsFound (history_of bytes) (bad_lines bytes);
      Refuses = λ lines line reason. ⊥;
      RefusesEnd = λ bytes reason. ⊥;
    }
