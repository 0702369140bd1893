-- The replay of a journal: its work and its output.
use Rattle.std.specs.declared.convert.Infallible.{Infallible}
use Rattle.event_json.specs.Lines.{event_of}
use Rattle.pol_history.specs.Looking.{History}
use Rattle.pol_record.specs.Lines.{answers_of, history_of, closing_text}
use Rattle.pol_jobs.specs.LineWork.{LineWork, Output, texts_of, work_of}
use Rattle.pol_replay.specs.Meanings.{meaning_met, reply_text, after_meaning}

-- what a replay does with each line, and at the end
abbrev pub replay_work : LineWork History Infallible
replay_work =
    work_of (λ history line. reply_text history (meaning_met event_of line))
    (λ history line. after_meaning history (meaning_met event_of line)) closing_text

-- the output of a replay: the answers to the lines, and then the lines of the batches and the end line; together the
-- defined output of the input
abbrev pub replayed : Output Infallible
replayed = texts_of answers_of (λ bytes. closing_text (history_of bytes))
