-- What a replay replies to a line and what it knows after it, by what the line says.
use Rattle.std.proofs.Common.{◌≡◌, ap}
use Rattle.pol_events.specs.Events.{PlainEvent}
use Rattle.event_json.specs.Lines.{event_of}
use Rattle.event_json.specs.declared.fault.LineFault.{LineFault}
use Rattle.pol_history.specs.Looking.{History}
use Rattle.pol_history.specs.Answers.{answer_of}
use Rattle.pol_history.specs.Runs.{entry_of, recorded}
use Rattle.pol_jobs.specs.LineWork.{Line}
use Rattle.pol_record.specs.Texts.{answer_text, fault_text}
use Rattle.pol_replay.specs.Meanings.{after_meaning, at_fault, meaning_met, reply_text, says}
use Rattle.pol_replay.specs.Replay.{replay_work}

-- to an event its answer, and then it is recorded
pub to_event : (history : History) (line : Line) (event : PlainEvent) → meaning_met event_of line ≡ says event →
    (replay_work.reply history line ≡ answer_text (answer_of history event))
    × (replay_work.after history line ≡ recorded (entry_of history event) history)
to_event history line event is = (ap (reply_text history) is, ap (after_meaning history) is)

-- to a fault its line
pub to_fault : (history : History) (line : Line) (fault : LineFault) → meaning_met event_of line ≡ at_fault fault →
    (replay_work.reply history line ≡ fault_text fault) × (replay_work.after history line ≡ history)
to_fault history line fault is = (ap (reply_text history) is, ap (after_meaning history) is)
