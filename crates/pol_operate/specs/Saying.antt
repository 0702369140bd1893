-- What comes of what a line behind the policy says.
use Rattle.std.specs.Prelude.{ℕ, List, [], Option}
use Rattle.named_lines.specs.Named.{PlainNamed}
use Rattle.pol_guard.specs.Denials.{denial_text}
use Rattle.pol_events.specs.Events.{PlainEvent}
use Rattle.pol_history.specs.Answers.{answer_of}
use Rattle.pol_history.specs.Looking.{History}
use Rattle.pol_ledger.specs.Items.{asked}
use Rattle.pol_ledger.specs.Work.{BegunLedger, ledger_after, ledger_answer}
use Rattle.pol_ledger.specs.declared.items.LedgerAnswer.{LedgerAnswer}
use Rattle.pol_ledger.specs.declared.items.LedgerAnswer.TheVariants.{Answered}
use Rattle.pol_record.specs.Texts.{fault_text}
use Rattle.pol_replay.specs.Meanings.{LineMeaning, at_fault, nothing, says}
use Rattle.pol_rights.specs.Rules.{PlainPlantPolicy}
use Rattle.pol_operate.specs.Lines.{OperatedLine, admitted, denied, faulty, operated_saying}
use Rattle.pol_operate.specs.Texts.{advanced_by, history_in, settings_told, told_text}

-- the output line of what a ledger answers, by the history that this leaves, and by the batch that was to go on
abbrev pub answered_text : History → Option (List ℕ) → LedgerAnswer → List ℕ
answered_text history batch (Answered answer) = told_text (settings_told history batch answer) answer
answered_text history batch answer = []

-- the line that an event would be answered with after a history
abbrev pub foreseen_text : History → PlainEvent → List ℕ
foreseen_text history event =
    told_text (settings_told history (advanced_by event) (answer_of history event)) (answer_of history event)

-- the output line that comes of a line at a ledger
abbrev pub text_after : Option BegunLedger → OperatedLine → List ℕ
text_after ledger (faulty fault) = fault_text fault
text_after ledger (denied rule) = denial_text rule
text_after ledger (admitted one) =
    answered_text (history_in (ledger_after ledger (asked one))) (advanced_by one.event)
    (ledger_answer ledger (asked one))

-- the ledger after a line
abbrev pub ledger_with : Option BegunLedger → OperatedLine → Option BegunLedger
ledger_with ledger (admitted one) = ledger_after ledger (asked one)
ledger_with ledger line = ledger

-- the output line that what a line says brings; nothing, where it says nothing
abbrev pub text_met : Option PlainPlantPolicy → Option BegunLedger → LineMeaning PlainNamed → List ℕ
text_met policy ledger nothing = []
text_met policy ledger (at_fault fault) = text_after ledger (faulty fault)
text_met policy ledger (says said) = text_after ledger (operated_saying policy said)

-- the ledger that what a line says leaves
abbrev pub ledger_met : Option PlainPlantPolicy → Option BegunLedger → LineMeaning PlainNamed → Option BegunLedger
ledger_met policy ledger nothing = ledger
ledger_met policy ledger (at_fault fault) = ledger
ledger_met policy ledger (says said) = ledger_with ledger (operated_saying policy said)
