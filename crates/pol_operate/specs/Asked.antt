-- What is asked of the ledger by lines, each with its line feed, and the run of the old and the new events.
use Rattle.std.specs.Prelude.{ℕ, ◌≡◌, List, [], ◌∷◌, ◌++◌, map, Option, Some, None}
use Rattle.named_lines.specs.Named.{PlainNamed}
use Rattle.pol_events.specs.Events.{PlainEvent}
use Rattle.pol_history.specs.Runs.{history_after}
use Rattle.pol_jobs.specs.LineWork.{Line, line_met}
use Rattle.pol_replay.specs.Meanings.{LineMeaning, at_fault, nothing, says}
use Rattle.pol_rights.specs.Rules.{PlainPlantPolicy}
use Rattle.pol_ledger.specs.Items.{PlainAsked}
use Rattle.pol_ledger.specs.Work.{BegunLedger}
use Rattle.pol_operate.specs.Kept.{known_behind}
use Rattle.pol_operate.specs.Lines.{OperatedLine, admitted, denied, faulty, operated_saying}
use Rattle.pol_operate.specs.Texts.{history_in}
use Rattle.pol_operate.specs.Work.{policy_by, said_by}

-- what is asked by what comes of a line
abbrev pub asked_of : OperatedLine → List PlainAsked
asked_of (faulty fault) = []
asked_of (denied rule) = []
asked_of (admitted one) = one ∷ []

-- what is asked by what a line says
abbrev pub asked_saying : PlainPlantPolicy → LineMeaning PlainNamed → List PlainAsked
asked_saying policy nothing = []
asked_saying policy (at_fault fault) = []
asked_saying policy (says said) = asked_of (operated_saying (Some policy) said)

-- what is asked by a line: nothing before a policy is known
abbrev pub asked_by_line : Option PlainPlantPolicy → Line → List PlainAsked
asked_by_line None line = []
asked_by_line (Some policy) line = asked_saying policy (said_by line)

-- what is asked by lines, where this policy is known
abbrev pub asked_by_lines : Option PlainPlantPolicy → List (List ℕ) → List PlainAsked
asked_by_lines policy [] = []
asked_by_lines policy (line ∷ lines) =
    asked_by_line policy (line_met line) ++ asked_by_lines (policy_by policy (line_met line)) lines

-- the events of what was asked
abbrev pub events_asked : List PlainAsked → List PlainEvent
events_asked all = map (λ (one : PlainAsked). one.event) all

-- The history behind lines is the run of the old events and of those that the lines ask for.
abbrev pub OperatedIsRun : Type 0
OperatedIsRun = (ledger : BegunLedger) (lines : List (List ℕ)) →
    history_in (known_behind (Some ledger) lines).ledger
    ≡ history_after [] (events_asked (ledger.so_far ++ asked_by_lines None lines))
