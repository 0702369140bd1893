-- What comes of a line of an operated plant.
use Rattle.std.specs.Prelude.{ℕ, List, Option, Some, None}
use Rattle.std.specs.Option.{option_or}
use Rattle.event_json.specs.declared.fault.LineFault.{LineFault}
use Rattle.event_json.specs.declared.kind.EventKind.{EventKind}
use Rattle.event_json.specs.declared.kind.EventKind.TheVariants as kind
use Rattle.named_lines.specs.Named.{PlainNamed}
use Rattle.pol_events.specs.Events.{PlainEvent, plug, unplug, report, variable, recipe, start, advance, freeze, thaw}
use Rattle.pol_events.specs.Events.{stop_batch, abandon, desk, exchange_begin, exchange_end, exchange_cancel}
use Rattle.pol_guard.specs.Lines as guard
use Rattle.pol_policy.specs.declared.verdict.Verdict.{Verdict}
use Rattle.pol_policy.specs.declared.verdict.Verdict.TheVariants.{Denied}
use Rattle.pol_rights.specs.Rules.{PlainPlantPolicy}
use Rattle.pol_rights.specs.Verdicts.{verdict_on_line}
use Rattle.pol_ledger.specs.Items.{PlainAsked}

-- the kind of line that says an event
abbrev pub kind_of : PlainEvent → EventKind
kind_of (plug at tag description) = kind.Plug
kind_of (unplug at tag) = kind.Unplug
kind_of (report at tag service control) = kind.Report
kind_of (variable at tag name value) = kind.Variable
kind_of (recipe at name chart) = kind.Recipe
kind_of (start at batch named binds) = kind.Start
kind_of (advance at batch) = kind.Advance
kind_of (freeze at batch hold) = kind.Freeze
kind_of (thaw at batch) = kind.Thaw
kind_of (stop_batch at batch) = kind.Stop
kind_of (abandon at batch) = kind.Abandon
kind_of (desk at tag service command) = kind.Desk
kind_of (exchange_begin at tag) = kind.ExchangeBegin
kind_of (exchange_end at tag ticket description) = kind.ExchangeEnd
kind_of (exchange_cancel at tag ticket) = kind.ExchangeCancel

-- the verdict of a plant's policy on what a line says: on a command of the desk that of its rules, as the job guard
-- has it, and on each other event that of its rules of lines; None where these ask nothing
abbrev pub verdict_on : PlainPlantPolicy → PlainNamed → Option Verdict
verdict_on policy said =
    option_or (guard.verdict_on policy.commands said.event said.person)
    (verdict_on_line policy said.person (kind_of said.event))

-- what comes of a line that isn't blank: its fault, a denial, or an event that is asked for
pub data OperatedLine : Type 0 where
  faulty : (fault : LineFault) → OperatedLine
  denied : (rule : Option (List ℕ)) → OperatedLine
  admitted : (one : PlainAsked) → OperatedLine

-- what is asked of the ledger by what a line says
abbrev pub asked_by : PlainNamed → PlainAsked
asked_by said = record { event = said.event; by = said.person }

-- what a line says is denied where the verdict denies it, and else it is asked for by whoever gives the line
abbrev pub by_verdict : PlainNamed → Option Verdict → OperatedLine
by_verdict said (Some (Denied rule)) = denied rule
by_verdict said verdict = admitted (asked_by said)

-- the verdict where a policy is known; where none is, nothing is asked of it
abbrev pub verdict_under : Option PlainPlantPolicy → PlainNamed → Option Verdict
verdict_under None said = None
verdict_under (Some policy) said = verdict_on policy said

-- what comes of what a line says
abbrev pub operated_saying : Option PlainPlantPolicy → PlainNamed → OperatedLine
operated_saying policy said = by_verdict said (verdict_under policy said)
