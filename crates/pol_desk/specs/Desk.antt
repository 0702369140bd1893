-- The answer to a command of the operator's.
use Rattle.std.specs.Prelude.{ℕ, List, Result}
use Rattle.mtp_codes.specs.Faults.{unless}
use Rattle.mtp_codes.specs.declared.command.Command.{Command}
use Rattle.mtp_modes.specs.declared.view.ServiceView.{ServiceView}
use Rattle.chart_core.specs.declared.entry.LogEntry.{LogEntry}
use Rattle.chart_core.specs.declared.entry.LogEntry.TheVariants.{Asked}
use Rattle.pol_events.specs.Refusals.{forbidden}
use Rattle.pol_events.specs.declared.answer.Rule.{Rule}

-- the rule against the command, or else the entry that says that it went to the service
abbrev pub desk_answer : List ℕ → List ℕ → ServiceView → Command → Result LogEntry Rule
desk_answer tag service view command = unless (forbidden command view) (Asked tag service command)
