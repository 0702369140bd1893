-- Which commands of the desk would go out now.
use Rattle.std.specs.Prelude.{ℕ, Bool, true, false, ◌&&◌, List, map, sum, if◌then◌else◌}
use Rattle.mtp_codes.specs.Codes.{command_codes}
use Rattle.mtp_codes.specs.declared.command.Command.{Command}
use Rattle.chart_core.specs.declared.entry.LogEntry.TheVariants.{Asked}
use Rattle.pol_events.specs.Events.{desk}
use Rattle.pol_events.specs.declared.answer.Answer.{Answer}
use Rattle.pol_events.specs.declared.answer.Answer.TheVariants.{Did}
use Rattle.pol_history.specs.Answers.{answer_of}
use Rattle.pol_history.specs.Looking.{History}

-- whether a command may be sent to a service of a module, by their names
abbrev pub Allows : Type 0
Allows = List ℕ → List ℕ → Command → Bool

-- the answer says that the command went out
abbrev pub is_asked : Answer → Bool
is_asked (Did (Asked tag service command)) = true
is_asked _ = false

-- the command would go out now: its line would be answered so, and it is allowed; its stamp is no matter
abbrev pub goes_out : Allows → History → List ℕ → List ℕ → Command → Bool
goes_out allows history tag service command =
    is_asked (answer_of history (desk 0 tag service command)) && allows tag service command

-- the code of a command that would go out now; 0 for any other
abbrev pub code_if : Bool → ℕ → ℕ
code_if goes code = if goes then code else 0

-- the sum of the codes of the commands that would go out now
abbrev pub may_of : Allows → History → List ℕ → List ℕ → ℕ
may_of allows history tag service =
    sum (map (λ row. code_if (goes_out allows history tag service row.0) row.1) command_codes)
