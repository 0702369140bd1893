-- In a plant that follows a site only Start, Complete and Reset are ever sent, and no service leaves the states that
-- they lead to.
use Rattle.std.specs.Prelude.{ℕ, ◌≡◌, Bool, true, false, List, Some, is_some}
use Rattle.std.specs.List.{AllByRecursion}
use Rattle.mtp_codes.specs.declared.command.Command.{Command}
use Rattle.mtp_codes.specs.declared.command.Command.TheVariants.{Start, Complete, Reset}
use Rattle.mtp_codes.specs.declared.state.State.{State}
use Rattle.mtp_codes.specs.declared.state.State.TheVariants.{Idle, Starting, Execute, Completing, Completed, Resetting}
use Rattle.mtp_assembly.specs.declared.control.ServiceControl.{ServiceControl}
use Rattle.chart_core.specs.Entries.{chart_entry}
use Rattle.pol_events.specs.declared.answer.Answer.{Answer}
use Rattle.pol_events.specs.declared.answer.Answer.TheVariants.{Did, Closed}
use Rattle.chart_core.specs.declared.next.Outcome.{Outcome}
use Rattle.chart_core.specs.declared.next.Outcome.TheVariants as outcome
use Rattle.pol_history.specs.Looking.{History, past}
use Rattle.pol_history.specs.Batches.{is_frozen}
use Rattle.pol_history.specs.Modules.{control_by}
use Rattle.pol_history.specs.Runs.{IsLegal}
use Rattle.pol_site.specs.Sites.{PlainSite}
use Rattle.pol_site.specs.Following.{FollowsSite}
use Rattle.pol_site.specs.Commanded.{IsCommanded}

-- a state of a plain run of a service
abbrev pub is_plain : State → Bool
is_plain Idle = true
is_plain Starting = true
is_plain Execute = true
is_plain Completing = true
is_plain Completed = true
is_plain Resetting = true
is_plain _ = false

-- a command of a plain run
abbrev pub is_plain_command : Command → Bool
is_plain_command Start = true
is_plain_command Complete = true
is_plain_command Reset = true
is_plain_command _ = false

-- the batch was completed
abbrev pub is_completed_outcome : Outcome → Bool
is_completed_outcome outcome.Completed = true
is_completed_outcome _ = false

-- the answer takes no entry but one of a run, and closes no batch but a completed one
abbrev pub is_plain_answer : Answer → Bool
is_plain_answer (Did entry) = is_some (chart_entry entry)
is_plain_answer (Closed outcome) = is_completed_outcome outcome
is_plain_answer _ = true

-- every service is in a state of a plain run, every answer is one of plain runs, and no batch is frozen
pub record IsPlain (history : History) : Type 0 where
  pub controls :
      (tag service : List ℕ) (control : ServiceControl) → control_by service (past tag history) ≡ Some control →
      is_plain control.state ≡ true
  pub answers : AllByRecursion (λ entry. is_plain_answer entry.answer ≡ true) history
  pub thawed : (batch : List ℕ) → is_frozen history batch ≡ false

-- Every plant that follows its site is plain, where each change has its command.
abbrev pub PlantsArePlain : Type 0
PlantsArePlain =
    (site : PlainSite) (history : History) → IsLegal history → FollowsSite site history → IsCommanded history →
    IsPlain history
