-- What a plant that follows a site never does.
use Rattle.std.specs.Prelude.{ℕ, ◌≡◌, List, Some, false}
use Rattle.mtp_codes.specs.declared.command.Command.{Command}
use Rattle.mtp_codes.specs.declared.mode.Mode.TheVariants.{Automatic}
use Rattle.mtp_codes.specs.declared.mode.Origin.TheVariants.{External}
use Rattle.mtp_assembly.specs.declared.control.ServiceControl.{ServiceControl}
use Rattle.pol_events.specs.Events.{desk}
use Rattle.pol_history.specs.Looking.{History, past, is_accepted}
use Rattle.pol_history.specs.Modules.{control_by}
use Rattle.pol_history.specs.Answers.{answer_of}
use Rattle.pol_site.specs.Sites.{PlainSite}
use Rattle.pol_site.specs.Following.{FollowsSite}

-- the service takes its commands from recipes
abbrev pub IsAutomatic : ServiceControl → Type 0
IsAutomatic control = (control.mode ≡ Automatic) × (control.origin ≡ External)

-- every service takes its commands from recipes, and every command of the desk is refused
pub record IsAutomaticPlant (history : History) : Type 0 where
  pub automatic :
      (tag service : List ℕ) (control : ServiceControl) → control_by service (past tag history) ≡ Some control →
      IsAutomatic control
  pub refused :
      (at : ℕ) (tag service : List ℕ) (command : Command) →
      is_accepted (answer_of history (desk at tag service command)) ≡ false

-- In every history that follows its site every service takes its commands from recipes, and the desk is refused.
abbrev pub DesksAreRefused : Type 0
DesksAreRefused = (site : PlainSite) (history : History) → FollowsSite site history → IsAutomaticPlant history
