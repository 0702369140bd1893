-- A command is only ever sent to a service that is still and whose earlier commands were all answered.
use Rattle.std.specs.Prelude.{ℕ, ◌≡◌, true, false, List, ◌∷◌, Some}
use Rattle.chart_cursor.specs.Commands.{Sent}
use Rattle.mtp_modes.specs.Permission.{IsPermitted}
use Rattle.mtp_modes.specs.declared.view.ServiceView.{ServiceView}
use Rattle.mtp_sim.specs.Ticks.{changes_in}
use Rattle.pol_events.specs.Events.{PlainEntry}
use Rattle.pol_history.specs.Commands.{sent_command}
use Rattle.pol_history.specs.Looking.{History}
use Rattle.pol_history.specs.Modules.{view_of}
use Rattle.pol_history.specs.Runs.{IsLegal, IsOrderly}
use Rattle.pol_site.specs.Sites.{PlainSite}
use Rattle.pol_site.specs.Stories.{story, is_answered}
use Rattle.pol_site.specs.Following.{FollowsSite}
use Rattle.pol_site.specs.Commanded.{IsCommanded}
use Rattle.pol_stillness.specs.Apart.{IsOwed}
use Rattle.pol_stillness.specs.Plain.{is_plain_command}

-- A service with an unanswered command is owed a report by an open batch.
abbrev pub UnansweredAreOwed : Type 0
UnansweredAreOwed =
    (site : PlainSite) (history : History) →
    IsLegal history → IsOrderly history → FollowsSite site history → IsCommanded history →
    (tag service : List ℕ) → is_answered tag (story tag history) service ≡ false → IsOwed history tag service

-- the service was reported and is still, its earlier commands were all answered, and the command is Start, Complete or
-- Reset
pub record IsSentStill (older : History) (sent : Sent) : Type 0 where
  pub view : ServiceView
  pub seen : view_of older sent.tag sent.service ≡ Some view
  pub permitted : IsPermitted view sent.speaker sent.command
  pub still : changes_in view.self_completes view.control.state ≡ false
  pub answered : is_answered sent.tag (story sent.tag older) sent.service ≡ true
  pub plain : is_plain_command sent.command ≡ true

-- Every command of a plant that follows its site goes to a service that is still, its earlier commands all answered.
abbrev pub CommandsFindServicesStill : Type 0
CommandsFindServicesStill =
    (site : PlainSite) (older : History) (entry : PlainEntry) (sent : Sent) →
    IsLegal (entry ∷ older) → IsOrderly (entry ∷ older) → FollowsSite site (entry ∷ older) → IsCommanded older →
    sent_command entry.answer ≡ Some sent → IsSentStill older sent
