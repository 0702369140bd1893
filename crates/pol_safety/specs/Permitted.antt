-- Every command was permitted by the mode, the mask and the state last reported.
use Rattle.std.specs.Prelude.{◌≡◌, ◌∷◌, Some}
use Rattle.mtp_modes.specs.Permission.{IsPermitted}
use Rattle.mtp_modes.specs.declared.view.ServiceView.{ServiceView}
use Rattle.chart_cursor.specs.Commands.{Sent}
use Rattle.pol_events.specs.Events.{PlainEntry}
use Rattle.pol_history.specs.Looking.{History}
use Rattle.pol_history.specs.Modules.{view_of}
use Rattle.pol_history.specs.Commands.{sent_command}
use Rattle.pol_history.specs.Runs.{IsLegal}

-- the service to which the command goes was reported, and what it reported last permits the command to its sender
pub record WasPermitted (history : History) (sent : Sent) : Type 0 where
  pub view : ServiceView
  pub seen : view_of history sent.tag sent.service ≡ Some view
  pub permitted : IsPermitted view sent.speaker sent.command

-- In every legal history each command that an answer sends was permitted by what was reported before it.
abbrev pub CommandsArePermitted : Type 0
CommandsArePermitted =
    (history : History) (entry : PlainEntry) (sent : Sent) → IsLegal (entry ∷ history) →
    sent_command entry.answer ≡ Some sent →
    WasPermitted history sent
