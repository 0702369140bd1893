-- Who may command a service, and why a command may not go to it.
use Rattle.std.specs.Prelude.{Bool, true, false, not, ◌&&◌, IsTrue, IsFalse, IsSome, is_none, Option, None, Some, if◌then◌else◌}
use Rattle.mtp_codes.specs.Codes.{command_number}
use Rattle.mtp_codes.specs.declared.command.Command.{Command}
use Rattle.mtp_codes.specs.declared.command.Command.TheVariants.{Complete}
use Rattle.mtp_codes.specs.declared.mode.Mode.{Mode}
use Rattle.mtp_codes.specs.declared.mode.Mode.TheVariants.{Operator as by_operator, Automatic}
use Rattle.mtp_codes.specs.declared.mode.Origin.{Origin}
use Rattle.mtp_codes.specs.declared.mode.Origin.TheVariants.{Internal, External}
use Rattle.mtp_codes.specs.declared.mode.Speaker.{Speaker}
use Rattle.mtp_codes.specs.declared.mode.Speaker.TheVariants.{Operator, Recipe, Inner}
use Rattle.mtp_codes.specs.declared.mode.Forbid.{Forbid}
use Rattle.mtp_codes.specs.declared.mode.Forbid.TheVariants.{ModeForbids, SelfCompletes, StateForbids, NotEnabled}
use Rattle.mtp_machine.specs.Machine.{command_target, same_command, has_bit}
use Rattle.mtp_modes.specs.declared.view.ServiceView.{ServiceView}

-- who may command: the operator in mode Operator, a recipe in Automatic from outside, the module itself in Automatic
-- from inside
abbrev pub speaks : Mode → Origin → Speaker → Bool
speaks by_operator origin Operator = true
speaks Automatic External Recipe = true
speaks Automatic Internal Inner = true
speaks mode origin speaker = false

-- the speaker may command in this mode, with this source
abbrev pub Speaks : Mode → Origin → Speaker → Type 0
Speaks mode origin speaker = IsTrue (speaks mode origin speaker)

-- the command is Complete, and the procedure completes by itself
abbrev pub completes_itself : ServiceView → Command → Bool
completes_itself view command = same_command command Complete && view.self_completes

-- the command is among those that the service enables
abbrev pub is_enabled : ServiceView → Command → Bool
is_enabled view command = has_bit view.control.mask (command_number command)

-- the command may go to the service
pub record IsPermitted (view : ServiceView) (speaker : Speaker) (command : Command) : Type 0 where
  pub speaks : Speaks view.control.mode view.control.origin speaker
  pub completes : IsFalse (completes_itself view command)
  pub leads : IsSome (command_target view.control.state command)
  pub enabled : IsTrue (is_enabled view command)

-- the first reason why a command may not go to the service
abbrev pub forbidden_by : ServiceView → Speaker → Command → Option Forbid
forbidden_by view speaker command =
    if not (speaks view.control.mode view.control.origin speaker) then Some ModeForbids
    else if completes_itself view command then Some SelfCompletes
    else if is_none (command_target view.control.state command) then Some StateForbids
    else if not (is_enabled view command) then Some NotEnabled
    else None
