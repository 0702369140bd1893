-- What holds of each listed state or command holds of every one.
use Rattle.std.specs.List.{AllByRecursion}
use Rattle.mtp_codes.specs.declared.state.State.{State}
use Rattle.mtp_codes.specs.declared.state.State.TheVariants.{Stopped, Starting, Idle, Paused, Execute, Stopping, Aborting, Aborted, Holding, Held, Unholding, Pausing, Resuming, Resetting, Completing, Completed}
use Rattle.mtp_codes.specs.declared.command.Command.{Command}
use Rattle.mtp_codes.specs.declared.command.Command.TheVariants.{Reset, Start, Stop, Hold, Unhold, Pause, Resume, Abort, Restart, Complete}
use Rattle.mtp_machine.specs.Machine.{every_state, every_command}

-- of states
pub of_each_state : (P : State → Type 0) → AllByRecursion P every_state → (state : State) → P state
of_each_state P all Stopped = all.0
of_each_state P all Starting = all.1.0
of_each_state P all Idle = all.1.1.0
of_each_state P all Paused = all.1.1.1.0
of_each_state P all Execute = all.1.1.1.1.0
of_each_state P all Stopping = all.1.1.1.1.1.0
of_each_state P all Aborting = all.1.1.1.1.1.1.0
of_each_state P all Aborted = all.1.1.1.1.1.1.1.0
of_each_state P all Holding = all.1.1.1.1.1.1.1.1.0
of_each_state P all Held = all.1.1.1.1.1.1.1.1.1.0
of_each_state P all Unholding = all.1.1.1.1.1.1.1.1.1.1.0
of_each_state P all Pausing = all.1.1.1.1.1.1.1.1.1.1.1.0
of_each_state P all Resuming = all.1.1.1.1.1.1.1.1.1.1.1.1.0
of_each_state P all Resetting = all.1.1.1.1.1.1.1.1.1.1.1.1.1.0
of_each_state P all Completing = all.1.1.1.1.1.1.1.1.1.1.1.1.1.1.0
of_each_state P all Completed = all.1.1.1.1.1.1.1.1.1.1.1.1.1.1.1.0

-- of commands
pub of_each_command : (P : Command → Type 0) → AllByRecursion P every_command → (command : Command) → P command
of_each_command P all Reset = all.0
of_each_command P all Start = all.1.0
of_each_command P all Stop = all.1.1.0
of_each_command P all Hold = all.1.1.1.0
of_each_command P all Unhold = all.1.1.1.1.0
of_each_command P all Pause = all.1.1.1.1.1.0
of_each_command P all Resume = all.1.1.1.1.1.1.0
of_each_command P all Abort = all.1.1.1.1.1.1.1.0
of_each_command P all Restart = all.1.1.1.1.1.1.1.1.0
of_each_command P all Complete = all.1.1.1.1.1.1.1.1.1.0
