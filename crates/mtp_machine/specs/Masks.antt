-- What the code keeps in place of the lists: the successors of a state as a mask, and the goal of a command.
use Rattle.std.specs.Prelude.{ℕ, filter, sum_by}
use Rattle.mtp_codes.specs.Codes.{state_number}
use Rattle.mtp_codes.specs.declared.state.State.{State}
use Rattle.mtp_codes.specs.declared.state.State.TheVariants.{Starting, Stopping, Aborting, Holding, Unholding, Pausing, Resuming, Resetting, Completing}
use Rattle.mtp_codes.specs.declared.command.Command.{Command}
use Rattle.mtp_codes.specs.declared.command.Command.TheVariants.{Reset, Start, Stop, Hold, Unhold, Pause, Resume, Abort, Restart, Complete}
use Rattle.mtp_machine.specs.Machine.{every_state, is_edge}

-- the sum of the codes of the states to which an edge leads from a state
unfoldable pub successor_mask : State → ℕ
successor_mask from = sum_by state_number (filter (is_edge from) every_state)

-- the state to which a command leads, wherever it is given
abbrev pub command_goal : Command → State
command_goal Reset = Resetting
command_goal Start = Starting
command_goal Stop = Stopping
command_goal Hold = Holding
command_goal Unhold = Unholding
command_goal Pause = Pausing
command_goal Resume = Resuming
command_goal Abort = Aborting
command_goal Restart = Starting
command_goal Complete = Completing
