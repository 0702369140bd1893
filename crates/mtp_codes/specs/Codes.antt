-- The codes of states and commands.
use Rattle.std.specs.Prelude.{ℕ, List, [], ◌∷◌, ◌==◌, if◌then◌else◌, Option, None, Some}
use Rattle.mtp_codes.specs.declared.state.State.{State}
use Rattle.mtp_codes.specs.declared.state.State.TheVariants.{Stopped, Starting, Idle, Paused, Execute, Stopping, Aborting, Aborted, Holding, Held, Unholding, Pausing, Resuming, Resetting, Completing, Completed}
use Rattle.mtp_codes.specs.declared.command.Command.{Command}
use Rattle.mtp_codes.specs.declared.command.Command.TheVariants.{Reset, Start, Stop, Hold, Unhold, Pause, Resume, Abort, Restart, Complete}

-- the states and their codes
abbrev pub state_codes : List (State × ℕ)
state_codes =
    (Stopped, 4) ∷ (Starting, 8) ∷ (Idle, 16) ∷ (Paused, 32) ∷ (Execute, 64) ∷ (Stopping, 128) ∷
    (Aborting, 256) ∷ (Aborted, 512)
    ∷ (Holding, 1024) ∷ (Held, 2048) ∷ (Unholding, 4096) ∷ (Pausing, 8192) ∷ (Resuming, 16384) ∷ (Resetting, 32768)
    ∷ (Completing, 65536) ∷ (Completed, 131072) ∷ []

-- the commands and their codes
abbrev pub command_codes : List (Command × ℕ)
command_codes =
    (Reset, 2) ∷ (Start, 4) ∷ (Stop, 8) ∷ (Hold, 16) ∷ (Unhold, 32) ∷ (Pause, 64) ∷ (Resume, 128) ∷ (Abort, 256)
    ∷ (Restart, 512) ∷ (Complete, 1024) ∷ []

-- the item beside this code in a table, if the table has the code
abbrev pub named_by : {A : Type 0} → ℕ → List (A × ℕ) → Option A
named_by code [] = None
named_by code (row ∷ rows) = if row.1 == code then Some row.0 else named_by code rows

-- the state with this code, if the table has it
abbrev pub state_of : ℕ → List (State × ℕ) → Option State
state_of = named_by

-- the command with this code, if the table has it
abbrev pub command_of : ℕ → List (Command × ℕ) → Option Command
command_of = named_by

-- the code of a state
abbrev pub state_number : State → ℕ
state_number Stopped = 4
state_number Starting = 8
state_number Idle = 16
state_number Paused = 32
state_number Execute = 64
state_number Stopping = 128
state_number Aborting = 256
state_number Aborted = 512
state_number Holding = 1024
state_number Held = 2048
state_number Unholding = 4096
state_number Pausing = 8192
state_number Resuming = 16384
state_number Resetting = 32768
state_number Completing = 65536
state_number Completed = 131072

-- the code of a command, which is also its bit in the mask of enabled commands
abbrev pub command_number : Command → ℕ
command_number Reset = 2
command_number Start = 4
command_number Stop = 8
command_number Hold = 16
command_number Unhold = 32
command_number Pause = 64
command_number Resume = 128
command_number Abort = 256
command_number Restart = 512
command_number Complete = 1024
