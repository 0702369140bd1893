-- The state machine of a service: which command leads where, which state is left without a command, edges and paths.
use Rattle.std.specs.Prelude.{ℕ, List, [], ◌∷◌, Bool, true, ◌==◌, ◌&&◌, ◌||◌, not, Option, IsTrue, bit_and, find, filter, map, sum_by, count_by}
use Rattle.std.specs.List.{list_any}
use Rattle.std.specs.Option.{option_map}
use Rattle.mtp_codes.specs.Codes.{state_codes, command_codes, state_number, command_number}
use Rattle.mtp_codes.specs.declared.state.State.{State}
use Rattle.mtp_codes.specs.declared.state.State.TheVariants.{Stopped, Starting, Idle, Paused, Execute, Stopping, Aborting, Aborted, Holding, Held, Unholding, Pausing, Resuming, Resetting, Completing, Completed}
use Rattle.mtp_codes.specs.declared.command.Command.{Command}
use Rattle.mtp_codes.specs.declared.command.Command.TheVariants.{Reset, Start, Stop, Hold, Unhold, Pause, Resume, Abort, Restart, Complete}

-- where commands lead: from a state, by a command, to a state
abbrev pub commanded : List (State × Command × State)
commanded =
    (Completed, Reset, Resetting) ∷ (Stopped, Reset, Resetting) ∷ (Aborted, Reset, Resetting)
    ∷ (Idle, Start, Starting)
    ∷ (Execute, Restart, Starting)
    ∷ (Execute, Complete, Completing)
    ∷ (Execute, Pause, Pausing)
    ∷ (Paused, Resume, Resuming)
    ∷ (Held, Unhold, Unholding)
    ∷ (Starting, Hold, Holding) ∷ (Execute, Hold, Holding) ∷ (Completing, Hold, Holding) ∷ (Pausing, Hold, Holding)
    ∷ (Paused, Hold, Holding) ∷ (Resuming, Hold, Holding) ∷ (Unholding, Hold, Holding)
    ∷ (Starting, Stop, Stopping) ∷ (Idle, Stop, Stopping) ∷ (Paused, Stop, Stopping) ∷ (Execute, Stop, Stopping)
    ∷ (Holding, Stop, Stopping) ∷ (Held, Stop, Stopping) ∷ (Unholding, Stop, Stopping) ∷ (Pausing, Stop, Stopping)
    ∷ (Resuming, Stop, Stopping) ∷ (Resetting, Stop, Stopping) ∷ (Completing, Stop, Stopping) ∷
    (Completed, Stop, Stopping)
    ∷ (Stopped, Abort, Aborting) ∷ (Starting, Abort, Aborting) ∷ (Idle, Abort, Aborting) ∷ (Paused, Abort, Aborting)
    ∷ (Execute, Abort, Aborting) ∷ (Stopping, Abort, Aborting) ∷ (Holding, Abort, Aborting) ∷ (Held, Abort, Aborting)
    ∷ (Unholding, Abort, Aborting) ∷ (Pausing, Abort, Aborting) ∷ (Resuming, Abort, Aborting)
    ∷ (Resetting, Abort, Aborting) ∷ (Completing, Abort, Aborting) ∷ (Completed, Abort, Aborting)
    ∷ []

-- from a state to the one that it changes to by itself
abbrev pub automatic : List (State × State)
automatic =
    (Starting, Execute) ∷ (Execute, Completing) ∷ (Completing, Completed) ∷ (Resetting, Idle) ∷ (Pausing, Paused)
    ∷ (Resuming, Execute) ∷ (Holding, Held) ∷ (Unholding, Execute) ∷ (Stopping, Stopped) ∷ (Aborting, Aborted)
    ∷ []

-- the two are one state
abbrev pub same_state : State → State → Bool
same_state state other = state_number state == state_number other

-- the two are one command
abbrev pub same_command : Command → Command → Bool
same_command command other = command_number command == command_number other

-- the state to which a command leads from a state; none where it does not leave this state
unfoldable pub command_target : State → Command → Option State
command_target state command =
    option_map (λ row. row.2) (find (λ row. same_state row.0 state && same_command row.1 command) commanded)

-- the state to which a state changes by itself, if it does
unfoldable pub own_target : State → Option State
own_target state = option_map (λ row. row.1) (find (λ row. same_state row.0 state) automatic)

-- a command leads from the first state to the second, or the first changes to the second by itself
unfoldable pub is_edge : State → State → Bool
is_edge from to =
    list_any (λ row. same_state row.0 from && same_state row.2 to) commanded
    || list_any (λ row. same_state row.0 from && same_state row.1 to) automatic

-- there is an edge from the first state to the second
abbrev pub IsEdge : State → State → Type 0
IsEdge from to = IsTrue (is_edge from to)

-- of each two neighbours in the list, both are one state or there is an edge from the first to the second
abbrev pub is_path : List State → Bool
is_path [] = true
is_path (state ∷ []) = true
is_path (state ∷ next ∷ states) = (same_state state next || is_edge state next) && is_path (next ∷ states)

-- the states are a path of the state machine
abbrev pub IsPath : List State → Type 0
IsPath states = IsTrue (is_path states)

-- the sum of the codes of the commands that leave a state
unfoldable pub enabled_mask : State → ℕ
enabled_mask state = sum_by (λ row. command_number row.1) (filter (λ row. same_state row.0 state) commanded)

-- the bit is in the mask
abbrev pub has_bit : ℕ → ℕ → Bool
has_bit mask bit = not (bit_and mask bit == 0)

-- every state, in the order of the codes
abbrev pub every_state : List State
every_state = map (λ row. row.0) state_codes

-- every command, in the order of the codes
abbrev pub every_command : List Command
every_command = map (λ row. row.0) command_codes

-- how many edges there are
unfoldable pub edge_count : ℕ
edge_count = sum_by (λ from. count_by (is_edge from) every_state) every_state
