-- The bits of the masks stand for the lists.
use Rattle.std.specs.List.{AllByRecursion}
use Rattle.std.specs.Prelude.{◌≡◌, ◌≢◌, ◌==◌, not, ℕ, bit_and, Some, None, if◌then◌else◌}
use Rattle.std.proofs.Common.{refl, ◌∙◌}
use Rattle.std.proofs.lemmas.Bool.{ne_eqb}
use Rattle.mtp_codes.specs.Codes.{state_number, command_number}
use Rattle.mtp_codes.specs.declared.state.State.{State}
use Rattle.mtp_codes.specs.declared.command.Command.{Command}
use Rattle.mtp_machine.specs.Machine.{every_state, every_command, has_bit, enabled_mask, command_target, is_edge}
use Rattle.mtp_machine.specs.Masks.{successor_mask, command_goal}
use Rattle.mtp_machine.proofs.EveryState.{of_each_state, of_each_command}

-- the bit of the second state tells whether there is an edge to it
abbrev MaskHasEdge : State → State → Type 0
MaskHasEdge from to = has_bit (successor_mask from) (state_number to) ≡ is_edge from to

-- for each two states the mask says whether there is an edge
every_edge : AllByRecursion (λ from. AllByRecursion (MaskHasEdge from) every_state) every_state
unfolding successor_mask is_edge
every_edge = search

-- it tells so for every two states
pub edge_by_mask : (from to : State) → has_bit (successor_mask from) (state_number to) ≡ is_edge from to
edge_by_mask from to = of_each_state (MaskHasEdge from) (of_each_state
    (λ state. AllByRecursion (MaskHasEdge state) every_state) every_edge from) to

-- the bit of this command tells whether it leaves the state, and it leads to its one goal
abbrev MaskHasTarget : State → Command → Type 0
MaskHasTarget state command =
    command_target state command ≡ (if has_bit (enabled_mask state) (command_number command) then Some
    (command_goal command) else None)

-- for each state and command the mask says whether it is enabled
every_target : AllByRecursion (λ state. AllByRecursion (MaskHasTarget state) every_command) every_state
unfolding command_target enabled_mask
every_target = search

-- it does so for every state and command
target_by_mask : (state : State) (command : Command) → MaskHasTarget state command
target_by_mask state command =
    of_each_command (MaskHasTarget state)
    (of_each_state (λ from. AllByRecursion (MaskHasTarget from) every_command) every_target state) command

-- where a bit is set, the first is chosen
chosen : {A : Type 0} (bits : ℕ) (target other : A) → bits ≢ 0 → (if not (bits == 0) then target else other) ≡ target
chosen bits target other set = rw (ne_eqb bits 0 set) refl

-- a command whose bit is set leads to its goal
pub target_where_bit : (state : State) (command : Command) → bit_and (enabled_mask state) (command_number command) ≢ 0
    → command_target state command ≡ Some (command_goal command)
target_where_bit state command set = target_by_mask state command ∙ chosen _ (Some (command_goal command)) None set

-- a command whose bit is not set does not leave the state
pub none_without_bit : (state : State) (command : Command) → bit_and (enabled_mask state) (command_number command) ≡ 0
    → command_target state command ≡ None
none_without_bit state command unset = rw (target_by_mask state command, unset) refl
