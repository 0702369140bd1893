-- The running steps of a chart by its marks, in chart order.
use Rattle.std.specs.Prelude.{ℕ, List, [], ◌∷◌, Bool, true, ◌&&◌, nat_le, Option, Some, None, option_map, if◌then◌else◌}
use Rattle.std.specs.Option.{option_or}
use Rattle.mtp_codes.specs.Names.{same_name}
use Rattle.chart_core.specs.Trees.{PlainStep, Placed, Tree, leaf, seq, par, choice, loop}
use Rattle.chart_core.specs.Active.{Phase, is_running}
use Rattle.chart_cursor.specs.OpenNodes.{OpenNode, phase_of}
use Rattle.chart_cursor.specs.declared.running.RunningStep.{RunningStep}

-- a running step, with its number
abbrev pub running_step : ℕ → PlainStep → RunningStep
running_step number step = record { number = number; name = step.name; role = step.role; service = step.service }

-- the step is of this role, where one is given
abbrev pub has_role : Option (List ℕ) → PlainStep → Bool
has_role None step = true
has_role (Some role) step = same_name step.role role

-- the step has the number `from` or a later one, and is of this role where one is given
abbrev pub is_wanted : ℕ → Option (List ℕ) → ℕ → PlainStep → Bool
is_wanted from role number step = nat_le from number && has_role role step

-- the wanted step, where the node with this number is one and runs
abbrev pub running_node : (ℕ → PlainStep → Bool) → ℕ → Tree → Phase → Option RunningStep
running_node wanted number (leaf step) phase =
    if is_running phase && wanted number step then Some (running_step number step) else None
running_node wanted number (seq each) phase = None
running_node wanted number (par each) phase = None
running_node wanted number (choice each) phase = None
running_node wanted number (loop body until) phase = None

-- the first of these open nodes that is a wanted step and runs
abbrev pub first_running : (ℕ → PlainStep → Bool) → List OpenNode → Option RunningStep
first_running wanted [] = None
first_running wanted (spot ∷ others) =
    option_or (running_node wanted spot.number spot.node (phase_of spot.progress)) (first_running wanted others)

-- the first wanted one of these steps
abbrev pub first_placed : (ℕ → PlainStep → Bool) → List Placed → Option RunningStep
first_placed wanted [] = None
first_placed wanted (placed ∷ others) =
    if wanted placed.number placed.step then Some (running_step placed.number placed.step) else
    first_placed wanted others

-- the name alone of a step that was found
abbrev pub name_of : Option RunningStep → Option (List ℕ)
name_of found = option_map (λ step. step.name) found

-- the number and the name alone of a step that was found
abbrev pub placed_of : Option RunningStep → Option (ℕ × List ℕ)
placed_of found = option_map (λ step. (step.number, step.name)) found
