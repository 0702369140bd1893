-- The running steps of a chart whose services are to be held or unheld, by its marks, in chart order.
use Rattle.std.specs.Prelude.{ℕ, List, [], ◌∷◌, Bool, false, not, ◌&&◌, nat_le, get_or, filter, Option, None, if◌then◌else◌}
use Rattle.std.specs.Option.{option_or}
use Rattle.chart_core.specs.Active.{Phase, is_running}
use Rattle.chart_core.specs.Trees.{PlainStep, Placed, Tree, leaf, seq, par, choice, loop}
use Rattle.chart_core.specs.declared.entry.LogEntry.{LogEntry}
use Rattle.chart_cursor.specs.NextEntry.{hold_step, is_under_way, unhold_row}
use Rattle.chart_cursor.specs.OpenNodes.{OpenNode, phase_of, first_next}
use Rattle.chart_cursor.specs.Ready.{on_sight}
use Rattle.chart_cursor.specs.Sights.{Sights, tag_of}
use Rattle.chart_cursor.specs.declared.next.CursorNext.{CursorNext}
use Rattle.chart_cursor.specs.declared.next.CursorNext.TheVariants.{Whole}

-- the flag of the node with this number; there is none behind the last
abbrev pub flag_at : List Bool → ℕ → Bool
flag_at flags number = get_or flags number false

-- the number is `from` or a later one, and its node has no flag
abbrev pub is_unasked : ℕ → List Bool → ℕ → Bool
is_unasked from asked number = nat_le from number && not (flag_at asked number)

-- the steps whose numbers pass the test
abbrev pub numbered : (ℕ → Bool) → List Placed → List Placed
numbered test placed = filter (λ placed. test placed.number) placed

-- the entry Hold of a step in this phase: where it runs and may be sent Hold
abbrev pub hold_running : Sights → PlainStep → Phase → Option LogEntry
hold_running seen step phase =
    if is_running phase then hold_step step (tag_of seen step.role) (seen.view step.role step.service) else None

-- the entry Hold of a node, where it is a running step that may be sent Hold, and its number passes the test
abbrev pub hold_node : Sights → (ℕ → Bool) → ℕ → Tree → Phase → Option LogEntry
hold_node seen test number (leaf step) phase = if test number then hold_running seen step phase else None
hold_node seen test number (seq each) phase = None
hold_node seen test number (par each) phase = None
hold_node seen test number (choice each) phase = None
hold_node seen test number (loop body until) phase = None

-- the entry Hold of the first of these open nodes that has one
abbrev pub first_hold_node : Sights → (ℕ → Bool) → List OpenNode → Option LogEntry
first_hold_node seen test [] = None
first_hold_node seen test (spot ∷ others) =
    option_or (hold_node seen test spot.number spot.node (phase_of spot.progress)) (first_hold_node seen test others)

-- those of these steps whose services are under way: they are seen, and what they do isn't over
abbrev pub under_way : Sights → List PlainStep → List PlainStep
under_way seen steps = filter (λ step. is_under_way (seen.view step.role step.service)) steps

-- the entry Unhold or the obstacle of a step in this phase: where it runs and its service isn't over
abbrev pub unhold_running : Sights → PlainStep → Phase → CursorNext
unhold_running seen step phase =
    if is_running phase && is_under_way (seen.view step.role step.service)
    then on_sight step (tag_of seen step.role) (seen.view step.role step.service)
    (unhold_row step (tag_of seen step.role))
    else Whole

-- the entry Unhold or the obstacle of a node, where it is a running step, and its number passes the test
abbrev pub unhold_node : Sights → (ℕ → Bool) → ℕ → Tree → Phase → CursorNext
unhold_node seen test number (leaf step) phase = if test number then unhold_running seen step phase else Whole
unhold_node seen test number (seq each) phase = Whole
unhold_node seen test number (par each) phase = Whole
unhold_node seen test number (choice each) phase = Whole
unhold_node seen test number (loop body until) phase = Whole

-- the entry Unhold of the first of these open nodes that has one, else the first obstacle
abbrev pub first_unhold_node : Sights → (ℕ → Bool) → List OpenNode → CursorNext
first_unhold_node seen test [] = Whole
first_unhold_node seen test (spot ∷ others) =
    first_next (unhold_node seen test spot.number spot.node (phase_of spot.progress))
    (first_unhold_node seen test others)
