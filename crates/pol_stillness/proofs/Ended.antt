-- A step ends only where its service is idle.
use Rattle.std.proofs.Common.{◌≡◌, ℕ, Bool, true, false, List, [], ◌∷◌, refl, ap, sym, ◌∙◌, subst, inl, inr}
use Rattle.std.specs.Prelude.{if◌then◌else◌}
use Rattle.std.specs.List.{Contains}
use Rattle.mtp_machine.specs.States.{is_idle}
use Rattle.mtp_modes.specs.declared.view.ServiceView.{ServiceView}
use Rattle.chart_core.specs.Active.{Phase, was_reset}
use Rattle.chart_core.specs.Roles.{PlainChart}
use Rattle.chart_core.specs.Standing.{marks_after}
use Rattle.chart_core.specs.Trees.{PlainStep, Placed, Tree, leaf, seq, par, choice, loop, steps}
use Rattle.chart_core.specs.declared.entry.LogEntry.{LogEntry}
use Rattle.chart_core.specs.declared.entry.LogEntry.TheVariants.{End}
use Rattle.chart_core.specs.declared.why.Why.TheVariants as why
use Rattle.chart_core.proofs.Lawful.{each_member}
use Rattle.chart_cursor.specs.Next.{next_after}
use Rattle.chart_cursor.specs.Ready.{on_sight, step_row, node_ready}
use Rattle.chart_cursor.specs.Sights.{Sights, tag_of}
use Rattle.chart_cursor.specs.OpenNodes.{OpenNode, phase_of, open_nodes, open_node_ready, first_next, first_among}
use Rattle.chart_cursor.specs.declared.next.CursorNext.{CursorNext}
use Rattle.chart_cursor.specs.declared.next.CursorNext.TheVariants.{Entry, Wait, Whole}
use Rattle.chart_cursor.specs.declared.sight.Sight.{Sight}
use Rattle.chart_cursor.specs.declared.sight.Sight.TheVariants as sight
use Rattle.chart_cursor.proofs.Sending.{Sends, StepEntry, starts, finishes, resets_started, resets_finished, ends}
use Rattle.chart_cursor.proofs.Sending.{NodeEntry, node_sends}
use Rattle.chart_cursor.proofs.Commanding.{IsAmong, SpotAmong, open_steps}
use Rattle.pol_events.proofs.Lists.{member_first, member_later}

-- the first entry among open nodes is one that one of them is ready for
record IsFrom (seen : Sights) (ss : List OpenNode) (entry : LogEntry) : Type 0 where
  spot : OpenNode
  inside : Contains ss spot
  ready : open_node_ready seen spot ≡ Entry entry

-- the first entry among open nodes is one for which a node is ready
from_among : (seen : Sights) (ss : List OpenNode) (entry : LogEntry) → first_among seen ss ≡ Entry entry
    → IsFrom seen ss entry
from_among seen [] entry is = cc
from_among seen (s ∷ ss) entry is = go (open_node_ready seen s) refl (first_among seen ss) is (from_among seen ss entry)
  where
    later : IsFrom seen ss entry → IsFrom seen (s ∷ ss) entry
    later from = record { spot = from.spot; inside = member_later s from.spot ss from.inside; ready = from.ready }

    go : (found : CursorNext) → open_node_ready seen s ≡ found → (others : CursorNext)
        → first_next found others ≡ Entry entry
        → (others ≡ Entry entry → IsFrom seen ss entry) → IsFrom seen (s ∷ ss) entry
    go (Entry one) at others is rest = record { spot = s; inside = member_first s ss; ready = at ∙ is }
    go (Wait obstacle) at (Entry one) is rest = later (rest is)
    go (Wait obstacle) at (Wait other) is rest = cc
    go (Wait obstacle) at Whole is rest = cc
    go Whole at others is rest = later (rest is)

-- the node is a step of this name, whose service is seen to be idle
record IsEnding (seen : Sights) (node : Tree) (name : List ℕ) : Type 0 where
  step : PlainStep
  is_leaf : node ≡ leaf step
  name_is : name ≡ step.name
  view : ServiceView
  seen_as : seen.view step.role step.service ≡ sight.Is view
  is_idle : is_idle view.control.state ≡ true

-- an entry End of a step comes once the step was reset
end_phase : (seen : Sights) (step : PlainStep) (phase : Phase) (entry : LogEntry) (name : List ℕ)
    → StepEntry seen step phase entry → entry ≡ End name → phase ≡ was_reset
end_phase seen step phase entry name (starts p) is = cc
end_phase seen step phase entry name (finishes q p) is = cc
end_phase seen step phase entry name (resets_started p) is = cc
end_phase seen step phase entry name (resets_finished p) is = cc
end_phase seen step phase entry name ends is = refl

-- and its service is Idle
step_ending : (seen : Sights) (n : ℕ) (step : PlainStep) (phase : Phase) (name : List ℕ)
    → node_ready seen n (leaf step) phase ≡ Entry (End name) → IsEnding seen (leaf step) name
step_ending seen n step phase name is = by (seen.view step.role step.service) refl reset
  where
    phase_is : phase ≡ was_reset
    phase_is = end_phase seen step phase (End name) name
        (subst (Sends (NodeEntry seen n (leaf step) phase)) is (node_sends seen n (leaf step) phase)) refl

    reset : node_ready seen n (leaf step) was_reset ≡ Entry (End name)
    reset = ap (node_ready seen n (leaf step)) (sym phase_is) ∙ is

    by : (found : Sight) → seen.view step.role step.service ≡ found
        → on_sight step (tag_of seen step.role) found (step_row step (tag_of seen step.role) seen was_reset) ≡ Entry
        (End name)
        → IsEnding seen (leaf step) name
    by sight.Away at is = cc
    by sight.Unreported at is = cc
    by (sight.Is view) at is = go (is_idle view.control.state) refl is
      where
        go : (b : Bool) → is_idle view.control.state ≡ b
            → (if b then Entry (End step.name) else Wait (why.InState step.name view.control.state)) ≡ Entry (End name)
            → IsEnding seen (leaf step) name
        go true now is = record { step = step; is_leaf = refl; name_is = cc; view = view; seen_as = at; is_idle = now }
        go false now is = cc

-- a node that is ready for an entry End is a step
node_ending : (seen : Sights) (n : ℕ) (node : Tree) (phase : Phase) (name : List ℕ)
    → node_ready seen n node phase ≡ Entry (End name) → IsEnding seen node name
node_ending seen n (leaf step) phase name is = step_ending seen n step phase name is
node_ending seen n (seq each) phase name is = cc
node_ending seen n (par each) phase name is = cc
node_ending seen n (choice each) phase name is =
    go (subst (Sends (NodeEntry seen n (choice each) phase)) is (node_sends seen n (choice each) phase))
  where
    go : NodeEntry seen n (choice each) phase (End name) → IsEnding seen (choice each) name
    go (a, values, q, l, h) = cc
node_ending seen n (loop body until) phase name is =
    go (subst (Sends (NodeEntry seen n (loop body until) phase)) is (node_sends seen n (loop body until) phase))
  where
    go : NodeEntry seen n (loop body until) phase (End name) → IsEnding seen (loop body until) name
    go (values, l, inl (q, h)) = cc
    go (values, l, inr (q, h)) = cc

-- the step of the chart that ends, and what is seen of its service
pub record IsEnded (chart : PlainChart) (seen : Sights) (name : List ℕ) : Type 0 where
  pub placed : Placed
  pub inside : Contains (steps chart.root 0) placed
  pub name_is : name ≡ placed.step.name
  pub view : ServiceView
  pub seen_as : seen.view placed.step.role placed.step.service ≡ sight.Is view
  pub is_idle : is_idle view.control.state ≡ true

-- where a step is to end, its service is Idle
pub end_idle : (chart : PlainChart) (log : List LogEntry) (seen : Sights) (name : List ℕ)
    → next_after chart log seen ≡ Entry (End name) → IsEnded chart seen name
end_idle chart log seen name next =
    let from = from_among seen (open_nodes chart.root 0 (marks_after chart log)) (End name) next in
    let ending = node_ending seen from.spot.number from.spot.node (phase_of from.spot.progress) name from.ready in
    record {
      placed = record { number = from.spot.number; step = ending.step };
      inside =
          subst (IsAmong (steps chart.root 0) from.spot.number) ending.is_leaf
          (each_member (SpotAmong (steps chart.root 0)) (open_nodes chart.root 0 (marks_after chart log)) from.spot
          (open_steps chart.root 0 (marks_after chart log)) from.inside);
      name_is = ending.name_is;
      view = ending.view;
      seen_as = ending.seen_as;
      is_idle = ending.is_idle;
    }
