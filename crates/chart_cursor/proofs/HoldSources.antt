-- The entries Hold and Unhold that come next are of steps whose services are seen, and which a recipe may send so.
use Rattle.std.proofs.Common.{◌≡◌, Bool, true, false, cond, List, [], ◌∷◌, Option, Some, None, refl, ◌∙◌, inl, inr, ◌⊎◌}
use Rattle.std.specs.Prelude.{is_none}
use Rattle.std.specs.Option.{option_or}
use Rattle.mtp_codes.specs.declared.command.Command.TheVariants as command
use Rattle.mtp_codes.specs.declared.mode.Forbid.{Forbid}
use Rattle.mtp_codes.specs.declared.mode.Speaker.TheVariants.{Recipe}
use Rattle.mtp_modes.specs.Permission.{forbidden_by}
use Rattle.chart_core.specs.Trees.{PlainStep}
use Rattle.chart_core.specs.declared.entry.LogEntry.{LogEntry}
use Rattle.chart_core.specs.declared.entry.LogEntry.TheVariants.{Hold, Unhold}
use Rattle.chart_core.specs.declared.why.Why.TheVariants as why
use Rattle.chart_cursor.specs.NextEntry.{hold_step, first_hold, is_held, unhold_row, first_unhold}
use Rattle.chart_cursor.specs.OpenNodes.{first_next}
use Rattle.chart_cursor.specs.Ready.{unless_forbidden, on_sight}
use Rattle.chart_cursor.specs.Sights.{Sights, tag_of}
use Rattle.chart_cursor.specs.declared.next.CursorNext.{CursorNext}
use Rattle.chart_cursor.specs.declared.next.CursorNext.TheVariants.{Entry, Wait, Whole}
use Rattle.chart_cursor.specs.declared.sight.Sight.{Sight}
use Rattle.chart_cursor.specs.declared.sight.Sight.TheVariants as sight
use Rattle.chart_cursor.proofs.Sending.{Permits}

-- the entry sends Hold to the service of a step to which a recipe may send it
pub record IsHold (seen : Sights) (entry : LogEntry) : Type 0 where
  pub step : PlainStep
  pub permits : Permits seen step command.Hold
  pub is : entry ≡ Hold step.name (tag_of seen step.role) step.service

-- the entry sends Unhold to the service of a step to which a recipe may send it
pub record IsUnhold (seen : Sights) (entry : LogEntry) : Type 0 where
  pub step : PlainStep
  pub permits : Permits seen step command.Unhold
  pub is : entry ≡ Unhold step.name (tag_of seen step.role) step.service

-- the entry Hold of one step is such an entry
hold_one : (seen : Sights) (step : PlainStep) (found : Sight) (entry : LogEntry)
    → seen.view step.role step.service ≡ found
    → hold_step step (tag_of seen step.role) found ≡ Some entry → IsHold seen entry
hold_one seen step sight.Away entry at is = cc
hold_one seen step sight.Unreported entry at is = cc
hold_one seen step (sight.Is view) entry at is = go (forbidden_by view Recipe command.Hold) refl is
  where
    go : (reason : Option Forbid) → forbidden_by view Recipe command.Hold ≡ reason
        → cond (is_none reason) (Some (Hold step.name (tag_of seen step.role) step.service)) None ≡ Some entry
        → IsHold seen entry
    go None free is = record { step = step; permits = record { view = view; seen_as = at; free = free }; is = cc }
    go (Some reason) free is = cc

-- the entry Hold of the first of these steps that may be held is such an entry
pub hold_from : (seen : Sights) (steps : List PlainStep) (entry : LogEntry) → first_hold seen steps ≡ Some entry
    → IsHold seen entry
hold_from seen [] entry is = cc
hold_from seen (step ∷ steps) entry is =
    go (hold_step step (tag_of seen step.role) (seen.view step.role step.service)) refl is (hold_from seen steps entry)
  where
    go : (found : Option LogEntry)
        → hold_step step (tag_of seen step.role) (seen.view step.role step.service) ≡ found
        → option_or found (first_hold seen steps) ≡ Some entry
        → (first_hold seen steps ≡ Some entry → IsHold seen entry) → IsHold seen entry
    go None at is rest = rest is
    go (Some other) at is rest = hold_one seen step (seen.view step.role step.service) entry refl (at ∙ is)

-- the entry Unhold of one step is such an entry
unhold_one : (seen : Sights) (step : PlainStep) (found : Sight) (entry : LogEntry)
    → seen.view step.role step.service ≡ found
    → on_sight step (tag_of seen step.role) found (unhold_row step (tag_of seen step.role)) ≡ Entry entry
    → IsUnhold seen entry
unhold_one seen step sight.Away entry at is = cc
unhold_one seen step sight.Unreported entry at is = cc
unhold_one seen step (sight.Is view) entry at is = go (is_held view.control.state) is
  where
    free : (reason : Option Forbid) → forbidden_by view Recipe command.Unhold ≡ reason
        → unless_forbidden step reason (Unhold step.name (tag_of seen step.role) step.service) ≡ Entry entry
        → IsUnhold seen entry
    free None none is = record { step = step; permits = record { view = view; seen_as = at; free = none }; is = cc }
    free (Some reason) none is = cc

    go : (held : Bool)
        → cond held (unless_forbidden step (forbidden_by view Recipe command.Unhold)
        (Unhold step.name (tag_of seen step.role) step.service))
        (Wait (why.InState step.name view.control.state))
        ≡ Entry entry → IsUnhold seen entry
    go true is = free (forbidden_by view Recipe command.Unhold) refl is
    go false is = cc

-- an entry that is the first of two answers is one of them
first_either : (one other : CursorNext) (entry : LogEntry) → first_next one other ≡ Entry entry
    → (one ≡ Entry entry) ⊎ (other ≡ Entry entry)
first_either (Entry first) other entry is = inl is
first_either (Wait obstacle) (Entry second) entry is = inr is
first_either (Wait obstacle) (Wait second) entry is = cc
first_either (Wait obstacle) Whole entry is = cc
first_either Whole other entry is = inr is

-- the entry Unhold of the first of these steps that may be unheld is such an entry
pub unhold_from : (seen : Sights) (steps : List PlainStep) (entry : LogEntry)
    → first_unhold seen steps ≡ Entry entry → IsUnhold seen entry
unhold_from seen [] entry is = cc
unhold_from seen (step ∷ steps) entry is =
    elim (first_either (on_sight step (tag_of seen step.role) (seen.view step.role step.service)
    (unhold_row step (tag_of seen step.role))) (first_unhold seen steps) entry is) [
      | inl here ↦ unhold_one seen step (seen.view step.role step.service) entry refl here
      | inr later ↦ unhold_from seen steps entry later
    ]
