-- Steps that are to be unheld, one after another.
use Rattle.std.proofs.Common.{◌≡◌, ◌&&◌, ◌+◌, ◌<◌, ◌∷◌, ℕ, suc, List, Bool, true, false, cond, length, drop, get_or}
use Rattle.std.proofs.Common.{refl, arith}
use Rattle.std.proofs.Math.Seq.{drop-cons}
use Rattle.std.specs.Borrow.{Bor}
use Rattle.std.specs.Prelude.{filter}
use Rattle.chart_core.specs.Order.{plans_seen}
use Rattle.chart_core.specs.Trees.{PlainStep, plain_step}
use Rattle.chart_core.specs.declared.entry.LogEntry.{LogEntry}
use Rattle.chart_core.specs.declared.node.Step.{Step}
use Rattle.chart_cursor.specs.Logs.{was_held}
use Rattle.chart_cursor.specs.NextEntry.{first_unhold, is_under_way, owed, unhold_row}
use Rattle.chart_cursor.specs.OpenNodes.{first_next}
use Rattle.chart_cursor.specs.Ready.{on_sight}
use Rattle.chart_cursor.specs.Sights.{Sights, tag_of}
use Rattle.chart_cursor.specs.declared.next.CursorNext.{CursorNext}
use Rattle.chart_cursor.specs.declared.next.CursorNext.TheVariants.{Whole}
use Rattle.pol_audit.specs.HeldSteps.{owed_next}
use Rattle.pol_audit.specs.Starts.{is_active_step}

-- what comes first of the active ones of some steps that are owed an Unhold
abbrev pub first_owed : Sights → List LogEntry → List PlainStep → CursorNext
first_owed seen log steps = first_unhold seen (owed seen log (filter (is_active_step log) steps))

-- it is what comes next for the first step, and then for the others
first_then : (seen : Sights) (log : List LogEntry) (step : PlainStep) (others : List PlainStep)
    → first_next (owed_next seen log step) (first_owed seen log others) ≡ first_owed seen log (step ∷ others)
first_then seen log step others =
    go (is_active_step log step) (was_held log step.name) refl (is_under_way (seen.view step.role step.service)) refl
  where
    next : CursorNext
    next =
        on_sight step (tag_of seen step.role) (seen.view step.role step.service)
        (unhold_row step (tag_of seen step.role))

    go : (active held : Bool) → was_held log step.name ≡ held →
        (goes : Bool) → is_under_way (seen.view step.role step.service) ≡ goes →
        first_next (cond (active && held) (cond goes next Whole) Whole) (first_owed seen log others)
        ≡ first_unhold seen (owed seen log (cond active (step ∷ filter (is_active_step log) others)
        (filter (is_active_step log) others)))
    go true true held true goes = rw (held, goes) refl
    go true true held false goes = rw (held, goes) refl
    go true false held goes is = rw held refl
    go false held is goes over = refl

-- so it is of the steps from a place on
pub first_from : (seen : Sights) (log : List LogEntry) (steps : List (Bor Step)) (i : ℕ) (step : Bor Step)
    → i < length steps → step ≡ get_or steps i step →
    first_next (owed_next seen log (plain_step step.now)) (first_owed seen log (plans_seen (drop (i + 1) steps)))
    ≡ first_owed seen log (plans_seen (drop i steps))
first_from seen log steps i step inside same =
    let next : i + 1 ≡ suc i = omega arith in
    rw (next, drop-cons steps i step inside, ← same)
    (first_then seen log (plain_step step.now) (plans_seen (drop (suc i) steps)))
