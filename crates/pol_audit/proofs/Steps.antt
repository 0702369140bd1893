-- Active steps of a chart, and that the charts of an orderly history are valid.
use Rattle.std.proofs.Common.{◌≡◌, ◌<◌, ℕ, suc, length, drop, get_or, Bool, true, false, cond, List, [], ◌∷◌, Option}
use Rattle.std.proofs.Common.{Some, None, refl, ap, sym, ◌∙◌, subst}
use Rattle.std.proofs.lemmas.Bool.{and_parts}
use Rattle.std.specs.Str.{bytes_eq}
use Rattle.std.specs.Borrow.{Bor}
use Rattle.std.proofs.Math.Seq.{drop-cons}
use Rattle.std.specs.Prelude.{filter, map, unwrap_or, is_none}
use Rattle.std.specs.Option.{IfSome, option_map, option_or}
use Rattle.chart_core.specs.Active.{is_active, phase_after, is_running}
use Rattle.chart_core.specs.Roles.{PlainChart, is_chart_form}
use Rattle.chart_core.specs.Trees.{PlainStep, Placed, steps, plain_step}
use Rattle.chart_core.specs.Order.{plans_seen}
use Rattle.chart_core.specs.declared.node.Step.{Step}
use Rattle.chart_core.specs.Valid.{IsValid, chart_fault}
use Rattle.chart_core.specs.declared.entry.LogEntry.{LogEntry}
use Rattle.chart_core.specs.declared.fault.ChartFault.{ChartFault}
use Rattle.chart_cursor.specs.Sights.{Sights, or_role}
use Rattle.chart_cursor.specs.Logs.{active, chart_entries, has_broken, was_stopped}
use Rattle.chart_cursor.specs.Next.{next_after}
use Rattle.chart_cursor.specs.NextEntry.{first_broken, first_unhold, next_by, owed, run_next, unless_whole}
use Rattle.chart_cursor.specs.NextEntry.{unfrozen_next}
use Rattle.pol_events.specs.Bound.{given}
use Rattle.pol_events.specs.Events.{PlainEvent, recipe}
use Rattle.pol_events.specs.Orderly.{is_orderly, is_valid}
use Rattle.pol_history.specs.Looking.{History}
use Rattle.pol_history.specs.Batches.{Started, charted, chart_named, freezing_by, log_by}
use Rattle.pol_history.specs.Following.{next_of_started, sights_by}
use Rattle.pol_audit.specs.Listed.{all_orderly}
use Rattle.pol_audit.specs.Starts.{is_active_step}

-- the active ones of some steps are the steps of the active ones with their places
filter_first : (log : List LogEntry) (all : List Placed)
    → filter (is_active_step log) (map (λ placed. placed.step) all)
    ≡ map (λ placed. placed.step) (filter (is_active log) all)
unfolding is_active_step
filter_first log [] = refl
filter_first log (placed ∷ others) = go (is_running (phase_after log placed.step.name)) (filter_first log others)
  where
    go : (running : Bool) → filter (is_active_step log) (map (λ placed. placed.step) others)
        ≡ map (λ placed. placed.step) (filter (is_active log) others) →
        cond running (placed.step ∷ filter (is_active_step log) (map (λ placed. placed.step) others))
        (filter (is_active_step log) (map (λ placed. placed.step) others))
        ≡ map (λ placed. placed.step)
        (cond running (placed ∷ filter (is_active log) others) (filter (is_active log) others))
    go true rest = ap (λ steps. placed.step ∷ steps) rest
    go false rest = rest

-- the active ones of a chart's steps
pub active_is : (chart : PlainChart) (log : List LogEntry)
    → filter (is_active_step log) (map (λ placed. placed.step) (steps chart.root 0)) ≡ active chart log
active_is chart log = filter_first log (steps chart.root 0)

-- the tag of a role, or the role itself
pub role_or_itself : (tag : Option (List ℕ)) (role : List ℕ) → or_role tag role ≡ unwrap_or tag role
role_or_itself None role = refl
role_or_itself (Some tag) role = refl

-- a fault that is tested not to be there is not there
no_fault : (fault : Option ChartFault) → is_none fault ≡ true → fault ≡ None
no_fault None none = refl
no_fault (Some fault) none = cc

-- a chart that passes the test of being valid is valid
valid_from : (chart : PlainChart) → is_valid chart ≡ true → IsValid chart
valid_from chart valid = no_fault (chart_fault chart) valid

-- a chart that an orderly event brings is valid
charted_valid : (name : List ℕ) (event : PlainEvent) (chart : PlainChart) → is_orderly event ≡ true
    → charted name event ≡ Some chart → IsValid chart
charted_valid name (recipe at other own) chart orderly is = go (bytes_eq other name) is
  where
    go : (same : Bool) → cond same (Some own) None ≡ Some chart → IsValid chart
    go true is = let same : own ≡ chart = cc in
        subst IsValid same (valid_from own (and_parts (is_chart_form own) (is_valid own) orderly).1)
    go false is = cc
charted_valid name _ chart orderly is = cc

-- the chart of a recipe among events that are as a line says them is valid
chart_valid : (name : List ℕ) (recipes : History) (chart : PlainChart) → all_orderly recipes ≡ true
    → chart_named name recipes ≡ Some chart → IsValid chart
chart_valid name [] chart orderly is = cc
chart_valid name (entry ∷ recipes) chart orderly is =
    here (charted name entry.event) refl is (chart_valid name recipes chart both.1)
  where
    both : (is_orderly entry.event ≡ true) × (all_orderly recipes ≡ true)
    both = and_parts (is_orderly entry.event) (all_orderly recipes) orderly

    here : (said : Option PlainChart) → charted name entry.event ≡ said
        → option_or said (chart_named name recipes) ≡ Some chart →
        (chart_named name recipes ≡ Some chart → IsValid chart) → IsValid chart
    here None says is rest = rest is
    here (Some own) says is rest = charted_valid name entry.event chart both.0 (says ∙ is)

-- and so is a chart that is found
pub found_valid : {Found : Type 0} (plain : Found → PlainChart) (found : Option Found) (name : List ℕ)
    (recipes : History) → all_orderly recipes ≡ true → option_map plain found ≡ chart_named name recipes →
    IfSome found (λ chart. IsValid (plain chart))
found_valid plain None name recipes orderly is = tt
found_valid plain (Some chart) name recipes orderly is = chart_valid name recipes (plain chart) orderly (sym is)

-- the first of the steps from a place on is kept where it passes the test
pub kept_first : (test : PlainStep → Bool) (steps : List (Bor Step)) (i : ℕ) (step : Bor Step) → i < length steps
    → step ≡ get_or steps i step → test (plain_step step.now) ≡ true →
    plain_step step.now ∷ filter test (plans_seen (drop (suc i) steps)) ≡ filter test (plans_seen (drop i steps))
kept_first test steps i step inside same passes = rw (drop-cons steps i step inside, ← same, passes) refl

-- what a batch does next that isn't frozen, doesn't stop and doesn't break
pub goes_on : (chart : PlainChart) (log : List LogEntry) (seen : Sights) (running : List PlainStep)
    → running ≡ active chart log → has_broken log ≡ false → was_stopped log ≡ false → first_broken seen running ≡ None →
    run_next (unless_whole (first_unhold seen (owed seen log running)) (next_after chart (chart_entries log) seen))
    ≡ unfrozen_next chart log seen
goes_on chart log seen running same broken stopped none = rw (broken, stopped, ← same, none) refl

-- what a batch does next whose recipe has this chart
pub next_charted : (recipes past : History) (pasts : List ℕ → History) (start : Started) (chart : PlainChart)
    → chart_named start.recipe recipes ≡ Some chart →
    next_of_started recipes past pasts start
    ≡ Some (next_by chart (freezing_by past) (log_by past) (sights_by (given start.binds) pasts))
next_charted recipes past pasts start chart is =
    ap (option_map (λ chart. next_by chart (freezing_by past) (log_by past) (sights_by (given start.binds) pasts))) is
