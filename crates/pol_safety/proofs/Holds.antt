-- What a held batch is answered: it goes on in the run of its chart only where nothing holds it, and a step is sent
-- Hold at most once a freeze.
use Rattle.std.proofs.Common.{◌≡◌, ℕ, Bool, true, false, cond, List, [], ◌∷◌, Option, Some, None, refl, ap, sym, ◌∙◌}
use Rattle.std.specs.Prelude.{◌||◌, not, is_none, is_some, if◌then◌else◌}
use Rattle.std.specs.Option.{option_or}
use Rattle.mtp_codes.specs.Names.{is_among}
use Rattle.mtp_codes.specs.declared.command.Command.TheVariants as command
use Rattle.mtp_codes.specs.declared.mode.Forbid.{Forbid}
use Rattle.mtp_codes.specs.declared.mode.Speaker.TheVariants.{Recipe}
use Rattle.mtp_modes.specs.Permission.{forbidden_by}
use Rattle.chart_core.specs.Entries.{chart_entry}
use Rattle.chart_core.specs.Roles.{PlainChart}
use Rattle.chart_core.specs.Trees.{PlainStep}
use Rattle.chart_core.specs.declared.entry.LogEntry.{LogEntry}
use Rattle.chart_core.specs.declared.entry.LogEntry.TheVariants.{Stop, Left, Hold, Unhold}
use Rattle.chart_core.specs.declared.next.Next.{Next}
use Rattle.chart_core.specs.declared.next.Next.TheVariants as next
use Rattle.chart_core.specs.declared.why.Why.TheVariants as why
use Rattle.chart_cursor.specs.Freezing.{Freezing, thawed, waiting, holding}
use Rattle.chart_cursor.specs.Logs.{chart_entries, active, has_broken, was_stopped}
use Rattle.chart_cursor.specs.Next.{next_after}
use Rattle.chart_cursor.specs.NextEntry.{stop_step, stop_next, first_broken, hold_step, first_hold, unasked}
use Rattle.chart_cursor.specs.NextEntry.{owed, is_held}
use Rattle.chart_cursor.specs.NextEntry.{first_unhold, unhold_row, unless_whole, run_next, did_or, next_by}
use Rattle.chart_cursor.specs.OpenNodes.{first_next}
use Rattle.chart_cursor.specs.Ready.{unless_forbidden, on_sight}
use Rattle.chart_cursor.specs.Sights.{Sights, tag_of}
use Rattle.chart_cursor.specs.declared.next.CursorNext.{CursorNext}
use Rattle.chart_cursor.specs.declared.next.CursorNext.TheVariants.{Entry, Wait, Whole}
use Rattle.chart_cursor.specs.declared.sight.Sight.{Sight}
use Rattle.chart_cursor.specs.declared.sight.Sight.TheVariants as sight
use Rattle.chart_cursor.proofs.Commanding.{next_of_run}
use Rattle.chart_cursor.proofs.HoldSources.{hold_from, unhold_from}
use Rattle.pol_history.specs.Answers.{advanced}
use Rattle.pol_history.specs.Batches.{frozen_so}
use Rattle.pol_safety.specs.Advances.{continues}
use Rattle.pol_safety.proofs.Nexts.{broken_first}

-- an entry that isn't one of the run, as an answer, doesn't go on in it
outside_run : (entry other : LogEntry) → entry ≡ other → chart_entry other ≡ None
    → continues (advanced (Some (next.Did entry))) ≡ false
outside_run entry other is none = ap (λ each. is_some (chart_entry each)) is ∙ ap is_some none

-- the stop of a step doesn't
stop_is_outside : (step : PlainStep) (tag : List ℕ) (found : Sight)
    → continues (advanced (Some (stop_step step.name step.service tag found))) ≡ false
stop_is_outside step tag sight.Away = refl
stop_is_outside step tag sight.Unreported = refl
stop_is_outside step tag (sight.Is view) = go (is_none (forbidden_by view Recipe command.Stop))
  where
    go : (free : Bool)
        → continues (advanced (Some
        (if free then next.Did (Stop step.name tag step.service) else next.Did (Left step.name view.control.state))))
        ≡ false
    go true = refl
    go false = refl

-- nor does a batch that is stopped
stops_are_outside : (seen : Sights) (broken : Bool) (steps : List PlainStep)
    → continues (advanced (Some (stop_next seen broken steps))) ≡ false
stops_are_outside seen true [] = refl
stops_are_outside seen false [] = refl
stops_are_outside seen broken (step ∷ steps) =
    stop_is_outside step (tag_of seen step.role) (seen.view step.role step.service)

-- a step that is owed an Unhold has something to come
unhold_comes : (step : PlainStep) (tag : List ℕ) (found : Sight)
    → on_sight step tag found (unhold_row step tag) ≡ Whole → ⊥
unhold_comes step tag sight.Away is = cc
unhold_comes step tag sight.Unreported is = cc
unhold_comes step tag (sight.Is view) is = go (is_held view.control.state) is
  where
    free : (reason : Option Forbid) → unless_forbidden step reason (Unhold step.name tag step.service) ≡ Whole → ⊥
    free None is = cc
    free (Some reason) is = cc

    go : (held : Bool)
        → cond held
        (unless_forbidden step (forbidden_by view Recipe command.Unhold) (Unhold step.name tag step.service))
        (Wait (why.InState step.name view.control.state))
        ≡ Whole → ⊥
    go true is = free (forbidden_by view Recipe command.Unhold) is
    go false is = cc

-- of two, nothing comes only where nothing comes of the first
first_is_whole : (one other : CursorNext) → first_next one other ≡ Whole → one ≡ Whole
first_is_whole (Entry entry) other is = cc
first_is_whole (Wait obstacle) (Entry entry) is = cc
first_is_whole (Wait obstacle) (Wait later) is = cc
first_is_whole (Wait obstacle) Whole is = cc
first_is_whole Whole other is = refl

-- nothing comes of those that are owed an Unhold only where there is none
none_owed : (seen : Sights) (steps : List PlainStep) → first_unhold seen steps ≡ Whole → steps ≡ []
none_owed seen [] is = refl
none_owed seen (step ∷ steps) is =
    absurd (unhold_comes step (tag_of seen step.role) (seen.view step.role step.service)
    (first_is_whole _ (first_unhold seen steps) is))

-- where the answer goes on in the run, none is owed an Unhold
unowed_by : (seen : Sights) (owes : List PlainStep) (after found : CursorNext) → first_unhold seen owes ≡ found
    → continues (advanced (Some (run_next (unless_whole found after)))) ≡ true → owes ≡ []
unowed_by seen owes after (Entry entry) at on =
    let unhold = unhold_from seen owes entry at in
    let off = outside_run entry _ unhold.is refl in
    cc
unowed_by seen owes after (Wait obstacle) at on = cc
unowed_by seen owes after Whole at on = none_owed seen owes at

-- and no step broke
unbroken_by : (seen : Sights) (steps : List PlainStep) (rest : Next) (found : Option LogEntry)
    → first_broken seen steps ≡ found → continues (advanced (Some (did_or found rest))) ≡ true → found ≡ None
unbroken_by seen steps rest None at on = refl
unbroken_by seen steps rest (Some entry) at on =
    let broke = broken_first seen steps entry at in
    let off = outside_run entry _ broke.2 refl in
    cc

-- the run of a chart is free to go on: the batch isn't frozen, it neither broke nor was stopped, the service of no
-- active step is stopped or aborted, and none is owed an Unhold
pub record IsFree (chart : PlainChart) (freezing : Freezing) (log : List LogEntry) (seen : Sights) : Type 0 where
  pub unfrozen : freezing ≡ thawed
  pub unbroken : has_broken log ≡ false
  pub unstopped : was_stopped log ≡ false
  pub whole : first_broken seen (active chart log) ≡ None
  pub unowed : owed seen log (active chart log) ≡ []

-- what a batch does that isn't frozen, by whether it broke and whether it was stopped
abbrev unfrozen_by : PlainChart → List LogEntry → Sights → Bool → Bool → Option LogEntry → CursorNext → Next
unfrozen_by chart log seen broke stop broken unhold =
    if broke || stop then stop_next seen broke (active chart log)
    else did_or broken (run_next (unless_whole unhold (next_after chart (chart_entries log) seen)))

-- the answer goes on in the run only where that is free
pub free_by : (chart : PlainChart) (freezing : Freezing) (log : List LogEntry) (seen : Sights)
    → continues (advanced (Some (next_by chart freezing log seen))) ≡ true → IsFree chart freezing log seen
free_by chart waiting log seen on = cc
free_by chart (holding asked) log seen on = go (first_hold seen steps) refl on
  where
    steps : List PlainStep
    steps = unasked asked (active chart log)

    go : (found : Option LogEntry) → first_hold seen steps ≡ found
        → continues (advanced (Some (did_or found (next.Waiting why.Frozen)))) ≡ true
        → IsFree chart (holding asked) log seen
    go None at on = cc
    go (Some entry) at on =
        let hold = hold_from seen steps entry at in
        let off = outside_run entry _ hold.is refl in
        cc
free_by chart thawed log seen on = go (has_broken log) (was_stopped log) refl refl on
  where
    broken : Option LogEntry
    broken = first_broken seen (active chart log)

    owes : List PlainStep
    owes = owed seen log (active chart log)

    after : CursorNext
    after = next_after chart (chart_entries log) seen

    goes : has_broken log ≡ false → was_stopped log ≡ false → (found : Option LogEntry) → broken ≡ found
        → continues (advanced (Some (did_or found (run_next (unless_whole (first_unhold seen owes) after))))) ≡ true
        → IsFree chart thawed log seen
    goes unbroken unstopped None at on = record {
      unfrozen = refl;
      unbroken = unbroken;
      unstopped = unstopped;
      whole = at;
      unowed = unowed_by seen owes after (first_unhold seen owes) refl on;
    }
    goes unbroken unstopped (Some entry) at on =
        let none = unbroken_by seen (active chart log)
        (run_next (unless_whole (first_unhold seen owes) after)) (Some entry) at on in
        cc

    go : (broke stop : Bool) → has_broken log ≡ broke → was_stopped log ≡ stop
        → continues (advanced (Some (unfrozen_by chart log seen broke stop broken (first_unhold seen owes)))) ≡ true
        → IsFree chart thawed log seen
    go true stop is_broke is_stopped on =
        let off = stops_are_outside seen true (active chart log) in
        cc
    go false true is_broke is_stopped on =
        let off = stops_are_outside seen false (active chart log) in
        cc
    go false false is_broke is_stopped on = goes is_broke is_stopped broken refl on

-- ---- a step is sent Hold

-- two entries that are the same answer are the same entry
same_entry : (one other : LogEntry) → next.Did one ≡ next.Did other → one ≡ other
same_entry one other is = cc

-- the Hold of one step names it
hold_names : (step : PlainStep) (at : List ℕ) (found : Sight) (name tag service : List ℕ)
    → hold_step step at found ≡ Some (Hold name tag service) → step.name ≡ name
hold_names step at sight.Away name tag service is = cc
hold_names step at sight.Unreported name tag service is = cc
hold_names step at (sight.Is view) name tag service is = go (is_none (forbidden_by view Recipe command.Hold)) is
  where
    go : (free : Bool) → (if free then Some (Hold step.name at step.service) else None) ≡ Some (Hold name tag service)
        → step.name ≡ name
    go true is = cc
    go false is = cc

-- of the steps that weren't asked, one that was asked isn't sent Hold
unasked_is_held : (seen : Sights) (asked : List (List ℕ)) (steps : List PlainStep) (name tag service : List ℕ)
    → first_hold seen (unasked asked steps) ≡ Some (Hold name tag service) → is_among asked name ≡ false
unasked_is_held seen asked [] name tag service is = cc
unasked_is_held seen asked (step ∷ steps) name tag service is =
    go (is_among asked step.name) refl is (unasked_is_held seen asked steps name tag service)
  where
    first : is_among asked step.name ≡ false → (found : Option LogEntry)
        → hold_step step (tag_of seen step.role) (seen.view step.role step.service) ≡ found
        → option_or found (first_hold seen (unasked asked steps)) ≡ Some (Hold name tag service)
        → (first_hold seen (unasked asked steps) ≡ Some (Hold name tag service) → is_among asked name ≡ false)
        → is_among asked name ≡ false
    first free None at is rest = rest is
    first free (Some entry) at is rest =
        ap (is_among asked) (sym (hold_names step (tag_of seen step.role) (seen.view step.role step.service) name tag
        service (at ∙ is))) ∙ free

    go : (was_asked : Bool) → is_among asked step.name ≡ was_asked
        → first_hold seen (if not was_asked then step ∷ unasked asked steps else unasked asked steps)
        ≡ Some (Hold name tag service)
        → (first_hold seen (unasked asked steps) ≡ Some (Hold name tag service) → is_among asked name ≡ false)
        → is_among asked name ≡ false
    go true asked_is is rest = rest is
    go false free is rest =
        first free (hold_step step (tag_of seen step.role) (seen.view step.role step.service)) refl is rest

-- a batch that is stopped holds no step
stop_holds : (step : PlainStep) (at : List ℕ) (found : Sight) (name tag service : List ℕ)
    → stop_step step.name step.service at found ≡ next.Did (Hold name tag service) → ⊥
stop_holds step at sight.Away name tag service is = cc
stop_holds step at sight.Unreported name tag service is = cc
stop_holds step at (sight.Is view) name tag service is = go (is_none (forbidden_by view Recipe command.Stop)) is
  where
    go : (free : Bool)
        → (if free then next.Did (Stop step.name at step.service) else next.Did (Left step.name view.control.state))
        ≡ next.Did (Hold name tag service) → ⊥
    go true is = cc
    go false is = cc

-- no step of several that stop does
stops_hold : (seen : Sights) (broken : Bool) (steps : List PlainStep) (name tag service : List ℕ)
    → stop_next seen broken steps ≡ next.Did (Hold name tag service) → ⊥
stops_hold seen true [] name tag service is = cc
stops_hold seen false [] name tag service is = cc
stops_hold seen broken (step ∷ steps) name tag service is =
    stop_holds step (tag_of seen step.role) (seen.view step.role step.service) name tag service is

-- nor does one that unholds, or goes on in the run of its chart
run_holds : (chart : PlainChart) (log : List LogEntry) (seen : Sights) (found : CursorNext) (name tag service : List ℕ)
    → next_after chart log seen ≡ found → run_next found ≡ next.Did (Hold name tag service) → ⊥
run_holds chart log seen (Wait obstacle) name tag service at is = cc
run_holds chart log seen Whole name tag service at is = cc
run_holds chart log seen (Entry entry) name tag service at is =
    let same : entry ≡ Hold name tag service = cc in
    let of_run = next_of_run chart log seen entry at in
    let off = ap (λ each. is_some (chart_entry each)) same in
    cc

-- the first Unhold that is owed isn't a Hold either
unhold_holds : (chart : PlainChart) (log : List LogEntry) (seen : Sights) (owes : List PlainStep) (found : CursorNext)
    (name tag service : List ℕ) → first_unhold seen owes ≡ found
    → run_next (unless_whole found (next_after chart log seen)) ≡ next.Did (Hold name tag service) → ⊥
unhold_holds chart log seen owes (Entry entry) name tag service at is =
    let unhold = unhold_from seen owes entry at in
    let same = unhold.is in
    cc
unhold_holds chart log seen owes (Wait obstacle) name tag service at is = cc
unhold_holds chart log seen owes Whole name tag service at is =
    run_holds chart log seen (next_after chart log seen) name tag service refl is

-- so a batch that isn't frozen holds no step
thawed_holds : (chart : PlainChart) (log : List LogEntry) (seen : Sights) (name tag service : List ℕ)
    → next_by chart thawed log seen ≡ next.Did (Hold name tag service) → ⊥
thawed_holds chart log seen name tag service is = go (has_broken log || was_stopped log) is
  where
    goes : (found : Option LogEntry) → first_broken seen (active chart log) ≡ found
        → did_or found (run_next (unless_whole (first_unhold seen (owed seen log (active chart log)))
        (next_after chart (chart_entries log) seen))) ≡ next.Did (Hold name tag service) → ⊥
    goes None at is =
        unhold_holds chart (chart_entries log) seen (owed seen log (active chart log))
        (first_unhold seen (owed seen log (active chart log))) name tag service refl is
    goes (Some entry) at is =
        let broke = broken_first seen (active chart log) entry at in
        let same = broke.2 in
        cc

    go : (stopping : Bool)
        → (if stopping then stop_next seen (has_broken log) (active chart log)
        else did_or (first_broken seen (active chart log))
        (run_next (unless_whole (first_unhold seen (owed seen log (active chart log)))
        (next_after chart (chart_entries log) seen))))
        ≡ next.Did (Hold name tag service) → ⊥
    go true is = stops_hold seen (has_broken log) (active chart log) name tag service is
    go false is = goes (first_broken seen (active chart log)) refl is

-- a step is sent Hold where the batch is frozen so that its services are held, and it wasn't asked since
pub held_by : (chart : PlainChart) (frozen held : Bool) (asked : List (List ℕ)) (log : List LogEntry) (seen : Sights)
    (name tag service : List ℕ)
    → next_by chart (frozen_so frozen held asked) log seen ≡ next.Did (Hold name tag service)
    → (held ≡ true) × (is_among asked name ≡ false)
held_by chart false held asked log seen name tag service is = absurd (thawed_holds chart log seen name tag service is)
held_by chart true false asked log seen name tag service is = cc
held_by chart true true asked log seen name tag service is =
    (refl, go (first_hold seen (unasked asked (active chart log))) refl is)
  where
    go : (found : Option LogEntry) → first_hold seen (unasked asked (active chart log)) ≡ found
        → did_or found (next.Waiting why.Frozen) ≡ next.Did (Hold name tag service) → is_among asked name ≡ false
    go None at is = cc
    go (Some entry) at is =
        unasked_is_held seen asked (active chart log) name tag service (at ∙ ap Some (same_entry entry _ is))

-- a batch that is thawed isn't frozen
pub unfrozen_so : (frozen held : Bool) (asked : List (List ℕ)) → frozen_so frozen held asked ≡ thawed → frozen ≡ false
unfrozen_so false held asked is = refl
unfrozen_so true false asked is = cc
unfrozen_so true true asked is = cc
