-- The services of active steps: what every event keeps of their reports.
use Rattle.std.proofs.Common.{◌≡◌, ℕ, Bool, true, false, cond, List, [], ◌∷◌, Option, Some, None, refl, ap, sym, ◌∙◌}
use Rattle.std.proofs.Common.{inl, inr, ◌⊎◌}
use Rattle.std.specs.Prelude.{◌||◌, filter, option_map, if◌then◌else◌}
use Rattle.std.specs.List.{Contains}
use Rattle.std.specs.Option.{option_or, option_and_then}
use Rattle.std.specs.Str.{bytes_eq}
use Rattle.std.proofs.lemmas.Bool.{both_ways}
use Rattle.mtp_codes.proofs.Names.{same_refl}
use Rattle.chart_core.specs.Active.{is_active}
use Rattle.chart_core.specs.Roles.{PlainChart}
use Rattle.chart_core.specs.Trees.{Placed, steps}
use Rattle.chart_core.specs.Valid.{IsValid}
use Rattle.chart_core.specs.declared.entry.LogEntry.TheVariants.{StopAsked}
use Rattle.chart_core.specs.declared.next.Next.TheVariants as next
use Rattle.chart_core.specs.declared.next.Next.{Next}
use Rattle.chart_cursor.specs.Logs.{active, has_broken, was_stopped}
use Rattle.pol_events.specs.Events.{PlainEvent, plug, unplug, report, variable, start, advance, freeze, thaw}
use Rattle.pol_events.specs.Events.{stop_batch, abandon, desk, exchange_begin, exchange_end, exchange_cancel}
use Rattle.pol_events.specs.Events.{PlainEntry}
use Rattle.pol_events.specs.declared.answer.Answer.TheVariants.{Done, Did}
use Rattle.pol_events.specs.declared.answer.Rule.TheVariants.{Held, ActiveStep}
use Rattle.pol_events.specs.Bound.{bound_tag, given, is_tag, step_on}
use Rattle.pol_history.proofs.Open.{open_before}
use Rattle.pol_history.specs.Looking.{History, past, past_of_batch, recipes, is_accepted, is_accepted_of_batch}
use Rattle.pol_history.specs.Modules.{absent, docked, docking_by, docking_of}
use Rattle.pol_history.specs.Batches.{Started, start_by, start_of, chart_named, outcome_by, outcome_of, freezing_of}
use Rattle.pol_history.specs.Batches.{taken, log_by, log_of, holder_of}
use Rattle.pol_history.specs.Following.{sights_by, next_of}
use Rattle.pol_history.specs.Rules.{not_in_exchange, active_step_on, active_step}
use Rattle.pol_history.specs.Answers.{advanced, otherwise}
use Rattle.pol_history.specs.Runs.{IsLegal, IsOrderly}
use Rattle.pol_history.proofs.Accepted.{paired}
use Rattle.pol_events.proofs.Options.{no_image}
use Rattle.pol_events.proofs.Lists.{none_found, kept_member, image_member}
use Rattle.pol_safety.proofs.Sides.{Sides, sides, accepted, Comes, IsKeptBy, always, at_own}
use Rattle.pol_history.proofs.Binds.{IsFitting}
use Rattle.pol_safety.specs.Kept.{IsLive, IsSeen}
use Rattle.pol_safety.proofs.Nexts.{did_from, next_at}
use Rattle.pol_safety.proofs.Starts.{may_start, sound, unstarted, StartCase, its_own, earlier, start_case, IsRunning}
use Rattle.pol_safety.proofs.Starts.{was_running, running_fits}
use Rattle.pol_history.proofs.Pasts.{log_grows}
use Rattle.pol_safety.proofs.Courses.{log_stays}
use Rattle.pol_safety.proofs.Holding.{holds_step}
use Rattle.pol_safety.proofs.Covering.{is_absent}
use Rattle.pol_safety.proofs.Activity.{ActiveBy, was_active, made_active, active_by, next_seen}

-- the module of each active step of an open batch is docked, and the step's service was reported since
abbrev pub AllSeen : Sides → Type 0
AllSeen side =
    (batch : List ℕ) (started : Started) (chart : PlainChart) → start_by (side.batches batch) ≡ Some started →
    chart_named started.recipe side.recipes ≡ Some chart → outcome_by (side.batches batch) ≡ None →
    (placed : Placed) → Contains (steps chart.root 0) placed → is_active (log_by (side.batches batch)) placed ≡ true →
    IsSeen side.modules (given started.binds) placed.step.role placed.step.service

-- ---- one more event of a module

-- what is known of the module of an active step before an event that is no start
record Before (history : History) (batch : List ℕ) (started : Started) (chart : PlainChart) (placed : Placed)
    (tag : List ℕ) : Type 0 where
  running : IsRunning history batch started chart
  inside : Contains (steps chart.root 0) placed
  is_active : is_active (log_of history batch) placed ≡ true
  bound : bound_tag (given started.binds) placed.step.role ≡ Some tag
  holder : holder_of history tag ≡ Some batch
  live : IsLive placed.step.service (past tag history)

-- an exchange of the module of an active step doesn't begin
begins_not : {A : Type 0} (history : History) (batch : List ℕ) (started : Started) (chart : PlainChart)
    (placed : Placed) (tag : List ℕ) →
    Before history batch started chart placed tag → active_step history tag ≡ None → A
begins_not history batch started chart placed tag was free =
    let by_batch : active_step_on (recipes history) tag batch (past_of_batch batch history) ≡ None
    = ap (option_and_then (λ batch. active_step_on (recipes history) tag batch (past_of_batch batch history)))
    (sym was.holder) ∙ free in
    let by_step : option_map (λ step. ActiveStep batch step.name)
    (step_on (given started.binds) tag (active chart (log_of history batch))) ≡ None
    = rw (was.running.start_is, was.running.chart_is) at by_batch in
    let none = no_image (λ step. ActiveStep batch step.name)
    (step_on (given started.binds) tag (active chart (log_of history batch))) by_step in
    let member : Contains (active chart (log_of history batch)) placed.step
    = image_member (λ placed. placed.step) (filter (is_active (log_of history batch)) (steps chart.root 0)) placed
    (kept_member (is_active (log_of history batch)) (steps chart.root 0) placed was.inside was.is_active) in
    absurd (both_ways (is_tag tag (bound_tag (given started.binds) placed.step.role))
    (none_found (λ step. is_tag tag (bound_tag (given started.binds) step.role))
    (active chart (log_of history batch)) placed.step none member)
    (ap (is_tag tag) was.bound ∙ same_refl tag))

-- a module that is docked isn't in exchange
ends_not : {A : Type 0} (service : List ℕ) (past : History) → IsLive service past
    → not_in_exchange (docking_by past) ≡ None → A
ends_not service past live free = let clash = ap not_in_exchange (sym live.is_docked) ∙ free in cc

-- what was found is found again when something newer is looked at first
some_again : {A B : Type 0} (f : A → B) (said found : Option A) (y : B) → option_map f found ≡ Some y
    → (z : B) × (option_map f (option_or said found) ≡ Some z)
some_again f None found y is = (y, is)
some_again f (Some x) found y is = (f x, refl)

-- the service of an active step still reports after the event
live_after : (history : History) (event : PlainEvent) (batch : List ℕ) (started : Started) (chart : PlainChart)
    (placed : Placed) (tag : List ℕ) → Comes history event →
    Before history batch started chart placed tag → IsLive placed.step.service
    (past tag (accepted history event ∷ history))
live_after history (plug at other description) batch started chart placed tag comes was =
    at_own (IsLive placed.step.service) (past tag history) (accepted history (plug at other description)) true
    other tag was.live
    (λ same. let clash : absent ≡ docked was.live.count
    = sym (is_absent (docking_of history other) comes.free.0) ∙ ap (docking_of history) same ∙ was.live.is_docked in cc)
live_after history (unplug at other) batch started chart placed tag comes was =
    at_own (IsLive placed.step.service) (past tag history) (accepted history (unplug at other)) true other tag was.live
    (λ same. let clash : option_and_then (λ batch. Some (Held batch)) (Some batch) ≡ None
    = ap (option_and_then (λ batch. Some (Held batch))) (sym was.holder ∙ ap (holder_of history) (sym same))
    ∙ comes.free.1.1.0 in cc)
live_after history (report at other service control) batch started chart placed tag comes was =
    at_own (IsLive placed.step.service) (past tag history) (accepted history (report at other service control)) true
    other tag was.live
    (λ same. let view = some_again _ (if bytes_eq service placed.step.service then Some control else None) _
    was.live.view was.live.seen in
    record { count = was.live.count; is_docked = was.live.is_docked; view = view.0; seen = view.1 })
live_after history (variable at other name value) batch started chart placed tag comes was =
    at_own (IsLive placed.step.service) (past tag history) (accepted history (variable at other name value)) true
    other tag was.live
    (λ same. was.live)
live_after history (desk at other service command) batch started chart placed tag comes was =
    at_own (IsLive placed.step.service) (past tag history) (accepted history (desk at other service command)) true
    other tag was.live
    (λ same. was.live)
live_after history (exchange_begin at other) batch started chart placed tag comes was =
    at_own (IsLive placed.step.service) (past tag history) (accepted history (exchange_begin at other)) true
    other tag was.live
    (λ same. begins_not history batch started chart placed tag was
    (ap (active_step history) (sym same) ∙ comes.free.1.1.0))
live_after history (exchange_end at other ticket description) batch started chart placed tag comes was =
    at_own (IsLive placed.step.service) (past tag history) (accepted history
    (exchange_end at other ticket description)) true other tag was.live
    (λ same. ends_not placed.step.service (past tag history) was.live
    (ap (λ tag. not_in_exchange (docking_of history tag)) (sym same) ∙ comes.free.1.0))
live_after history (exchange_cancel at other ticket) batch started chart placed tag comes was =
    at_own (IsLive placed.step.service) (past tag history) (accepted history (exchange_cancel at other ticket)) true
    other tag was.live
    (λ same. ends_not placed.step.service (past tag history) was.live
    (ap (λ tag. not_in_exchange (docking_of history tag)) (sym same) ∙ comes.free.1.0))
live_after history _ batch started chart placed tag comes was = was.live

-- ---- a step that was active before

-- a step that was active before an event that is no start is seen after it
seen_after : (history : History) (event : PlainEvent) (batch : List ℕ) (started : Started) (chart : PlainChart)
    (placed : Placed) → Comes history event →
    AllSeen (sides history) → IsRunning history batch started chart → Contains (steps chart.root 0) placed
    → is_active (log_of history batch) placed ≡ true →
    IsSeen (λ tag. past tag (accepted history event ∷ history)) (given started.binds) placed.step.role
    placed.step.service
seen_after history event batch started chart placed comes all_seen running inside is =
    let was = all_seen batch started chart running.start_is running.chart_is running.unclosed placed inside is in
    record {
      tag = was.tag;
      bound = was.bound;
      live =
          live_after history event batch started chart placed was.tag comes
          (record {
            running = running;
            inside = inside;
            is_active = is;
            bound = was.bound;
            holder =
                holds_step history batch started chart placed was.tag comes.legal comes.orderly running inside
                was.bound;
            live = was.live;
          });
    }

-- a log that stays leaves a step as active as it was
active_before : (history : History) (entry : PlainEntry) (batch : List ℕ) (placed : Placed)
    → taken entry.answer ≡ None →
    is_active (log_of (entry ∷ history) batch) placed ≡ true → is_active (log_of history batch) placed ≡ true
active_before history entry batch placed silent = go (is_accepted_of_batch batch entry)
  where
    go : (kept : Bool) → is_active
        (log_by (cond kept (entry ∷ past_of_batch batch history) (past_of_batch batch history))) placed ≡ true →
        is_active (log_of history batch) placed ≡ true
    go true is = ap (λ log. is_active log placed)
        (sym (log_stays (past_of_batch batch history) entry.event entry.answer silent)) ∙ is
    go false is = is

-- ---- one more event of a batch

-- what an advance makes active was seen
advance_active : (history : History) (batch : List ℕ) (started : Started) (chart : PlainChart) (event : PlainEvent)
    (placed : Placed) (found : Option Next) →
    IsRunning history batch started chart → IsFitting chart (given started.binds) → IsValid chart
    → Contains (steps chart.root 0) placed → next_of history batch ≡ found →
    is_active (log_by (paired event (advanced found) ∷ past_of_batch batch history)) placed ≡ true →
    (is_active (log_of history batch) placed ≡ true) ⊎ IsSeen
    (λ tag. past tag history) (given started.binds) placed.step.role placed.step.service
advance_active history batch started chart event placed None running fits valid inside after is = inl is
advance_active history batch started chart event placed (Some (next.Waiting obstacle)) running fits valid inside
    after is = inl is
advance_active history batch started chart event placed (Some (next.Closed outcome)) running fits valid inside
    after is = inl is
advance_active history batch started chart event placed (Some (next.Did entry)) running fits valid inside after is =
    go (active_by (log_of history batch) entry placed (ap (λ log. is_active log placed)
    (sym (log_grows (past_of_batch batch history) event entry)) ∙ is))
  where
    go : ActiveBy (log_of history batch) entry placed →
        (is_active (log_of history batch) placed ≡ true) ⊎ IsSeen
        (λ tag. past tag history) (given started.binds) placed.step.role placed.step.service
    go (was_active is) = inl is
    go (made_active phase says runs) =
        inr (next_seen history (given started.binds) chart (log_of history batch) entry placed phase fits valid inside
        (did_from chart (freezing_of history batch) (log_of history batch)
        (sights_by (given started.binds) (λ tag. past tag history)) entry
        (next_at history batch started chart (next.Did entry) running.start_is running.chart_is after)) says runs)

-- a stop makes nothing active
stop_active : (past : History) (event : PlainEvent) (placed : Placed) (stopping : Bool) →
    is_active (log_by (paired event (if stopping then Done else Did StopAsked) ∷ past)) placed ≡ true
    → is_active (log_by past) placed ≡ true
stop_active past event placed true is = is
stop_active past event placed false is =
    go (active_by (log_by past) StopAsked placed (ap (λ log. is_active log placed)
    (sym (log_grows past event StopAsked)) ∙ is))
  where
    go : ActiveBy (log_by past) StopAsked placed → is_active (log_by past) placed ≡ true
    go (was_active is) = is
    go (made_active phase says runs) = cc

-- ---- every event

-- a batch that is open
now : (history : History) (batch : List ℕ) (started : Started) (chart : PlainChart)
    → start_of history batch ≡ Some started →
    chart_named started.recipe (recipes history) ≡ Some chart → outcome_of history batch ≡ None
    → IsRunning history batch started chart
now history batch started chart start_is chart_is unclosed =
    record { start_is = start_is; chart_is = chart_is; unclosed = unclosed }

-- each event keeps the services of active steps seen
seen_more : IsKeptBy AllSeen
seen_more history (start at other name binds) comes all_seen batch started chart start_is chart_is unclosed
    placed inside is =
    go (start_case history batch started at other name binds start_is)
    (active_before history (accepted history (start at other name binds)) batch placed refl is)
  where
    go : StartCase history batch started other name binds → is_active (log_of history batch) placed ≡ true
        → IsSeen (λ tag. past tag history) (given started.binds) placed.step.role placed.step.service
    go (earlier apart before) is =
        all_seen batch started chart before chart_is (open_before history
        (accepted history (start at other name binds)) batch unclosed) placed inside is
    go (its_own same own) is =
        let may = may_start history other binds (chart_named name (recipes history)) comes.free in
        let none = unstarted history comes.legal comes.orderly other may.2.fresh in
        let clash : is_active [] placed ≡ true
        = ap (λ past. is_active (log_by past) placed) (sym none)
        ∙ ap (λ batch. is_active (log_of history batch) placed) same ∙ is in cc
seen_more history (advance at other) comes all_seen batch started chart start_is chart_is unclosed placed inside is =
    at_own (λ own. is_active (log_by own) placed ≡ true → IsSeen
    (λ tag. past tag history) (given started.binds) placed.step.role placed.step.service)
    (past_of_batch batch history) (accepted history (advance at other))
    (is_accepted (otherwise history (advance at other))) other batch before
    (λ same is. go (advance_active history batch started chart (advance at other) placed (next_of history other) was
    (running_fits history batch started chart comes.legal comes.orderly was)
    (sound history comes.legal comes.orderly started.recipe chart was.chart_is).valid inside
    (ap (next_of history) (sym same)) is)) is
  where
    was : IsRunning history batch started chart
    was = was_running history (advance at other) batch started chart refl comes
        (now _ batch started chart start_is chart_is unclosed)

    before : is_active (log_of history batch) placed ≡ true → IsSeen
        (λ tag. past tag history) (given started.binds) placed.step.role placed.step.service
    before is = seen_after history (advance at other) batch started chart placed comes all_seen was inside is

    go : (is_active (log_of history batch) placed ≡ true) ⊎ IsSeen
        (λ tag. past tag history) (given started.binds) placed.step.role placed.step.service →
        IsSeen (λ tag. past tag history) (given started.binds) placed.step.role placed.step.service
    go (inl is) = before is
    go (inr seen) = seen
seen_more history (stop_batch at other) comes all_seen batch started chart start_is chart_is unclosed placed inside is =
    let was = was_running history (stop_batch at other) batch started chart refl comes
    (now _ batch started chart start_is chart_is unclosed) in
    seen_after history (stop_batch at other) batch started chart placed comes all_seen was inside
    (at_own (λ own. is_active (log_by own) placed ≡ true → is_active (log_of history batch) placed ≡ true)
    (past_of_batch batch history)
    (accepted history (stop_batch at other)) (is_accepted (otherwise history (stop_batch at other))) other
    batch (λ is. is)
    (λ same is. stop_active (past_of_batch batch history) (stop_batch at other) placed
    (has_broken (log_of history other) || was_stopped (log_of history other)) is) is)
seen_more history (freeze at other hold) comes all_seen batch started chart start_is chart_is unclosed placed inside
    is =
    seen_after history (freeze at other hold) batch started chart placed comes all_seen
    (was_running history (freeze at other hold) batch started chart refl comes
    (now _ batch started chart start_is chart_is unclosed)) inside
    (active_before history (accepted history (freeze at other hold)) batch placed refl is)
seen_more history (thaw at other) comes all_seen batch started chart start_is chart_is unclosed placed inside is =
    seen_after history (thaw at other) batch started chart placed comes all_seen
    (was_running history (thaw at other) batch started chart refl comes
    (now _ batch started chart start_is chart_is unclosed)) inside
    (active_before history (accepted history (thaw at other)) batch placed refl is)
seen_more history (abandon at other) comes all_seen batch started chart start_is chart_is unclosed placed inside is =
    seen_after history (abandon at other) batch started chart placed comes all_seen
    (was_running history (abandon at other) batch started chart refl comes
    (now _ batch started chart start_is chart_is unclosed)) inside
    (active_before history (accepted history (abandon at other)) batch placed refl is)
seen_more history event comes all_seen batch started chart start_is chart_is unclosed placed inside is =
    seen_after history event batch started chart placed comes all_seen
    (was_running history event batch started chart refl comes
    (now _ batch started chart start_is chart_is unclosed)) inside is

-- so in a legal history each of them is seen
pub each_is_seen : (history : History) → IsLegal history → IsOrderly history → AllSeen (sides history)
each_is_seen = always AllSeen (λ batch started chart start_is chart_is unclosed placed inside is. cc) seen_more
