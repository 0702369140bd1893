-- The chart's entries of each log are a run of its chart.
use Rattle.std.proofs.Common.{◌≡◌, ℕ, Bool, true, false, List, [], ◌∷◌, reverse, Option, Some, None, refl, ap, sym, ◌∙◌}
use Rattle.std.proofs.Common.{subst}
use Rattle.std.specs.Prelude.{◌||◌, filter_map, is_some, if◌then◌else◌}
use Rattle.std.specs.List.{cons_option}
use Rattle.std.specs.Option.{option_or}
use Rattle.chart_core.specs.Entries.{chart_entry}
use Rattle.chart_core.specs.Roles.{PlainChart}
use Rattle.chart_core.specs.Runs.{IsPartial, IsComplete}
use Rattle.chart_core.specs.declared.entry.LogEntry.{LogEntry}
use Rattle.chart_core.specs.declared.entry.LogEntry.TheVariants.{StopAsked}
use Rattle.chart_core.proofs.Lawful.{nothing_partial}
use Rattle.chart_core.specs.declared.next.Next.TheVariants as next
use Rattle.chart_core.specs.declared.next.Next.{Next}
use Rattle.chart_core.specs.declared.next.Outcome.TheVariants.{Completed, Abandoned}
use Rattle.chart_core.specs.declared.next.Outcome.{Outcome}
use Rattle.chart_cursor.specs.Next.{IsNext, ready_after}
use Rattle.chart_cursor.proofs.Commanding.{next_of_run}
use Rattle.chart_cursor.proofs.Firsts.{next_follows}
use Rattle.chart_cursor.proofs.Keeping.{keeps_the_run}
use Rattle.chart_cursor.proofs.Pushed.{run_grows, run_stays}
use Rattle.chart_cursor.specs.Logs.{chart_entries, has_broken, was_stopped}
use Rattle.pol_events.specs.Events.{PlainEvent, start, advance, freeze, thaw, stop_batch, abandon}
use Rattle.pol_events.specs.declared.answer.Answer.{Answer}
use Rattle.pol_events.specs.declared.answer.Answer.TheVariants.{Done, Did, Waiting, Closed}
use Rattle.pol_events.specs.Bound.{given}
use Rattle.pol_history.specs.Looking.{History, past, past_of_batch, recipes, is_accepted}
use Rattle.pol_history.specs.Batches.{Started, starting, start_by, start_of, chart_named, chart_by, chart_of, closing}
use Rattle.pol_history.specs.Batches.{outcome_by, outcome_of, freezing_of, taken, log_by, log_of}
use Rattle.pol_history.specs.Following.{sights_by, next_of}
use Rattle.pol_history.specs.Answers.{advanced, otherwise}
use Rattle.pol_history.specs.Runs.{IsLegal, IsOrderly}
use Rattle.pol_history.proofs.Accepted.{paired}
use Rattle.pol_history.proofs.Pasts.{log_grows}
use Rattle.pol_safety.specs.Charts.{LogsFollowCharts}
use Rattle.pol_events.proofs.Options.{no_both}
use Rattle.pol_safety.proofs.Nexts.{ComesFrom, stops, leaves, breaks, holds, unholds, runs, did_from, completed_from}
use Rattle.pol_safety.proofs.Nexts.{next_at}
use Rattle.pol_safety.proofs.Sides.{Sides, sides, accepted, Comes, IsKeptBy, always, at_own}
use Rattle.pol_safety.proofs.Starts.{may_start, is_open_batch, start_same, IsGoodChart, sound, unstarted, StartCase}
use Rattle.pol_safety.proofs.Starts.{its_own, earlier, start_case, chart_before}

-- the chart's entries in a batch's log are a partial run of the chart, and a complete one where the batch was completed
pub record Follows (chart : PlainChart) (past : History) : Type 0 where
  pub partial : IsPartial chart (chart_entries (log_by past))
  pub complete : outcome_by past ≡ Some Completed → IsComplete chart (chart_entries (log_by past))

-- each log does so
abbrev pub AllFollow : Sides → Type 0
AllFollow side =
    (batch : List ℕ) (started : Started) (chart : PlainChart) → start_by (side.batches batch) ≡ Some started →
    chart_named started.recipe side.recipes ≡ Some chart → Follows chart (side.batches batch)

-- ---- logs

-- a log stays where none is taken
pub log_stays : (past : History) (event : PlainEvent) (answer : Answer) → taken answer ≡ None
    → log_by (paired event answer ∷ past) ≡ log_by past
log_stays past event answer silent =
    ap (λ found. reverse (cons_option found (filter_map (λ entry. taken entry.answer) past))) silent

-- ---- one more event of the batch

-- an open batch that takes another entry than one of the run
other_follows : (chart : PlainChart) (past : History) (event : PlainEvent) (entry : LogEntry) → outcome_by past ≡ None
    → chart_entry entry ≡ None →
    Follows chart past → Follows chart (paired event (Did entry) ∷ past)
other_follows chart past event entry open' other follows =
    record {
      partial = subst (IsPartial chart) (sym (ap chart_entries (log_grows past event entry)
          ∙ run_stays (log_by past) entry (ap is_some other))) follows.partial;
      complete = λ is. no_both (outcome_by past) Completed open' is;
    }

-- what a batch does next follows its chart
did_follows : (chart : PlainChart) (past : History) (event : PlainEvent) (entry : LogEntry) (seen : _)
    → IsGoodChart chart → outcome_by past ≡ None →
    ComesFrom chart (log_by past) seen entry → Follows chart past → Follows chart (paired event (Did entry) ∷ past)
did_follows chart past event entry seen sound open' (stops step view at free is) follows =
    other_follows chart past event entry open' (ap chart_entry is) follows
did_follows chart past event entry seen sound open' (leaves name state is) follows =
    other_follows chart past event entry open' (ap chart_entry is) follows
did_follows chart past event entry seen sound open' (breaks name state is) follows =
    other_follows chart past event entry open' (ap chart_entry is) follows
did_follows chart past event entry seen sound open' (holds hold) follows =
    other_follows chart past event entry open' (ap chart_entry hold.is) follows
did_follows chart past event entry seen sound open' (unholds unhold) follows =
    other_follows chart past event entry open' (ap chart_entry unhold.is) follows
did_follows chart past event entry seen sound open' (runs is) follows =
    let of_run = next_of_run chart (chart_entries (log_by past)) seen entry is in
    record {
      partial =
          subst (IsPartial chart) (sym (ap chart_entries (log_grows past event entry)
          ∙ run_grows (log_by past) entry of_run))
          (keeps_the_run chart (chart_entries (log_by past)) seen entry sound.valid follows.partial is);
      complete = λ is. no_both (outcome_by past) Completed open' is;
    }

-- an answer by which the log stays, and which completes the batch only after a complete run
still_follows : (chart : PlainChart) (past : History) (event : PlainEvent) (answer : Answer) → taken answer ≡ None →
    (closing answer ≡ Some Completed → IsComplete chart (chart_entries (log_by past))) → Follows chart past
    → Follows chart (paired event answer ∷ past)
still_follows chart past event answer silent complete follows =
    record {
      partial = subst (IsPartial chart) (sym same) follows.partial;
      complete =
          λ is. subst (IsComplete chart) (sym same) (go (closing answer) refl is);
    }
  where
    same : chart_entries (log_by (paired event answer ∷ past)) ≡ chart_entries (log_by past)
    same = ap chart_entries (log_stays past event answer silent)

    go : (found : Option Outcome) → closing answer ≡ found → option_or found (outcome_by past) ≡ Some Completed
        → IsComplete chart (chart_entries (log_by past))
    go None closes is = follows.complete is
    go (Some outcome) closes is = complete (closes ∙ is)

-- an entry without a log entry and without a closing keeps a log on its chart
quiet_follows : (chart : PlainChart) (past : History) (event : PlainEvent) (answer : Answer) → taken answer ≡ None
    → closing answer ≡ None →
    Follows chart past → Follows chart (paired event answer ∷ past)
quiet_follows chart past event answer silent open' follows =
    still_follows chart past event answer silent (λ is. no_both (closing answer) Completed open' is) follows

-- a batch that is advanced
advance_follows : (history : History) (batch : List ℕ) (started : Started) (chart : PlainChart) (event : PlainEvent)
    (found : Option Next) →
    start_of history batch ≡ Some started → chart_named started.recipe (recipes history) ≡ Some chart
    → IsGoodChart chart → outcome_of history batch ≡ None →
    next_of history batch ≡ found → Follows chart (past_of_batch batch history)
    → Follows chart (paired event (advanced found) ∷ past_of_batch batch history)
advance_follows history batch started chart event None start_is chart_is sound open' is follows =
    quiet_follows chart (past_of_batch batch history) event Done refl refl follows
advance_follows history batch started chart event (Some (next.Waiting obstacle)) start_is chart_is sound
    open' is follows =
    quiet_follows chart (past_of_batch batch history) event (Waiting obstacle) refl refl follows
advance_follows history batch started chart event (Some (next.Did entry)) start_is chart_is sound open' is follows =
    let seen = sights_by (given started.binds) (λ tag. past tag history) in
    did_follows chart (past_of_batch batch history) event entry seen sound open'
    (did_from chart (freezing_of history batch) (log_of history batch) seen entry
    (next_at history batch started chart (next.Did entry) start_is chart_is is)) follows
advance_follows history batch started chart event (Some (next.Closed outcome)) start_is chart_is sound
    open' is follows =
    still_follows chart (past_of_batch batch history) event (Closed outcome) refl complete follows
  where
    complete : Some outcome ≡ Some Completed → IsComplete chart (chart_entries (log_of history batch))
    complete closes =
        let seen = sights_by (given started.binds) (λ tag. past tag history) in
        let one : outcome ≡ Completed = cc in
        let whole = completed_from chart (freezing_of history batch) (log_of history batch) seen
        (next_at history batch started chart (next.Closed outcome) start_is chart_is is ∙ ap next.Closed one) in
        subst (IsNext chart (chart_entries (log_of history batch))
        (ready_after chart (chart_entries (log_of history batch)) seen)) whole
        (next_follows chart (chart_entries (log_of history batch)) seen sound.is_formed sound.valid follows.partial)

-- a batch that is to be stopped
stop_follows : (chart : PlainChart) (past : History) (event : PlainEvent) (stopping : Bool) → outcome_by past ≡ None →
    Follows chart past → Follows chart (paired event (if stopping then Done else Did StopAsked) ∷ past)
stop_follows chart past event true open' follows = quiet_follows chart past event Done refl refl follows
stop_follows chart past event false open' follows = other_follows chart past event StopAsked open' refl follows

-- ---- every event

-- the log of a batch that has no past
nothing_follows : (chart : PlainChart) (past : History) → IsGoodChart chart → past ≡ [] → Follows chart past
nothing_follows chart past sound none = subst (Follows chart) (sym none)
    (record { partial = nothing_partial chart sound.valid; complete = λ is. cc })

-- what is known of a batch before an event that is no start
record Before (history : History) (batch : List ℕ) (started : Started) (chart : PlainChart) : Type 0 where
  start_is : start_of history batch ≡ Some started
  chart_is : chart_named started.recipe (recipes history) ≡ Some chart
  sound : IsGoodChart chart
  follows : Follows chart (past_of_batch batch history)

-- a batch that runs after the event ran before it
before : (history : History) (event : PlainEvent) (batch : List ℕ) (started : Started) (chart : PlainChart)
    → Comes history event → AllFollow (sides history) →
    starting event ≡ None → start_of (accepted history event ∷ history) batch ≡ Some started →
    chart_named started.recipe (recipes (accepted history event ∷ history)) ≡ Some chart
    → Before history batch started chart
before history event batch started chart comes follow is start_is chart_is =
    let start_was = sym (start_same history (accepted history event) batch is) ∙ start_is in
    let chart_was = chart_before history event batch started chart comes start_was chart_is in
    record {
      start_is = start_was;
      chart_is = chart_was;
      sound = sound history comes.legal comes.orderly started.recipe chart chart_was;
      follows = follow batch started chart start_was chart_was;
    }

-- each event keeps every log on its chart
follow_more : IsKeptBy AllFollow
follow_more history (start at other name binds) comes follow batch started chart start_is chart_is =
    at_own (Follows chart) (past_of_batch batch history) (accepted history (start at other name binds)) true
    other batch follows
    (λ same. quiet_follows chart (past_of_batch batch history) (start at other name binds) Done refl refl follows)
  where
    case_follows : StartCase history batch started other name binds → Follows chart (past_of_batch batch history)
    case_follows (earlier is start_was) = follow batch started chart start_was chart_is
    case_follows (its_own same is) =
        let may = may_start history other binds (chart_named name (recipes history)) comes.free in
        nothing_follows chart (past_of_batch batch history) (sound history comes.legal comes.orderly started.recipe
        chart chart_is)
        (ap (λ batch. past_of_batch batch history) (sym same)
        ∙ unstarted history comes.legal comes.orderly other may.2.fresh)

    follows : Follows chart (past_of_batch batch history)
    follows = case_follows (start_case history batch started at other name binds start_is)
follow_more history (advance at other) comes follow batch started chart start_is chart_is =
    let was = before history (advance at other) batch started chart comes follow refl start_is chart_is in
    at_own (Follows chart) (past_of_batch batch history) (accepted history (advance at other))
    (is_accepted (otherwise history (advance at other))) other batch was.follows
    (λ same. advance_follows history batch started chart (advance at other)
    (next_of history other) was.start_is was.chart_is was.sound
    (ap (outcome_of history) (sym same) ∙ is_open_batch history other comes.free.1.0)
    (ap (next_of history) (sym same)) was.follows)
follow_more history (freeze at other hold) comes follow batch started chart start_is chart_is =
    let was = before history (freeze at other hold) batch started chart comes follow refl start_is chart_is in
    at_own (Follows chart) (past_of_batch batch history) (accepted history (freeze at other hold)) true other
    batch was.follows
    (λ same. quiet_follows chart (past_of_batch batch history) (freeze at other hold) Done refl refl was.follows)
follow_more history (thaw at other) comes follow batch started chart start_is chart_is =
    let was = before history (thaw at other) batch started chart comes follow refl start_is chart_is in
    at_own (Follows chart) (past_of_batch batch history) (accepted history (thaw at other)) true other batch was.follows
    (λ same. quiet_follows chart (past_of_batch batch history) (thaw at other) Done refl refl was.follows)
follow_more history (stop_batch at other) comes follow batch started chart start_is chart_is =
    let was = before history (stop_batch at other) batch started chart comes follow refl start_is chart_is in
    at_own (Follows chart) (past_of_batch batch history) (accepted history (stop_batch at other))
    (is_accepted (otherwise history (stop_batch at other))) other batch was.follows
    (λ same. stop_follows chart (past_of_batch batch history) (stop_batch at other)
    (has_broken (log_of history other) || was_stopped (log_of history other))
    (ap (outcome_of history) (sym same) ∙ is_open_batch history other comes.free.1.0) was.follows)
follow_more history (abandon at other) comes follow batch started chart start_is chart_is =
    let was = before history (abandon at other) batch started chart comes follow refl start_is chart_is in
    at_own (Follows chart) (past_of_batch batch history) (accepted history (abandon at other)) true other
    batch was.follows
    (λ same. still_follows chart (past_of_batch batch history) (abandon at other) (Closed Abandoned) refl
    (λ is. cc) was.follows)
follow_more history event comes follow batch started chart start_is chart_is =
    (before history event batch started chart comes follow refl start_is chart_is).follows

-- so each log of a legal history follows its chart
pub all_follow : (history : History) → IsLegal history → IsOrderly history → AllFollow (sides history)
all_follow = always AllFollow (λ batch started chart start_is chart_is. cc) follow_more

-- the chart of a batch is that of a start
pub charted_by_start : (history : History) (batch : List ℕ) (chart : PlainChart) → chart_of history batch ≡ Some chart →
    (started : Started) × (start_of history batch ≡ Some started)
    × (chart_named started.recipe (recipes history) ≡ Some chart)
charted_by_start history batch chart is = go (start_of history batch) refl is
  where
    go : (found : Option Started) → start_of history batch ≡ found → chart_by (recipes history) found ≡ Some chart →
        (started : Started) × (start_of history batch ≡ Some started)
        × (chart_named started.recipe (recipes history) ≡ Some chart)
    go None start_is is = cc
    go (Some started) start_is is = (started, start_is, is)

-- the promise: every batch log follows its chart
pub logs_follow : LogsFollowCharts
logs_follow history batch chart legal orderly is =
    let by = charted_by_start history batch chart is in
    let follows = all_follow history legal orderly batch by.0 chart by.1 by.2 in
    record { partial = follows.partial; complete = follows.complete }
