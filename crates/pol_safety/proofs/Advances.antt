-- An accepted advance is answered as the runs of the chart say.
use Rattle.std.proofs.Common.{◌≡◌, ℕ, Bool, true, false, List, [], Option, Some, None, refl, ap, sym, ◌∙◌}
use Rattle.std.specs.Prelude.{◌||◌, option_map, option_and_then, if◌then◌else◌}
use Rattle.chart_core.specs.Roles.{PlainChart}
use Rattle.chart_core.specs.Trees.{PlainStep}
use Rattle.chart_core.specs.declared.entry.LogEntry.{LogEntry}
use Rattle.chart_core.specs.declared.entry.LogEntry.TheVariants.{Hold}
use Rattle.chart_core.specs.declared.next.Next.{Next}
use Rattle.chart_core.specs.declared.next.Next.TheVariants as next
use Rattle.chart_cursor.specs.Logs.{chart_entries, active, has_broken, was_stopped}
use Rattle.chart_cursor.specs.Next.{next_after}
use Rattle.chart_cursor.specs.NextEntry.{first_broken, stop_next, owed, first_unhold, unless_whole, run_next, did_or}
use Rattle.chart_cursor.specs.NextEntry.{next_by}
use Rattle.chart_cursor.specs.Freezing.{thawed}
use Rattle.chart_cursor.specs.Sights.{Sights}
use Rattle.chart_cursor.proofs.Firsts.{next_follows}
use Rattle.pol_events.specs.Events.{advance}
use Rattle.pol_events.specs.declared.answer.Answer.{Answer}
use Rattle.pol_events.specs.declared.answer.Answer.TheVariants as answered
use Rattle.pol_history.specs.Looking.{History, past, past_of_batch, recipes, is_accepted}
use Rattle.pol_history.specs.Batches.{Started, start_of, chart_named, chart_by, is_frozen_by, is_holding_by, asked_by}
use Rattle.pol_history.specs.Batches.{frozen_so, log_of, freezing_of}
use Rattle.pol_history.specs.Following.{next_of_started, next_of}
use Rattle.pol_history.specs.Rules.{no_batch}
use Rattle.pol_history.specs.Answers.{advanced, answer_of}
use Rattle.pol_history.specs.Runs.{IsLegal, IsOrderly}
use Rattle.pol_history.proofs.Accepted.{accepted_none, accepted_otherwise}
use Rattle.pol_safety.specs.Known.{StartedHaveCharts}
use Rattle.pol_safety.specs.Advances.{seen_by, GoesOn, AnswersNext, continues, IsHeldOnce, IsAdvanced}
use Rattle.pol_safety.specs.Advances.{AdvancesFollowCharts}
use Rattle.pol_safety.proofs.Holds.{free_by, held_by, unfrozen_so}
use Rattle.pol_safety.proofs.Starts.{is_open_batch, sound, charted}
use Rattle.pol_safety.proofs.Courses.{all_follow}

-- each started batch has a formed and valid chart
pub started_charted : StartedHaveCharts
started_charted history batch started legal orderly start =
    let found = charted history legal orderly batch started start in
    let sound = sound history legal orderly started.recipe found.chart found.chart_is in
    record {
      chart = found.chart;
      chart_is = ap (chart_by (recipes history)) start ∙ found.chart_is;
      is_formed = sound.is_formed;
      valid = sound.valid;
    }

-- a batch that was started, by the rule that no other batch is advanced
was_started : (found : Option Started) → no_batch found ≡ None → (started : Started) × (found ≡ Some started)
was_started None none = cc
was_started (Some started) none = (started, refl)

-- what a started batch with a chart does next
next_of_it : (history : History) (batch : List ℕ) (started : Started) (chart : PlainChart) →
    start_of history batch ≡ Some started →
    chart_named started.recipe (recipes history) ≡ Some chart →
    next_of history batch ≡ Some (next_by chart (freezing_of history batch) (log_of history batch)
    (seen_by history started))
next_of_it history batch started chart start_is chart_is =
    ap (option_and_then (next_of_started (recipes history) (past_of_batch batch history)
    (λ tag. past tag history))) start_is
    ∙ ap (option_map (λ chart. next_by chart (freezing_of history batch) (log_of history batch)
    (seen_by history started))) chart_is

-- where the run of the chart goes on, that is what comes next in it
goes_on : (chart : PlainChart) (log : List LogEntry) (seen : Sights) (broke stop : Bool)
    (broken : Option LogEntry) (owes : List PlainStep) →
    broke ≡ false → stop ≡ false → broken ≡ None → owes ≡ [] →
    (if broke || stop then stop_next seen broke (active chart log)
    else did_or broken (run_next (unless_whole (first_unhold seen owes) (next_after chart (chart_entries log) seen))))
    ≡ run_next (next_after chart (chart_entries log) seen)
goes_on chart log seen broke stop broken owes unbroken unstopped whole unowed = rw
    (unbroken, unstopped, whole, unowed) refl

-- a batch that isn't frozen is thawed, whatever it was asked before
pub thawed_so : (past : History) → is_frozen_by past ≡ false → frozen_so (is_frozen_by past) (is_holding_by past)
    (asked_by past) ≡ thawed
thawed_so past unfrozen = ap (λ frozen. frozen_so frozen (is_holding_by past) (asked_by past)) unfrozen

-- what is answered as an entry comes next as that entry
did_next : (coming : Next) (entry : LogEntry) → advanced (Some coming) ≡ answered.Did entry → coming ≡ next.Did entry
did_next (next.Did other) entry is = cc
did_next (next.Waiting obstacle) entry is = cc
did_next (next.Closed outcome) entry is = cc

module _ (history : History) (batch : List ℕ) (started : Started) (chart : PlainChart)
    (legal : IsLegal history) (orderly : IsOrderly history) (start_is : start_of history batch ≡ Some started)
    (chart_is : chart_named started.recipe (recipes history) ≡ Some chart) where
  -- where the run of the chart goes on, the answer is what comes next in it
  answers_next : (answer : Answer) → answer ≡ advanced (next_of history batch) → GoesOn history batch started chart →
      AnswersNext chart (chart_entries (log_of history batch)) (seen_by history started) answer
  answers_next answer is on =
      let log = log_of history batch in
      let seen = seen_by history started in
      let sound = sound history legal orderly started.recipe chart chart_is in
      let follows = all_follow history legal orderly batch started chart start_is chart_is in
      record {
        next = next_after chart (chart_entries log) seen;
        is_next = next_follows chart (chart_entries log) seen sound.is_formed sound.valid follows.partial;
        answer_is = is ∙ ap advanced (next_of_it history batch started chart start_is chart_is
            ∙ ap Some (ap (λ freezing. next_by chart freezing log seen)
            (thawed_so (past_of_batch batch history) on.unfrozen)
            ∙ goes_on chart log seen (has_broken log) (was_stopped log) (first_broken seen (active chart log))
            (owed seen log (active chart log)) on.unbroken on.unstopped on.whole on.unowed));
      }

  -- the answer, by what the batch does next
  answer_by : (answer : Answer) → answer ≡ advanced (next_of history batch)
      → answer ≡ advanced
      (Some (next_by chart (freezing_of history batch) (log_of history batch) (seen_by history started)))
  answer_by answer is = is ∙ ap advanced (next_of_it history batch started chart start_is chart_is)

  -- it goes on in the run only where that goes on
  only_goes_on : (answer : Answer) → answer ≡ advanced (next_of history batch) → continues answer ≡ true
      → GoesOn history batch started chart
  only_goes_on answer is on =
      let past = past_of_batch batch history in
      let free = free_by chart (freezing_of history batch) (log_of history batch) (seen_by history started)
      (ap continues (sym (answer_by answer is)) ∙ on) in
      record {
        unfrozen = unfrozen_so (is_frozen_by past) (is_holding_by past) (asked_by past) free.unfrozen;
        unbroken = free.unbroken;
        unstopped = free.unstopped;
        whole = free.whole;
        unowed = free.unowed;
      }

  -- and a step is sent Hold at most once a freeze
  holds_once : (answer : Answer) → answer ≡ advanced (next_of history batch) → (step tag service : List ℕ)
      → answer ≡ answered.Did (Hold step tag service) → IsHeldOnce history batch step
  holds_once answer is step tag service sends =
      let past = past_of_batch batch history in
      let held = held_by chart (is_frozen_by past) (is_holding_by past) (asked_by past) (log_of history batch)
      (seen_by history started) step tag service (did_next _ _ (sym (answer_by answer is) ∙ sends)) in
      record { holding = held.0; unasked = held.1 }

-- an accepted advance, by its event and its answer
advanced_one : (history : History) (at : ℕ) (batch : List ℕ) (answer : Answer) → IsLegal history → IsOrderly history →
    answer ≡ answer_of history (advance at batch) → is_accepted (answer_of history (advance at batch)) ≡ true →
    IsAdvanced history batch answer
advanced_one history at batch answer legal orderly is accepted =
    let free = accepted_none history (advance at batch) accepted in
    let (started, start_is) = was_started (start_of history batch) free.0 in
    let found = charted history legal orderly batch started start_is in
    record {
      started = started;
      chart = found.chart;
      is_open = record {
        start = start_is;
        chart_is = ap (chart_by (recipes history)) start_is ∙ found.chart_is;
        unclosed = is_open_batch history batch free.1.0;
      };
      follows = answers_next history batch started found.chart legal orderly start_is found.chart_is answer
          (is ∙ accepted_otherwise history (advance at batch) accepted);
      goes_on = only_goes_on history batch started found.chart legal orderly start_is found.chart_is answer
          (is ∙ accepted_otherwise history (advance at batch) accepted);
      holds = holds_once history batch started found.chart legal orderly start_is found.chart_is answer
          (is ∙ accepted_otherwise history (advance at batch) accepted);
    }

-- each accepted advance is answered so
pub advances_follow : AdvancesFollowCharts
advances_follow history entry at batch legal orderly is accepted =
    let same : entry.answer ≡ answer_of history (advance at batch) = legal.0 ∙ ap (answer_of history) is in
    advanced_one history at batch entry.answer legal.2 orderly same (ap is_accepted (sym same) ∙ accepted)
