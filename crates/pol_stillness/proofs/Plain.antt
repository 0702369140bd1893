-- Only Start, Complete and Reset are ever sent, and no service leaves the states that they lead to.
use Rattle.std.proofs.Common.{◌≡◌, ◌≤◌, ◌+◌, ℕ, Bool, true, false, cond, not, List, [], ◌∷◌, Option, Some, None, refl}
use Rattle.std.proofs.Common.{ap, sym, ◌∙◌, subst, arith, length}
use Rattle.std.specs.Prelude.{◌&&◌, ◌||◌, unwrap_or, is_some, filter, if◌then◌else◌}
use Rattle.std.specs.List.{AllByRecursion, list_any, cons_option}
use Rattle.std.specs.Option.{option_or}
use Rattle.std.specs.Str.{bytes_eq}
use Rattle.std.proofs.lemmas.List.Folds.{list_any-append}
use Rattle.std.proofs.lemmas.Option.{same_Some}
use Rattle.mtp_codes.specs.Faults.{when}
use Rattle.mtp_codes.specs.declared.command.Command.{Command}
use Rattle.mtp_codes.specs.declared.command.Command.TheVariants as command
use Rattle.mtp_codes.specs.declared.state.State.{State}
use Rattle.mtp_codes.specs.declared.state.State.TheVariants as state
use Rattle.mtp_machine.specs.Machine.{command_target, own_target, is_edge, same_command, every_state, every_command}
use Rattle.mtp_machine.proofs.EveryState.{of_each_state}
use Rattle.mtp_assembly.specs.declared.control.ServiceControl.{ServiceControl}
use Rattle.mtp_modes.specs.declared.view.ServiceView.{ServiceView}
use Rattle.mtp_sim.specs.Ticks.{changes_in, is_state}
use Rattle.chart_core.specs.Entries.{chart_entry}
use Rattle.chart_core.specs.Roles.{PlainChart}
use Rattle.chart_core.specs.Trees.{PlainStep}
use Rattle.chart_core.specs.declared.entry.LogEntry.{LogEntry}
use Rattle.chart_core.specs.declared.entry.LogEntry.TheVariants.{Start, Finish, Reset, Stop, Broke, StopAsked, Hold}
use Rattle.chart_core.specs.declared.entry.LogEntry.TheVariants.{Unhold, Asked}
use Rattle.chart_cursor.specs.Commands.{Sent, sent_by}
use Rattle.chart_cursor.specs.Next.{next_after}
use Rattle.chart_cursor.specs.Sights.{Sights}
use Rattle.chart_cursor.specs.declared.next.CursorNext.{CursorNext}
use Rattle.chart_cursor.specs.declared.next.CursorNext.TheVariants.{Entry, Wait, Whole}
use Rattle.chart_cursor.specs.declared.sight.Sight.{Sight}
use Rattle.chart_cursor.specs.declared.sight.Sight.TheVariants as sight
use Rattle.chart_cursor.proofs.Commanding.{next_of_run}
use Rattle.pol_events.specs.Events.{PlainEvent, plug, unplug, report, advance, freeze, thaw, stop_batch, abandon, desk}
use Rattle.pol_events.specs.Events.{exchange_begin, exchange_end, exchange_cancel, PlainEntry}
use Rattle.pol_events.specs.Bound.{given}
use Rattle.pol_events.specs.Refusals.{may_follow, not_an_edge}
use Rattle.pol_events.specs.declared.answer.Answer.{Answer}
use Rattle.pol_events.specs.declared.answer.Answer.TheVariants.{Done, Ticket, Did, Waiting, Closed, Refused}
use Rattle.chart_core.specs.declared.next.Next.{Next}
use Rattle.chart_core.specs.declared.next.Next.TheVariants as next
use Rattle.chart_core.specs.declared.next.Outcome.{Outcome}
use Rattle.chart_core.specs.declared.next.Outcome.TheVariants as outcome
use Rattle.pol_events.specs.declared.answer.Rule.TheVariants.{NotAnEdge}
use Rattle.pol_history.specs.Looking.{History, past, past_of_batch, is_accepted, is_accepted_of, is_accepted_of_batch}
use Rattle.pol_history.specs.Modules.{is_moving, since_docking, control_by, description_by, completes_by, seen_with}
use Rattle.pol_history.specs.Modules.{view_of}
use Rattle.pol_history.specs.Batches.{freezing, is_frozen, is_frozen_by, freezing_of, taken, log_by, log_of}
use Rattle.pol_history.specs.Commands.{sent_command}
use Rattle.pol_history.specs.Following.{sights_by, next_of}
use Rattle.pol_history.specs.Answers.{advanced, otherwise, answer_of}
use Rattle.pol_history.proofs.Accepted.{accepted_none, accepted_otherwise, paired}
use Rattle.pol_history.proofs.Pasts.{log_grows}
use Rattle.pol_safety.proofs.Advances.{thawed_so}
use Rattle.pol_safety.proofs.Courses.{log_stays}
use Rattle.pol_safety.proofs.Nexts.{HasNext, has_next}
use Rattle.pol_safety.proofs.Seen.{seen_of}
use Rattle.pol_site.specs.Sites.{PlainSite}
use Rattle.pol_site.specs.Stories.{sent_to, if_to, touches, story, is_given, times_sent, controls_in}
use Rattle.pol_site.specs.Following.{FollowsSite, IsAllowed, IsReport, IsNewState}
use Rattle.pol_site.specs.Commanded.{is_change_by, changes_by, times_changed, IsCommandedNow}
use Rattle.pol_simulated.proofs.Reports.{last_newest}
use Rattle.pol_simulated.specs.Units.{newest}
use Rattle.pol_stillness.proofs.Desks.{view_control, desks_refused}
use Rattle.pol_stillness.specs.Plain.{is_plain, is_plain_command, is_completed_outcome, is_plain_answer, IsPlain}
use Rattle.pol_stillness.specs.Plain.{PlantsArePlain}
use Rattle.chart_cursor.specs.NextEntry.{did_or, broken_step, first_broken, first_unhold, is_broken_state, is_under_way}
use Rattle.chart_cursor.specs.NextEntry.{next_by, owed, run_next, stop_next, unless_whole}
use Rattle.chart_cursor.specs.Freezing.{Freezing, thawed}
use Rattle.chart_cursor.specs.Logs.{active, chart_entries, has_broken, holding_by, is_broke, is_stop_asked, was_held}
use Rattle.chart_cursor.specs.Logs.{was_stopped}
use Rattle.chart_core.specs.Active.{or_earlier, last_of}
use Rattle.mtp_codes.specs.Names.{same_name}
use Rattle.mtp_codes.proofs.Names.{same_refl}
use Rattle.mtp_codes.proofs.Lists.{none_any}

-- ---- states

-- the command makes the change, and the service doesn't make it by itself
abbrev escapes : Bool → State → State → Command → Bool
escapes completes old new command =
    is_state new (command_target old command) && not (changes_in completes old && is_state new (own_target old))

-- from a plain state a service comes to another plain one, or by a command that is not plain
abbrev is_kept_plain : Bool → State → State → Bool
is_kept_plain completes old new =
    not (is_plain old && may_follow old new)
    || (is_plain new || list_any (λ command. not (is_plain_command command) && escapes completes old new command)
    every_command)

-- so it is of each two states, where the procedure completes by itself
every_plain : AllByRecursion (λ old. AllByRecursion (λ new. is_kept_plain true old new ≡ true) every_state) every_state
unfolding command_target own_target is_edge
every_plain = search

-- and where it doesn't
every_plain_waiting : AllByRecursion (λ old. AllByRecursion (λ new. is_kept_plain false old new ≡ true) every_state)
    every_state
unfolding command_target own_target is_edge
every_plain_waiting = search

-- so it is of any two
kept_plain : (completes : Bool) (old new : State) → is_kept_plain completes old new ≡ true
kept_plain true old new =
    of_each_state (λ new. is_kept_plain true old new ≡ true)
    (of_each_state (λ old. AllByRecursion (λ new. is_kept_plain true old new ≡ true) every_state) every_plain old) new
kept_plain false old new =
    of_each_state (λ new. is_kept_plain false old new ≡ true)
    (of_each_state (λ old. AllByRecursion (λ new. is_kept_plain false old new ≡ true) every_state) every_plain_waiting
    old) new

-- a plain state is followed by a plain one, or by one to which no plain command led
plain_next : (completes : Bool) (old new : State) → is_plain old ≡ true → may_follow old new ≡ true
    → ((given : Command) → is_plain_command given ≡ false → escapes completes old new given ≡ false)
    → is_plain new ≡ true
plain_next completes old new plain follows none =
    let fact = kept_plain completes old new in
    go (is_plain new)
    (list_any (λ given. not (is_plain_command given) && escapes completes old new given) every_command)
    (none_any (λ given. not (is_plain_command given) && escapes completes old new given) every_command
    (λ given. one given (is_plain_command given) refl))
    (rw (plain, follows) at fact)
  where
    one : (given : Command) (b : Bool) → is_plain_command given ≡ b → (not b && escapes completes old new given) ≡ false
    one given true is = refl
    one given false is = none given is

    go : (b any : Bool) → any ≡ false → (b || any) ≡ true → b ≡ true
    go true any is kept = refl
    go false any is kept = let clash : false ≡ true = sym is ∙ kept in cc

-- a plain state isn't Stopped or Aborted
whole_state : (one : State) → is_plain one ≡ true → is_broken_state one ≡ false
whole_state state.Stopped is = cc
whole_state state.Aborted is = cc
whole_state _ is = refl

-- ---- commands

-- a command that isn't plain is none of the three
same_not : (given : Command) → is_plain_command given ≡ false
    → (same_command command.Start given ≡ false) × (same_command command.Complete given ≡ false)
    × (same_command command.Reset given ≡ false)
same_not command.Start is = cc
same_not command.Complete is = cc
same_not command.Reset is = cc
same_not _ is = (refl, refl, refl)

-- a plain answer gives no other command
given_none : (tag service : List ℕ) (given : Command) (answer : Answer) → is_plain_command given ≡ false
    → is_plain_answer answer ≡ true
    → is_given service given (if_to tag (sent_command answer)) ≡ false
given_none tag service given (Did entry) odd plain = by entry plain
  where
    to : (sent : Sent) → same_command sent.command given ≡ false → (here : Bool)
        → is_given service given (if here then Some sent else None) ≡ false
    to sent apart false = refl
    to sent apart true = last (bytes_eq sent.service service)
      where
        last : (b : Bool) → (b && same_command sent.command given) ≡ false
        last true = apart
        last false = refl

    by : (entry : LogEntry) → is_some (chart_entry entry) ≡ true
        → is_given service given (if_to tag (sent_by entry)) ≡ false
    by (Start step other named procedure) run = to _ (same_not given odd).0 (bytes_eq other tag)
    by (Finish step other named) run = to _ (same_not given odd).1 (bytes_eq other tag)
    by (Reset step other named) run = to _ (same_not given odd).2 (bytes_eq other tag)
    by (Stop step other named) run = cc
    by (Hold step other named) run = cc
    by (Unhold step other named) run = cc
    by (Asked other named asked) run = cc
    by _ run = refl
given_none tag service given _ odd plain = refl

-- so no other command is ever sent
sent_none : (tag service : List ℕ) (given : Command) → is_plain_command given ≡ false → (history : History)
    → AllByRecursion (λ entry. is_plain_answer entry.answer ≡ true) history
    → times_sent tag service given (story tag history) ≡ 0
sent_none tag service given odd [] plain = refl
sent_none tag service given odd (entry ∷ older) plain =
    go (touches tag entry) (sent_none tag service given odd older plain.1)
  where
    moved : (moving : Bool) → times_sent tag service given (story tag older) ≡ 0
        → length (filter (λ entry. is_given service given (sent_to tag entry))
        (if moving then [] else entry ∷ since_docking (story tag older))) ≡ 0
    moved true again = refl
    moved false again = rw (given_none tag service given entry.answer odd plain.0) again

    go : (own : Bool) → times_sent tag service given (story tag older) ≡ 0
        → times_sent tag service given (cond own (entry ∷ story tag older) (story tag older)) ≡ 0
    go false again = again
    go true again = moved (is_moving entry.event) again

-- ---- one more report

-- no change was counted, so the newest isn't one
uncounted : (completes : ℕ → Bool) (given : Command) (new old : ServiceControl) (older : List ServiceControl)
    → changes_by completes given (new ∷ old ∷ older) ≤ 0
    → is_change_by completes given old new ≡ false
uncounted completes given new old older none = go (is_change_by completes given old new) none
  where
    go : (b : Bool) → (if b then 1 else 0) + changes_by completes given (old ∷ older) ≤ 0 → b ≡ false
    go false none = refl
    go true none = absurd (omega (arith, none))

-- a state that isn't refused as no edge may follow
may_free : (last : ServiceControl) (new : State) → not_an_edge new (Some last) ≡ None → may_follow last.state new ≡ true
may_free last new free = go (may_follow last.state new) free
  where
    go : (b : Bool) → when (not b) (NotAnEdge last.state new) ≡ None → b ≡ true
    go true free = refl
    go false free = cc

-- a report of a service tells a plain state
told_plain : (older : History) (at : ℕ) (tag service : List ℕ) (told : ServiceControl) (answer : Answer) → IsPlain older
    → IsReport tag service (past tag older) (story tag older) told answer
    → answer ≡ answer_of older (report at tag service told)
    → AllByRecursion (λ entry. is_plain_answer entry.answer ≡ true) (paired (report at tag service told) answer ∷ older)
    → IsCommandedNow (paired (report at tag service told) answer ∷ older) → is_plain told.state ≡ true
told_plain older at tag service told answer plain allowed is all commanded =
    go (controls_in service (since_docking (past tag older))) (last_newest service (since_docking (past tag older)))
    counted
  where
    now : History
    now = paired (report at tag service told) answer ∷ older

    own : past tag now ≡ paired (report at tag service told) answer ∷ past tag older
    own = ap (λ b. cond (b && is_accepted answer) (paired (report at tag service told) answer ∷ past tag older)
        (past tag older)) (same_refl tag)
        ∙ ap (λ b. cond b (paired (report at tag service told) answer ∷ past tag older) (past tag older))
        allowed.accepted

    completes : ℕ → Bool
    completes = λ procedure. completes_by service procedure (description_by (past tag older))

    counted : (given : Command) → is_plain_command given ≡ false
        → changes_by completes given (told ∷ controls_in service (since_docking (past tag older))) ≤ 0
    counted given odd =
        subst (λ b. changes_by completes given (cons_option (if b then Some told else None)
        (controls_in service (since_docking (past tag older)))) ≤ 0) (same_refl service)
        (subst (λ p. times_changed service given p ≤ 0) own
        (subst (λ n. times_changed service given (past tag now) ≤ n) (sent_none tag service given odd now all)
        (commanded tag service given)))

    free : not_an_edge told.state (control_by service (past tag older)) ≡ None
    free = (accepted_none older (report at tag service told) (ap is_accepted (sym is) ∙ allowed.accepted)).1.1.1.0

    go : (controls : List ServiceControl) → control_by service (past tag older) ≡ newest controls
        → ((given : Command) → is_plain_command given ≡ false → changes_by completes given (told ∷ controls) ≤ 0)
        → is_plain told.state ≡ true
    go [] head counted = let first : told.state ≡ state.Idle =
        subst (λ c. IsNewState c told.state) head allowed.new in ap is_plain first
    go (old ∷ rest) head counted =
        plain_next (completes old.procedure) old.state told.state (plain.controls tag service old head)
        (may_free old told.state (ap (not_an_edge told.state) (sym head) ∙ free))
        (λ given odd. uncounted completes given told old rest (counted given odd))

-- after any event each service is in a plain state
event_plain : (site : PlainSite) (older : History) (tag service : List ℕ) (event : PlainEvent) (answer : Answer)
    (control : ServiceControl)
    → IsAllowed site older event answer → IsPlain older → answer ≡ answer_of older event
    → AllByRecursion (λ entry. is_plain_answer entry.answer ≡ true) (paired event answer ∷ older)
    → IsCommandedNow (paired event answer ∷ older)
    → control_by service (paired event answer ∷ past tag older) ≡ Some control → is_plain control.state ≡ true
event_plain site older tag service (plug at other description) answer control allowed plain is all commanded found = cc
event_plain site older tag service (unplug at other) answer control allowed plain is all commanded found = cc
event_plain site older tag service (exchange_begin at other) answer control allowed plain is all commanded found = cc
event_plain site older tag service (exchange_end at other ticket description) answer control allowed plain is all
    commanded found = cc
event_plain site older tag service (exchange_cancel at other ticket) answer control allowed plain is all commanded found
    = cc
event_plain site older tag service (report at other named told) answer control allowed plain is all commanded found =
    go (bytes_eq named service) found
  where
    go : (here : Bool) → option_or (if here then Some told else None) (control_by service (past tag older)) ≡ Some
        control → is_plain control.state ≡ true
    go false found = plain.controls tag service control found
    go true found =
        let same : told ≡ control = same_Some told control found in
        subst (λ (c : ServiceControl). is_plain c.state ≡ true) same
        (told_plain older at other named told answer plain allowed is all commanded)
event_plain site older tag service _ answer control allowed plain is all commanded found =
    plain.controls tag service control found

-- ---- one more answer

-- the log of a batch has no entry of this kind
quiet : (test : LogEntry → Bool) → ((entry : LogEntry) → is_some (chart_entry entry) ≡ true → test entry ≡ false)
    → (batch : List ℕ) (history : History)
    → AllByRecursion (λ entry. is_plain_answer entry.answer ≡ true) history
    → list_any test (log_of history batch) ≡ false
quiet test none batch [] plain = refl
quiet test none batch (entry ∷ older) plain =
    go (is_accepted_of_batch batch entry) (quiet test none batch older plain.1)
  where
    stays : (answer : Answer) → taken answer ≡ None → list_any test (log_of older batch) ≡ false
        → list_any test (log_by (paired entry.event answer ∷ past_of_batch batch older)) ≡ false
    stays answer silent again = ap (list_any test) (log_stays (past_of_batch batch older) entry.event answer silent) ∙
        again

    by : (answer : Answer) → is_plain_answer answer ≡ true → list_any test (log_of older batch) ≡ false
        → list_any test (log_by (paired entry.event answer ∷ past_of_batch batch older)) ≡ false
    by (Did one) plain again =
        ap (list_any test) (log_grows (past_of_batch batch older) entry.event one)
        ∙ list_any-append test (log_of older batch) (one ∷ []) ∙ (rw (again, none one plain) refl)
    by Done plain again = stays Done refl again
    by (Ticket ticket) plain again = stays (Ticket ticket) refl again
    by (Waiting obstacle) plain again = stays (Waiting obstacle) refl again
    by (Closed outcome) plain again = stays (Closed outcome) refl again
    by (Refused rule) plain again = stays (Refused rule) refl again

    go : (own : Bool) → list_any test (log_of older batch) ≡ false
        → list_any test (log_by (cond own (entry ∷ past_of_batch batch older) (past_of_batch batch older))) ≡ false
    go false again = again
    go true again = by entry.answer plain.0 again

-- no entry of a run says that the batch broke
run_no_broke : (entry : LogEntry) → is_some (chart_entry entry) ≡ true → is_broke entry ≡ false
run_no_broke (Broke step state) run = cc
run_no_broke _ run = refl

-- nor that it was stopped
run_no_stop : (entry : LogEntry) → is_some (chart_entry entry) ≡ true → is_stop_asked entry ≡ false
run_no_stop StopAsked run = cc
run_no_stop _ run = refl

-- so no log says it
calm : (batch : List ℕ) (history : History) → IsPlain history
    → (has_broken (log_of history batch) || was_stopped (log_of history batch)) ≡ false
calm batch history plain = rw (
  quiet is_broke run_no_broke batch history plain.answers,
  quiet is_stop_asked run_no_stop
      batch history plain.answers,
) refl

-- a view is plain
pub view_plain : (history : History) (tag service : List ℕ) (view : ServiceView) → IsPlain history
    → view_of history tag service ≡ Some view → is_plain view.control.state ≡ true
view_plain history tag service view plain seen =
    plain.controls tag service view.control
    (view_control (control_by service (past tag history)) view (seen_with service (description_by (past tag history)))
    (λ c. refl) seen)

-- no service of a step is stopped or aborted
whole_steps : (older : History) (binds : _) → IsPlain older → (steps : List PlainStep)
    → first_broken (sights_by binds (λ tag. past tag older)) steps ≡ None
whole_steps older binds plain [] = refl
whole_steps older binds plain (step ∷ steps) =
    go ((sights_by binds (λ tag. past tag older)).view step.role step.service) refl
    (whole_steps older binds plain steps)
  where
    go : (found : Sight) → (sights_by binds (λ tag. past tag older)).view step.role step.service ≡ found
        → first_broken (sights_by binds (λ tag. past tag older)) steps ≡ None
        → option_or (broken_step step found) (first_broken (sights_by binds (λ tag. past tag older)) steps) ≡ None
    go sight.Away at rest = rest
    go sight.Unreported at rest = rest
    go (sight.Is view) at rest =
        let (seen, view_is) = seen_of older binds step.role step.service view at in
        let plain_state : is_plain view.control.state ≡ true
        = ap (λ (v : ServiceView). is_plain v.control.state) (sym view_is) ∙ view_plain older seen.tag step.service
        seen.live.view plain seen.live.seen in
        ap (λ b. option_or (if b then Some (Broke step.name view.control.state) else None)
        (first_broken (sights_by binds (λ tag. past tag older)) steps))
        (whole_state view.control.state plain_state) ∙ rest

-- an entry holds a step
abbrev is_a_hold : LogEntry → Bool
is_a_hold (Hold step tag service) = true
is_a_hold _ = false

-- no entry of a run does so
run_no_hold : (entry : LogEntry) → is_some (chart_entry entry) ≡ true → is_a_hold entry ≡ false
run_no_hold (Hold step tag service) run = cc
run_no_hold _ run = refl

-- what another entry says is that the step isn't held, if anything
no_hold_said : (name : List ℕ) (entry : LogEntry) → is_a_hold entry ≡ false
    → unwrap_or (holding_by name entry) false ≡ false
no_hold_said name (Start step tag service procedure) other = go (same_name step name)
  where
    go : (same : Bool) → unwrap_or (when same false) false ≡ false
    go true = refl
    go false = refl
no_hold_said name (Unhold step tag service) other = go (same_name step name)
  where
    go : (same : Bool) → unwrap_or (when same false) false ≡ false
    go true = refl
    go false = refl
no_hold_said name (Hold step tag service) other = cc
no_hold_said name _ other = refl

-- in a log without holds no step is held
none_held : (name : List ℕ) (log : List LogEntry) → list_any is_a_hold log ≡ false → was_held log name ≡ false
none_held name [] none = refl
none_held name (entry ∷ log) none = go (is_a_hold entry) refl none (none_held name log)
  where
    go : (here : Bool) → is_a_hold entry ≡ here → (here || list_any is_a_hold log) ≡ false
        → (list_any is_a_hold log ≡ false → was_held log name ≡ false)
        → unwrap_or (or_earlier (last_of (holding_by name) log) (holding_by name entry)) false ≡ false
    go true is none rest = cc
    go false is none rest = by (last_of (holding_by name) log) (rest none)
      where
        by : (said : Option Bool) → unwrap_or said false ≡ false
            → unwrap_or (or_earlier said (holding_by name entry)) false ≡ false
        by None said = no_hold_said name entry is
        by (Some held) said = said

-- so none is owed an Unhold
none_owed : (seen : Sights) (log : List LogEntry) (steps : List PlainStep) → list_any is_a_hold log ≡ false
    → owed seen log steps ≡ []
none_owed seen log [] none = refl
none_owed seen log (step ∷ steps) none =
    ap (λ held. cond (held && is_under_way (seen.view step.role step.service)) (step ∷ owed seen log steps)
    (owed seen log steps)) (none_held step.name log none)
    ∙ none_owed seen log steps none

-- then what comes next is what the run says
run_only : (chart : PlainChart) (freezing : Freezing) (log : List LogEntry) (seen : Sights) (given : Next)
    → freezing ≡ thawed → (has_broken log || was_stopped log) ≡ false → list_any is_a_hold log ≡ false
    → first_broken seen (active chart log) ≡ None → next_by chart freezing log seen ≡ given
    → run_next (next_after chart (chart_entries log) seen) ≡ given
run_only chart freezing log seen given is_thawed calm unheld whole is =
    sym (ap (λ freezing. next_by chart freezing log seen) is_thawed
    ∙ ap (λ b. if b then stop_next seen (has_broken log) (active chart log) else did_or
    (first_broken seen (active chart log))
    (run_next (unless_whole (first_unhold seen (owed seen log (active chart log)))
    (next_after chart (chart_entries log) seen)))) calm
    ∙ ap (λ found. did_or found (run_next (unless_whole (first_unhold seen (owed seen log (active chart log)))
    (next_after chart (chart_entries log) seen)))) whole
    ∙ ap (λ steps. run_next (unless_whole (first_unhold seen steps) (next_after chart (chart_entries log) seen)))
    (none_owed seen log (active chart log) unheld)) ∙ is

-- a plain history freezes no batch
not_frozen : (history : History) (batch : List ℕ) → IsPlain history → freezing_of history batch ≡ thawed
not_frozen history batch plain = thawed_so (past_of_batch batch history) (plain.thawed batch)

-- what a batch does of a run is the entry that is next
run_did : (found : CursorNext) (entry : LogEntry) → run_next found ≡ next.Did entry → found ≡ Entry entry
run_did Whole entry is = cc
run_did (Wait obstacle) entry is = cc
run_did (Entry other) entry is = cc

-- and it closes only as completed
run_closed : (found : CursorNext) (outcome : Outcome) → run_next found ≡ next.Closed outcome
    → (found ≡ Whole) × (is_completed_outcome outcome ≡ true)
run_closed Whole other is = let same : outcome.Completed ≡ other = cc in (refl, ap is_completed_outcome (sym same))
run_closed (Wait obstacle) outcome is = cc
run_closed (Entry other) outcome is = cc

-- in a plain history what a batch does next is of its run
pub did_runs : (history : History) (batch : List ℕ) (entry : LogEntry) → IsPlain history
    → (has : HasNext history batch (next.Did entry))
    → next_after has.chart (chart_entries (log_of history batch))
    (sights_by (given has.started.binds) (λ tag. past tag history)) ≡ Entry entry
did_runs history batch entry plain has =
    run_did (next_after has.chart (chart_entries (log_of history batch))
    (sights_by (given has.started.binds) (λ tag. past tag history))) entry
    (run_only has.chart (freezing_of history batch) (log_of history batch)
    (sights_by (given has.started.binds) (λ tag. past tag history)) (next.Did entry)
    (not_frozen history batch plain) (calm batch history plain)
    (quiet is_a_hold run_no_hold batch history plain.answers)
    (whole_steps history (given has.started.binds) plain (active has.chart (log_of history batch))) has.next_is)

-- and it closes where its run is whole
pub closed_whole : (history : History) (batch : List ℕ) (outcome : Outcome) → IsPlain history
    → (has : HasNext history batch (next.Closed outcome))
    → (next_after has.chart (chart_entries (log_of history batch))
    (sights_by (given has.started.binds) (λ tag. past tag history)) ≡ Whole) × (is_completed_outcome outcome ≡ true)
closed_whole history batch outcome plain has =
    run_closed (next_after has.chart (chart_entries (log_of history batch))
    (sights_by (given has.started.binds) (λ tag. past tag history))) outcome
    (run_only has.chart (freezing_of history batch) (log_of history batch)
    (sights_by (given has.started.binds) (λ tag. past tag history)) (next.Closed outcome)
    (not_frozen history batch plain) (calm batch history plain)
    (quiet is_a_hold run_no_hold batch history plain.answers)
    (whole_steps history (given has.started.binds) plain (active has.chart (log_of history batch))) has.next_is)

-- an advance is answered plainly
advance_plain : (history : History) (batch : List ℕ) → IsPlain history → (found : Option Next)
    → next_of history batch ≡ found → is_plain_answer (advanced found) ≡ true
advance_plain history batch plain None is = refl
advance_plain history batch plain (Some (next.Waiting obstacle)) is = refl
advance_plain history batch plain (Some (next.Did entry)) is =
    let has = has_next history batch (next.Did entry) is in
    next_of_run has.chart (chart_entries (log_of history batch))
    (sights_by (given has.started.binds) (λ tag. past tag history)) entry (did_runs history batch entry plain has)
advance_plain history batch plain (Some (next.Closed outcome)) is =
    (closed_whole history batch outcome plain (has_next history batch (next.Closed outcome) is)).1

-- so is any accepted event
otherwise_plain : (site : PlainSite) (older : History) (event : PlainEvent) (answer : Answer)
    → IsAllowed site older event answer → FollowsSite site older → IsPlain older
    → is_accepted (answer_of older event) ≡ true → is_plain_answer (otherwise older event) ≡ true
otherwise_plain site older (advance at batch) answer allowed follows plain accepted =
    advance_plain older batch plain (next_of older batch) refl
otherwise_plain site older (stop_batch at batch) answer allowed follows plain accepted = absurd allowed
otherwise_plain site older (abandon at batch) answer allowed follows plain accepted = absurd allowed
otherwise_plain site older (desk at tag service given) answer allowed follows plain accepted =
    let clash : false ≡ true = sym ((desks_refused site older follows).refused at tag service given) ∙ accepted in cc
otherwise_plain site older _ answer allowed follows plain accepted = refl

-- and a refusal
refused_plain : (answer : Answer) → is_accepted answer ≡ false → is_plain_answer answer ≡ true
refused_plain (Refused rule) refused = refl
refused_plain (Done) refused = refl
refused_plain (Ticket ticket) refused = refl
refused_plain (Did entry) refused = cc
refused_plain (Waiting obstacle) refused = refl
refused_plain (Closed outcome) refused = cc

-- so is any event of a history that follows its site
pub answer_plain : (site : PlainSite) (older : History) (entry : PlainEntry)
    → entry.answer ≡ answer_of older entry.event
    → IsAllowed site older entry.event entry.answer
    → FollowsSite site older → IsPlain older → is_plain_answer entry.answer ≡ true
answer_plain site older entry is allowed follows plain =
    ap is_plain_answer is ∙ go (is_accepted (answer_of older entry.event)) refl
  where
    go : (kept : Bool) → is_accepted (answer_of older entry.event) ≡ kept
        → is_plain_answer (answer_of older entry.event) ≡ true
    go false refused = refused_plain (answer_of older entry.event) refused
    go true accepted =
        ap is_plain_answer (accepted_otherwise older entry.event accepted) ∙ otherwise_plain site older entry.event
        entry.answer allowed follows plain accepted

-- no event of a site freezes a batch
allowed_thaws : (site : PlainSite) (older : History) (event : PlainEvent) (answer : Answer)
    → IsAllowed site older event answer → freezing event ≡ None
allowed_thaws site older (freeze at batch hold) answer allowed = absurd allowed
allowed_thaws site older (thaw at batch) answer allowed = absurd allowed
allowed_thaws site older (stop_batch at batch) answer allowed = absurd allowed
allowed_thaws site older _ answer allowed = refl

-- a batch that isn't frozen isn't after an event of a site
still_thawed : (site : PlainSite) (older : History) (entry : PlainEntry) (batch : List ℕ)
    → IsAllowed site older entry.event entry.answer → is_frozen older batch ≡ false
    → is_frozen (entry ∷ older) batch ≡ false
still_thawed site older entry batch allowed before = go (is_accepted_of_batch batch entry)
  where
    go : (own : Bool)
        → is_frozen_by (cond own (entry ∷ past_of_batch batch older) (past_of_batch batch older)) ≡ false
    go false = before
    go true = rw (allowed_thaws site older entry.event entry.answer allowed) before

-- every such history
pub plants_plain : PlantsArePlain
plants_plain site [] legal follows commanded =
    record { controls = λ tag service control is. cc; answers = tt; thawed = λ batch. refl }
plants_plain site (entry ∷ older) legal follows commanded =
    let plain = plants_plain site older legal.2 follows.1 commanded.1 in
    let answer = answer_plain site older entry legal.0 follows.0 follows.1 plain in
    record {
      controls = λ tag service control is. more plain (answer, plain.answers) tag service control
          (is_accepted_of tag entry) is;
      answers = (answer, plain.answers);
      thawed = λ batch. still_thawed site older entry batch follows.0 (plain.thawed batch);
    }
  where
    more : IsPlain older → AllByRecursion (λ entry. is_plain_answer entry.answer ≡ true) (entry ∷ older)
        → (tag service : List ℕ) (control : ServiceControl) (own : Bool)
        → control_by service (cond own (entry ∷ past tag older) (past tag older)) ≡ Some control
        → is_plain control.state ≡ true
    more plain all tag service control false is = plain.controls tag service control is
    more plain all tag service control true is =
        event_plain site older tag service entry.event entry.answer control follows.0 plain legal.0 all commanded.0 is
