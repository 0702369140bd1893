-- A batch that goes on: a command that it sends is owed a report, and what was owed before stays so.
use Rattle.std.proofs.Common.{◌≡◌, ℕ, Bool, true, false, cond, List, [], ◌∷◌, ◌++◌, Some, None, refl, ap, sym, ◌∙◌}
use Rattle.std.specs.Prelude.{◌&&◌, is_some, if◌then◌else◌}
use Rattle.std.specs.List.{AllByRecursion, Contains}
use Rattle.std.specs.Str.{bytes_eq}
use Rattle.std.proofs.lemmas.Option.{same_Some}
use Rattle.mtp_codes.specs.Faults.{when}
use Rattle.mtp_codes.specs.Names.{same_name}
use Rattle.mtp_codes.specs.declared.command.Command.{Command}
use Rattle.mtp_codes.specs.declared.command.Command.TheVariants as command
use Rattle.mtp_codes.specs.declared.state.State.{State}
use Rattle.mtp_codes.specs.declared.state.State.TheVariants as state
use Rattle.mtp_codes.proofs.Names.{same_true, same_refl, same_name_is}
use Rattle.mtp_machine.specs.Machine.{command_target, same_state, every_state}
use Rattle.mtp_machine.specs.States.{is_idle}
use Rattle.mtp_machine.proofs.EveryState.{of_each_state}
use Rattle.mtp_modes.specs.declared.view.ServiceView.{ServiceView}
use Rattle.chart_core.specs.Active.{Phase, idle, started, finished, was_reset, or_earlier, last_of as last_said}
use Rattle.chart_core.specs.Active.{phase_by, or_idle, phase_after, is_running, is_active}
use Rattle.chart_core.specs.Entries.{chart_entry}
use Rattle.chart_core.specs.Roles.{PlainChart, role_names}
use Rattle.chart_core.specs.Runs.{IsPartial}
use Rattle.chart_core.specs.Trees.{PlainStep, Placed, steps}
use Rattle.chart_core.specs.Valid.{IsValid}
use Rattle.chart_core.specs.declared.entry.LogEntry.{LogEntry}
use Rattle.chart_core.specs.declared.entry.LogEntry.TheVariants.{Start, Finish, Reset, End, Chose, Turn, Leave, Stop}
use Rattle.chart_core.specs.declared.entry.LogEntry.TheVariants.{Broke, Left, StopAsked, Hold, Unhold, Asked}
use Rattle.chart_core.proofs.Lawful.{names_tell_steps, roles_of_steps}
use Rattle.chart_cursor.specs.Commands.{Sent, sent_by, is_step_entry, IsOfStep}
use Rattle.chart_cursor.specs.Next.{next_after}
use Rattle.chart_cursor.specs.Sights.{Sights, tag_of}
use Rattle.chart_cursor.specs.declared.next.CursorNext.TheVariants.{Entry}
use Rattle.chart_cursor.proofs.Commanding.{next_of_run, steps_of_chart}
use Rattle.pol_events.specs.Events.{PlainEvent, advance}
use Rattle.pol_events.specs.declared.answer.Answer.TheVariants.{Did}
use Rattle.chart_core.specs.declared.next.Next.TheVariants as next
use Rattle.pol_history.specs.Looking.{History, past, past_of_batch, recipes}
use Rattle.pol_history.specs.Modules.{view_of}
use Rattle.pol_history.specs.Batches.{Started, start_of, chart_named, outcome_by, outcome_of, log_by, log_of}
use Rattle.pol_history.specs.Following.{sights_by}
use Rattle.pol_history.specs.Runs.{IsLegal, IsOrderly}
use Rattle.pol_history.proofs.Accepted.{paired}
use Rattle.pol_safety.specs.Permitted.{WasPermitted}
use Rattle.pol_history.proofs.Pasts.{log_grows}
use Rattle.pol_safety.proofs.Courses.{all_follow}
use Rattle.pol_safety.proofs.Nexts.{HasNext}
use Rattle.pol_safety.proofs.Seen.{seen_of, tag_of_bound}
use Rattle.pol_safety.proofs.Sending.{sent_was_permitted}
use Rattle.pol_safety.proofs.Starts.{sound, running_fits, start_same}
use Rattle.pol_site.specs.Stories.{if_to, is_for}
use Rattle.pol_stillness.specs.Apart.{is_due, waits_in, IsAlone, IsOwed}
use Rattle.pol_stillness.proofs.Owed.{sends_step, sent_of_step}
use Rattle.pol_stillness.proofs.Alone.{steps_alone}
use Rattle.pol_stillness.specs.Plain.{is_plain, IsPlain}
use Rattle.pol_stillness.proofs.Plain.{view_plain, did_runs}
use Rattle.pol_stillness.proofs.Ended.{end_idle}
use Rattle.pol_stillness.proofs.Carried.{still_owed}
use Rattle.pol_events.proofs.Options.{some_same}
use Rattle.pol_events.proofs.Lists.{among_member, kept_member, member_kept}
use Rattle.pol_history.proofs.Binds.{IsFitting}
use Rattle.chart_cursor.specs.Logs.{chart_entries}
use Rattle.chart_cursor.proofs.Pushed.{run_grows}
use Rattle.chart_core.proofs.Latest.{last_pushed}
use Rattle.pol_events.specs.Bound.{bound_tag, given}

-- ---- a log that grows

-- where a step stands after one more entry
phase_pushed : (log : List LogEntry) (entry : LogEntry) (name : List ℕ)
    → phase_after (log ++ entry ∷ []) name ≡ or_idle (or_earlier (phase_by name entry) (last_said (phase_by name) log))
phase_pushed log entry name = ap or_idle (last_pushed (phase_by name) log entry)

-- the run of the batch after one more entry of it
run_after : (past : History) (event : PlainEvent) (entry : LogEntry) → is_some (chart_entry entry) ≡ true
    → chart_entries (log_by (paired event (Did entry) ∷ past)) ≡ chart_entries (log_by past) ++ entry ∷ []
run_after past event entry of_run = ap chart_entries (log_grows past event entry) ∙ run_grows (log_by past) entry of_run

-- ---- states in which a command is sent

-- the command leaves the state
abbrev is_from : Command → State → Bool
is_from given one = is_plain one && is_some (command_target one given)

-- the two are one state
abbrev is_the : State → State → Bool
is_the one other = same_state one other

-- Start leaves Idle alone
every_start : AllByRecursion (λ one. is_from command.Start one ≡ is_the one state.Idle) every_state
unfolding command_target
every_start = search

-- Complete leaves Execute alone
every_complete : AllByRecursion (λ one. is_from command.Complete one ≡ is_the one state.Execute) every_state
unfolding command_target
every_complete = search

-- Reset leaves Completed alone, among plain states
every_reset : AllByRecursion (λ one. is_from command.Reset one ≡ is_the one state.Completed) every_state
unfolding command_target
every_reset = search

-- a state that is Idle by its test is Idle
the_idle : (one : State) → is_the one state.Idle ≡ true → state.Idle ≡ one
the_idle state.Idle is = refl
the_idle _ is = cc

-- the same of Execute
the_execute : (one : State) → is_the one state.Execute ≡ true → state.Execute ≡ one
the_execute state.Execute is = refl
the_execute _ is = cc

-- the same of Completed
the_completed : (one : State) → is_the one state.Completed ≡ true → state.Completed ≡ one
the_completed state.Completed is = refl
the_completed _ is = cc

-- a command that leads somewhere leaves its state
from_plain : (given : Command) (one : State) → is_plain one ≡ true → is_some (command_target one given) ≡ true
    → is_from given one ≡ true
from_plain given one plain leads = rw (plain, leads) refl

-- a service that takes Start is Idle
pub start_from : (one : State) → is_plain one ≡ true → is_some (command_target one command.Start) ≡ true
    → state.Idle ≡ one
start_from one plain leads =
    the_idle one (sym (of_each_state (λ one. is_from command.Start one ≡ is_the one state.Idle) every_start one) ∙
    from_plain command.Start one plain leads)

-- one that takes Complete executes
pub complete_from : (one : State) → is_plain one ≡ true → is_some (command_target one command.Complete) ≡ true
    → state.Execute ≡ one
complete_from one plain leads =
    the_execute one (sym (of_each_state (λ one. is_from command.Complete one ≡ is_the one state.Execute) every_complete
    one) ∙ from_plain command.Complete one plain leads)

-- one that takes Reset is completed, where it is in a plain state
pub reset_from : (one : State) → is_plain one ≡ true → is_some (command_target one command.Reset) ≡ true
    → state.Completed ≡ one
reset_from one plain leads =
    the_completed one (sym (of_each_state (λ one. is_from command.Reset one ≡ is_the one state.Completed) every_reset
    one) ∙ from_plain command.Reset one plain leads)

-- ---- a batch that goes on

-- what is known of an open batch that does an entry next
pub record Facts (older : History) (batch : List ℕ) (begun : Started) (chart : PlainChart)
    (entry : LogEntry) : Type 0 where
  start_is : start_of older batch ≡ Some begun
  chart_is : chart_named begun.recipe (recipes older) ≡ Some chart
  unclosed : outcome_of older batch ≡ None
  plain : IsPlain older
  runs : next_after chart (chart_entries (log_of older batch)) (sights_by (given begun.binds) (λ tag. past tag older))
      ≡ Entry entry
  valid : IsValid chart
  partial : IsPartial chart (chart_entries (log_of older batch))
  fits : IsFitting chart (given begun.binds)
  of_run : is_some (chart_entry entry) ≡ true

-- what is known of a batch that did an entry
pub facts : (older : History) (batch : List ℕ) (entry : LogEntry) → IsLegal older → IsOrderly older → IsPlain older
    → outcome_of older batch ≡ None
    → (has : HasNext older batch (next.Did entry)) → Facts older batch has.started has.chart entry
facts older batch entry legal orderly plain unclosed has =
    let runs = did_runs older batch entry plain has in
    record {
      start_is = has.start_is;
      chart_is = has.chart_is;
      unclosed = unclosed;
      plain = plain;
      runs = runs;
      valid = (sound older legal orderly has.started.recipe has.chart has.chart_is).valid;
      partial = (all_follow older legal orderly batch has.started has.chart has.start_is has.chart_is).partial;
      fits = running_fits older batch has.started has.chart legal orderly
          (record { start_is = has.start_is; chart_is = has.chart_is; unclosed = unclosed });
      of_run = next_of_run has.chart (chart_entries (log_of older batch))
          (sights_by (given has.started.binds) (λ tag. past tag older)) entry runs;
    }

-- the past of a batch that did an entry
own_past : (older : History) (at : ℕ) (other batch : List ℕ) (entry : LogEntry) → bytes_eq other batch ≡ true
    → past_of_batch batch (paired (advance at other) (Did entry) ∷ older) ≡ paired (advance at other) (Did entry)
    ∷ past_of_batch batch older
own_past older at other batch entry same =
    ap (λ b. cond (b && true) (paired (advance at other) (Did entry) ∷ past_of_batch batch older)
    (past_of_batch batch older)) same

-- and its run
own_run : (older : History) (at : ℕ) (other batch : List ℕ) (entry : LogEntry) → bytes_eq other batch ≡ true
    → is_some (chart_entry entry) ≡ true
    → chart_entries (log_of (paired (advance at other) (Did entry) ∷ older) batch) ≡ chart_entries (log_of older batch)
    ++ entry ∷ []
own_run older at other batch entry same of_run =
    ap (λ p. chart_entries (log_by p)) (own_past older at other batch entry same) ∙ run_after
    (past_of_batch batch older) (advance at other) entry of_run

-- ---- a command that is sent now

-- where the step stands after it, and the state in which it was sent
record Sends (step : PlainStep) (entry : LogEntry) (one : State) : Type 0 where
  phase : Phase
  says : phase_by step.name entry ≡ Some phase
  running : is_running phase ≡ true
  waits : waits_in phase ≡ Some one

-- an entry of a step that sends a command leaves the step waiting for a report
sends_phase : (seen : Sights) (step : PlainStep) (entry : LogEntry) (sent : Sent) (one : State)
    → IsOfStep seen step entry → sent_by entry ≡ Some sent
    → is_plain one ≡ true → is_some (command_target one sent.command) ≡ true → Sends step entry one
sends_phase seen step (Start name tag service procedure) sent one own sends plain leads =
    let given : command.Start ≡ sent.command = ap (λ (s : Sent). s.command) (same_Some _ sent sends) in
    record {
      phase = started;
      says = ap (λ b. when b started) (same_name_is name step.name own.0);
      running = refl;
      waits = ap Some (start_from one plain (ap (λ c. is_some (command_target one c)) given ∙ leads));
    }
sends_phase seen step (Finish name tag service) sent one own sends plain leads =
    let given : command.Complete ≡ sent.command = ap (λ (s : Sent). s.command) (same_Some _ sent sends) in
    record {
      phase = finished;
      says = ap (λ b. when b finished) (same_name_is name step.name own.0);
      running = refl;
      waits = ap Some (complete_from one plain (ap (λ c. is_some (command_target one c)) given ∙ leads));
    }
sends_phase seen step (Reset name tag service) sent one own sends plain leads =
    let given : command.Reset ≡ sent.command = ap (λ (s : Sent). s.command) (same_Some _ sent sends) in
    record {
      phase = was_reset;
      says = ap (λ b. when b was_reset) (same_name_is name step.name own.0);
      running = refl;
      waits = ap Some (reset_from one plain (ap (λ c. is_some (command_target one c)) given ∙ leads));
    }
sends_phase seen step (End name) sent one own sends plain leads = cc
sends_phase seen step _ sent one own sends plain leads = absurd own

-- a service that is commanded now is owed a report by the batch that does it
pub new_owed : (older : History) (at : ℕ) (batch : List ℕ) (begun : Started) (chart : PlainChart) (entry : LogEntry)
    (sent : Sent) → Facts older batch begun chart entry
    → IsLegal (paired (advance at batch) (Did entry) ∷ older) → sent_by entry ≡ Some sent
    → IsOwed (paired (advance at batch) (Did entry) ∷ older) sent.tag sent.service
new_owed older at batch begun chart entry sent known legal sends =
    record {
      batch = batch;
      started = begun;
      chart = chart;
      placed = of.0;
      start_is = start_same older (paired (advance at batch) (Did entry)) batch refl ∙ known.start_is;
      chart_is = known.chart_is;
      unclosed = ap outcome_by (own_past older at batch batch entry (same_refl batch)) ∙ known.unclosed;
      inside = kept_member (is_active (chart_entries (log_of now batch))) (steps chart.root 0) of.0 of.1
          (ap is_running stands ∙ it.running);
      bound = tag.1 ∙ ap Some (sym (tag_of_bound older (given begun.binds) of.0.step.role tag.0 tag.1) ∙ sym to.0);
      service_is = sym to.1;
      view = was.view;
      seen = was.seen;
      waits = ap waits_in stands ∙ it.waits;
    }
  where
    now : History
    now = paired (advance at batch) (Did entry) ∷ older

    log : List LogEntry
    log = chart_entries (log_of older batch)

    sights : Sights
    sights = sights_by (given begun.binds) (λ tag. past tag older)

    of : (placed : Placed) × Contains (steps chart.root 0) placed × IsOfStep sights placed.step entry
    of = steps_of_chart chart log sights entry known.runs (sends_step entry sent known.of_run sends)

    to : (sent.tag ≡ tag_of sights of.0.step.role) × (sent.service ≡ of.0.step.service)
    to = sent_of_step sights of.0.step entry sent of.2 sends

    tag : (tag : List ℕ) × (bound_tag (given begun.binds) of.0.step.role ≡ Some tag)
    tag = known.fits.bound of.0.step.role (among_member (role_names chart) of.0.step.role
        (roles_of_steps chart of.0 known.valid of.1))

    was : WasPermitted older sent
    was = sent_was_permitted older (paired (advance at batch) (Did entry)) sent legal sends

    it : Sends of.0.step entry was.view.control.state
    it = sends_phase sights of.0.step entry sent was.view.control.state of.2 sends
        (view_plain older sent.tag sent.service was.view known.plain was.seen) was.permitted.leads

    stands : phase_after (chart_entries (log_of now batch)) of.0.step.name ≡ it.phase
    stands =
        ap (λ l. phase_after l of.0.step.name) (own_run older at batch batch entry (same_refl batch) known.of_run)
        ∙ phase_pushed log entry of.0.step.name
        ∙ ap (λ said. or_idle (or_earlier said (last_said (phase_by of.0.step.name) log))) it.says

-- ---- a report that stays owed where its batch goes on

-- nothing is said where it isn't meant
unless_here : (here : Bool) (phase : Phase) → (here ≡ true → ⊥) → when here phase ≡ None
unless_here true phase not_here = absurd (not_here refl)
unless_here false phase not_here = refl

-- a start is not due where a step waits for a report
start_due : (phase : Phase) (step tag service : List ℕ) (procedure : ℕ) (one : State)
    → is_due phase (Start step tag service procedure) ≡ true → waits_in phase ≡ Some one → ⊥
start_due idle step tag service procedure one due waits = cc
start_due started step tag service procedure one due waits = cc
start_due finished step tag service procedure one due waits = cc
start_due was_reset step tag service procedure one due waits = cc

-- an end is due only where the service is idle
end_due : (phase : Phase) (step : List ℕ) (one : State) → is_due phase (End step) ≡ true → waits_in phase ≡ Some one
    → is_idle one ≡ false
end_due idle step one due waits = cc
end_due started step one due waits = cc
end_due finished step one due waits = cc
end_due was_reset step one due waits = ap is_idle (sym (same_Some state.Completed one waits))

-- a command to a service of a module is for it
is_for_service : (t s tag service : List ℕ) (sent : Sent) → sent.service ≡ s → t ≡ tag → s ≡ service
    → is_for service (if bytes_eq t tag then Some sent else None) ≡ true
is_for_service t s tag service sent sent_is tag_is service_is =
    ap (λ b. is_for service (if b then Some sent else None)) (same_name_is t tag tag_is)
    ∙ same_name_is sent.service service (sent_is ∙ service_is)

-- an entry that sends the service nothing says nothing of the step that is owed
silent : (older : History) (tag service : List ℕ) (owed : IsOwed older tag service) (entry : LogEntry)
    → Facts older owed.batch owed.started owed.chart entry
    → is_for service (if_to tag (sent_by entry)) ≡ false → phase_by owed.placed.step.name entry ≡ None
silent older tag service owed entry known other = by entry known other
  where
    log : List LogEntry
    log = chart_entries (log_of older owed.batch)

    sights : Sights
    sights = sights_by (given owed.started.binds) (λ tag. past tag older)

    within : Contains (steps owed.chart.root 0) owed.placed
    within = (member_kept (is_active log) (steps owed.chart.root 0) owed.placed owed.inside).0

    of_tag : tag_of sights owed.placed.step.role ≡ tag
    of_tag = tag_of_bound older (given owed.started.binds) owed.placed.step.role tag owed.bound

    -- an entry of a step with the name is of this step, and due
    one : (entry : LogEntry) (known : Facts older owed.batch owed.started owed.chart entry) → is_step_entry entry ≡ true
        → IsAlone owed.chart log sights entry
    one entry known stepped = steps_alone owed.chart log sights entry known.valid known.partial known.runs stepped

    same : (entry : LogEntry) → IsValid owed.chart → (alone : IsAlone owed.chart log sights entry) → (named : List ℕ)
        → named ≡ alone.step.name → same_name named owed.placed.step.name ≡ true
        → alone.step ≡ owed.placed.step
    same entry valid alone named is here =
        ap (λ (p : Placed). p.step)
        (names_tell_steps owed.chart (record { number = alone.number; step = alone.step }) owed.placed valid
        alone.within within
        (sym is ∙ same_true named owed.placed.step.name here))

    due : (entry : LogEntry) → (alone : IsAlone owed.chart log sights entry) → alone.step ≡ owed.placed.step
        → is_due (phase_after log owed.placed.step.name) entry ≡ true
    due entry alone is = (alone.alone owed.placed owed.inside (ap (λ (s : PlainStep). s.role) (sym is))
        (ap (λ (s : PlainStep). s.service) (sym is))).1

    by : (entry : LogEntry) → Facts older owed.batch owed.started owed.chart entry
        → is_for service (if_to tag (sent_by entry)) ≡ false → phase_by owed.placed.step.name entry ≡ None
    by (Start step t s procedure) known other =
        unless_here (same_name step owed.placed.step.name) started (λ here.
        let alone = one (Start step t s procedure) known refl in
        start_due (phase_after log owed.placed.step.name) step t s procedure owed.view.control.state
        (due (Start step t s procedure) alone (same (Start step t s procedure) known.valid alone step alone.own.0 here))
        owed.waits)
    by (Finish step t s) known other =
        unless_here (same_name step owed.placed.step.name) finished (λ here.
        let alone = one (Finish step t s) known refl in
        let is = same (Finish step t s) known.valid alone step alone.own.0 here in
        let to = is_for_service t s tag service _ refl (alone.own.1 ∙ ap (λ (p : PlainStep). tag_of sights p.role) is
        ∙ of_tag)
        (alone.own.2 ∙ ap (λ (p : PlainStep). p.service) is ∙ owed.service_is) in
        let clash : false ≡ true = sym other ∙ to in cc)
    by (Reset step t s) known other =
        unless_here (same_name step owed.placed.step.name) was_reset (λ here.
        let alone = one (Reset step t s) known refl in
        let is = same (Reset step t s) known.valid alone step alone.own.0 here in
        let to = is_for_service t s tag service _ refl (alone.own.1 ∙ ap (λ (p : PlainStep). tag_of sights p.role) is
        ∙ of_tag)
        (alone.own.2 ∙ ap (λ (p : PlainStep). p.service) is ∙ owed.service_is) in
        let clash : false ≡ true = sym other ∙ to in cc)
    by (End step) known other =
        unless_here (same_name step owed.placed.step.name) idle (λ here.
        let alone = one (End step) known refl in
        let is = same (End step) known.valid alone step alone.own here in
        let not_idle = end_due (phase_after log owed.placed.step.name) step owed.view.control.state
        (due (End step) alone is) owed.waits in
        let ended = end_idle owed.chart log sights step known.runs in
        let its : ended.placed ≡ owed.placed
        = names_tell_steps owed.chart ended.placed owed.placed known.valid ended.inside within
        (sym ended.name_is ∙ same_true step owed.placed.step.name here) in
        let sees = ap (λ (p : Placed). sights.view p.step.role p.step.service) (sym its) ∙ ended.seen_as in
        let found = seen_of older (given owed.started.binds) owed.placed.step.role owed.placed.step.service ended.view
        sees in
        let tag_is : found.0.tag ≡ tag = some_same (bound_tag (given owed.started.binds) owed.placed.step.role)
        found.0.tag tag found.0.bound owed.bound in
        let at : view_of older tag service ≡ Some ended.view
        = ap (λ t. view_of older t service) (sym tag_is) ∙ ap (view_of older found.0.tag) (sym owed.service_is) ∙
        found.0.live.seen ∙ ap Some found.1 in
        let view_is : ended.view ≡ owed.view = some_same (view_of older tag service) ended.view owed.view at owed.seen
        in
        let clash : false ≡ true = sym not_idle ∙ ap (λ (v : ServiceView). is_idle v.control.state) (sym view_is) ∙
        ended.is_idle in cc)
    by (Chose node arm values) known other = refl
    by (Turn node values) known other = refl
    by (Leave node values) known other = refl
    by (Stop step t s) known other = let no = known.of_run in cc
    by (Left step at) known other = let no = known.of_run in cc
    by (Broke step at) known other = refl
    by StopAsked known other = refl
    by (Hold step t s) known other = refl
    by (Unhold step t s) known other = refl
    by (Asked t s given) known other = refl

-- a service that was owed a report, and isn't commanded now, is owed it still
pub stay_owed : (older : History) (at : ℕ) (other : List ℕ) (tag service : List ℕ) (owed : IsOwed older tag service)
    (entry : LogEntry)
    → bytes_eq other owed.batch ≡ true → Facts older owed.batch owed.started owed.chart entry
    → is_for service (if_to tag (sent_by entry)) ≡ false
    → IsOwed (paired (advance at other) (Did entry) ∷ older) tag service
stay_owed older at other tag service owed entry same known apart =
    still_owed older (paired (advance at other) (Did entry) ∷ older) tag service owed
    (start_same older (paired (advance at other) (Did entry)) owed.batch refl) owed.chart_is
    (ap outcome_by (own_past older at other owed.batch entry same)) stands refl
  where
    name : List ℕ
    name = owed.placed.step.name

    log : List LogEntry
    log = chart_entries (log_of older owed.batch)

    stands : phase_after (chart_entries (log_of (paired (advance at other) (Did entry) ∷ older) owed.batch)) name
        ≡ phase_after log name
    stands =
        ap (λ l. phase_after l name) (own_run older at other owed.batch entry same known.of_run)
        ∙ phase_pushed log entry name
        ∙ ap (λ said. or_idle (or_earlier said (last_said (phase_by name) log)))
        (silent older tag service owed entry known apart)
