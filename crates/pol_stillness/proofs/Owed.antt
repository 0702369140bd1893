-- While a service is owed a report, no batch goes on with an entry that sends it a command.
use Rattle.std.proofs.Common.{◌≡◌, ℕ, true, List, Option, Some, None, refl, ap, sym, ◌∙◌, subst}
use Rattle.std.specs.Prelude.{is_some, IsSome}
use Rattle.std.specs.List.{Contains}
use Rattle.std.proofs.lemmas.Option.{same_Some}
use Rattle.mtp_codes.specs.declared.command.Command.{Command}
use Rattle.mtp_codes.specs.declared.command.Command.TheVariants as command
use Rattle.mtp_codes.specs.declared.mode.Speaker.TheVariants.{Recipe}
use Rattle.mtp_codes.specs.declared.state.State.{State}
use Rattle.mtp_codes.specs.declared.state.State.TheVariants as state
use Rattle.mtp_machine.specs.Machine.{command_target}
use Rattle.mtp_modes.specs.declared.view.ServiceView.{ServiceView}
use Rattle.chart_core.specs.Active.{Phase, idle, started, finished, was_reset, phase_after, active_steps, is_active}
use Rattle.chart_core.specs.Entries.{chart_entry}
use Rattle.chart_core.specs.Roles.{PlainChart, role_names}
use Rattle.chart_core.specs.Trees.{PlainStep, Placed, steps}
use Rattle.chart_core.specs.declared.entry.LogEntry.{LogEntry}
use Rattle.chart_core.specs.declared.entry.LogEntry.TheVariants.{Start, Finish, Reset, End, Stop, Asked}
use Rattle.chart_core.proofs.Lawful.{roles_of_steps}
use Rattle.chart_cursor.specs.Commands.{Sent, sent_by, is_step_entry, IsOfStep, IsPermittedIn}
use Rattle.chart_cursor.specs.Next.{next_after}
use Rattle.chart_cursor.specs.declared.next.CursorNext.TheVariants.{Entry}
use Rattle.chart_cursor.specs.Sights.{Sights, tag_of}
use Rattle.chart_cursor.proofs.Commanding.{next_of_run, commands_permitted, steps_of_chart}
use Rattle.pol_history.specs.Looking.{History, past, recipes}
use Rattle.pol_history.specs.Batches.{Started, start_of, chart_named, outcome_of, holder_of, log_of}
use Rattle.pol_history.specs.Following.{sights_by}
use Rattle.pol_safety.proofs.Forbidding.{unforbidden}
use Rattle.pol_events.specs.declared.event.Bind.{Bind}
use Rattle.pol_history.specs.Runs.{IsLegal, IsOrderly}
use Rattle.pol_history.specs.Modules.{view_of}
use Rattle.pol_safety.proofs.Seen.{seen_of, tag_of_bound}
use Rattle.pol_safety.proofs.Starts.{sound, IsRunning, running_fits}
use Rattle.pol_safety.proofs.Courses.{all_follow}
use Rattle.pol_safety.proofs.Holding.{holds_step}
use Rattle.pol_stillness.specs.Apart.{is_due, waits_in, OwedIsNotSent}
use Rattle.pol_stillness.proofs.Alone.{steps_alone}
use Rattle.pol_events.proofs.Lists.{among_member, member_kept}
use Rattle.pol_events.proofs.Options.{some_same}
use Rattle.pol_history.proofs.Binds.{IsFitting}
use Rattle.chart_cursor.specs.Logs.{chart_entries}
use Rattle.pol_events.specs.Bound.{bound_role, bound_tag, given}
use Rattle.pol_events.proofs.Played.{bind_for}

-- ---- an entry that sends a command

-- an entry of a run that sends a command is one of a step
pub sends_step : (entry : LogEntry) (sent : Sent) → is_some (chart_entry entry) ≡ true → sent_by entry ≡ Some sent
    → is_step_entry entry ≡ true
sends_step (Start step tag service procedure) sent run sends = refl
sends_step (Finish step tag service) sent run sends = refl
sends_step (Reset step tag service) sent run sends = refl
sends_step (End step) sent run sends = refl
sends_step (Stop step tag service) sent run sends = cc
sends_step (Asked tag service given) sent run sends = cc
sends_step _ sent run sends = cc

-- it goes to the step's module and service
pub sent_of_step : (seen : Sights) (step : PlainStep) (entry : LogEntry) (sent : Sent) → IsOfStep seen step entry
    → sent_by entry ≡ Some sent →
    (sent.tag ≡ tag_of seen step.role) × (sent.service ≡ step.service)
sent_of_step seen step (Start name tag service procedure) sent own sends =
    let same = sym (same_Some _ sent sends) in (
      ap (λ (s : Sent). s.tag) same ∙ own.1,
      ap (λ (s : Sent). s.service) same
          ∙ own.2,
    )
sent_of_step seen step (Finish name tag service) sent own sends =
    let same = sym (same_Some _ sent sends) in (
      ap (λ (s : Sent). s.tag) same ∙ own.1,
      ap (λ (s : Sent). s.service) same
          ∙ own.2,
    )
sent_of_step seen step (Reset name tag service) sent own sends =
    let same = sym (same_Some _ sent sends) in (
      ap (λ (s : Sent). s.tag) same ∙ own.1,
      ap (λ (s : Sent). s.service) same
          ∙ own.2,
    )
sent_of_step seen step (End name) sent own sends = cc
sent_of_step seen step _ sent own sends = absurd own

-- in Idle and in Execute, where a start or a finish waits to be answered, what is due next leads nowhere
idle_complete : command_target state.Idle command.Complete ≡ None
unfolding command_target
idle_complete = refl

-- so it is of a reset in Idle
idle_reset : command_target state.Idle command.Reset ≡ None
unfolding command_target
idle_reset = refl

-- and in Execute
execute_reset : command_target state.Execute command.Reset ≡ None
unfolding command_target
execute_reset = refl

-- so it is in the state and by the command that are meant
there : (one now : State) (given : Command) (sent : Sent) → one ≡ now → given ≡ sent.command
    → command_target one given ≡ None → command_target now sent.command ≡ None
there one now given sent at is none = subst (λ n. command_target n sent.command ≡ None) at
    (subst (λ c. command_target one c ≡ None) is none)

-- a due entry sends no command that leaves the state in which the step's service waits
no_command : (phase : Phase) (entry : LogEntry) (sent : Sent) (now : State) → waits_in phase ≡ Some now
    → is_due phase entry ≡ true → sent_by entry ≡ Some sent
    → command_target now sent.command ≡ None
no_command idle entry sent now waits due sends = cc
no_command started (Finish name tag service) sent now waits due sends =
    there state.Idle now command.Complete sent (same_Some _ now waits)
    (ap (λ (s : Sent). s.command) (same_Some _ sent sends)) idle_complete
no_command started (Reset name tag service) sent now waits due sends =
    there state.Idle now command.Reset sent (same_Some _ now waits)
    (ap (λ (s : Sent). s.command) (same_Some _ sent sends)) idle_reset
no_command started _ sent now waits due sends = cc
no_command finished (Reset name tag service) sent now waits due sends =
    there state.Execute now command.Reset sent (same_Some _ now waits)
    (ap (λ (s : Sent). s.command) (same_Some _ sent sends)) execute_reset
no_command finished _ sent now waits due sends = cc
no_command was_reset (End name) sent now waits due sends = cc
no_command was_reset _ sent now waits due sends = cc

-- ---- roles and tags

-- two roles that have one tag are one role
one_role : (chart : PlainChart) (binds : List Bind) (one other tag : List ℕ) → IsFitting chart binds
    → bound_tag binds one ≡ Some tag → bound_tag binds other ≡ Some tag → one ≡ other
one_role chart binds one other tag fits first second =
    let (a, inside, tag_a, role_a) = bind_for binds one tag first in
    let (b, within, tag_b, role_b) = bind_for binds other tag second in
    let x : bound_role binds tag ≡ Some a.role = ap (bound_role binds) (sym tag_a) ∙ fits.paired.by_tag a inside in
    let y : bound_role binds tag ≡ Some b.role = ap (bound_role binds) (sym tag_b) ∙ fits.paired.by_tag b within in
    sym role_a ∙ some_same (bound_role binds tag) a.role b.role x y ∙ role_b

-- ---- the law

-- what is sent was permitted by what is seen now
leads : (history : History) (binds : List Bind) (sent : Sent) (view : ServiceView)
    → IsPermittedIn (sights_by binds (λ tag. past tag history)) sent →
    view_of history sent.tag sent.service ≡ Some view → command_target view.control.state sent.command ≡ None → ⊥
leads history binds sent view (by_recipe, (role, now, tag_is, at, free)) seen none =
    let (live, view_is) = seen_of history binds role sent.service now at in
    let same : live.tag ≡ sent.tag = sym (tag_of_bound history binds role live.tag live.bound) ∙ tag_is in
    let its : view_of history sent.tag sent.service ≡ Some now =
    ap (λ tag. view_of history tag sent.service) (sym same) ∙ live.live.seen ∙ ap Some view_is in
    let one : now ≡ view = some_same (view_of history sent.tag sent.service) now view its seen in
    let permitted = unforbidden now Recipe sent.command free in
    led (command_target view.control.state sent.command) none
    (subst (λ v. IsSome (command_target v.control.state sent.command)) one permitted.leads)
  where
    led : (target : Option State) → target ≡ None → IsSome target → ⊥
    led None none is = cc
    led (Some state) none is = cc

-- the batch that is owed goes on itself
same_batch : (history : History) (tag service batch : List ℕ) (begun : Started) (chart : PlainChart) (entry : LogEntry)
    (sent : Sent) (placed : Placed) (view : ServiceView) →
    IsLegal history → IsOrderly history → start_of history batch ≡ Some begun
    → chart_named begun.recipe (recipes history) ≡ Some chart → outcome_of history batch ≡ None →
    Contains (active_steps chart (chart_entries (log_of history batch))) placed
    → bound_tag (given begun.binds) placed.step.role ≡ Some tag → placed.step.service ≡ service →
    view_of history tag service ≡ Some view → waits_in
    (phase_after (chart_entries (log_of history batch)) placed.step.name) ≡ Some view.control.state →
    next_after chart (chart_entries (log_of history batch)) (sights_by (given begun.binds) (λ tag. past tag history))
    ≡ Entry entry →
    sent_by entry ≡ Some sent → sent.tag ≡ tag → sent.service ≡ service → ⊥
same_batch history tag service batch begun chart entry sent placed view legal orderly start_is chart_is unclosed inside
    bound service_owed seen waits next sends tag_is service_is =
    let log = chart_entries (log_of history batch) in
    let sights = sights_by (given begun.binds) (λ tag. past tag history) in
    let running : IsRunning history batch begun chart =
    record { start_is = start_is; chart_is = chart_is; unclosed = unclosed } in
    let fits = running_fits history batch begun chart legal orderly running in
    let valid = (sound history legal orderly begun.recipe chart chart_is).valid in
    let partial = (all_follow history legal orderly batch begun chart start_is chart_is).partial in
    let stepped = sends_step entry sent (next_of_run chart log sights entry next) sends in
    let one = steps_alone chart log sights entry valid partial next stepped in
    let to = sent_of_step sights one.step entry sent one.own sends in
    let own = fits.bound one.step.role (among_member (role_names chart) one.step.role
    (roles_of_steps chart (record { number = one.number; step = one.step }) valid one.within)) in
    let its : own.0 ≡ tag =
    sym (tag_of_bound history (given begun.binds) one.step.role own.0 own.1) ∙ sym to.0 ∙ tag_is in
    let role : placed.step.role ≡ one.step.role =
    one_role chart (given begun.binds) placed.step.role one.step.role tag fits bound (own.1 ∙ ap Some its) in
    let due = one.alone placed inside role (service_owed ∙ sym service_is ∙ to.1) in
    let none = no_command (phase_after log placed.step.name) entry sent view.control.state waits due.1 sends in
    let at : view_of history sent.tag sent.service ≡ Some view
    = ap (λ t. view_of history t sent.service) tag_is ∙ ap (view_of history tag) service_is ∙ seen in
    leads history (given begun.binds) sent view (commands_permitted chart log sights entry sent next sends) at none

-- a batch that sends a command has a step on its module
sends_bound : (history : History) (batch : List ℕ) (begun : Started) (chart : PlainChart) (entry : LogEntry)
    (sent : Sent) →
    IsLegal history → IsOrderly history → start_of history batch ≡ Some begun
    → chart_named begun.recipe (recipes history) ≡ Some chart → outcome_of history batch ≡ None →
    next_after chart (chart_entries (log_of history batch)) (sights_by (given begun.binds) (λ tag. past tag history))
    ≡ Entry entry → sent_by entry ≡ Some sent →
    (placed : Placed) × Contains (steps chart.root 0) placed
    × (bound_tag (given begun.binds) placed.step.role ≡ Some sent.tag)
sends_bound history batch begun chart entry sent legal orderly start_is chart_is unclosed next sends =
    let log = chart_entries (log_of history batch) in
    let sights = sights_by (given begun.binds) (λ tag. past tag history) in
    let running : IsRunning history batch begun chart =
    record { start_is = start_is; chart_is = chart_is; unclosed = unclosed } in
    let fits = running_fits history batch begun chart legal orderly running in
    let valid = (sound history legal orderly begun.recipe chart chart_is).valid in
    let stepped = sends_step entry sent (next_of_run chart log sights entry next) sends in
    let (placed, inside, own) = steps_of_chart chart log sights entry next stepped in
    let to = sent_of_step sights placed.step entry sent own sends in
    let tag = fits.bound placed.step.role (among_member (role_names chart) placed.step.role
    (roles_of_steps chart placed valid inside)) in (
      placed,
      inside,
      tag.1
          ∙ ap Some (sym (tag_of_bound history (given begun.binds) placed.step.role tag.0 tag.1) ∙ sym to.0),
    )

-- while a service is owed a report
pub owed_not_sent : OwedIsNotSent
owed_not_sent history tag service batch begun chart entry sent legal orderly owed start_is chart_is unclosed next sends
    tag_is service_is =
    let bound = sends_bound history batch begun chart entry sent legal orderly start_is chart_is unclosed next sends in
    let one : holder_of history tag ≡ Some batch
    = holds_step history batch begun chart bound.0 tag legal orderly
    (record { start_is = start_is; chart_is = chart_is; unclosed = unclosed }) bound.1 (bound.2 ∙ ap Some tag_is) in
    let other : holder_of history tag ≡ Some owed.batch
    = holds_step history owed.batch owed.started owed.chart owed.placed tag legal orderly
    (record { start_is = owed.start_is; chart_is = owed.chart_is; unclosed = owed.unclosed })
    (member_kept (is_active (chart_entries (log_of history owed.batch))) (steps owed.chart.root 0) owed.placed
    owed.inside).0 owed.bound in
    let same : batch ≡ owed.batch = some_same (holder_of history tag) batch owed.batch one other in
    let begun_is : begun ≡ owed.started
    = some_same (start_of history owed.batch) begun owed.started (ap (start_of history) (sym same) ∙ start_is)
    owed.start_is in
    let plan : chart ≡ owed.chart
    = some_same (chart_named owed.started.recipe (recipes history)) chart owed.chart
    (ap (λ (s : Started). chart_named s.recipe (recipes history)) (sym begun_is) ∙ chart_is) owed.chart_is in
    let its : next_after owed.chart (chart_entries (log_of history owed.batch))
    (sights_by (given owed.started.binds) (λ tag. past tag history)) ≡ Entry entry
    = ap (λ c. next_after c (chart_entries (log_of history owed.batch))
    (sights_by (given owed.started.binds) (λ tag. past tag history))) (sym plan)
    ∙ ap (λ b. next_after chart (chart_entries (log_of history b))
    (sights_by (given owed.started.binds) (λ tag. past tag history))) (sym same)
    ∙ ap (λ (s : Started). next_after chart (chart_entries (log_of history batch))
    (sights_by (given s.binds) (λ tag. past tag history))) (sym begun_is) ∙ next in
    same_batch history tag service owed.batch owed.started owed.chart entry sent owed.placed owed.view legal orderly
    owed.start_is owed.chart_is owed.unclosed
    owed.inside owed.bound owed.service_is owed.seen owed.waits its sends tag_is service_is
