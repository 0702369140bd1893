-- Which steps are active after one more entry, and where their services were reported.
use Rattle.std.proofs.Common.{◌≡◌, ℕ, Bool, true, false, List, [], ◌∷◌, ◌++◌, Option, Some, None, refl, ap, sym, ◌∙◌}
use Rattle.std.proofs.Common.{subst}
use Rattle.std.specs.List.{Contains}
use Rattle.mtp_codes.specs.declared.mode.Speaker.TheVariants.{Recipe}
use Rattle.mtp_codes.specs.declared.command.Command.TheVariants as command
use Rattle.mtp_codes.specs.Faults.{when}
use Rattle.mtp_codes.specs.Names.{same_name}
use Rattle.mtp_codes.proofs.Names.{same_true}
use Rattle.chart_core.specs.Active.{Phase, idle, started, finished, was_reset, or_earlier, last_of, phase_by, or_idle}
use Rattle.chart_core.specs.Active.{is_running, is_active}
use Rattle.chart_core.specs.Roles.{PlainChart, role_names}
use Rattle.chart_core.specs.Trees.{Placed, steps}
use Rattle.chart_core.specs.Valid.{IsValid}
use Rattle.chart_core.specs.declared.entry.LogEntry.{LogEntry}
use Rattle.chart_core.specs.declared.entry.LogEntry.TheVariants.{Start, Finish, Reset, End, Stop, Left}
use Rattle.chart_core.proofs.Latest.{last_pushed}
use Rattle.chart_core.proofs.Lawful.{names_tell_steps, roles_of_steps}
use Rattle.chart_cursor.specs.Commands.{Sent, IsPermittedIn}
use Rattle.chart_cursor.specs.Next.{next_after}
use Rattle.chart_cursor.specs.Sights.{tag_of}
use Rattle.chart_cursor.specs.declared.next.CursorNext.TheVariants.{Entry}
use Rattle.chart_cursor.proofs.Commanding.{commands_permitted, steps_of_chart}
use Rattle.chart_cursor.specs.Logs.{chart_entries}
use Rattle.pol_events.specs.declared.event.Bind.{Bind}
use Rattle.pol_history.specs.Looking.{History, past}
use Rattle.pol_history.specs.Following.{sights_by}
use Rattle.pol_events.proofs.Lists.{among_member}
use Rattle.pol_history.proofs.Binds.{IsFitting}
use Rattle.pol_safety.specs.Kept.{IsLive, IsSeen}
use Rattle.pol_safety.proofs.Seen.{seen_of, tag_of_bound}
use Rattle.pol_safety.proofs.Nexts.{ComesFrom, stops, leaves, breaks, holds, unholds, runs}

-- ---- the phase after one more entry

-- a step is active after one more entry where it was so before, or where the entry makes it so
pub data ActiveBy (log : List LogEntry) (entry : LogEntry) (placed : Placed) : Type 0 where
  was_active : is_active log placed ≡ true → ActiveBy log entry placed
  made_active : (phase : Phase) → phase_by placed.step.name entry ≡ Some phase → is_running phase ≡ true
      → ActiveBy log entry placed

-- a step that is active after an entry was made so by it, or was active before
pub active_by : (log : List LogEntry) (entry : LogEntry) (placed : Placed)
    → is_active (log ++ entry ∷ []) placed ≡ true → ActiveBy log entry placed
active_by log entry placed is =
    go (phase_by placed.step.name entry) refl
    (ap (λ found. is_running (or_idle found)) (sym (last_pushed (phase_by placed.step.name) log entry)) ∙ is)
  where
    go : (said : Option Phase) → phase_by placed.step.name entry ≡ said
        → is_running (or_idle (or_earlier said (last_of (phase_by placed.step.name) log))) ≡ true →
        ActiveBy log entry placed
    go None says is = was_active is
    go (Some phase) says is = made_active phase says is

-- ---- a step that an entry of the run makes active

-- a phase that was found here says that it is here
where_some : (here : Bool) (phase found : Phase) → when here phase ≡ Some found → here ≡ true
where_some true phase found is = refl
where_some false phase found is = cc

-- what is seen of the service to which a command of a step goes is what is seen of the step's
commanded_seen : (history : History) (binds : List Bind) (chart : PlainChart) (placed : Placed) (sent : Sent)
    → IsFitting chart binds → IsValid chart →
    Contains (steps chart.root 0) placed → sent.tag ≡ tag_of
    (sights_by binds (λ tag. past tag history)) placed.step.role → sent.service ≡ placed.step.service →
    IsPermittedIn (sights_by binds (λ tag. past tag history)) sent
    → IsSeen (λ tag. past tag history) binds placed.step.role placed.step.service
commanded_seen history binds chart placed sent fits valid inside tag_is service_is
    (by_recipe, (role, view, role_is, at, free)) =
    let (seen, is) = seen_of history binds role sent.service view at in
    let own = fits.bound placed.step.role (among_member (role_names chart) placed.step.role
    (roles_of_steps chart placed valid inside)) in
    let one : seen.tag ≡ own.0
    = sym (tag_of_bound history binds role seen.tag seen.bound) ∙ role_is ∙ tag_is
    ∙ tag_of_bound history binds placed.step.role own.0 own.1 in
    record {
      tag = seen.tag;
      bound = own.1 ∙ ap Some (sym one);
      live = subst (λ service. IsLive service (past seen.tag history)) service_is seen.live;
    }

-- and so where the command is of a step with its name
step_seen : (history : History) (binds : List Bind) (chart : PlainChart) (placed other : Placed) (sent : Sent)
    (name : List ℕ) → IsFitting chart binds → IsValid chart →
    Contains (steps chart.root 0) placed → Contains (steps chart.root 0) other → same_name name placed.step.name ≡ true
    → name ≡ other.step.name →
    sent.tag ≡ tag_of (sights_by binds (λ tag. past tag history)) other.step.role → sent.service ≡ other.step.service →
    IsPermittedIn (sights_by binds (λ tag. past tag history)) sent
    → IsSeen (λ tag. past tag history) binds placed.step.role placed.step.service
step_seen history binds chart placed other sent name fits valid inside within is name_is tag_is service_is permitted =
    let own = names_tell_steps chart other placed valid within inside
    (sym name_is ∙ same_true name placed.step.name is) in
    commanded_seen history binds chart placed sent fits valid inside
    (tag_is ∙ ap (λ p. tag_of (sights_by binds (λ tag. past tag history)) p.step.role) own)
    (service_is ∙ ap (λ p. p.step.service) own) permitted

-- an idle step isn't running
stays_idle : {A : Type 0} (here : Bool) (phase : Phase) → when here idle ≡ Some phase → is_running phase ≡ true → A
stays_idle true idle says running = cc
stays_idle true started says running = cc
stays_idle true finished says running = cc
stays_idle true was_reset says running = cc
stays_idle false phase says running = cc

-- an entry of the run that makes a step active commands its service, which was seen
run_seen : (history : History) (binds : List Bind) (chart : PlainChart) (log : List LogEntry) (entry : LogEntry)
    (placed : Placed) (phase : Phase) →
    IsFitting chart binds → IsValid chart → Contains (steps chart.root 0) placed →
    next_after chart log (sights_by binds (λ tag. past tag history)) ≡ Entry entry
    → phase_by placed.step.name entry ≡ Some phase → is_running phase ≡ true →
    IsSeen (λ tag. past tag history) binds placed.step.role placed.step.service
run_seen history binds chart log (Start step tag service procedure) placed phase fits valid inside is says running =
    let of = steps_of_chart chart log (sights_by binds (λ tag. past tag history))
    (Start step tag service procedure) is refl in
    step_seen history binds chart placed of.0 (record {
      speaker = Recipe;
      tag = tag;
      service = service;
      command =
          command.Start;
    }) step fits valid inside of.1
    (where_some (same_name step placed.step.name) started phase says) of.2.0 of.2.1 of.2.2
    (commands_permitted chart log (sights_by binds (λ tag. past tag history))
    (Start step tag service procedure) _ is refl)
run_seen history binds chart log (Finish step tag service) placed phase fits valid inside is says running =
    let of = steps_of_chart chart log (sights_by binds (λ tag. past tag history)) (Finish step tag service) is refl in
    step_seen history binds chart placed of.0
    (record {
      speaker = Recipe;
      tag = tag;
      service = service;
      command = command.Complete;
    }) step fits valid inside of.1
    (where_some (same_name step placed.step.name) finished phase says) of.2.0 of.2.1 of.2.2
    (commands_permitted chart log (sights_by binds (λ tag. past tag history)) (Finish step tag service) _ is refl)
run_seen history binds chart log (Reset step tag service) placed phase fits valid inside is says running =
    let of = steps_of_chart chart log (sights_by binds (λ tag. past tag history)) (Reset step tag service) is refl in
    step_seen history binds chart placed of.0 (record {
      speaker = Recipe;
      tag = tag;
      service = service;
      command =
          command.Reset;
    }) step fits valid inside of.1
    (where_some (same_name step placed.step.name) was_reset phase says) of.2.0 of.2.1 of.2.2
    (commands_permitted chart log (sights_by binds (λ tag. past tag history)) (Reset step tag service) _ is refl)
run_seen history binds chart log (End step) placed phase fits valid inside is says running =
    stays_idle (same_name step placed.step.name) phase says running
run_seen history binds chart log (Stop step tag service) placed phase fits valid inside is says running =
    stays_idle (same_name step placed.step.name) phase says running
run_seen history binds chart log (Left step state) placed phase fits valid inside is says running =
    stays_idle (same_name step placed.step.name) phase says running
run_seen history binds chart log _ placed phase fits valid inside is says running = cc

-- what a batch does next makes a step active only where its service was seen
pub next_seen : (history : History) (binds : List Bind) (chart : PlainChart) (log : List LogEntry) (entry : LogEntry)
    (placed : Placed) (phase : Phase) →
    IsFitting chart binds → IsValid chart → Contains (steps chart.root 0) placed
    → ComesFrom chart log (sights_by binds (λ tag. past tag history)) entry →
    phase_by placed.step.name entry ≡ Some phase → is_running phase ≡ true
    → IsSeen (λ tag. past tag history) binds placed.step.role placed.step.service
next_seen history binds chart log entry placed phase fits valid inside (stops step view at free is) says running =
    stays_idle (same_name step.name placed.step.name) phase (ap (phase_by placed.step.name) (sym is) ∙ says) running
next_seen history binds chart log entry placed phase fits valid inside (leaves name state is) says running =
    stays_idle (same_name name placed.step.name) phase (ap (phase_by placed.step.name) (sym is) ∙ says) running
next_seen history binds chart log entry placed phase fits valid inside (breaks name state is) says running =
    let none = ap (phase_by placed.step.name) (sym is) ∙ says in cc
next_seen history binds chart log entry placed phase fits valid inside (holds hold) says running =
    let none = ap (phase_by placed.step.name) (sym hold.is) ∙ says in cc
next_seen history binds chart log entry placed phase fits valid inside (unholds unhold) says running =
    let none = ap (phase_by placed.step.name) (sym unhold.is) ∙ says in cc
next_seen history binds chart log entry placed phase fits valid inside (runs is) says running =
    run_seen history binds chart (chart_entries log) entry placed phase fits valid inside is says running
