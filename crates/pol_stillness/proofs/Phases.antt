-- How a simulated service stands to the commands that were sent to it.
use Rattle.std.proofs.Common.{◌≡◌, ◌+◌, ℕ, Bool, true, false, cond, not, List, [], ◌∷◌, Option, Some, None, refl, ap}
use Rattle.std.proofs.Common.{sym, ◌∙◌, subst}
use Rattle.std.specs.Prelude.{◌&&◌, ◌||◌, is_some, nat_le, option_map, option_and_then, unwrap_or, if◌then◌else◌}
use Rattle.std.specs.Option.{option_or}
use Rattle.std.specs.Str.{bytes_eq}
use Rattle.std.proofs.lemmas.Bool.{and_from}
use Rattle.std.proofs.lemmas.Option.{same_Some}
use Rattle.mtp_codes.specs.declared.command.Command.{Command}
use Rattle.mtp_codes.specs.declared.command.Command.TheVariants as command
use Rattle.mtp_codes.specs.declared.state.State.{State}
use Rattle.mtp_codes.proofs.Names.{same_refl}
use Rattle.mtp_machine.specs.Machine.{command_target, own_target, same_command}
use Rattle.mtp_assembly.specs.declared.control.ServiceControl.{ServiceControl}
use Rattle.mtp_modes.specs.declared.view.ServiceView.{ServiceView}
use Rattle.mtp_desc.specs.Plain.{PlainDescription}
use Rattle.mtp_desc.specs.Lookup.{self_completes}
use Rattle.mtp_sim.specs.declared.service.SimService.{SimService}
use Rattle.mtp_sim.specs.Ticks.{control_in, control_now, is_untold, changes, changes_in, runs_through, moved_on, told}
use Rattle.mtp_sim.specs.Ticks.{counted, service_ticked, is_reported}
use Rattle.mtp_sim.specs.Commands.{asked_procedure, procedure_after, sent_to}
use Rattle.chart_core.specs.Entries.{chart_entry}
use Rattle.chart_core.specs.declared.entry.LogEntry.{LogEntry}
use Rattle.chart_core.specs.declared.entry.LogEntry.TheVariants.{Start, Finish, Reset, Stop, Asked}
use Rattle.chart_cursor.specs.Commands.{Sent, sent_by}
use Rattle.pol_events.specs.Events.{advance, report, PlainEntry}
use Rattle.pol_events.specs.declared.answer.Answer.TheVariants.{Done, Did}
use Rattle.pol_history.specs.Looking.{History, past, last_of}
use Rattle.pol_history.specs.Modules.{is_moving, since_docking, control_by, description_by, completes_by, seen_with}
use Rattle.pol_history.specs.Batches.{taken}
use Rattle.pol_history.proofs.Accepted.{paired}
use Rattle.pol_site.specs.Stories.{story, if_to, is_for, started_in, procedure_started, answering, is_answered}
use Rattle.pol_site.specs.Stories.{controls_in}
use Rattle.pol_simulated.specs.Units.{newest}
use Rattle.pol_simulated.proofs.Taking.{moved_untold, told_state}
use Rattle.mtp_sim.proofs.Edges.{told_last, name_ticked}
use Rattle.pol_stillness.specs.Phases.{asked_in, is_changed, wanted, IsPhase, told_after, TicksKeepPhases, TakesSettle}
use Rattle.pol_stillness.specs.Phases.{SendsGive}
use Rattle.pol_stillness.proofs.Desks.{view_control}
use Rattle.pol_simulated.proofs.Reports.{last_newest}
use Rattle.pol_stillness.proofs.Carried.{undescribed}
use Rattle.mtp_sim.proofs.Edges.{state_refl}

-- ---- ticks

-- a service that tells or moves on is told
told_now : (s : SimService) → is_changed (told s) ≡ false
told_now s = ap (λ b. not b && true) (state_refl s.state)

-- a change of its own is told with it
moved_now : (s : SimService) (state : State) → is_changed (moved_on s (Some state)) ≡ false
moved_now s state = ap (λ b. not b && true) (state_refl state)

-- a report of the service answers
answers : (tag : List ℕ) (name : List ℕ) (control : ServiceControl) (old : History)
    → is_answered tag (paired (report 0 tag name control) Done ∷ old) name ≡ true
answers tag name control old =
    ap (λ b. unwrap_or (option_or (if is_some (if b then Some control else None) then Some true else None)
    (last_of (answering tag name) (since_docking old))) true) (same_refl name)

-- a tick keeps a service settled
settled_ticked : (d : PlainDescription) (tag : List ℕ) (limit : ℕ) (s : SimService) (old : History)
    → IsPhase d tag old s None → IsPhase d tag (told_after d tag limit s old) (service_ticked d limit s) None
settled_ticked d tag limit s old is = go (is_untold s) (changes d s) (nat_le limit (s.count + 1)) (own_target s.state)
    refl refl refl
  where
    after : Bool → Bool → Bool → Option State → SimService
    after untold changing ripe target = cond untold (told s)
        (cond changing (cond ripe (moved_on s target) (counted s)) s)

    go : (untold changing ripe : Bool) (target : Option State) → is_untold s ≡ untold → changes d s ≡ changing
        → own_target s.state ≡ target →
        IsPhase d tag
        (cond (untold || (changing && ripe))
        (paired (report 0 tag s.name (control_now d (after untold changing ripe target))) Done ∷ old) old)
        (after untold changing ripe target) None
    go true changing ripe target u e f = record
        { runs = is.runs; answered = answers tag s.name (control_now d (told s)) old ∙ ap not (sym (told_now s)) }
    go false false ripe target u e f = is
    go false true false target u e f = record { runs = is.runs; answered = is.answered }
    go false true true None u e f = let clash : false ≡ true = sym (rw f refl) ∙ e in cc
    go false true true (Some state) u e f =
        record {
          runs = is.runs;
          answered = answers tag s.name (control_now d (moved_on s (Some state))) old ∙ ap not
              (sym (moved_now s state));
        }

-- with a command ahead the service doesn't change
given_unreported : (d : PlainDescription) (limit : ℕ) (s : SimService) → is_untold s ≡ false → changes d s ≡ false
    → (is_reported d limit s ≡ false) × (service_ticked d limit s ≡ s)
given_unreported d limit s tells still = (rw (tells, still) refl, rw (tells, still) refl)

-- a tick leaves the procedure
ticked_procedure : (d : PlainDescription) (limit : ℕ) (s : SimService)
    → (service_ticked d limit s).procedure ≡ s.procedure
ticked_procedure d limit s = go (is_untold s) (changes d s) (nat_le limit (s.count + 1)) (own_target s.state)
  where
    go : (untold changing ripe : Bool) (target : Option State)
        → (cond untold (told s) (cond changing (cond ripe (moved_on s target) (counted s)) s)).procedure ≡ s.procedure
    go true changing ripe target = refl
    go false false ripe target = refl
    go false true false target = refl
    go false true true None = refl
    go false true true (Some state) = refl

-- a tick of a service, settled or given a command
pub ticks_phased : TicksKeepPhases
ticks_phased d tag limit s old None is =
    record {
      phase = settled_ticked d tag limit s old is;
      due = λ reports past described.
          let runs : (service_ticked d limit s).procedure ≡ procedure_started tag s.name old =
          ticked_procedure d limit s ∙ sym is.runs in
          let name = name_ticked d limit s in
          ap (λ n. control_in (self_completes n (service_ticked d limit s).procedure d)
          (service_ticked d limit s).procedure (service_ticked d limit s).state) name
          ∙ ap (λ p. control_in (self_completes s.name p d) p (service_ticked d limit s).state) runs
          ∙ ap (λ f. control_in (completes_by s.name (procedure_started tag s.name old) f)
          (procedure_started tag s.name old) (service_ticked d limit s).state) (sym described);
    }
ticks_phased d tag limit s old (Some entry) is =
    let none = given_unreported d limit s is.tells is.still in
    record {
      phase =
          subst (λ b. IsPhase d tag (if b then record
          { event = report 0 tag s.name (control_now d (service_ticked d limit s)); answer = Done } ∷ old else old)
          (service_ticked d limit s) (Some entry)) (sym none.0)
          (subst (λ t. IsPhase d tag old t (Some entry)) (sym none.1) is);
      due = λ reports past described. let clash : false ≡ true = sym none.0 ∙ reports in cc;
    }

-- ---- a command that is taken

-- a service that was told is changed by a command that leads somewhere
taken_changed : (s : SimService) (target : State) (given : Command) (procedure : ℕ) → is_untold s ≡ false
    → command_target s.state given ≡ Some target
    → is_changed (sent_to s target procedure) ≡ true
taken_changed s target given procedure tells leads =
    rw (moved_untold s.state target s.last given (told_state s tells) leads) (ap is_some (told_last s tells))

-- a service takes the command that is ahead
pub takes_settled : TakesSettle
takes_settled d tag s old entry given =
    record {
      after = sent_to s given.target (procedure_started tag s.name old);
      took =
          ap (λ b. if b then None else option_and_then
          (λ state. option_map (sent_to s state) (procedure_after d s given.sent.command (asked_in entry)))
          (command_target s.state given.sent.command)) given.waits
          ∙ ap (λ t. option_and_then (λ state. option_map (sent_to s state)
          (procedure_after d s given.sent.command (asked_in entry))) t) given.leads
          ∙ ap (λ p. option_map (sent_to s given.target) p) given.runs;
      name_is = refl;
      settled = record {
        runs = refl;
        answered =
            given.unanswered
            ∙ ap not (sym (taken_changed s given.target given.sent.command (procedure_started tag s.name old)
            given.tells given.leads));
      };
    }

-- ---- other entries

-- another entry leaves what a story wants of a service
pub wanted_same : (tag name : List ℕ) (old : History) (entry : PlainEntry) → is_moving entry.event ≡ false
    → answering tag name entry ≡ None
    → ((d : Option PlainDescription) → started_in tag name d (taken entry.answer) ≡ None)
    → wanted tag name (entry ∷ old) ≡ wanted tag name old
wanted_same tag name old entry moves silent starts = λ i. record { procedure = runs i; answered = answered i }
  where
    description : description_by (entry ∷ old) ≡ description_by old
    description = ap (λ (f : Option PlainDescription). option_or f (description_by old)) (undescribed entry.event moves)

    runs : procedure_started tag name (entry ∷ old) ≡ procedure_started tag name old
    runs =
        ap (λ f. unwrap_or (last_of (λ each. started_in tag name f (taken each.answer)) (since_docking (entry ∷ old)))
        0) description
        ∙ ap (λ b. unwrap_or (last_of (λ each. started_in tag name (description_by old) (taken each.answer))
        (if b then [] else entry ∷ since_docking old)) 0) moves
        ∙ ap (λ found. unwrap_or (option_or found
        (last_of (λ each. started_in tag name (description_by old) (taken each.answer)) (since_docking old))) 0)
        (starts (description_by old))

    answered : is_answered tag (entry ∷ old) name ≡ is_answered tag old name
    answered =
        ap (λ b. unwrap_or (last_of (answering tag name) (if b then [] else entry ∷ since_docking old)) true) moves
        ∙ ap (λ found. unwrap_or (option_or found (last_of (answering tag name) (since_docking old))) true) silent

-- ---- a command that is sent

-- what is seen of a service was reported, with what the description says
view_self : (service : List ℕ) (description : Option PlainDescription) (found : Option ServiceControl)
    (view : ServiceView) → option_map (seen_with service description) found ≡ Some view
    → view.self_completes ≡ completes_by service view.control.procedure description
view_self service description None view is = cc
view_self service description (Some control) view is =
    let same = same_Some (seen_with service description control) view is in
    subst (λ (v : ServiceView). v.self_completes ≡ completes_by service v.control.procedure description) same refl

-- a service that told a state, and took no command since, has told the state in which it is
told_one : (s : SimService) (one : State) → s.last ≡ Some one → is_changed s ≡ false → is_untold s ≡ false
told_one s one last unchanged = go (is_untold s) (ap (λ b. is_untold s && is_some b) (sym last) ∙ unchanged)
  where
    go : (b : Bool) → (b && true) ≡ false → b ≡ false
    go true is = cc
    go false is = refl

-- what is there is something
some_of : {A : Type 0} (found : Option A) → is_some found ≡ true → (x : A) × (found ≡ Some x)
some_of None is = cc
some_of (Some x) is = (x, refl)

-- what is the contrary of false is true, the other way round
not_true : (b : Bool) → true ≡ not b → b ≡ false
not_true true is = cc
not_true false is = refl

-- a command that is sent
pub sends_given : SendsGive
sends_given d s older at batch did sent run sends named law is_described step starts settled =
    record {
      sent = sent;
      sends = sends;
      tells = tells;
      still = ap (λ v. changes_in v s.state) (sym self) ∙ ap
          (λ (c : ServiceControl). changes_in law.view.self_completes c.state) (sym now) ∙ law.still;
      unanswered = unanswered;
      target = leads.0;
      leads = leads.1;
      waits = ap (λ v. same_command sent.command command.Complete && v) (sym self) ∙ law.permitted.completes;
      runs = runs did run sends starts;
    }
  where
    old : History
    old = story sent.tag older

    control : control_by s.name (past sent.tag older) ≡ Some law.view.control
    control =
        ap (λ n. control_by n (past sent.tag older)) (sym named)
        ∙ view_control (control_by sent.service (past sent.tag older)) law.view
        (seen_with sent.service (description_by (past sent.tag older))) (λ c. refl) law.seen

    newest_is : newest (controls_in s.name (since_docking (past sent.tag older))) ≡ Some law.view.control
    newest_is = sym (last_newest s.name (since_docking (past sent.tag older))) ∙ control

    tells : is_untold s ≡ false
    tells =
        told_one s law.view.control.state (sym step.last ∙ ap (option_map (λ (c : ServiceControl). c.state)) newest_is)
        (not_true (is_changed s) (sym law.answered ∙ ap (λ n. is_answered sent.tag old n) named ∙ settled.answered))

    now : law.view.control ≡ control_now d s
    now = same_Some law.view.control (control_now d s) (sym newest_is ∙ step.now tells)

    self : law.view.self_completes ≡ runs_through d s
    self =
        view_self sent.service (description_by (past sent.tag older)) (control_by sent.service (past sent.tag older))
        law.view law.seen
        ∙ ap (λ f. completes_by sent.service law.view.control.procedure f) is_described
        ∙ ap (λ n. self_completes n law.view.control.procedure d) named
        ∙ ap (λ (c : ServiceControl). self_completes s.name c.procedure d) now

    leads : (target : State) × (command_target s.state sent.command ≡ Some target)
    leads =
        let there = some_of (command_target law.view.control.state sent.command) law.permitted.leads in
        (there.0, ap (λ (c : ServiceControl). command_target c.state sent.command) (sym now) ∙ there.1)

    for_it : is_for s.name (if_to sent.tag (sent_by did)) ≡ true
    for_it =
        ap (λ found. is_for s.name (if_to sent.tag found)) sends
        ∙ ap (λ b. is_for s.name (if b then Some sent else None)) (same_refl sent.tag)
        ∙ ap (λ n. bytes_eq n s.name) named ∙ same_refl s.name

    unanswered : is_answered sent.tag (paired (advance at batch) (Did did) ∷ old) s.name ≡ false
    unanswered = ap (λ b. unwrap_or (option_or (if b then Some false else None)
        (last_of (answering sent.tag s.name) (since_docking old))) true) for_it

    Runs : LogEntry → Type 0
    Runs did = procedure_after d s sent.command (asked_in did) ≡ Some
        (procedure_started sent.tag s.name (paired (advance at batch) (Did did) ∷ old))

    runs : (did : LogEntry) → is_some (chart_entry did) ≡ true → sent_by did ≡ Some sent
        → ((step tag named : List ℕ) (procedure : ℕ) → did ≡ Start step tag named procedure
        → asked_procedure s.name procedure d ≡ Some procedure) → Runs did
    runs (Start step tag service procedure) run sends starts =
        let its = same_Some _ sent sends in
        let tag_is : bytes_eq tag sent.tag ≡ true =
        ap (λ (x : Sent). bytes_eq x.tag sent.tag) its ∙ same_refl sent.tag in
        let service_is : bytes_eq service s.name ≡ true =
        ap (λ (x : Sent). bytes_eq x.service s.name) its ∙ ap (λ n. bytes_eq n s.name) named ∙ same_refl s.name in
        ap (λ (x : Sent). procedure_after d s x.command procedure) (sym its) ∙ starts step tag service procedure refl
        ∙ ap (λ b. Some (unwrap_or (option_or (if b then Some procedure else None)
        (last_of (λ each. started_in sent.tag s.name (description_by old) (taken each.answer)) (since_docking old)))
        0))
        (sym (and_from (bytes_eq tag sent.tag) (bytes_eq service s.name) tag_is service_is))
    runs (Finish step tag service) run sends starts =
        ap (λ (x : Sent). procedure_after d s x.command 0) (sym (same_Some _ sent sends)) ∙ ap Some (sym settled.runs)
    runs (Reset step tag service) run sends starts =
        ap (λ (x : Sent). procedure_after d s x.command 0) (sym (same_Some _ sent sends)) ∙ ap Some (sym settled.runs)
    runs (Stop step tag service) run sends starts = cc
    runs (Asked tag service given) run sends starts = cc
    runs _ run sends starts = cc
