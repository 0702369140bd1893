-- A tick keeps a module in step, and its changes counted.
use Rattle.std.proofs.Common.{◌≡◌, ◌≤◌, ◌+◌, ℕ, Bool, true, false, cond, not, List, [], ◌∷◌, Option, Some, None, refl}
use Rattle.std.proofs.Common.{ap, sym, ◌∙◌, subst, arith, length, ℤ, ◌-◌}
use Rattle.std.specs.Prelude.{◌&&◌, ◌||◌, nat_le, slice_set, option_map, if◌then◌else◌}
use Rattle.std.specs.Option.{option_or}
use Rattle.mtp_codes.specs.declared.value.Value.TheVariants.{Whole}
use Rattle.pol_history.specs.Modules.{value_by}
use Rattle.pol_site.specs.Plans.{whole_in}
use Rattle.std.specs.List.{cons_option}
use Rattle.std.specs.Str.{bytes_eq}
use Rattle.mtp_codes.specs.declared.command.Command.{Command}
use Rattle.mtp_codes.specs.declared.state.State.{State}
use Rattle.mtp_codes.proofs.Names.{same_true}
use Rattle.mtp_codes.specs.Repeats.{repeats_by}
use Rattle.std.proofs.lemmas.Option.{same_Some}
use Rattle.std.proofs.lemmas.Bool.{and_from}
use Rattle.mtp_machine.specs.Machine.{own_target, command_target}
use Rattle.mtp_assembly.specs.declared.control.ServiceControl.{ServiceControl}
use Rattle.mtp_desc.specs.Plain.{PlainDescription}
use Rattle.mtp_desc.specs.Lookup.{self_completes}
use Rattle.mtp_sim.specs.declared.service.SimService.{SimService}
use Rattle.mtp_sim.specs.declared.drift.SimDrift.{SimDrift}
use Rattle.mtp_sim.specs.Ticks.{drift_here, drift_report, ticked_at_drift, value_told, is_executing, variable_report}
use Rattle.mtp_sim.specs.Ticks.{moved, drifts_after, reported_at, service_here, service_report, limit_of}
use Rattle.mtp_sim.specs.Ticks.{ticked_service, ticked_at, report_of, ticked, tick_report, control_now, is_untold}
use Rattle.mtp_sim.specs.Ticks.{is_state, changes, service_ticked, is_reported, moved_on, told, counted}
use Rattle.mtp_sim.specs.Sims.{PlainSim, drift_in}
use Rattle.pol_history.specs.Looking.{History}
use Rattle.pol_history.specs.Modules.{since_docking}
use Rattle.pol_site.specs.Sites.{PlainSite}
use Rattle.pol_site.specs.Stories.{controls_in, times_sent}
use Rattle.pol_site.specs.Commanded.{changes_by, is_own_change}
use Rattle.pol_simulated.specs.Units.{told as told_of, heard, plan_in, IsInStep, IsInStepWith, IsCounted}
use Rattle.pol_simulated.specs.Units.{IsServiceCounted, IsDriftTold, drift_called, newest, IsTold, IsServiceTold}
use Rattle.pol_simulated.specs.Units.{changes_of, is_same_service, service_called}
use Rattle.mtp_sim.proofs.Edges.{name_ticked, next_ticked_at, state_refl}
use Rattle.mtp_sim.proofs.Indexed.{named_set}
use Rattle.pol_simulated.proofs.Called.{called_at, called_set, map_set, repeats_set, service_name}
use Rattle.pol_simulated.specs.Laws.{TicksKeep}

-- ---- one service

-- a tick of the service keeps what it told
step_told : (d : PlainDescription) (limit : ℕ) (s : SimService) (controls : List ServiceControl) → IsTold d s controls →
    IsTold d (service_ticked d limit s) (cond (is_reported d limit s)
    (control_now d (service_ticked d limit s) ∷ controls) controls)
step_told d limit s controls is = go (is_untold s) (changes d s) (nat_le limit (s.count + 1)) (own_target s.state) refl
    refl
  where
    go : (untold changing ripe : Bool) (target : Option State) → changes d s ≡ changing → own_target s.state ≡ target →
        IsTold d (cond untold (told s) (cond changing (cond ripe (moved_on s target) (counted s)) s))
        (cond (untold || (changing && ripe)) (control_now d
        (cond untold (told s) (cond changing (cond ripe (moved_on s target) (counted s)) s)) ∷ controls) controls)
    go true changing ripe target e f = record { last = refl; now = λ _. refl }
    go false false ripe target e f = is
    go false true false target e f = record { last = is.last; now = is.now }
    go false true true None e f = let clash : false ≡ true = sym (rw f refl) ∙ e in cc
    go false true true (Some state) e f = record { last = refl; now = λ _. refl }

-- the commands' changes of a list with one more change that none of them made
uncounted : (completes : ℕ → Bool) (command : Command) (new old : ServiceControl) (older : List ServiceControl)
    → is_own_change completes old new ≡ true
    → changes_by completes command (new ∷ old ∷ older) ≡ changes_by completes command (old ∷ older)
uncounted completes command new old older own = rw own (go (is_state new.state (command_target old.state command)))
  where
    go : (led : Bool) → (if led && not true then 1 else 0) + changes_by completes command (old ∷ older) ≡ changes_by
        completes command (old ∷ older)
    go true = omega arith
    go false = omega arith

-- a change of its own that the service tells is none that a command made
moved_counted : (d : PlainDescription) (s : SimService) (command : Command) (state : State)
    (controls : List ServiceControl) → newest controls ≡ Some (control_now d s)
    → changes d s ≡ true → own_target s.state ≡ Some state →
    changes_by (λ procedure. self_completes s.name procedure d) command
    (control_now d (moved_on s (Some state)) ∷ controls)
    ≡ changes_by (λ procedure. self_completes s.name procedure d) command controls
moved_counted d s command state [] at changing target = cc
moved_counted d s command state (old ∷ older) at changing target =
    let same : old ≡ control_now d s = same_Some old (control_now d s) at in
    let new = control_now d (moved_on s (Some state)) in
    let completes : ℕ → Bool = λ procedure. self_completes s.name procedure d in
    let own : is_own_change completes (control_now d s) new ≡ true =
    and_from (changes d s) (is_state state (own_target s.state)) changing (rw (target, state_refl state) refl) in
    uncounted completes command new old older (subst (λ c. is_own_change completes c new ≡ true) (sym same) own)

-- a tick of the service adds no change that a command made
step_counted : (d : PlainDescription) (limit : ℕ) (s : SimService) (controls : List ServiceControl) (command : Command)
    → IsTold d s controls →
    changes_of d s.name command (service_ticked d limit s)
    (cond (is_reported d limit s) (control_now d (service_ticked d limit s) ∷ controls) controls)
    ≡ changes_of d s.name command s controls
step_counted d limit s controls command is =
    go (is_untold s) (changes d s) (nat_le limit (s.count + 1)) (own_target s.state) refl refl refl
  where
    completes : ℕ → Bool
    completes procedure = self_completes s.name procedure d

    go : (untold changing ripe : Bool) (target : Option State) → is_untold s ≡ untold → changes d s ≡ changing
        → own_target s.state ≡ target →
        changes_of d s.name command (cond untold (told s) (cond changing (cond ripe (moved_on s target) (counted s)) s))
        (cond (untold || (changing && ripe)) (control_now d
        (cond untold (told s) (cond changing (cond ripe (moved_on s target) (counted s)) s)) ∷ controls) controls)
        ≡ changes_of d s.name command s controls
    go true changing ripe target u e f = rw (u, state_refl s.state) refl
    go false false ripe target u e f = refl
    go false true false target u e f = refl
    go false true true None u e f = let clash : false ≡ true = sym (rw f refl) ∙ e in cc
    go false true true (Some state) u e f =
        rw (state_refl state, u) (moved_counted d s command state controls (is.now u) e f)

-- ---- a module

-- what the service of this name told, where a tick looked at s and reports it or not
told_after : (d : PlainDescription) (s after : SimService) (name : List ℕ) (reports : Bool) (found : Option SimService)
    (controls : List ServiceControl) →
    (bytes_eq s.name name ≡ true → found ≡ Some s) → after.name ≡ s.name →
    (IsTold d s controls → IsTold d after (cond reports (control_now d after ∷ controls) controls))
    → IsServiceTold d found controls →
    IsServiceTold d (cond (bytes_eq s.name name) (Some after) found)
    (cond reports (cons_option (if bytes_eq after.name name then Some (control_now d after) else None) controls)
    controls)
told_after d s after name reports found controls finds named steps was =
    go (bytes_eq s.name name) (bytes_eq after.name name) refl (ap (λ n. bytes_eq n name) named)
  where
    same : (reports : Bool) → cond reports controls controls ≡ controls
    same true = refl
    same false = refl

    go : (here there : Bool) → bytes_eq s.name name ≡ here → there ≡ here →
        IsServiceTold d (cond here (Some after) found)
        (cond reports (cons_option (if there then Some (control_now d after) else None) controls) controls)
    go true there is also = rw also (steps (subst (λ f. IsServiceTold d f controls) (finds is) was))
    go false there is also = rw (also, same reports) was

-- the same of the changes that commands made
counted_after : (d : PlainDescription) (s after : SimService) (name : List ℕ) (reports : Bool)
    (found : Option SimService) (controls : List ServiceControl)
    (sent : Command → ℕ) → (bytes_eq s.name name ≡ true → found ≡ Some s) → after.name ≡ s.name →
    (bytes_eq s.name name ≡ true → (command : Command)
    → changes_of d s.name command after (cond reports (control_now d after ∷ controls) controls) ≡ changes_of d
    s.name command s controls) →
    IsServiceCounted d name found controls sent →
    IsServiceCounted d name (cond (bytes_eq s.name name) (Some after) found)
    (cond reports (cons_option (if bytes_eq after.name name then Some (control_now d after) else None) controls)
    controls) sent
counted_after d s after name reports found controls sent finds named steps was =
    go (bytes_eq s.name name) (bytes_eq after.name name) refl (ap (λ n. bytes_eq n name) named)
  where
    same : (reports : Bool) → cond reports controls controls ≡ controls
    same true = refl
    same false = refl

    go : (here there : Bool) → bytes_eq s.name name ≡ here → there ≡ here →
        IsServiceCounted d name (cond here (Some after) found)
        (cond reports (cons_option (if there then Some (control_now d after) else None) controls) controls) sent
    go true there is also =
        let before = subst (λ f. IsServiceCounted d name f controls sent) (finds is) was in
        let its : s.name ≡ name = same_true s.name name is in
        rw also (λ command. subst (λ n. changes_of d n command after
        (cond reports (control_now d after ∷ controls) controls) ≤ sent command) its
        (subst (λ k. k ≤ sent command) (sym (steps is command))
        (subst (λ n. changes_of d n command s controls ≤ sent command) (sym its) (before command))))
    go false there is also = rw (also, same reports) was

-- a tick that looks at a service
service_kept : (site : PlainSite) (tag : List ℕ) (past looked : History) (sim : PlainSim) (s : SimService)
    → service_here sim ≡ Some s →
    IsInStep site tag past sim → IsCounted tag past looked sim →
    IsInStep site tag (told_of tag (service_report sim s) past) (ticked_at sim (Some s))
    × IsCounted tag (told_of tag (service_report sim s) past) looked (ticked_at sim (Some s))
service_kept site tag past looked sim s at step counts = go (is_reported sim.description (limit_of sim s) s) refl
  where
    d : PlainDescription
    d = sim.description

    after : SimService
    after = ticked_service sim s

    named : after.name ≡ s.name
    named = name_ticked d (limit_of sim s) s

    found : (name : List ℕ) → service_called name (slice_set sim.services sim.place after) ≡ cond (bytes_eq s.name name)
        (Some after) (service_called name sim.services)
    found name = called_set service_name sim.services sim.place s after name step.unlike_services at named

    finds : (name : List ℕ) → bytes_eq s.name name ≡ true → service_called name sim.services ≡ Some s
    finds name is = called_at service_name sim.services sim.place s name step.unlike_services at is

    controls : List ℕ → List ServiceControl
    controls name = controls_in name (since_docking past)

    unlike : repeats_by is_same_service (slice_set sim.services sim.place after) ≡ false
    unlike = repeats_set service_name sim.services sim.place s after at named ∙ step.unlike_services

    steps : (name : List ℕ) (b : Bool) → is_reported d (limit_of sim s) s ≡ b → IsTold d s (controls name)
        → IsTold d after (cond b (control_now d after ∷ controls name) (controls name))
    steps name b is was = subst (λ b. IsTold d after (cond b (control_now d after ∷ controls name) (controls name))) is
        (step_told d (limit_of sim s) s (controls name) was)

    changing : (name : List ℕ) (b : Bool) → is_reported d (limit_of sim s) s ≡ b → IsTold d s (controls name)
        → (command : Command) →
        changes_of d s.name command after (cond b (control_now d after ∷ controls name) (controls name)) ≡ changes_of d
        s.name command s (controls name)
    changing name b is was command =
        subst (λ b. changes_of d s.name command after (cond b (control_now d after ∷ controls name) (controls name))
        ≡ changes_of d s.name command s (controls name)) is
        (step_counted d (limit_of sim s) s (controls name) command was)

    counted_of : (name : List ℕ) (reports : Bool) →
        (IsTold d s (controls name) → (command : Command)
        → changes_of d s.name command after (cond reports (control_now d after ∷ controls name) (controls name))
        ≡ changes_of d s.name command s (controls name)) →
        IsServiceCounted d name (cond (bytes_eq s.name name) (Some after) (service_called name sim.services))
        (cond reports (cons_option (if bytes_eq after.name name then Some (control_now d after) else None)
        (controls name)) (controls name))
        (λ command. times_sent tag name command looked)
    counted_of name reports changing =
        counted_after d s after name reports (service_called name sim.services) (controls name)
        (λ command. times_sent tag name command looked) (finds name) named
        (λ is. changing (subst (λ f. IsServiceTold d f (controls name)) (finds name is) (step.services name)))
        (counts name)

    -- in step with what it told then
    stands : (reports : Bool) → is_reported d (limit_of sim s) s ≡ reports →
        IsInStepWith
        (record (heard site tag past) {
          controls = λ name. cond reports (cons_option (if bytes_eq after.name name then Some (control_now d after)
              else None) (controls name)) (controls name);
        }) d (plan_in sim) (slice_set sim.services sim.place after) sim.drifts
    stands reports is =
        record {
          described = step.described;
          planned = step.planned;
          named = named_set sim.services sim.place s after at named ∙ step.named;
          unlike_services = unlike;
          unlike_drifts = step.unlike_drifts;
          next = next_ticked_at d (limit_of sim s) sim.services sim.place s step.next at;
          services = λ name. rw (found name) (told_after d s after name reports (service_called name sim.services)
              (controls name) (finds name) named (steps name _ is) (step.services name));
          drifts = step.drifts;
        }

    go : (reports : Bool) → is_reported d (limit_of sim s) s ≡ reports →
        IsInStep site tag (told_of tag (cond reports (Some (report_of d after)) None) past) (ticked_at sim (Some s))
        × IsCounted tag (told_of tag (cond reports (Some (report_of d after)) None) past) looked
        (ticked_at sim (Some s))
    go true is = (stands true is, λ name. rw (found name) (counted_of name true (changing name _ is)))
    go false is = (stands false is, λ name. rw (found name) (counted_of name false (changing name _ is)))

-- the name of a drift
abbrev drift_name : SimDrift → List ℕ
drift_name drift = drift.name

-- a tick that looks at a drift
drift_kept : (site : PlainSite) (tag : List ℕ) (past looked : History) (sim : PlainSim) (drift : SimDrift)
    → drift_here sim ≡ Some drift →
    IsInStep site tag past sim → IsCounted tag past looked sim →
    IsInStep site tag (told_of tag (drift_report sim (Some drift)) past) (ticked_at_drift sim (Some drift))
    × IsCounted tag (told_of tag (drift_report sim (Some drift)) past) looked (ticked_at_drift sim (Some drift))
drift_kept site tag past looked sim drift at step counts = go (value_told (is_executing sim.services) drift)
  where
    values : (name : List ℕ) (value : ℤ) (here : Bool) →
        IsDriftTold (cond here (Some (reported_at drift value)) (drift_called name sim.drifts))
        (whole_in (option_or (if here then Some (Whole value) else None) (value_by name past)))
    values name value true = refl
    values name value false = step.drifts name

    go : (value : Option ℤ) →
        IsInStep site tag (told_of tag (option_map (variable_report drift.name) value) past)
        (moved sim sim.services (drifts_after sim.drifts (sim.place - length sim.services) drift value))
        × IsCounted tag (told_of tag (option_map (variable_report drift.name) value) past) looked
        (moved sim sim.services (drifts_after sim.drifts (sim.place - length sim.services) drift value))
    go None = (step, counts)
    go (Some value) = (
      record {
        described = step.described;
        planned = step.planned ∙ ap (λ drifts. Some (record { ticks = sim.ticks; run = sim.run; drifts = drifts }))
            (sym (map_set drift_in sim.drifts (sim.place - length sim.services) drift
            (reported_at drift value) at refl));
        named = step.named;
        unlike_services = step.unlike_services;
        unlike_drifts = repeats_set drift_name sim.drifts (sim.place - length sim.services) drift
            (reported_at drift value) at refl ∙ step.unlike_drifts;
        next = step.next;
        services = step.services;
        drifts = λ name. rw (called_set drift_name sim.drifts (sim.place - length sim.services) drift
            (reported_at drift value) name step.unlike_drifts at refl)
            (values name value (bytes_eq drift.name name));
      },
      counts,
    )

-- a tick of a module
pub ticks_kept : TicksKeep
ticks_kept site tag past looked sim step counts = go (service_here sim) refl (drift_here sim) refl
  where
    go : (s : Option SimService) → service_here sim ≡ s → (drift : Option SimDrift) → drift_here sim ≡ drift →
        IsInStep site tag (told_of tag (tick_report sim) past) (ticked sim) × IsCounted tag
        (told_of tag (tick_report sim) past) looked (ticked sim)
    go (Some s) at drift in_place = rw at (service_kept site tag past looked sim s at step counts)
    go None at (Some drift) in_place = rw (at, in_place)
        (drift_kept site tag past looked sim drift in_place step counts)
    go None at None in_place = rw (at, in_place) (step, counts)
