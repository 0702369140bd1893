-- A command that a module takes keeps it in step, and its changes counted.
use Rattle.std.proofs.Common.{◌≡◌, ◌≤◌, ◌+◌, ℕ, Bool, true, false, cond, not, List, [], ◌∷◌, Option, Some, None, refl}
use Rattle.std.proofs.Common.{ap, sym, ◌∙◌, subst, arith}
use Rattle.std.specs.Prelude.{◌&&◌, ◌||◌, slice_get, slice_set, position, option_map, option_and_then, if◌then◌else◌}
use Rattle.std.specs.List.{list_any, AllByRecursion}
use Rattle.std.specs.Str.{bytes_eq}
use Rattle.std.proofs.lemmas.Option.{same_Some, get_or_from_slice_get}
use Rattle.std.proofs.lemmas.List.Quantifiers.{position-Some}
use Rattle.mtp_codes.specs.declared.command.Command.{Command}
use Rattle.mtp_codes.specs.declared.state.State.{State}
use Rattle.mtp_machine.specs.Machine.{command_target, same_state, same_command, every_state, every_command}
use Rattle.mtp_machine.proofs.EveryState.{of_each_state, of_each_command}
use Rattle.mtp_sim.specs.declared.service.SimService.{SimService}
use Rattle.mtp_assembly.specs.declared.control.ServiceControl.{ServiceControl}
use Rattle.mtp_desc.specs.Plain.{PlainDescription}
use Rattle.mtp_desc.specs.Lookup.{self_completes}
use Rattle.mtp_sim.specs.Ticks.{is_state, is_untold, is_silent, control_now, runs_through}
use Rattle.mtp_sim.specs.Sims.{PlainSim}
use Rattle.mtp_sim.specs.Commands.{sent_to, service_took, procedure_after, with_service, place_of, took_at}
use Rattle.mtp_sim.specs.Commands.{after_command}
use Rattle.mtp_codes.specs.declared.command.Command.TheVariants.{Complete}
use Rattle.mtp_codes.proofs.Names.{same_true}
use Rattle.pol_history.specs.Looking.{History}
use Rattle.pol_history.specs.Modules.{since_docking}
use Rattle.pol_site.specs.Sites.{PlainSite}
use Rattle.pol_site.specs.Stories.{controls_in}
use Rattle.pol_site.specs.Commanded.{changes_by, is_change_by, is_own_change}
use Rattle.pol_simulated.specs.Units.{IsTold, IsServiceTold, IsServiceCounted, IsInStep, IsCountedBy, changes_of}
use Rattle.pol_simulated.specs.Units.{service_called}
use Rattle.mtp_sim.specs.Told.{IsNext}
use Rattle.mtp_sim.proofs.Indexed.{named_set}
use Rattle.mtp_sim.proofs.Edges.{all_set, led_next, none_at, pending_none, same_state_is, state_refl}
use Rattle.pol_simulated.proofs.Called.{called_at, called_set, repeats_set, service_name}
use Rattle.pol_simulated.specs.Laws.{CommandsKeep, one_more}

-- the same target is reached from a state by one command alone
abbrev is_led : Option State → Option State → Bool
is_led None other = false
is_led (Some one) other = is_state one other

-- two commands lead to one target only where they are one
abbrev is_one : State → Command → Command → Bool
is_one state command other = not (is_led (command_target state command) (command_target state other)) || same_command
    command other

-- so it is of each two commands and each state
every_one : AllByRecursion (λ state. AllByRecursion
    (λ command. AllByRecursion (λ other. is_one state command other ≡ true) every_command) every_command) every_state
unfolding command_target
every_one = search

-- no command leads back to its state
every_leaves : AllByRecursion (λ state. AllByRecursion
    (λ command. is_state state (command_target state command) ≡ false) every_command) every_state
unfolding command_target
every_leaves = search

-- the same of any
one_command : (state : State) (command other : Command) → is_one state command other ≡ true
one_command state command other =
    of_each_command (λ other. is_one state command other ≡ true)
    (of_each_command (λ command. AllByRecursion (λ other. is_one state command other ≡ true) every_command)
    (of_each_state (λ state. AllByRecursion (λ command. AllByRecursion (λ other. is_one state command other ≡ true)
    every_command) every_command) every_one state) command) other

-- the same of any
leaves : (state : State) (command : Command) → is_state state (command_target state command) ≡ false
leaves state command =
    of_each_command (λ command. is_state state (command_target state command) ≡ false)
    (of_each_state (λ state. AllByRecursion (λ command. is_state state (command_target state command) ≡ false)
    every_command) every_leaves state) command

-- a service that is told is in the state that it told last
pub told_state : (s : SimService) → is_untold s ≡ false → is_state s.state s.last ≡ true
told_state s told = go (is_state s.state s.last) told
  where
    go : (b : Bool) → not b ≡ false → b ≡ true
    go true e = refl
    go false e = cc

-- two states that aren't one aren't the other way round
swapped : (one other : State) → same_state other one ≡ false → same_state one other ≡ false
swapped one other apart = go (same_state one other) refl
  where
    go : (b : Bool) → same_state one other ≡ b → b ≡ false
    go false is = refl
    go true is =
        let clash : true ≡ false = sym (state_refl other) ∙ ap (same_state other) (sym (same_state_is one other is)) ∙
        apart in cc

-- the state told last isn't the target of a command
pub moved_untold : (state target : State) (last : Option State) (command : Command) → is_state state last ≡ true
    → command_target state command ≡ Some target → is_state target last ≡ false
moved_untold state target None command is leads = cc
moved_untold state target (Some last) command is leads =
    let apart : is_state state (command_target state command) ≡ false = leaves state command in
    let other : same_state target state ≡ false = rw leads at apart in
    ap (λ l. is_state target (Some l)) (same_state_is last state is) ∙ swapped state target other

-- ---- one service

-- a service that takes a command has told what it had told
took_told : (d : PlainDescription) (s : SimService) (target : State) (procedure : ℕ) (command : Command)
    (controls : List ServiceControl) →
    is_untold s ≡ false → command_target s.state command ≡ Some target → IsTold d s controls
    → IsTold d (sent_to s target procedure) controls
took_told d s target procedure command controls told leads is =
    record {
      last = is.last;
      now = λ untold. absurd
          (clash (rw (moved_untold s.state target s.last command (told_state s told) leads) at untold));
    }
  where
    clash : true ≡ false → ⊥
    clash e = cc

-- the change that it makes is one more of its command's alone
led_by : (completes : ℕ → Bool) (state target : State) (command other : Command) (old new : ServiceControl)
    → old.state ≡ state → new.state ≡ target →
    command_target state command ≡ Some target
    → (if is_change_by completes other old new then 1 else 0) ≤ (if same_command command other then 1 else 0)
led_by completes state target command other old new at to leads =
    go (is_state new.state (command_target old.state other)) (same_command command other)
    (is_own_change completes old new)
    (λ led. one led)
  where
    one : is_state new.state (command_target old.state other) ≡ true → same_command command other ≡ true
    one led =
        let led' : is_led (command_target state command) (command_target state other) ≡ true =
        ap (λ t. is_led t (command_target state other)) leads ∙ ap (λ n. is_state n (command_target state other))
        (sym to)
        ∙ ap (λ o. is_state new.state (command_target o other)) (sym at) ∙ led in
        let fact = one_command state command other in rw led' at fact

    go : (led same own : Bool) → (led ≡ true → same ≡ true)
        → (if led && not own then 1 else 0) ≤ (if same then 1 else 0)
    go false true own e = omega arith
    go false false own e = omega arith
    go true true true e = omega arith
    go true true false e = omega arith
    go true false own e = let clash : false ≡ true = e refl in cc

-- a command that it takes adds one change of that command at most
took_counted : (d : PlainDescription) (s : SimService) (target : State) (procedure : ℕ) (command other : Command)
    (controls : List ServiceControl) (sent : ℕ) →
    is_untold s ≡ false → command_target s.state command ≡ Some target → IsTold d s controls
    → changes_of d s.name other s controls ≤ sent →
    changes_of d s.name other (sent_to s target procedure) controls ≤ sent +
    (if same_command command other then 1 else 0)
took_counted d s target procedure command other [] sent told leads is was = let none = is.now told in cc
took_counted d s target procedure command other (old ∷ older) sent told leads is was =
    let at : old ≡ control_now d s = same_Some old (control_now d s) (is.now told) in
    let completes : ℕ → Bool = λ procedure. self_completes s.name procedure d in
    let new = control_now d (sent_to s target procedure) in
    let led = led_by completes s.state target command other old new (ap (λ (c : ServiceControl). c.state) at) refl leads
    in
    let before : changes_by completes other (old ∷ older) ≤ sent = rw told at was in
    rw (moved_untold s.state target s.last command (told_state s told) leads) (omega (arith, led, before))

-- ---- a module

-- the item at the place that is found passes the test
position_passes : {A : Type 0} (test : A → Bool) (xs : List A) (i : ℕ) (x : A) → position test xs ≡ Some i
    → slice_get xs i ≡ Some x → test x ≡ true
position_passes test xs i x at is = ap test (sym (get_or_from_slice_get xs i x x is)) ∙ (position-Some test xs i x at).1

-- more may have been sent
pub more_counted : (d : PlainDescription) (name : List ℕ) (found : Option SimService) (controls : List ServiceControl)
    (sent more : Command → ℕ) →
    ((command : Command) → sent command ≤ more command) → IsServiceCounted d name found controls sent
    → IsServiceCounted d name found controls more
more_counted d name None controls sent more fits was = tt
more_counted d name (Some s) controls sent more fits was = λ command. omega (arith, was command, fits command)

-- one more command is more
more_sent : (service name : List ℕ) (command : Command) (sent : List ℕ → Command → ℕ) (other : Command)
    → sent name other ≤ one_more service command sent name other
more_sent service name command sent other = omega arith

-- a service that took a command
record Taken (d : PlainDescription) (s : SimService) (command : Command) (after : SimService) : Type 0 where
  target : State
  procedure : ℕ
  leads : command_target s.state command ≡ Some target
  is : after ≡ sent_to s target procedure

-- what it did
taken_as : (d : PlainDescription) (s : SimService) (command : Command) (procedure : ℕ) (after : SimService)
    → service_took d s command procedure ≡ Some after → Taken d s command after
taken_as d s command procedure after took =
    go (same_command command Complete && runs_through d s) (command_target s.state command)
    (procedure_after d s command procedure) refl took
  where
    go : (through : Bool) (target : Option State) (runs : Option ℕ) → command_target s.state command ≡ target →
        (if through then None else option_and_then (λ state. option_map (sent_to s state) runs) target) ≡ Some after
        → Taken d s command after
    go true target runs leads is = cc
    go false None runs leads is = cc
    go false (Some target) None leads is = cc
    go false (Some target) (Some runs) leads is =
        record {
          target = target;
          procedure = runs;
          leads = leads;
          is = sym (same_Some (sent_to s target runs) after is);
        }

-- the service at a place takes the command
took_kept : (site : PlainSite) (tag : List ℕ) (past : History) (sim : PlainSim) (sent : List ℕ → Command
    → ℕ) (service : List ℕ) (command : Command) (place : ℕ) (s : SimService)
    (target : State) (procedure : ℕ) → slice_get sim.services place ≡ Some s → bytes_eq s.name service ≡ true
    → is_untold s ≡ false → command_target s.state command ≡ Some target →
    IsInStep site tag past sim → IsCountedBy sent past sim →
    IsInStep site tag past (with_service sim place (sent_to s target procedure))
    × IsCountedBy (one_more service command sent) past (with_service sim place (sent_to s target procedure))
took_kept site tag past sim sent service command place s target procedure at named told leads step counts = (
  record {
    described = step.described;
    planned = step.planned;
    named = named_set sim.services place s after at refl ∙ step.named;
    unlike_services = repeats_set service_name sim.services place s after at refl ∙ step.unlike_services;
    unlike_drifts = step.unlike_drifts;
    next = all_set IsNext sim.services place after step.next (led_next s target procedure command told leads);
    services = λ name. rw (found name) (services name (bytes_eq s.name name) refl);
    drifts = step.drifts;
  },
  λ name. rw (found name) (counting name (bytes_eq s.name name) refl),
)
  where
    after : SimService
    after = sent_to s target procedure

    found : (name : List ℕ) → service_called name (slice_set sim.services place after) ≡ cond (bytes_eq s.name name)
        (Some after) (service_called name sim.services)
    found name = called_set service_name sim.services place s after name step.unlike_services at refl

    controls : List ℕ → List ServiceControl
    controls name = controls_in name (since_docking past)

    before : (name : List ℕ) → bytes_eq s.name name ≡ true → IsTold sim.description s (controls name)
    before name is = subst (λ f. IsServiceTold sim.description f (controls name))
        (called_at service_name sim.services place s name step.unlike_services at is) (step.services name)

    services : (name : List ℕ) (here : Bool) → bytes_eq s.name name ≡ here →
        IsServiceTold sim.description (cond here (Some after) (service_called name sim.services)) (controls name)
    services name true is = took_told sim.description s target procedure command (controls name) told leads
        (before name is)
    services name false is = step.services name

    counting : (name : List ℕ) (here : Bool) → bytes_eq s.name name ≡ here →
        IsServiceCounted sim.description name (cond here (Some after) (service_called name sim.services))
        (controls name) (one_more service command sent name)
    counting name true is = λ other.
        let its : s.name ≡ name = same_true s.name name is in
        let was : changes_of sim.description name other s (controls name) ≤ sent name other =
        subst (λ f. IsServiceCounted sim.description name f (controls name) (sent name))
        (called_at service_name sim.services place s name step.unlike_services at is) (counts name) other in
        let here : bytes_eq service name ≡ true =
        ap (λ n. bytes_eq n name) (sym (same_true s.name service named)) ∙ is in
        rw here (subst (λ n. changes_of sim.description n other after (controls name) ≤ sent name other +
        (if same_command command other then 1 else 0)) its
        (took_counted sim.description s target procedure command other (controls name) (sent name other) told leads
        (before name is)
        (subst (λ n. changes_of sim.description n other s (controls name) ≤ sent name other) (sym its) was)))
    counting name false is =
        more_counted sim.description name (service_called name sim.services) (controls name) (sent name)
        (one_more service command sent name)
        (more_sent service name command sent) (counts name)

-- a command to a module
pub commands_kept : CommandsKeep
commands_kept site tag past sim sent service command procedure calm step counts = go (place_of service sim) refl
  where
    same : IsInStep site tag past sim × IsCountedBy (one_more service command sent) past sim
    same = (
      step,
      λ name. more_counted sim.description name (service_called name sim.services)
          (controls_in name (since_docking past)) (sent name)
          (one_more service command sent name) (more_sent service name command sent) (counts name),
    )

    taking : (place : ℕ) (s : SimService) → place_of service sim ≡ Some place → slice_get sim.services place ≡ Some s
        → (taken : Option SimService)
        → service_took sim.description s command procedure ≡ taken →
        IsInStep site tag past (after_command sim (option_map (with_service sim place) taken))
        × IsCountedBy (one_more service command sent) past
        (after_command sim (option_map (with_service sim place) taken))
    taking place s in_place at None took = same
    taking place s in_place at (Some after) took =
        let its = taken_as sim.description s command procedure after took in
        let named = position_passes (λ each. bytes_eq each.name service) sim.services place s in_place at in
        let told = none_at is_untold sim.services place s
        (pending_none (list_any is_untold sim.services) (list_any is_silent sim.drifts) calm) at in
        rw its.is (took_kept site tag past sim sent service command place s its.target its.procedure at named told
        its.leads step counts)

    at_place : (place : ℕ) → place_of service sim ≡ Some place → (s : Option SimService)
        → slice_get sim.services place ≡ s →
        IsInStep site tag past (after_command sim
        (option_and_then (λ service. option_map (with_service sim place)
        (service_took sim.description service command procedure)) s))
        × IsCountedBy (one_more service command sent) past
        (after_command sim (option_and_then (λ service. option_map (with_service sim place)
        (service_took sim.description service command procedure)) s))
    at_place place in_place None at = same
    at_place place in_place (Some s) at = taking place s in_place at (service_took sim.description s command procedure)
        refl

    go : (place : Option ℕ) → place_of service sim ≡ place →
        IsInStep site tag past (after_command sim (option_and_then (took_at sim command procedure) place))
        × IsCountedBy (one_more service command sent) past
        (after_command sim (option_and_then (took_at sim command procedure) place))
    go None in_place = same
    go (Some place) in_place = at_place place in_place (slice_get sim.services place) refl
