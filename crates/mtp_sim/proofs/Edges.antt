-- What a simulated module reports follows the edges of the state machine.
use Rattle.std.proofs.Common.{◌≡◌, ℕ, suc, zero, ℤ, ◌+◌, Bool, true, false, cond, not, List, [], ◌∷◌, map, Option, Some}
use Rattle.std.proofs.Common.{None, IfSome, refl, ap, sym, ◌∙◌, subst, inl, inr}
use Rattle.std.specs.Prelude.{◌&&◌, ◌||◌, nat_le, slice_get, slice_set, option_map, option_and_then, if◌then◌else◌}
use Rattle.std.specs.List.{list_any, AllByRecursion}
use Rattle.std.proofs.lemmas.Option.{same_Some}
use Rattle.std.proofs.lemmas.Bool.{eqb-true}
use Rattle.mtp_codes.specs.Codes.{state_number, state_codes, state_of}
use Rattle.mtp_codes.specs.declared.command.Command.{Command}
use Rattle.mtp_codes.specs.declared.command.Command.TheVariants.{Complete}
use Rattle.mtp_codes.specs.declared.state.State.{State}
use Rattle.mtp_machine.specs.Machine.{every_state, every_command, own_target, command_target, is_edge, same_state}
use Rattle.mtp_machine.specs.Machine.{same_command}
use Rattle.mtp_machine.proofs.EveryState.{of_each_state, of_each_command}
use Rattle.mtp_desc.specs.Plain.{PlainDescription, PlainService}
use Rattle.mtp_sim.specs.declared.service.SimService.{SimService}
use Rattle.mtp_sim.specs.declared.drift.SimDrift.{SimDrift}
use Rattle.mtp_sim.specs.Sims.{first_service}
use Rattle.mtp_sim.specs.Ticks.{is_state, is_untold, is_silent, is_executing, changes, told, moved_on, counted}
use Rattle.mtp_sim.specs.Ticks.{service_ticked, is_reported, limit_of, ticked_service, ticked_at, ticked_at_drift}
use Rattle.mtp_sim.specs.Ticks.{drift_here, drift_report, report_by, report_of, runs_through, value_told}
use Rattle.mtp_sim.specs.Ticks.{variable_report}
use Rattle.mtp_sim.specs.Commands.{sent_to, service_took, procedure_after, with_service, place_of, took_at}
use Rattle.mtp_sim.specs.Commands.{after_command}
use Rattle.mtp_sim.specs.Told.{MayTell, IsNext, AreNext, FollowsEdges, StayUntold, FirstModulesFollowEdges}
use Rattle.mtp_sim.specs.Told.{TicksFollowEdges, CommandsFollowEdges}

-- ---- the machine

-- a state that is there is one to which an edge leads
abbrev leads_along : State → Option State → Bool
leads_along from None = true
leads_along from (Some to) = is_edge from to

-- each change that a state makes by itself is along an edge
own_edges : AllByRecursion (λ state. leads_along state (own_target state) ≡ true) every_state
unfolding own_target is_edge
own_edges = search

-- so is each change that a command makes
command_edges : AllByRecursion (λ state. AllByRecursion
    (λ command. leads_along state (command_target state command) ≡ true) every_command) every_state
unfolding command_target is_edge
command_edges = search

-- the same, of two states
own_edge : (from to : State) → own_target from ≡ Some to → is_edge from to ≡ true
own_edge from to is = let fact = of_each_state (λ state. leads_along state (own_target state) ≡ true) own_edges
    from in rw is at fact

-- the same, of two states and a command
command_edge : (from to : State) (command : Command) → command_target from command ≡ Some to → is_edge from to ≡ true
command_edge from to command is =
    let fact = of_each_command (λ command. leads_along from (command_target from command) ≡ true)
    (of_each_state (λ state. AllByRecursion (λ command. leads_along state (command_target state command) ≡ true)
    every_command) command_edges from) command in
    rw is at fact

-- each state is found by its code
every_coded : AllByRecursion (λ state. state_of (state_number state) state_codes ≡ Some state) every_state
every_coded = search

-- states of one code are one state
pub same_state_is : (one other : State) → same_state one other ≡ true → one ≡ other
same_state_is one other is =
    let coded = of_each_state (λ state. state_of (state_number state) state_codes ≡ Some state) every_coded in
    same_Some one other (sym (coded one) ∙ ap (λ n. state_of n state_codes)
    (eqb-true (state_number one) (state_number other) is) ∙ coded other)

-- each state has its own code
every_same : AllByRecursion (λ (state : State). same_state state state ≡ true) every_state
every_same = search

-- so each state is the same as itself
pub state_refl : (state : State) → same_state state state ≡ true
state_refl state = of_each_state (λ state. same_state state state ≡ true) every_same state

-- ---- one service

-- a service that is told told its state last
pub told_last : (s : SimService) → is_untold s ≡ false → s.last ≡ Some s.state
told_last s told = go s.last refl told
  where
    go : (last : Option State) → s.last ≡ last → not (is_state s.state last) ≡ false → last ≡ Some s.state
    go None e t = cc
    go (Some last) e t = ap Some (same_state_is last s.state (holds (same_state last s.state) t))
      where
        holds : (b : Bool) → not b ≡ false → b ≡ true
        holds true e = refl
        holds false e = cc

-- a service that isn't told may tell its state
untold_may : (s : SimService) → is_untold s ≡ true → IsNext s → MayTell s.last s.state
untold_may s untold (inr may) = may
untold_may s untold (inl last) =
    let same : is_state s.state s.last ≡ true =
    ap (is_state s.state) last ∙ state_refl s.state in
    absurd (clash (ap not (sym same) ∙ untold))
  where
    clash : false ≡ true → ⊥
    clash e = cc

-- a service may report the state to which an edge leads from the one that it reported last
edge_may : (last : Option State) (from to : State) → last ≡ Some from → is_edge from to ≡ true → MayTell last to
edge_may last from to is edge = rw is edge

-- a tick that looks at a service leaves it where it may be
next_ticked : (d : PlainDescription) (limit : ℕ) (s : SimService) → IsNext s → IsNext (service_ticked d limit s)
next_ticked d limit s next = go (is_untold s) (changes d s) (nat_le limit (s.count + 1)) (own_target s.state)
  where
    go : (untold changing ripe : Bool) (target : Option State)
        → IsNext (cond untold (told s) (cond changing (cond ripe (moved_on s target) (counted s)) s))
    go true changing ripe target = inl refl
    go false false ripe target = next
    go false true false target = next
    go false true true None = next
    go false true true (Some state) = inl refl

-- a service that a tick reports is in a state that it may report
pub told_ticked : (d : PlainDescription) (limit : ℕ) (s : SimService) → IsNext s → is_reported d limit s ≡ true
    → MayTell s.last (service_ticked d limit s).state
told_ticked d limit s next reports = go (is_untold s) refl (changes d s) refl (nat_le limit (s.count + 1))
    (own_target s.state) refl reports
  where
    go : (untold : Bool) → is_untold s ≡ untold → (changing : Bool) → changes d s ≡ changing
        → (ripe : Bool) (target : Option State) → own_target s.state ≡ target
        → (untold || (changing && ripe)) ≡ true →
        MayTell s.last (cond untold (told s) (cond changing (cond ripe (moved_on s target) (counted s)) s)).state
    go true u changing c ripe target e r = untold_may s u next
    go false u false c ripe target e r = cc
    go false u true c false target e r = cc
    go false u true c true None e r = let clash : false ≡ true = sym (rw e refl) ∙ c in cc
    go false u true c true (Some state) e r = edge_may s.last s.state state (told_last s u) (own_edge s.state state e)

-- a tick leaves a service its name
pub name_ticked : (d : PlainDescription) (limit : ℕ) (s : SimService) → (service_ticked d limit s).name ≡ s.name
name_ticked d limit s = go (is_untold s) (changes d s) (nat_le limit (s.count + 1)) (own_target s.state)
  where
    go : (untold changing ripe : Bool) (target : Option State) →
        (cond untold (told s) (cond changing (cond ripe (moved_on s target) (counted s)) s)).name ≡ s.name
    go true changing ripe target = refl
    go false false ripe target = refl
    go false true false target = refl
    go false true true None = refl
    go false true true (Some state) = refl

-- a tick leaves a service in a state that isn't reported yet
stays_ticked : (d : PlainDescription) (limit : ℕ) (s : SimService) → is_untold s ≡ true
    → (service_ticked d limit s).state ≡ s.state
stays_ticked d limit s untold = rw untold refl

-- ---- lists

-- what holds of each item holds of the one at a place
pub all_at : {A : Type 0} (P : A → Type 0) (xs : List A) (i : ℕ) (x : A) → AllByRecursion P xs → slice_get xs i ≡ Some x
    → P x
all_at P [] i x all at = cc
all_at P (first ∷ others) zero x all at = subst P (same_Some first x at) all.0
all_at P (first ∷ others) (suc i) x all at = all_at P others i x all.1 at

-- what holds of each item and of one more holds of each after that one is put at a place
pub all_set : {A : Type 0} (P : A → Type 0) (xs : List A) (i : ℕ) (y : A) → AllByRecursion P xs → P y
    → AllByRecursion P (slice_set xs i y)
all_set P [] i y all holds = tt
all_set P (first ∷ others) zero y all holds = (holds, all.1)
all_set P (first ∷ others) (suc i) y all holds = (all.0, all_set P others i y all.1 holds)

-- where no item passes a test, the one at a place doesn't
pub none_at : {A : Type 0} (test : A → Bool) (xs : List A) (i : ℕ) (x : A) → list_any test xs ≡ false
    → slice_get xs i ≡ Some x → test x ≡ false
none_at test [] i x none at = cc
none_at {A} test (first ∷ others) i x none at = go (test first) refl none i at (none_at test others)
  where
    go : (b : Bool) → test first ≡ b → (b || list_any test others) ≡ false → (i : ℕ)
        → slice_get (first ∷ others) i ≡ Some x →
        ((i : ℕ) (x : A) → list_any test others ≡ false → slice_get others i ≡ Some x → test x ≡ false) → test x ≡ false
    go true is none i at again = cc
    go false is none zero at again = ap test (sym (same_Some first x at)) ∙ is
    go false is none (suc i) at again = again i x none at

-- an item that is put in place of another leaves what each place says, where it says the same as that other
said_set : {A B : Type 0} (says : A → B) (xs : List A) (place i : ℕ) (old new x : A) → slice_get xs place ≡ Some old
    → slice_get xs i ≡ Some x
    → (x ≡ old → says new ≡ says x) → option_map says (slice_get (slice_set xs place new) i) ≡ Some (says x)
said_set says [] place i old new x there at same = cc
said_set says (first ∷ others) zero zero old new x there at same =
    ap Some (same (sym (same_Some first x at) ∙ same_Some first old there))
said_set says (first ∷ others) zero (suc i) old new x there at same = ap (option_map says) at
said_set says (first ∷ others) (suc place) zero old new x there at same = ap (option_map says) at
said_set says (first ∷ others) (suc place) (suc i) old new x there at same =
    said_set says others place i old new x there at same

-- ---- a module

-- the services of a module at first are where they may be
pub firsts_next : (services : List PlainService) → AreNext (map (λ service. first_service service.name) services)
firsts_next [] = tt
firsts_next (service ∷ others) = (inr refl, firsts_next others)

-- so of every description
pub first_along : FirstModulesFollowEdges
first_along description plan = firsts_next description.services

-- a tick that looks at the service at a place leaves each where it may be
pub next_ticked_at : (d : PlainDescription) (limit : ℕ) (services : List SimService) (place : ℕ) (s : SimService)
    → AreNext services
    → slice_get services place ≡ Some s → AreNext (slice_set services place (service_ticked d limit s))
next_ticked_at d limit services place s next at =
    all_set IsNext services place (service_ticked d limit s) next
    (next_ticked d limit s (all_at IsNext services place s next at))

-- a tick of a module whose services are where they may be
pub ticks_along : TicksFollowEdges
ticks_along sim next =
    record {
      kept = kept (slice_get sim.services sim.place) refl;
      edges = edges (slice_get sim.services sim.place) refl;
      stays = stays;
    }
  where
    at_drift : (drift : Option SimDrift) → AreNext (ticked_at_drift sim drift).services
    at_drift None = next
    at_drift (Some drift) = next

    kept : (service : Option SimService) → slice_get sim.services sim.place ≡ service
        → AreNext (ticked_at sim service).services
    kept None at = at_drift (drift_here sim)
    kept (Some service) at = next_ticked_at sim.description (limit_of sim service) sim.services sim.place service next
        at

    tells : (service : SimService) → slice_get sim.services sim.place ≡ Some service → (reports : Bool)
        → is_reported sim.description (limit_of sim service) service ≡ reports →
        IfSome (if reports then Some (report_of sim.description (ticked_service sim service)) else None)
        (FollowsEdges sim)
    tells service at false is = tt
    tells service at true is =
        record {
          service = service;
          here = at;
          named = name_ticked sim.description (limit_of sim service) service;
          may = told_ticked sim.description (limit_of sim service) service
              (all_at IsNext sim.services sim.place service next at) is;
        }

    drifts : (drift : Option SimDrift) → IfSome (drift_report sim drift) (FollowsEdges sim)
    drifts None = tt
    drifts (Some drift) = go (value_told (is_executing sim.services) drift)
      where
        go : (value : Option ℤ) → IfSome (option_map (variable_report drift.name) value) (FollowsEdges sim)
        go None = tt
        go (Some value) = tt

    edges : (service : Option SimService) → slice_get sim.services sim.place ≡ service
        → IfSome (report_by sim service) (FollowsEdges sim)
    edges None at = drifts (drift_here sim)
    edges (Some service) at = tells service at (is_reported sim.description (limit_of sim service) service) refl

    state_of_drift : (drift : Option SimDrift) (place : ℕ) →
        option_map (λ after. after.state) (slice_get (ticked_at_drift sim drift).services place)
        ≡ option_map (λ after. after.state) (slice_get sim.services place)
    state_of_drift None place = refl
    state_of_drift (Some drift) place = refl

    stays_at : (looked : Option SimService) → slice_get sim.services sim.place ≡ looked
        → (place : ℕ) (service : SimService)
        → slice_get sim.services place ≡ Some service → is_untold service ≡ true →
        option_map (λ after. after.state) (slice_get (ticked_at sim looked).services place) ≡ Some service.state
    stays_at None looks place service at untold =
        state_of_drift (drift_here sim) place ∙ ap (option_map (λ after. after.state)) at
    stays_at (Some looked) looks place service at untold =
        said_set (λ after. after.state) sim.services sim.place place looked (ticked_service sim looked) service looks at
        (λ same. rw (sym same) (stays_ticked sim.description (limit_of sim service) service untold))

    stays : StayUntold sim (ticked_at sim (slice_get sim.services sim.place))
    stays place service at untold = stays_at (slice_get sim.services sim.place) refl place service at untold

-- a service that a command leads elsewhere, once it told its state, is then where it may be
pub led_next : (s : SimService) (target : State) (procedure : ℕ) (command : Command) → is_untold s ≡ false
    → command_target s.state command ≡ Some target → IsNext (sent_to s target procedure)
led_next s target procedure command told leads =
    inr (edge_may s.last s.state target (told_last s told) (command_edge s.state target command leads))

-- so is one that takes a command
took_next : (d : PlainDescription) (s : SimService) (command : Command) (procedure : ℕ) → is_untold s ≡ false
    → (after : SimService)
    → service_took d s command procedure ≡ Some after → IsNext after
took_next d s command procedure told after took =
    go (same_command command Complete && runs_through d s) (command_target s.state command)
    (procedure_after d s command procedure) refl took
  where
    go : (through : Bool) (target : Option State) (runs : Option ℕ) → command_target s.state command ≡ target →
        (if through then None else option_and_then (λ state. option_map (sent_to s state) runs) target) ≡ Some after
        → IsNext after
    go true target runs leads is = cc
    go false None runs leads is = cc
    go false (Some target) None leads is = cc
    go false (Some target) (Some runs) leads is =
        subst IsNext (same_Some (sent_to s target runs) after is)
        (led_next s target runs command told leads)

-- a service that takes a command keeps its name
pub name_taken : (d : PlainDescription) (s : SimService) (command : Command) (procedure : ℕ) (after : SimService)
    → service_took d s command procedure ≡ Some after → after.name ≡ s.name
name_taken d s command procedure after took =
    go (same_command command Complete && runs_through d s) (command_target s.state command)
    (procedure_after d s command procedure) took
  where
    go : (through : Bool) (target : Option State) (runs : Option ℕ)
        → (if through then None else option_and_then (λ state. option_map (sent_to s state) runs) target) ≡ Some after
        → after.name ≡ s.name
    go true target runs is = cc
    go false None runs is = cc
    go false (Some target) None is = cc
    go false (Some target) (Some runs) is = sym
        (ap (λ service. service.name) (same_Some (sent_to s target runs) after is))

-- a service at a place that takes a command leaves each where it may be, where each state was reported
pub next_taken_at : (d : PlainDescription) (services : List SimService) (place : ℕ) (s : SimService) (command : Command)
    (procedure : ℕ) (after : SimService)
    → list_any is_untold services ≡ false → AreNext services → slice_get services place ≡ Some s
    → service_took d s command procedure ≡ Some after
    → AreNext (slice_set services place after)
next_taken_at d services place s command procedure after calm next at took =
    all_set IsNext services place after next
    (took_next d s command procedure (none_at is_untold services place s calm at) after took)

-- where nothing is pending, each state was reported
pub pending_none : (one other : Bool) → (one || other) ≡ false → one ≡ false
pending_none true other is = cc
pending_none false other is = refl

-- a command to a module whose services are where they may be, with nothing pending
pub commands_along : CommandsFollowEdges
commands_along sim service command procedure calm next = go (place_of service sim)
  where
    untold : list_any is_untold sim.services ≡ false
    untold = pending_none (list_any is_untold sim.services) (list_any is_silent sim.drifts) calm

    taking : (place : ℕ) (s : SimService) → slice_get sim.services place ≡ Some s → (taken : Option SimService)
        → service_took sim.description s command procedure ≡ taken →
        AreNext (after_command sim (option_map (with_service sim place) taken)).services
    taking place s at None took = next
    taking place s at (Some after) took = next_taken_at sim.description sim.services place s command procedure after
        untold next at took

    at_place : (place : ℕ) (s : Option SimService) → slice_get sim.services place ≡ s →
        AreNext (after_command sim (option_and_then
        (λ service. option_map (with_service sim place) (service_took sim.description service command procedure))
        s)).services
    at_place place None at = next
    at_place place (Some s) at = taking place s at (service_took sim.description s command procedure) refl

    go : (place : Option ℕ) → AreNext (after_command sim
        (option_and_then (took_at sim command procedure) place)).services
    go None = next
    go (Some place) = at_place place (slice_get sim.services place) refl
