-- A simulated module that rests is settled.
use Rattle.std.proofs.Common.{◌≡◌, ℕ, suc, ℤ, Bool, true, false, cond, not, List, [], ◌∷◌, Option, Some, None, refl, ap}
use Rattle.std.proofs.Common.{sym, ◌∙◌, subst}
use Rattle.std.specs.Prelude.{◌&&◌, ◌||◌, map, find, is_some, is_none, slice_get}
use Rattle.std.specs.List.{list_all, list_any}
use Rattle.std.specs.Str.{bytes_eq}
use Rattle.std.proofs.lemmas.Bool.{and_from, and_parts, not-true, or_parts}
use Rattle.std.proofs.lemmas.Option.{same_Some}
use Rattle.mtp_codes.proofs.Names.{same_refl}
use Rattle.mtp_machine.specs.States.{is_execute}
use Rattle.mtp_desc.specs.Plain.{PlainDescription, PlainService}
use Rattle.mtp_sim.specs.declared.plan.Drift.{Drift}
use Rattle.mtp_sim.specs.declared.drift.SimDrift.{SimDrift}
use Rattle.mtp_sim.specs.declared.service.SimService.{SimService}
use Rattle.mtp_sim.specs.Sims.{PlainSim, drift_in}
use Rattle.mtp_sim.specs.Ticks.{changes, control_now, is_executing, is_left, is_pending, is_silent, is_untold}
use Rattle.mtp_sim.specs.Ticks.{next_value}
use Rattle.mtp_sim.proofs.Edges.{none_at}
use Rattle.pol_history.specs.Looking.{History, past}
use Rattle.pol_history.specs.Modules.{control_by, since_docking, value_by, view_by}
use Rattle.pol_site.specs.Plans.{whole_in}
use Rattle.pol_site.specs.Settled.{is_quiet_module, is_read, is_running, is_some_running, is_spent, is_still}
use Rattle.pol_site.specs.Sites.{PlainSite}
use Rattle.pol_site.specs.Stories.{are_answered, controls_in, story}
use Rattle.pol_simulated.specs.Units.{IsDriftTold, IsInStep, IsServiceTold, IsTold}
use Rattle.pol_simulated.proofs.Called.{called_at, service_name}
use Rattle.pol_simulated.proofs.Reports.{last_newest}
use Rattle.pol_stillness.specs.Resting.{RestsAreSettled}
use Rattle.pol_stillness.proofs.Served.{rest_answered}

-- ---- lists

-- a test of names that every service passes is one that each of the same names passes
named_all : (test : List ℕ → Bool) (services : List SimService) (forms : List PlainService) →
    map (λ service. service.name) services ≡ map (λ form. form.name) forms →
    ((place : ℕ) (s : SimService) → slice_get services place ≡ Some s → test s.name ≡ true) →
    list_all (λ form. test form.name) forms ≡ true
named_all test [] [] named each = refl
named_all test [] (form ∷ forms) named each = cc
named_all test (s ∷ services) [] named each = cc
named_all test (s ∷ services) (form ∷ forms) named each =
    and_from (test form.name) (list_all (λ form. test form.name) forms) (ap test (sym heads) ∙ each 0 s refl)
    (named_all test services forms tails (λ place. each (suc place)))
  where
    heads : s.name ≡ form.name
    heads = cc

    tails : map (λ service. service.name) services ≡ map (λ form. form.name) forms
    tails = cc

-- a test of names says of these names what another says of the services
pub named_any : (test : List ℕ → Bool) (own : SimService → Bool) (services : List SimService)
    (forms : List PlainService) →
    map (λ service. service.name) services ≡ map (λ form. form.name) forms →
    ((place : ℕ) (s : SimService) → slice_get services place ≡ Some s → test s.name ≡ own s) →
    list_any (λ form. test form.name) forms ≡ list_any own services
named_any test own [] [] named each = refl
named_any test own [] (form ∷ forms) named each = cc
named_any test own (s ∷ services) [] named each = cc
named_any test own (s ∷ services) (form ∷ forms) named each =
    rw (
      sym heads,
      each 0 s refl,
      named_any test own services forms tails (λ place. each (suc place)),
    ) refl
  where
    heads : s.name ≡ form.name
    heads = cc

    tails : map (λ service. service.name) services ≡ map (λ form. form.name) forms
    tails = cc

-- a test that the image of every drift passes is one that all images pass
drifts_all : (test : Drift → Bool) (drifts : List SimDrift) →
    ((place : ℕ) (drift : SimDrift) → slice_get drifts place ≡ Some drift → test (drift_in drift) ≡ true) →
    list_all test (map drift_in drifts) ≡ true
drifts_all test [] each = refl
drifts_all test (drift ∷ drifts) each =
    and_from (test (drift_in drift)) (list_all test (map drift_in drifts)) (each 0 drift refl)
    (drifts_all test drifts (λ place. each (suc place)))

-- where no service passes a test, the one that is found doesn't
none_found : (test own : SimService → Bool) (services : List SimService) (s : SimService) →
    list_any test services ≡ false → find own services ≡ Some s → test s ≡ false
none_found test own [] s none found = cc
none_found test own (first ∷ others) s none found =
    let parts = or_parts (test first) (list_any test others) none in
    go (own first) found parts.0 (none_found test own others s parts.1)
  where
    go : (here : Bool) → cond here (Some first) (find own others) ≡ Some s → test first ≡ false →
        (find own others ≡ Some s → test s ≡ false) → test s ≡ false
    go true is free again = ap test (sym (same_Some first s is)) ∙ free
    go false is free again = again is

-- ---- what is seen of it

-- what is reported last of a service that told its state
seen_control : (site : PlainSite) (tag : List ℕ) (past : History) (sim : PlainSim) (place : ℕ) (s : SimService) →
    IsInStep site tag past sim → slice_get sim.services place ≡ Some s → is_untold s ≡ false →
    control_by s.name past ≡ Some (control_now sim.description s)
seen_control site tag past sim place s step here tells =
    let told : IsTold sim.description s (controls_in s.name (since_docking past)) =
    subst (λ f. IsServiceTold sim.description f (controls_in s.name (since_docking past)))
    (called_at service_name sim.services place s s.name step.unlike_services here (same_refl s.name))
    (step.services s.name) in
    last_newest s.name (since_docking past) ∙ told.now tells

-- so it is seen to be still where it doesn't change by itself
pub seen_still : (site : PlainSite) (tag : List ℕ) (past : History) (sim : PlainSim) (place : ℕ) (s : SimService) →
    IsInStep site tag past sim → slice_get sim.services place ≡ Some s → is_untold s ≡ false →
    is_still (view_by s.name past) ≡ not (changes sim.description s)
seen_still site tag past sim place s step here tells =
    rw (seen_control site tag past sim place s step here tells, step.described) refl

-- and to execute where it does
pub seen_running : (site : PlainSite) (tag : List ℕ) (past : History) (sim : PlainSim) (place : ℕ) (s : SimService) →
    IsInStep site tag past sim → slice_get sim.services place ≡ Some s → is_untold s ≡ false →
    is_running (view_by s.name past) ≡ is_execute s.state
seen_running site tag past sim place s step here tells =
    rw (seen_control site tag past sim place s step here tells) refl

-- the value reported last of a drift
pub seen_value : (site : PlainSite) (tag : List ℕ) (past : History) (sim : PlainSim) (place : ℕ) (drift : SimDrift) →
    IsInStep site tag past sim → slice_get sim.drifts place ≡ Some drift →
    whole_in (value_by drift.name past) ≡ drift.last
seen_value site tag past sim place drift step here =
    subst (λ f. IsDriftTold f (whole_in (value_by drift.name past)))
    (called_at (λ (each : SimDrift). each.name) sim.drifts place drift drift.name step.unlike_drifts here
    (same_refl drift.name)) (step.drifts drift.name)

-- ---- at rest

-- a module at rest is quiet
rest_quiet : (site : PlainSite) (tag : List ℕ) (past : History) (sim : PlainSim) → IsInStep site tag past sim →
    is_pending sim ≡ false → list_any (changes sim.description) sim.services ≡ false →
    (is_executing sim.services && list_any is_left sim.drifts) ≡ false →
    is_quiet_module sim.description (map drift_in sim.drifts) past ≡ true
rest_quiet site tag past sim step calm still left =
    and_from (list_all (λ service. is_still (view_by service.name past)) d.services)
    (list_all (is_read past) (map drift_in sim.drifts)
    && (not (is_some_running past d.services) || list_all (is_spent past) (map drift_in sim.drifts)))
    stills (and_from (list_all (is_read past) (map drift_in sim.drifts))
    (not (is_some_running past d.services) || list_all (is_spent past) (map drift_in sim.drifts)) reads
    (rw running (spends (is_executing sim.services) left)))
  where
    d : PlainDescription
    d = sim.description

    parts : (list_any is_untold sim.services ≡ false) × (list_any is_silent sim.drifts ≡ false)
    parts = or_parts (list_any is_untold sim.services) (list_any is_silent sim.drifts) calm

    tells : (place : ℕ) (s : SimService) → slice_get sim.services place ≡ Some s → is_untold s ≡ false
    tells place s here = none_at is_untold sim.services place s parts.0 here

    stills : list_all (λ service. is_still (view_by service.name past)) d.services ≡ true
    stills = named_all (λ name. is_still (view_by name past)) sim.services d.services step.named
        (λ place s here. seen_still site tag past sim place s step here (tells place s here)
        ∙ ap not (none_at (changes d) sim.services place s still here))

    running : is_some_running past d.services ≡ is_executing sim.services
    running = named_any (λ name. is_running (view_by name past)) (λ service. is_execute service.state) sim.services
        d.services step.named
        (λ place s here. seen_running site tag past sim place s step here (tells place s here))

    read_of : (last : Option ℤ) → is_none last ≡ false → is_some last ≡ true
    read_of None none = cc
    read_of (Some value) none = refl

    reads : list_all (is_read past) (map drift_in sim.drifts) ≡ true
    reads = drifts_all (is_read past) sim.drifts
        (λ place drift here. ap is_some (seen_value site tag past sim place drift step here)
        ∙ read_of drift.last (none_at is_silent sim.drifts place drift parts.1 here))

    spent_of : (next : Option ℤ) → is_some next ≡ false → is_none next ≡ true
    spent_of None none = refl
    spent_of (Some value) none = cc

    spends : (executes : Bool) → (executes && list_any is_left sim.drifts) ≡ false →
        (not executes || list_all (is_spent past) (map drift_in sim.drifts)) ≡ true
    spends false none = refl
    spends true none = drifts_all (is_spent past) sim.drifts
        (λ place drift here. ap (λ last. is_none (next_value (drift_in drift) last))
        (seen_value site tag past sim place drift step here)
        ∙ spent_of (next_value (drift_in drift) drift.last) (none_at is_left sim.drifts place drift none here))

-- a module at rest that looked at every command
pub rests_settled : RestsAreSettled
rests_settled site tag from count history sim legal orderly follows commanded docked_is up none rests =
    let first = and_parts (not (is_pending sim)) (not (list_any (changes sim.description) sim.services)
    && not (is_executing sim.services && list_any is_left sim.drifts)) rests in
    let second = and_parts (not (list_any (changes sim.description) sim.services))
    (not (is_executing sim.services && list_any is_left sim.drifts)) first.1 in
    let calm = not-true (is_pending sim) first.0 in
    let quiet = rest_quiet site tag (past tag history) sim up.step calm
    (not-true (list_any (changes sim.description) sim.services) second.0)
    (not-true (is_executing sim.services && list_any is_left sim.drifts) second.1) in
    let told = or_parts (list_any is_untold sim.services) (list_any is_silent sim.drifts) calm in
    let answered = rest_answered site history tag sim from legal orderly follows commanded up.step none
    (λ name service called. (
      none_found is_untold (λ service. bytes_eq service.name name) sim.services service told.0 called,
      up.served name service called,
    )) in
    rw (docked_is, up.step.described, up.step.planned)
    (and_from (is_quiet_module sim.description (map drift_in sim.drifts) (past tag history))
    (are_answered tag (story tag history)) quiet answered)
