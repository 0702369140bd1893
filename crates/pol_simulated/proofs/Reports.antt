-- The reports of a module in step are accepted.
use Rattle.std.proofs.Common.{◌≡◌, ◌≢◌, ℕ, suc, zero, Bool, true, false, cond, List, [], ◌∷◌, Option, Some, None, refl}
use Rattle.std.proofs.Common.{ap, sym, ◌∙◌, subst, ℤ}
use Rattle.std.specs.Prelude.{◌||◌, find, map, not, is_none, slice_get, option_map, if◌then◌else◌}
use Rattle.std.specs.List.{AllByRecursion, cons_option}
use Rattle.std.specs.Option.{option_or}
use Rattle.std.proofs.lemmas.Option.{same_Some}
use Rattle.mtp_codes.specs.declared.state.State.{State}
use Rattle.mtp_codes.specs.Faults.{when}
use Rattle.mtp_codes.proofs.Names.{same_refl}
use Rattle.mtp_machine.specs.Machine.{is_edge, same_state, every_state}
use Rattle.mtp_machine.proofs.EveryState.{of_each_state}
use Rattle.mtp_assembly.specs.declared.control.ServiceControl.{ServiceControl}
use Rattle.std.specs.Str.{bytes_eq}
use Rattle.mtp_desc.specs.Plain.{PlainService}
use Rattle.mtp_desc.specs.Lookup.{service_named}
use Rattle.mtp_sim.specs.declared.service.SimService.{SimService}
use Rattle.mtp_sim.specs.declared.drift.SimDrift.{SimDrift}
use Rattle.mtp_sim.specs.declared.report.SimReport.TheVariants.{Service}
use Rattle.mtp_sim.specs.Sims.{PlainSim}
use Rattle.mtp_sim.specs.Ticks.{service_here, drift_here, tick_report, report_by, drift_report, report_of}
use Rattle.mtp_sim.specs.Ticks.{ticked_service, limit_of, is_reported, control_now, value_told, is_executing}
use Rattle.mtp_sim.specs.Ticks.{variable_report}
use Rattle.mtp_sim.specs.Told.{MayTell, IsNext}
use Rattle.mtp_sim.proofs.Edges.{all_at, name_ticked, told_ticked}
use Rattle.pol_events.specs.Refusals.{not_an_edge}
use Rattle.pol_events.specs.declared.answer.Rule.TheVariants.{NotAnEdge, NoService}
use Rattle.pol_history.specs.Looking.{History, past, last_of}
use Rattle.pol_history.specs.Modules.{reported, since_docking, control_by}
use Rattle.pol_site.specs.Following.{IsNewState}
use Rattle.pol_site.specs.Stories.{controls_in}
use Rattle.pol_simulated.specs.Units.{newest, IsTold, IsServiceTold}
use Rattle.pol_simulated.specs.Laws.{ReportsAreAccepted}
use Rattle.pol_simulated.proofs.Called.{called_at}

-- what a service reported last is the newest of its controls
pub last_newest : (service : List ℕ) (entries : History)
    → last_of (λ entry. reported service entry.event) entries ≡ newest (controls_in service entries)
last_newest service [] = refl
last_newest service (entry ∷ older) = go (reported service entry.event) (last_newest service older)
  where
    go : (found : Option ServiceControl) → last_of (λ entry. reported service entry.event) older ≡ newest
        (controls_in service older) →
        option_or found (last_of (λ entry. reported service entry.event) older) ≡ newest
        (cons_option found (controls_in service older))
    go None again = again
    go (Some control) again = refl

-- no edge leads from a state to itself
every_apart : AllByRecursion (λ state. is_edge state state ≡ false) every_state
unfolding is_edge
every_apart = search

-- so an edge leads to another state
edge_apart : (from to : State) → is_edge from to ≡ true → to ≢ from
edge_apart from to edge same =
    let none : is_edge from from ≡ false = of_each_state (λ state. is_edge state state ≡ false) every_apart from in
    let clash : true ≡ false = sym edge ∙ ap (is_edge from) same ∙ none in cc

-- a state that may be told follows what was told last
follows : (state : State) (last : Option ServiceControl) → MayTell (option_map (λ control. control.state) last) state
    → (not_an_edge state last ≡ None) × IsNewState last state
follows state None may = (refl, may)
follows state (Some control) may = (
  ap (λ b. when (not b) (NotAnEdge control.state state))
      (right (same_state control.state state) (is_edge control.state state) may),
  edge_apart control.state state may,
)
  where
    right : (a b : Bool) → b ≡ true → (a || b) ≡ true
    right true b e = refl
    right false b e = e

-- a report of a service comes from a tick that looks at one and reports it
pub record FromService (sim : PlainSim) (name : List ℕ) (control : ServiceControl) : Type 0 where
  pub service : SimService
  pub here : slice_get sim.services sim.place ≡ Some service
  pub reports : is_reported sim.description (limit_of sim service) service ≡ true
  pub name_is : name ≡ (ticked_service sim service).name
  pub control_is : control ≡ control_now sim.description (ticked_service sim service)

-- every report of a service does
pub from_service : (sim : PlainSim) (name : List ℕ) (control : ServiceControl)
    → tick_report sim ≡ Some (Service name control) → FromService sim name control
from_service sim name control is = go (service_here sim) refl is
  where
    by_drift : (drift : Option SimDrift) → drift_report sim drift ≡ Some (Service name control)
        → FromService sim name control
    by_drift None is = cc
    by_drift (Some drift) is = no (value_told (is_executing sim.services) drift) is
      where
        no : (value : Option ℤ) → option_map (variable_report drift.name) value ≡ Some (Service name control)
            → FromService sim name control
        no None is = cc
        no (Some value) is = cc

    go : (service : Option SimService) → service_here sim ≡ service
        → report_by sim service ≡ Some (Service name control) → FromService sim name control
    go None at is = by_drift (drift_here sim) is
    go (Some service) at is = holds (is_reported sim.description (limit_of sim service) service) refl is
      where
        same_name_of : (a b : List ℕ) (x y : ServiceControl) → Service a x ≡ Service b y → (b ≡ a) × (y ≡ x)
        same_name_of a b x y e = (cc, cc)

        holds : (b : Bool) → is_reported sim.description (limit_of sim service) service ≡ b →
            (if b then Some (report_of sim.description (ticked_service sim service)) else None) ≡ Some
            (Service name control) → FromService sim name control
        holds false r is = cc
        holds true r is =
            let parts = same_name_of _ name _ control (same_Some _ (Service name control) is) in
            record { service = service; here = at; reports = r; name_is = parts.0; control_is = parts.1 }

-- a description has each service of a module that has its services
known_named : (services : List SimService) (forms : List PlainService) (place : ℕ) (s : SimService) →
    map (λ service. service.name) services ≡ map (λ form. form.name) forms → slice_get services place ≡ Some s →
    is_none (find (λ form. bytes_eq form.name s.name) forms) ≡ false
known_named [] forms place s named at = cc
known_named (first ∷ others) [] place s named at = cc
known_named (first ∷ others) (form ∷ forms) zero s named at = go (bytes_eq form.name s.name) refl
  where
    heads : first.name ≡ form.name
    heads = cc

    go : (here : Bool) → bytes_eq form.name s.name ≡ here →
        is_none (cond here (Some form) (find (λ form. bytes_eq form.name s.name) forms)) ≡ false
    go true is = refl
    go false is =
        let same : form.name ≡ s.name = sym heads ∙ ap (λ (service : SimService). service.name)
        (same_Some first s at) in
        let clash : false ≡ true = sym is ∙ ap (λ name. bytes_eq name s.name) same ∙ same_refl s.name in
        cc
known_named (first ∷ others) (form ∷ forms) (suc place) s named at =
    go (bytes_eq form.name s.name) (known_named others forms place s tails at)
  where
    tails : map (λ service. service.name) others ≡ map (λ form. form.name) forms
    tails = cc

    go : (here : Bool) → is_none (find (λ form. bytes_eq form.name s.name) forms) ≡ false →
        is_none (cond here (Some form) (find (λ form. bytes_eq form.name s.name) forms)) ≡ false
    go true others = refl
    go false others = others

-- the reports of services
pub reports_accepted : ReportsAreAccepted
reports_accepted site tag history sim at count name control docked_is space step gives =
    let from = from_service sim name control gives in
    let s = from.service in
    let d = sim.description in
    let named : name ≡ s.name = from.name_is ∙ name_ticked d (limit_of sim s) s in
    let told : IsTold d s (controls_in s.name (since_docking (past tag history)))
    = subst (λ f. IsServiceTold d f (controls_in s.name (since_docking (past tag history))))
    (called_at (λ (each : SimService). each.name) sim.services sim.place s s.name step.unlike_services from.here
    (same_refl s.name)) (step.services s.name) in
    let last : option_map (λ control. control.state) (control_by name (past tag history)) ≡ s.last
    = ap (λ n. option_map (λ control. control.state) (control_by n (past tag history))) named
    ∙ ap (option_map (λ control. control.state)) (last_newest s.name (since_docking (past tag history))) ∙ told.last
    in
    let may : MayTell s.last (ticked_service sim s).state =
    told_ticked d (limit_of sim s) s (all_at IsNext sim.services sim.place s step.next from.here) from.reports in
    let tells : MayTell (option_map (λ control. control.state) (control_by name (past tag history))) control.state
    = subst (λ l. MayTell l control.state) (sym last)
    (subst (MayTell s.last) (sym (ap (λ (c : ServiceControl). c.state) from.control_is)) may) in
    let both = follows control.state (control_by name (past tag history)) tells in
    let there : is_none (service_named name d) ≡ false =
    ap (λ n. is_none (service_named n d)) named ∙ known_named sim.services d.services sim.place s
    step.named from.here in
    (rw (space, docked_is, step.described, ap (λ b. when b NoService) there, both.0) refl, both.1)
