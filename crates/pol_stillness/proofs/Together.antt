-- All services of a simulated module, as they stand in a history.
use Rattle.std.proofs.Common.{◌≡◌, ◌+◌, ◌<◌, ℕ, suc, Bool, true, false, cond, not, arith, get_or, List, [], ◌∷◌, length}
use Rattle.std.proofs.Common.{Option, Some, None, refl, ap, sym, ◌∙◌, subst}
use Rattle.std.specs.Prelude.{is_some, find, option_map, option_and_then, slice_get, slice_set, if◌then◌else◌}
use Rattle.std.specs.List.{position, prefix_len}
use Rattle.std.specs.Str.{bytes_eq}
use Rattle.std.proofs.lemmas.List.Quantifiers.{position-Some}
use Rattle.std.proofs.lemmas.Option.{same_Some, slice_get-get_or}
use Rattle.mtp_codes.proofs.Names.{same_true, same_refl}
use Rattle.mtp_desc.specs.Plain.{PlainDescription}
use Rattle.mtp_sim.specs.declared.drift.SimDrift.{SimDrift}
use Rattle.mtp_sim.specs.declared.service.SimService.{SimService}
use Rattle.mtp_sim.specs.Sims.{PlainSim, first_service}
use Rattle.mtp_sim.specs.Ticks.{is_executing, is_reported, value_told, variable_report, report_of, limit_of}
use Rattle.mtp_sim.specs.Ticks.{ticked_service, service_report, drift_report, report_by, service_here, drift_here}
use Rattle.mtp_sim.specs.Ticks.{ticked_at, ticked_at_drift, control_now}
use Rattle.mtp_sim.specs.Commands.{service_took, place_of, with_service, took_at, took, after_command}
use Rattle.chart_cursor.specs.Commands.{sent_by}
use Rattle.mtp_codes.specs.declared.value.Value.TheVariants.{Whole}
use Rattle.mtp_codes.specs.Repeats.{repeats_by}
use Rattle.pol_events.specs.Events.{report, PlainEntry, variable}
use Rattle.pol_events.specs.declared.answer.Answer.TheVariants.{Done}
use Rattle.pol_history.specs.Looking.{History}
use Rattle.pol_history.proofs.Accepted.{paired}
use Rattle.pol_site.specs.Stories.{if_to, story, is_for}
use Rattle.pol_simulated.specs.Units.{service_called, is_same_service}
use Rattle.mtp_sim.proofs.Edges.{name_ticked}
use Rattle.pol_stillness.specs.Phases.{asked_in, IsTaken}
use Rattle.pol_stillness.specs.Served.{IsServed, IsLooked}
use Rattle.pol_stillness.specs.Together.{AreServed, after_report, TicksServeAll, LooksServeAll}
use Rattle.pol_stillness.proofs.Served.{others_served, ticks_served, looks_served}
use Rattle.pol_simulated.proofs.Places.{lt_true}
use Rattle.pol_simulated.proofs.Called.{called_at, called_set, service_name}
use Rattle.pol_events.proofs.Options.{no_both, some_same}
use Rattle.pol_events.proofs.Lists.{found_member}

-- a service that is found by a name has it
pub name_of : (services : List SimService) (name : List ℕ) (service : SimService)
    → service_called name services ≡ Some service → service.name ≡ name
name_of services name service called = same_true service.name name
    (found_member (λ (s : SimService). bytes_eq s.name name) services service called).1

-- ---- a tick

-- a tick that looks at a service
service_all : (sim : PlainSim) (tag : List ℕ) (at from : ℕ) (history : History) (s : SimService)
    → service_here sim ≡ Some s → repeats_by is_same_service sim.services ≡ false
    → AreServed sim.description tag from history sim.services
    → AreServed sim.description tag from (after_report at tag (service_report sim s) history)
    (ticked_at sim (Some s)).services
service_all sim tag at from history s here unlike all name x called =
    by (bytes_eq s.name name) refl (sym (called_set service_name sim.services sim.place s after name unlike here
    (name_ticked d (limit_of sim s) s)) ∙ called)
  where
    d : PlainDescription
    d = sim.description

    after : SimService
    after = ticked_service sim s

    entry : PlainEntry
    entry = paired (report at tag after.name (control_now d after)) Done

    -- the report as a tick of the service gives it
    own : (reports : Bool) → IsServed d tag from
        (cond reports (paired (report at tag s.name (control_now d after)) Done ∷ history) history) after
        → IsServed d tag from (after_report at tag (cond reports (Some (report_of d after)) None) history) after
    own false served = served
    own true served = subst (λ n. IsServed d tag from (paired (report at tag n (control_now d after)) Done ∷ history)
        after) (sym (name_ticked d (limit_of sim s) s)) served

    others : (reports : Bool) → bytes_eq s.name name ≡ false → service_called name sim.services ≡ Some x
        → IsServed d tag from (after_report at tag (cond reports (Some (report_of d after)) None) history) x
    others false apart is = all name x is
    others true apart is =
        let other : bytes_eq after.name x.name ≡ false
        = ap (λ n. bytes_eq n x.name) (name_ticked d (limit_of sim s) s) ∙ ap (bytes_eq s.name)
        (name_of sim.services name x is) ∙ apart in
        others_served d tag x history entry from refl
        (λ touched. (
          refl,
          ap (λ b. if is_some (if b then Some (control_now d after) else None) then Some true else
              None) other,
          λ f. refl,
        )) (all name x is)

    by : (mine : Bool) → bytes_eq s.name name ≡ mine
        → cond mine (Some after) (service_called name sim.services) ≡ Some x
        → IsServed d tag from (after_report at tag (service_report sim s) history) x
    by true mine is =
        subst (λ y. IsServed d tag from (after_report at tag (service_report sim s) history) y) (same_Some after x is)
        (own (is_reported d (limit_of sim s) s)
        (ticks_served d tag s history at (limit_of sim s) from
        (all s.name s (called_at service_name sim.services sim.place s s.name unlike here (same_refl s.name)))))
    by false mine is = others (is_reported d (limit_of sim s) s) mine is

-- a tick that looks at a drift
drift_all : (sim : PlainSim) (tag : List ℕ) (at from : ℕ) (history : History) (drift : Option SimDrift)
    → AreServed sim.description tag from history sim.services
    → AreServed sim.description tag from (after_report at tag (drift_report sim drift) history)
    (ticked_at_drift sim drift).services
drift_all sim tag at from history None all name x called = all name x called
drift_all sim tag at from history (Some drift) all name x called = go (value_told (is_executing sim.services) drift)
  where
    go : (value : Option _) → IsServed sim.description tag from
        (after_report at tag (option_map (variable_report drift.name) value) history) x
    go None = all name x called
    go (Some value) = others_served sim.description tag x history
        (paired (variable at tag drift.name (Whole value)) Done) from refl (λ touched. (refl, refl, λ f. refl))
        (all name x called)

-- a tick of a module
pub ticks_all : TicksServeAll
ticks_all sim tag at from history unlike all = go (service_here sim) refl
  where
    go : (s : Option SimService) → service_here sim ≡ s
        → AreServed sim.description tag from (after_report at tag (report_by sim s) history) (ticked_at sim s).services
    go (Some s) here = service_all sim tag at from history s here unlike all
    go None here = drift_all sim tag at from history (drift_here sim) all

-- ---- a command

-- the place of the service of a name
record IsPlaced (name : List ℕ) (services : List SimService) (s : SimService) : Type 0 where
  place : ℕ
  at : position (λ (s : SimService). bytes_eq s.name name) services ≡ Some place
  here : slice_get services place ≡ Some s

-- an item that is found stands in the list
found_prefix : (test : SimService → Bool) (xs : List SimService) (x : SimService) → find test xs ≡ Some x
    → prefix_len (λ x. not (test x)) xs < length xs
found_prefix test [] x is = cc
found_prefix test (y ∷ xs) x is = go (test y) is (found_prefix test xs x)
  where
    go : (b : Bool) → cond b (Some y) (find test xs) ≡ Some x
        → (find test xs ≡ Some x → prefix_len (λ x. not (test x)) xs < length xs)
        → cond (not b) (1 + prefix_len (λ x. not (test x)) xs) 0 < length (y ∷ xs)
    go true is again = omega arith
    go false is again = let shorter = again is in omega (arith, shorter)

-- what stands at a place that is found
at_place : (name : List ℕ) (services : List SimService) (place : ℕ) → repeats_by is_same_service services ≡ false
    → position (λ (s : SimService). bytes_eq s.name name) services ≡ Some place
    → (s : SimService) × (slice_get services place ≡ Some s) × (service_called name services ≡ Some s)
at_place name services place unlike at =
    let facts = position-Some (λ (s : SimService). bytes_eq s.name name) services place (first_service name) at in
    let here = slice_get-get_or services place (first_service name) facts.0 in (
      get_or services place (first_service name),
      here,
      called_at service_name services place
          (get_or services place (first_service name)) name unlike here facts.1,
    )

-- the service that is found by a name has a place
placed : (name : List ℕ) (services : List SimService) (s : SimService) → repeats_by is_same_service services ≡ false
    → service_called name services ≡ Some s → IsPlaced name services s
placed name services s unlike called =
    let n = prefix_len (λ (s : SimService). not (bytes_eq s.name name)) services in
    let at : position (λ (s : SimService). bytes_eq s.name name) services ≡ Some n
    = ap (λ b. if b then Some n else None) (lt_true n (length services)
    (found_prefix (λ (s : SimService). bytes_eq s.name name) services s called)) in
    let its = at_place name services n unlike at in
    record {
      place = n;
      at = at;
      here = its.1 ∙ ap Some (some_same (service_called name services) its.0 s its.2 called);
    }

-- where none is found, none has
unplaced : (name : List ℕ) (services : List SimService) → repeats_by is_same_service services ≡ false
    → service_called name services ≡ None
    → (place : Option ℕ) → position (λ (s : SimService). bytes_eq s.name name) services ≡ place → place ≡ None
unplaced name services unlike called None at = refl
unplaced name services unlike called (Some place) at =
    let its = at_place name services place unlike at in no_both (service_called name services) its.0 called its.2

-- looking at the next command
pub looks_all : LooksServeAll
looks_all sim tag history ahead from sent unlike next sends tag_is all =
    go (service_called sent.service sim.services) refl
  where
    d : PlainDescription
    d = sim.description

    procedure : ℕ
    procedure = asked_in ahead.did

    Goal : Option PlainSim → Type 0
    Goal after =
        AreServed d tag (suc ahead.place) history (after_command sim after).services
        × ((service : SimService) → service_called sent.service sim.services ≡ Some service → is_some after ≡ true)

    for_of : (name : List ℕ) → is_for name (if_to tag (sent_by ahead.did)) ≡ bytes_eq sent.service name
    for_of name =
        ap (λ found. is_for name (if_to tag found)) sends
        ∙ ap (λ t. is_for name (if bytes_eq sent.tag t then Some sent else None)) (sym tag_is)
        ∙ ap (λ b. is_for name (if b then Some sent else None)) (same_refl sent.tag)

    looks : (name : List ℕ) (x : SimService) → service_called name sim.services ≡ Some x
        → IsLooked d tag history x ahead
    looks name x called = looks_served d tag x history ahead from next (all name x called)

    go : (found : Option SimService) → service_called sent.service sim.services ≡ found
        → Goal (took sim sent.service sent.command procedure)
    go None found =
        subst (λ p. Goal (option_and_then (took_at sim sent.command procedure) p))
        (sym (unplaced sent.service sim.services unlike found (place_of sent.service sim) refl)) (
          λ name x called. (looks name x called).other
              (for_of x.name ∙ apart name x called (bytes_eq sent.service x.name) refl),
          λ service called. let clash : None ≡ Some service = sym found ∙ called in cc,
        )
      where
        apart : (name : List ℕ) (x : SimService) → service_called name sim.services ≡ Some x → (b : Bool)
            → bytes_eq sent.service x.name ≡ b → b ≡ false
        apart name x called false is = refl
        apart name x called true is =
            let same : sent.service ≡ name = same_true sent.service x.name is ∙ name_of sim.services name x called in
            let clash : None ≡ Some x = sym found ∙ ap (λ n. service_called n sim.services) same ∙ called in cc
    go (Some s) found =
        subst (λ p. Goal (option_and_then (took_at sim sent.command procedure) p)) (sym it.at)
        (subst (λ f. Goal (option_and_then (λ service. option_map (with_service sim it.place)
        (service_took d service sent.command procedure)) f)) (sym it.here)
        (subst (λ t. Goal (option_map (with_service sim it.place) t)) (sym taken.0.took)
        (served, λ service called. refl)))
      where
        it : IsPlaced sent.service sim.services s
        it = placed sent.service sim.services s unlike found

        named : s.name ≡ sent.service
        named = name_of sim.services sent.service s found

        taken : (one : IsTaken d tag (story tag history) s sent.command procedure) × IsServed d tag (suc ahead.place)
            history one.after
        taken =
            (looks sent.service s found).own sent sends
            (for_of s.name ∙ ap (bytes_eq sent.service) named ∙ same_refl sent.service)

        served : AreServed d tag (suc ahead.place) history (slice_set sim.services it.place taken.0.after)
        served name x called =
            by (bytes_eq s.name name) refl (sym (called_set service_name sim.services it.place s taken.0.after name
            unlike it.here taken.0.name_is) ∙ called)
          where
            by : (mine : Bool) → bytes_eq s.name name ≡ mine
                → cond mine (Some taken.0.after) (service_called name sim.services) ≡ Some x
                → IsServed d tag (suc ahead.place) history x
            by true mine is = subst (λ y. IsServed d tag (suc ahead.place) history y) (same_Some taken.0.after x is)
                taken.1
            by false mine is =
                (looks name x is).other
                (for_of x.name ∙ ap (λ n. bytes_eq n x.name) (sym named) ∙ ap (bytes_eq s.name)
                (name_of sim.services name x is) ∙ mine)
