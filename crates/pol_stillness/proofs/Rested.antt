-- A simulated module that is settled rests.
use Rattle.std.proofs.Common.{◌≡◌, ◌≤◌, ℕ, suc, zero, ℤ, Bool, true, false, cond, not, List, [], ◌∷◌, ◌++◌, length}
use Rattle.std.proofs.Common.{Option, Some, None, refl, ap, sym, ◌∙◌, subst, arith}
use Rattle.std.specs.Prelude.{◌&&◌, ◌||◌, map, is_some, is_none, option_map, slice_get, unwrap_or, if◌then◌else◌}
use Rattle.std.specs.List.{list_all, list_any}
use Rattle.std.specs.Option.{option_or}
use Rattle.std.specs.Str.{bytes_eq}
use Rattle.std.proofs.lemmas.Bool.{and_parts, not-true}
use Rattle.std.proofs.lemmas.Option.{same_Some}
use Rattle.mtp_codes.specs.declared.state.State.{State}
use Rattle.mtp_codes.proofs.Names.{same_true, same_refl}
use Rattle.mtp_machine.specs.States.{is_execute}
use Rattle.mtp_assembly.specs.declared.control.ServiceControl.{ServiceControl}
use Rattle.mtp_desc.specs.Plain.{PlainDescription, PlainService}
use Rattle.mtp_sim.specs.declared.plan.Drift.{Drift}
use Rattle.mtp_sim.specs.declared.drift.SimDrift.{SimDrift}
use Rattle.mtp_sim.specs.declared.service.SimService.{SimService}
use Rattle.mtp_sim.specs.Sims.{drift_in}
use Rattle.mtp_sim.specs.Ticks.{changes, is_at_rest, is_executing, is_left, is_silent, is_untold, next_value}
use Rattle.chart_core.specs.declared.entry.LogEntry.{LogEntry}
use Rattle.chart_cursor.specs.Commands.{Sent, sent_by}
use Rattle.pol_events.specs.Events.{PlainEntry}
use Rattle.pol_history.specs.Looking.{History, is_accepted_of, last_of, past}
use Rattle.pol_history.specs.Modules.{control_by, description_by, is_moving, reported, seen_with, since_docking}
use Rattle.pol_history.specs.Modules.{view_by}
use Rattle.pol_history.specs.Runs.{IsLegal}
use Rattle.pol_safety.specs.Permitted.{WasPermitted}
use Rattle.pol_safety.proofs.Sending.{sent_was_permitted}
use Rattle.pol_site.specs.Plans.{drifts_in, plan_by}
use Rattle.pol_site.specs.Settled.{is_quiet_by, is_quiet_module, is_read, is_running, is_settled_in, is_some_running}
use Rattle.pol_site.specs.Settled.{is_spent, is_still}
use Rattle.pol_site.specs.Stories.{answering, are_answered, controls_in, if_to, is_answered, is_for, is_sent_answered}
use Rattle.pol_site.specs.Stories.{sent_to, story, touches}
use Rattle.pol_simulated.specs.Units.{IsServiceTold, IsTold, newest, service_called}
use Rattle.pol_simulated.specs.Places.{Found, found_at, next_command, StaysFrom}
use Rattle.pol_simulated.proofs.Called.{called_at, service_name}
use Rattle.pol_simulated.proofs.Places.{found_within, is_at, le_holds, taken_sends}
use Rattle.pol_simulated.proofs.Reports.{last_newest}
use Rattle.pol_events.proofs.Options.{no_both}
use Rattle.pol_stillness.specs.Phases.{IsPhase}
use Rattle.pol_stillness.specs.Resting.{SettledRest}
use Rattle.pol_stillness.specs.Served.{IsServed, unlooked}
use Rattle.pol_stillness.proofs.Desks.{view_control}
use Rattle.pol_stillness.proofs.Resting.{named_any, seen_running, seen_still, seen_value}
use Rattle.pol_stillness.proofs.Served.{looked, one_end}
use Rattle.pol_stillness.proofs.Together.{name_of}

-- ---- lists

-- a test of names that each of these passes is one that every service of the same names passes
named_at : (test : List ℕ → Bool) (services : List SimService) (forms : List PlainService) (place : ℕ)
    (s : SimService) → map (λ service. service.name) services ≡ map (λ form. form.name) forms →
    list_all (λ form. test form.name) forms ≡ true → slice_get services place ≡ Some s → test s.name ≡ true
named_at test [] forms place s named all here = cc
named_at test (first ∷ services) [] place s named all here = cc
named_at test (first ∷ services) (form ∷ forms) zero s named all here =
    ap test (ap (λ (s : SimService). s.name) (sym (same_Some first s here)) ∙ heads)
    ∙ (and_parts (test form.name) (list_all (λ form. test form.name) forms) all).0
  where
    heads : first.name ≡ form.name
    heads = cc
named_at test (first ∷ services) (form ∷ forms) (suc place) s named all here =
    named_at test services forms place s tails
    (and_parts (test form.name) (list_all (λ form. test form.name) forms) all).1 here
  where
    tails : map (λ service. service.name) services ≡ map (λ form. form.name) forms
    tails = cc

-- a test that all images pass is one that the image of every drift passes
drift_at : (test : Drift → Bool) (drifts : List SimDrift) (place : ℕ) (drift : SimDrift) →
    list_all test (map drift_in drifts) ≡ true → slice_get drifts place ≡ Some drift → test (drift_in drift) ≡ true
drift_at test [] place drift all here = cc
drift_at test (first ∷ drifts) zero drift all here =
    ap (λ each. test (drift_in each)) (sym (same_Some first drift here))
    ∙ (and_parts (test (drift_in first)) (list_all test (map drift_in drifts)) all).0
drift_at test (first ∷ drifts) (suc place) drift all here =
    drift_at test drifts place drift (and_parts (test (drift_in first))
    (list_all test (map drift_in drifts)) all).1 here

-- where none passes a test in its place, none does
none_all : {A : Type 0} (test : A → Bool) (xs : List A) →
    ((place : ℕ) (x : A) → slice_get xs place ≡ Some x → test x ≡ false) → list_any test xs ≡ false
none_all test [] each = refl
none_all test (x ∷ xs) each = rw (each 0 x refl) (none_all test xs (λ place. each (suc place)))

-- ---- answers

-- where every command among these was answered, so was one that is unanswered last
answered_last : (tag service : List ℕ) (told entries : History) →
    list_all (λ entry. is_sent_answered tag told (sent_to tag entry)) entries ≡ true →
    last_of (answering tag service) entries ≡ Some false → is_answered tag told service ≡ true
answered_last tag service told [] all is = cc
answered_last tag service told (entry ∷ entries) all is =
    let parts = and_parts (is_sent_answered tag told (sent_to tag entry))
    (list_all (λ entry. is_sent_answered tag told (sent_to tag entry)) entries) all in
    go (is_some (reported service entry.event)) (sent_to tag entry) parts.0 is
    (answered_last tag service told entries parts.1)
  where
    mine : (sent : Sent) (own : Bool) → bytes_eq sent.service service ≡ own → is_answered tag told sent.service ≡ true →
        option_or (if own then Some false else None) (last_of (answering tag service) entries) ≡ Some false →
        (last_of (answering tag service) entries ≡ Some false → is_answered tag told service ≡ true) →
        is_answered tag told service ≡ true
    mine sent true same answered e again =
        ap (is_answered tag told) (sym (same_true sent.service service same)) ∙ answered
    mine sent false same answered e again = again e

    go : (reports : Bool) (sent : Option Sent) → is_sent_answered tag told sent ≡ true →
        option_or (if reports then Some true else if is_for service sent then Some false else None)
        (last_of (answering tag service) entries) ≡ Some false →
        (last_of (answering tag service) entries ≡ Some false → is_answered tag told service ≡ true) →
        is_answered tag told service ≡ true
    go true sent answered e again = cc
    go false None answered e again = again e
    go false (Some sent) answered e again = mine sent (bytes_eq sent.service service) refl answered e again

-- so each service's commands are answered, where all are
answered_each : (tag service : List ℕ) (told : History) → are_answered tag told ≡ true →
    is_answered tag told service ≡ true
answered_each tag service told all = go (last_of (answering tag service) (since_docking told)) refl
  where
    go : (last : Option Bool) → last_of (answering tag service) (since_docking told) ≡ last →
        unwrap_or last true ≡ true
    go None is = refl
    go (Some true) is = refl
    go (Some false) is =
        let answered = answered_last tag service told (since_docking told) all is in
        let clash : false ≡ true = ap (λ l. unwrap_or l true) (sym is) ∙ answered in cc

-- ---- the next command

-- the next command goes to the module
found_sent : (tag : List ℕ) (from : ℕ) (history : History) (found : Found) →
    next_command tag from history ≡ Some found → (sent : Sent) × (if_to tag (sent_by found.did) ≡ Some sent)
found_sent tag from [] found is = cc
found_sent tag from (entry ∷ older) found is =
    go (next_command tag from older) refl is (found_sent tag from older found)
  where
    go : (earlier : Option Found) → next_command tag from older ≡ earlier →
        option_or earlier (found_at tag from (length older) entry) ≡ Some found →
        (next_command tag from older ≡ Some found → (sent : Sent) × (if_to tag (sent_by found.did) ≡ Some sent)) →
        (sent : Sent) × (if_to tag (sent_by found.did) ≡ Some sent)
    go (Some first) earlier e again = again (earlier ∙ ap Some (same_Some first found e))
    go None earlier e again =
        let it = is_at tag from older entry found e in
        (it.sent, ap (if_to tag) (sym (taken_sends entry.answer found.did it.took)) ∙ it.sends)

-- a command that goes to the module is one that is sent, to it
to_module : (tag : List ℕ) (found : Option Sent) (sent : Sent) → if_to tag found ≡ Some sent →
    (found ≡ Some sent) × (sent.tag ≡ tag)
to_module tag None sent is = cc
to_module tag (Some other) sent is = go (bytes_eq other.tag tag) refl is
  where
    go : (own : Bool) → bytes_eq other.tag tag ≡ own → (if own then Some other else None) ≡ Some sent →
        (Some other ≡ Some sent) × (sent.tag ≡ tag)
    go false own e = cc
    go true own e =
        (e, ap (λ (s : Sent). s.tag) (sym (same_Some other sent e)) ∙ same_true other.tag tag own)

-- what isn't reported after an entry that doesn't move the module wasn't before it
unseen_before : (tag service : List ℕ) (entry : PlainEntry) (older : History) →
    (touches tag entry ≡ true → is_moving entry.event ≡ false) →
    control_by service (past tag (entry ∷ older)) ≡ None → control_by service (past tag older) ≡ None
unseen_before tag service entry older stays none = go (is_accepted_of tag entry) refl none
  where
    neither_of : (one other : Option ServiceControl) → option_or one other ≡ None → other ≡ None
    neither_of None other e = e
    neither_of (Some control) other e = cc

    touched : is_accepted_of tag entry ≡ true → touches tag entry ≡ true
    touched own = ap (λ b. b || is_some (sent_to tag entry)) own

    go : (own : Bool) → is_accepted_of tag entry ≡ own →
        control_by service (cond own (entry ∷ past tag older) (past tag older)) ≡ None →
        control_by service (past tag older) ≡ None
    go false own e = e
    go true own e =
        neither_of (reported service entry.event) (control_by service (past tag older))
        (sym (ap (λ moves. last_of (λ entry. reported service entry.event)
        (if moves then [] else entry ∷ since_docking (past tag older))) (stays (touched own))) ∙ e)

-- the service of the next command was reported
unseen : (tag : List ℕ) (from : ℕ) (history : History) (found : Found) (sent : Sent) → IsLegal history →
    StaysFrom tag from history → next_command tag from history ≡ Some found →
    if_to tag (sent_by found.did) ≡ Some sent → control_by sent.service (past tag history) ≡ None → ⊥
unseen tag from [] found sent legal stays is sends none = cc
unseen tag from (entry ∷ older) found sent legal stays is sends none =
    go (next_command tag from older) refl is (unseen tag from older found sent legal.2 stays.1)
  where
    go : (earlier : Option Found) → next_command tag from older ≡ earlier →
        option_or earlier (found_at tag from (length older) entry) ≡ Some found →
        (next_command tag from older ≡ Some found → if_to tag (sent_by found.did) ≡ Some sent →
        control_by sent.service (past tag older) ≡ None → ⊥) → ⊥
    go (Some first) earlier e again =
        let here = earlier ∙ ap Some (same_Some first found e) in
        let inside = found_within tag from older found here in
        let within : from ≤ length older = omega (arith, inside.0, inside.1) in
        again here sends (unseen_before tag sent.service entry older (stays.0 within) none)
    go None earlier e again =
        let it = is_at tag from older entry found e in
        let to = to_module tag (sent_by found.did) sent sends in
        let was : WasPermitted older sent =
        sent_was_permitted older entry sent legal (taken_sends entry.answer found.did it.took ∙ to.0) in
        let control : control_by sent.service (past sent.tag older) ≡ Some was.view.control =
        view_control (control_by sent.service (past sent.tag older)) was.view
        (seen_with sent.service (description_by (past sent.tag older))) (λ c. refl) was.seen in
        no_both (control_by sent.service (past tag older)) was.view.control
        (unseen_before tag sent.service entry older (stays.0 (le_holds from (length older) it.late)) none)
        (ap (λ t. control_by sent.service (past t older)) (sym to.1) ∙ control)

-- ---- settled

-- a settled module that keeps up rests
pub settled_rest : SettledRest
settled_rest site tag from count history sim legal docked_is up settled = (looked_all, rests)
  where
    d : PlainDescription
    d = sim.description

    its : History
    its = past tag history

    facts : (is_quiet_module d (map drift_in sim.drifts) its && are_answered tag (story tag history)) ≡ true
    facts =
        sym (ap (is_settled_in site tag its (story tag history)) docked_is
        ∙ ap (λ found. is_quiet_by found (drifts_in (plan_by site tag its)) its
        && are_answered tag (story tag history)) up.step.described
        ∙ ap (λ found. is_quiet_by (Some d) (drifts_in found) its && are_answered tag (story tag history))
        up.step.planned) ∙ settled

    both : (is_quiet_module d (map drift_in sim.drifts) its ≡ true) × (are_answered tag (story tag history) ≡ true)
    both = and_parts (is_quiet_module d (map drift_in sim.drifts) its) (are_answered tag (story tag history)) facts

    outer : (list_all (λ service. is_still (view_by service.name its)) d.services ≡ true)
        × ((list_all (is_read its) (map drift_in sim.drifts)
        && (not (is_some_running its d.services) || list_all (is_spent its) (map drift_in sim.drifts))) ≡ true)
    outer = and_parts (list_all (λ service. is_still (view_by service.name its)) d.services)
        (list_all (is_read its) (map drift_in sim.drifts)
        && (not (is_some_running its d.services) || list_all (is_spent its) (map drift_in sim.drifts))) both.0

    inner : (list_all (is_read its) (map drift_in sim.drifts) ≡ true)
        × ((not (is_some_running its d.services) || list_all (is_spent its) (map drift_in sim.drifts)) ≡ true)
    inner = and_parts (list_all (is_read its) (map drift_in sim.drifts))
        (not (is_some_running its d.services) || list_all (is_spent its) (map drift_in sim.drifts)) outer.1

    answered : (name : List ℕ) → is_answered tag (story tag history) name ≡ true
    answered name = answered_each tag name (story tag history) both.1

    -- no command is ahead of a service
    given_not : (s : SimService) (did : LogEntry) → IsPhase d tag (story tag history) s (Some did) → ⊥
    given_not s did phase = let clash : false ≡ true = sym phase.unanswered ∙ answered s.name in cc

    found_not : (found : Found) → next_command tag from history ≡ Some found → ⊥
    found_not found is = by (service_called sent.service sim.services) refl
      where
        sends : (sent : Sent) × (if_to tag (sent_by found.did) ≡ Some sent)
        sends = found_sent tag from history found is

        sent : Sent
        sent = sends.0

        by : (service : Option SimService) → service_called sent.service sim.services ≡ service → ⊥
        by None called =
            unseen tag from history found sent legal up.stays is sends.1
            (last_newest sent.service (since_docking its)
            ∙ ap newest (subst (λ f. IsServiceTold d f (controls_in sent.service (since_docking its))) called
            (up.step.services sent.service)))
        by (Some s) called =
            let served = up.served sent.service s called in
            let mine : is_for s.name (if_to tag (sent_by found.did)) ≡ true =
            ap (is_for s.name) sends.1 ∙ ap (bytes_eq sent.service) (name_of sim.services sent.service s called)
            ∙ same_refl sent.service in
            let end = one_end (unlooked tag s.name (suc found.place) history) found.did served.ahead
            (ap (λ b. unlooked tag s.name (suc found.place) history ++ (if b then found.did ∷ [] else [])) (sym mine)
            ∙ sym (looked tag s.name from history found is) ∙ served.is_ahead) in
            given_not s found.did (subst (IsPhase d tag (story tag history) s) end.1 served.phase)

    looked_all : next_command tag from history ≡ None
    looked_all = go (next_command tag from history) refl
      where
        go : (found : Option Found) → next_command tag from history ≡ found → found ≡ None
        go None is = refl
        go (Some found) is = absurd (found_not found is)

    -- each service told its state
    tells : (place : ℕ) (s : SimService) → slice_get sim.services place ≡ Some s → is_untold s ≡ false
    tells place s here = go (is_untold s) refl s.last refl
      where
        called : service_called s.name sim.services ≡ Some s
        called = called_at service_name sim.services place s s.name up.step.unlike_services here (same_refl s.name)

        told : IsTold d s (controls_in s.name (since_docking its))
        told = subst (λ f. IsServiceTold d f (controls_in s.name (since_docking its))) called
            (up.step.services s.name)

        served : IsServed d tag from history s
        served = up.served s.name s called

        nothing : (control : Option ServiceControl) → option_map (λ control. control.state) control ≡ None →
            control ≡ None
        nothing None e = refl
        nothing (Some control) e = cc

        by_phase : (ahead : Option LogEntry) → IsPhase d tag (story tag history) s ahead → is_untold s ≡ true →
            (last : State) → s.last ≡ Some last → ⊥
        by_phase None phase untold last was =
            let clash : true ≡ false = sym (answered s.name) ∙ phase.answered
            ∙ ap (λ b. not (b && is_some s.last)) untold ∙ ap (λ l. not (is_some l)) was in cc
        by_phase (Some did) phase untold last was = given_not s did phase

        go : (untold : Bool) → is_untold s ≡ untold → (last : Option State) → s.last ≡ last → untold ≡ false
        go false is last was = refl
        go true is None was =
            let none : control_by s.name its ≡ None =
            last_newest s.name (since_docking its)
            ∙ nothing (newest (controls_in s.name (since_docking its))) (told.last ∙ was) in
            let still : is_still (view_by s.name its) ≡ true =
            named_at (λ name. is_still (view_by name its)) sim.services d.services place s up.step.named outer.0 here in
            let clash : false ≡ true =
            ap (λ control. is_still (option_map (seen_with s.name (description_by its)) control)) (sym none) ∙ still in
            cc
        go true is (Some last) was = absurd (by_phase served.ahead served.phase is last was)

    untold : list_any is_untold sim.services ≡ false
    untold = none_all is_untold sim.services tells

    read_of : (last : Option ℤ) → is_some last ≡ true → is_none last ≡ false
    read_of None read = cc
    read_of (Some value) read = refl

    silent : list_any is_silent sim.drifts ≡ false
    silent = none_all is_silent sim.drifts (λ place drift here. read_of drift.last
        (ap is_some (sym (seen_value site tag its sim place drift up.step here))
        ∙ drift_at (is_read its) sim.drifts place drift inner.0 here))

    still : list_any (changes d) sim.services ≡ false
    still = none_all (changes d) sim.services (λ place s here. not-true (changes d s)
        (sym (seen_still site tag its sim place s up.step here (tells place s here))
        ∙ named_at (λ name. is_still (view_by name its)) sim.services d.services place s up.step.named outer.0 here))

    running : is_some_running its d.services ≡ is_executing sim.services
    running = named_any (λ name. is_running (view_by name its)) (λ service. is_execute service.state) sim.services
        d.services up.step.named
        (λ place s here. seen_running site tag its sim place s up.step here (tells place s here))

    left_of : (next : Option ℤ) → is_none next ≡ true → is_some next ≡ false
    left_of None none = refl
    left_of (Some value) none = cc

    left : (executes : Bool) → (not executes || list_all (is_spent its) (map drift_in sim.drifts)) ≡ true →
        (executes && list_any is_left sim.drifts) ≡ false
    left false spent = refl
    left true spent = none_all is_left sim.drifts (λ place drift here.
        left_of (next_value (drift_in drift) drift.last)
        (ap (λ last. is_none (next_value (drift_in drift) last))
        (sym (seen_value site tag its sim place drift up.step here))
        ∙ drift_at (is_spent its) sim.drifts place drift spent here))

    rests : is_at_rest sim ≡ true
    rests = rw (
      untold,
      silent,
      still,
      left (is_executing sim.services) (ap (λ b. not b || list_all (is_spent its) (map drift_in sim.drifts))
          (sym running) ∙ inner.1),
    ) refl
