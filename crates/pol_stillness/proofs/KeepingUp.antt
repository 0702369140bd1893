-- A simulated module keeps up with a history.
use Rattle.std.proofs.Common.{◌≡◌, ◌≤◌, ◌<◌, ◌+◌, ℕ, suc, Bool, true, false, List, [], ◌∷◌, length, Option, Some, None}
use Rattle.std.proofs.Common.{refl, ap, sym, ◌∙◌, subst, arith}
use Rattle.std.specs.Prelude.{◌&&◌, is_some, option_map, option_and_then, slice_get, if◌then◌else◌}
use Rattle.std.specs.Str.{bytes_eq}
use Rattle.std.proofs.lemmas.Bool.{and_right, or_parts}
use Rattle.std.proofs.lemmas.Option.{same_Some}
use Rattle.mtp_codes.specs.declared.command.Command.{Command}
use Rattle.mtp_codes.specs.declared.command.Command.TheVariants as command
use Rattle.mtp_codes.proofs.Names.{same_true, same_refl}
use Rattle.mtp_machine.specs.Machine.{same_command}
use Rattle.mtp_assembly.specs.declared.control.ServiceControl.{ServiceControl}
use Rattle.mtp_desc.specs.Plain.{PlainDescription}
use Rattle.mtp_sim.specs.declared.drift.SimDrift.{SimDrift}
use Rattle.mtp_sim.specs.declared.report.SimReport.{SimReport}
use Rattle.mtp_sim.specs.declared.report.SimReport.TheVariants.{Service, Variable}
use Rattle.mtp_sim.specs.declared.service.SimService.{SimService}
use Rattle.mtp_sim.specs.Sims.{PlainSim}
use Rattle.mtp_sim.specs.Ticks.{tick_report, ticked, ticked_at, service_here, drift_here}
use Rattle.mtp_sim.specs.Commands.{took, took_at, place_of, after_command, with_service, service_took}
use Rattle.chart_core.specs.declared.entry.LogEntry.{LogEntry}
use Rattle.chart_core.specs.declared.entry.LogEntry.TheVariants.{Start, Asked}
use Rattle.chart_cursor.specs.Commands.{Sent, sent_by}
use Rattle.pol_events.specs.Events.{advance, report, variable, PlainEntry}
use Rattle.pol_events.specs.declared.answer.Answer.TheVariants.{Done, Did}
use Rattle.pol_history.specs.Looking.{History, is_accepted_of, past}
use Rattle.pol_history.specs.Modules.{since_docking}
use Rattle.pol_history.proofs.Accepted.{paired}
use Rattle.pol_site.specs.Sites.{PlainSite}
use Rattle.pol_site.specs.Stories.{controls_in, if_to, is_for, is_given, sent_to, started_in, story, times_sent}
use Rattle.pol_simulated.specs.Units.{told, IsInStep, IsCounted, IsServiceCounted, IsServiceTold, service_called}
use Rattle.pol_simulated.specs.Places.{before, StaysFrom}
use Rattle.pol_simulated.specs.Laws.{one_more}
use Rattle.pol_simulated.specs.Values.{AreDriftsKept}
use Rattle.pol_simulated.proofs.Counted.{counted_commanded, sent_later, untouched_kept}
use Rattle.pol_simulated.proofs.First.{first_in_step, first_of, found_image}
use Rattle.pol_simulated.proofs.Places.{before_all, before_later, found_within, next_counted}
use Rattle.pol_simulated.proofs.Taking.{commands_kept, more_counted}
use Rattle.pol_simulated.proofs.Ticking.{ticks_kept}
use Rattle.pol_simulated.proofs.Values.{drifts_commanded, drifts_ticked, first_drifts_kept, plans_kept}
use Rattle.pol_stillness.specs.Phases.{asked_in, wanted}
use Rattle.pol_stillness.specs.Served.{IsServed, IsServedBy}
use Rattle.pol_stillness.specs.Together.{AreServed, after_report}
use Rattle.pol_stillness.specs.KeepingUp.{KeepsUp, FirstsKeepUp, IdlesKeepUp, TicksKeepUp, LooksKeepUp, SendsKeepUp}
use Rattle.pol_stillness.specs.KeepingUp.{OthersKeepUp, KeptUpIsCommanded}
use Rattle.pol_stillness.proofs.Served.{firsts_served, none_ahead, others_served, sends_served, unlooked_none}
use Rattle.pol_stillness.proofs.Together.{looks_all, name_of, ticks_all}

-- ---- first

-- at the end of a history nothing is there to stay for
stays_end : (tag : List ℕ) (from : ℕ) (history : History) → length history ≤ from → StaysFrom tag from history
stays_end tag from [] long = tt
stays_end tag from (entry ∷ older) long =
    let less : length older < from = omega (arith, long) in
    let most : length older ≤ from = omega (arith, long) in
    (λ within. absurd (never from (length older) less within), stays_end tag from older most)
  where
    never : (n m : ℕ) → m < n → n ≤ m → ⊥
    never n m less most = omega (arith, less, most)

-- a new simulator
pub firsts_up : FirstsKeepUp
firsts_up site tag history d plan fresh fresh_story described planned services ranged unlike sound =
    let plans = plans_kept d plan sound unlike in
    let both = first_in_step site tag (past tag history) d plan
    (λ name command. times_sent tag name command (story tag (before (length history) history))) fresh described planned
    services plans.1 plans.0 in
    let none : length history ≤ length history = omega arith in
    record {
      step = both.0;
      kept = first_drifts_kept d plan ranged sound;
      counted = both.1;
      served = λ name service called.
          let (form, is) = found_image first_of (λ service. bytes_eq service.name name) d.services service called in
          subst (IsServed d tag (length history) history) is
          (firsts_served d tag form.name (length history) history fresh_story none);
      stays = stays_end tag (length history) history none;
      within = none;
    }

-- ---- a tick

-- the module's description stays
description_ticked : (sim : PlainSim) → (ticked sim).description ≡ sim.description
description_ticked sim = go (service_here sim) (drift_here sim) refl
  where
    go : (service : Option SimService) (drift : Option SimDrift) → drift_here sim ≡ drift →
        (ticked_at sim service).description ≡ sim.description
    go (Some service) drift here = refl
    go None None here = rw here refl
    go None (Some drift) here = rw here refl

-- a simulator keeps up with what it told, once that is applied
applied : (site : PlainSite) (tag : List ℕ) (at from : ℕ) (history : History) (told_now : Option SimReport)
    (sim : PlainSim) →
    IsInStep site tag (told tag told_now (past tag history)) sim →
    IsCounted tag (told tag told_now (past tag history)) (story tag (before from history)) sim →
    AreDriftsKept sim → AreServed sim.description tag from (after_report at tag told_now history) sim.services →
    StaysFrom tag from history → from ≤ length history →
    KeepsUp site tag from (after_report at tag told_now history) sim
applied site tag at from history None sim step counted kept served stays within =
    record { step = step; kept = kept; counted = counted; served = served; stays = stays; within = within }
applied site tag at from history (Some (Service name control)) sim step counted kept served stays within =
    let later = before_later from (paired (report at tag name control) Done) history within in
    record {
      step = rw (same_refl tag) step;
      kept = kept;
      counted = rw (same_refl tag, later) (λ name. counted name);
      served = served;
      stays = (λ from_here touched. refl, stays);
      within = omega (arith, within);
    }
applied site tag at from history (Some (Variable name value)) sim step counted kept served stays within =
    let later = before_later from (paired (variable at tag name value) Done) history within in
    record {
      step = rw (same_refl tag) step;
      kept = kept;
      counted = rw (same_refl tag, later) (λ name. counted name);
      served = served;
      stays = (λ from_here touched. refl, stays);
      within = omega (arith, within);
    }

-- a tick
pub ticks_up : TicksKeepUp
ticks_up site tag at from history sim up =
    let both = ticks_kept site tag (past tag history) (story tag (before from history)) sim up.step up.counted in
    let served : AreServed (ticked sim).description tag from (after_report at tag (tick_report sim) history)
    (ticked sim).services =
    subst (λ d. AreServed d tag from (after_report at tag (tick_report sim) history) (ticked sim).services)
    (sym (description_ticked sim)) (ticks_all sim tag at from history up.step.unlike_services up.served) in
    applied site tag at from history (tick_report sim) (ticked sim) both.0 both.1 (drifts_ticked sim up.kept) served
    up.stays up.within

-- ---- a command that it looks at

-- the module's description stays
description_taken : (sim : PlainSim) (service : List ℕ) (command : Command) (procedure : ℕ) →
    (after_command sim (took sim service command procedure)).description ≡ sim.description
description_taken sim service command procedure = by_place (place_of service sim)
  where
    by_taken : (place : ℕ) (taken : Option SimService) →
        (after_command sim (option_map (with_service sim place) taken)).description ≡ sim.description
    by_taken place None = refl
    by_taken place (Some after) = refl

    by_service : (place : ℕ) (found : Option SimService) →
        (after_command sim (option_and_then
        (λ service. option_map (with_service sim place) (service_took sim.description service command procedure))
        found)).description ≡ sim.description
    by_service place None = refl
    by_service place (Some found) = by_taken place (service_took sim.description found command procedure)

    by_place : (place : Option ℕ) →
        (after_command sim (option_and_then (took_at sim command procedure) place)).description ≡ sim.description
    by_place None = refl
    by_place (Some place) = by_service place (slice_get sim.services place)

-- what stays from a place on stays from a later one on
stays_later : (tag : List ℕ) (from later : ℕ) (history : History) → from ≤ later → StaysFrom tag from history →
    StaysFrom tag later history
stays_later tag from later [] less stays = tt
stays_later tag from later (entry ∷ older) less stays =
    (λ within. stays.0 (omega (arith, less, within)), stays_later tag from later older less stays.1)

-- what is counted against so many commands is counted against as many
counted_as : (d : PlainDescription) (name : List ℕ) (found : Option SimService) (controls : List ServiceControl)
    (sent other : Command → ℕ) → ((command : Command) → other command ≡ sent command) →
    IsServiceCounted d name found controls sent → IsServiceCounted d name found controls other
counted_as d name None controls sent other same counted = tt
counted_as d name (Some s) controls sent other same counted =
    λ command. let one = same command in let less = counted command in omega (arith, one, less)

-- looking at the next command
pub looks_up : LooksKeepUp
looks_up site tag from history sim ahead sent calm next sends tag_is up =
    let inside = found_within tag from history ahead next in
    let both = commands_kept site tag (past tag history) sim
    (λ name command. times_sent tag name command (story tag (before from history))) sent.service sent.command
    (asked_in ahead.did) calm up.step up.counted in
    let later : from ≤ suc ahead.place = omega (arith, inside.1) in
    record {
      step = both.0;
      kept = drifts_commanded sim sent.service sent.command (asked_in ahead.did) up.kept;
      counted = λ name. counted_as after.description name (service_called name after.services)
          (controls_in name (since_docking (past tag history)))
          (one_more sent.service sent.command
          (λ name command. times_sent tag name command (story tag (before from history))) name)
          (λ command. times_sent tag name command (story tag (before (suc ahead.place) history)))
          (same name) (both.1 name);
      served = subst (λ d. AreServed d tag (suc ahead.place) history after.services)
          (sym (description_taken sim sent.service sent.command (asked_in ahead.did)))
          (looks_all sim tag history ahead from sent up.step.unlike_services next sends tag_is up.served).0;
      stays = stays_later tag from (suc ahead.place) history later up.stays;
      within = omega (arith, inside.0);
    }
  where
    after : PlainSim
    after = after_command sim (took sim sent.service sent.command (asked_in ahead.did))

    to_tag : if_to tag (sent_by ahead.did) ≡ Some sent
    to_tag =
        ap (if_to tag) sends ∙ ap (λ t. if bytes_eq sent.tag t then Some sent else None) (sym tag_is)
        ∙ ap (λ b. if b then Some sent else None) (same_refl sent.tag)

    swap : (n m : ℕ) → n + m ≡ m + n
    swap n m = omega arith

    same : (name : List ℕ) (command : Command) →
        times_sent tag name command (story tag (before (suc ahead.place) history))
        ≡ one_more sent.service sent.command
        (λ name command. times_sent tag name command (story tag (before from history))) name command
    same name command =
        next_counted tag from history ahead name command up.stays next
        ∙ ap (λ found. (if is_given name command found then 1 else 0)
        + times_sent tag name command (story tag (before from history))) to_tag
        ∙ swap (if is_given name command (Some sent) then 1 else 0)
        (times_sent tag name command (story tag (before from history)))

-- ---- no command is left

-- from the end of the history on
pub idles_up : IdlesKeepUp
idles_up site tag from history sim none up =
    record {
      step = up.step;
      kept = up.kept;
      counted = λ name. more_counted sim.description name (service_called name sim.services)
          (controls_in name (since_docking (past tag history)))
          (λ command. times_sent tag name command (story tag (before from history)))
          (λ command. times_sent tag name command (story tag (before (length history) history)))
          (λ command. all name command) (up.counted name);
      served = λ name service called.
          subst (λ left. IsServedBy sim.description left (wanted tag service.name (story tag history)) service)
          (none_ahead tag service.name from history none
          ∙ sym (unlooked_none tag service.name (length history) history same)) (up.served name service called);
      stays = stays_end tag (length history) history same;
      within = same;
    }
  where
    same : length history ≤ length history
    same = omega arith

    all : (name : List ℕ) (command : Command) →
        times_sent tag name command (story tag (before from history))
        ≤ times_sent tag name command (story tag (before (length history) history))
    all name command =
        let later = sent_later tag from history name command up.stays in
        let whole = before_all (length history) history same in
        rw whole later

-- ---- other entries

-- an entry that doesn't touch the module
pub others_up : OthersKeepUp
others_up site tag from older entry sim free up =
    let same = untouched_kept tag older entry free in
    let later = before_later from entry older up.within in
    let silent : is_some (sent_to tag entry) ≡ false =
    (or_parts (is_accepted_of tag entry) (is_some (sent_to tag entry)) free).1 in
    record {
      step = subst (λ p. IsInStep site tag p sim) (sym same.0) up.step;
      kept = up.kept;
      counted = subst (λ p. IsCounted tag p (story tag (before from (entry ∷ older))) sim) (sym same.0)
          (subst (λ looked. IsCounted tag (past tag older) (story tag looked) sim) (sym later) up.counted);
      served = λ name service called. others_served sim.description tag service older entry from
          (quiet service.name (sent_to tag entry) silent)
          (λ touched. let clash : true ≡ false = sym touched ∙ free in cc) (up.served name service called);
      stays = (λ from_here touched. let clash : true ≡ false = sym touched ∙ free in cc, up.stays);
      within = let within = up.within in omega (arith, within);
    }
  where
    quiet : (name : List ℕ) (sent : Option Sent) → is_some sent ≡ false → is_for name sent ≡ false
    quiet name None none = refl
    quiet name (Some sent) none = cc

-- an entry of a log that commands another service starts no procedure of this one
started_other : (tag name : List ℕ) (d : Option PlainDescription) (did : LogEntry) (sent : Sent) →
    sent_by did ≡ Some sent → bytes_eq sent.service name ≡ false → started_in tag name d (Some did) ≡ None
started_other tag name d (Start step other named procedure) sent is apart =
    let same : bytes_eq named name ≡ false = ap (λ n. bytes_eq n name) (service_of is) ∙ apart in
    ap (λ b. if b then Some procedure else None) (and_right (bytes_eq other tag) (bytes_eq named name) same)
  where
    service_of : sent_by (Start step other named procedure) ≡ Some sent → named ≡ sent.service
    service_of e = ap (λ (s : Sent). s.service) (same_Some _ sent e)
started_other tag name None (Asked other named given) sent is apart = refl
started_other tag name (Some d) (Asked other named given) sent is apart =
    let same : bytes_eq named name ≡ false = ap (λ n. bytes_eq n name) (service_of is) ∙ apart in
    rw (and_right (bytes_eq other tag) (bytes_eq named name && same_command given command.Start)
    (first (bytes_eq named name) (same_command given command.Start) same)) refl
  where
    service_of : sent_by (Asked other named given) ≡ Some sent → named ≡ sent.service
    service_of e = ap (λ (s : Sent). s.service) (same_Some _ sent e)

    first : (a b : Bool) → a ≡ false → (a && b) ≡ false
    first true b e = cc
    first false b e = refl
started_other tag name None _ sent is apart = refl
started_other tag name (Some d) _ sent is apart = refl

-- a command that a batch sends to the module
pub sends_up : SendsKeepUp
sends_up site older at batch did sent from sim legal orderly follows commanded sends up =
    record {
      step = up.step;
      kept = up.kept;
      counted = subst (λ looked. IsCounted sent.tag (past sent.tag older) (story sent.tag looked) sim)
          (sym (before_later from entry older up.within)) up.counted;
      served = λ name service called. go name service called (bytes_eq sent.service service.name) refl;
      stays = (λ from_here touched. refl, up.stays);
      within = let within = up.within in omega (arith, within);
    }
  where
    entry : PlainEntry
    entry = paired (advance at batch) (Did did)

    for_of : (name : List ℕ) → is_for name (sent_to sent.tag entry) ≡ bytes_eq sent.service name
    for_of name =
        ap (λ found. is_for name (if_to sent.tag found)) sends
        ∙ ap (λ b. is_for name (if b then Some sent else None)) (same_refl sent.tag)

    go : (name : List ℕ) (service : SimService) → service_called name sim.services ≡ Some service → (own : Bool) →
        bytes_eq sent.service service.name ≡ own → IsServed sim.description sent.tag from (entry ∷ older) service
    go name service called true is = sends_one
      where
        named : sent.service ≡ service.name
        named = same_true sent.service service.name is

        sends_one : IsServed sim.description sent.tag from (entry ∷ older) service
        sends_one = sends_served site sim.description service older at batch did sent from legal orderly follows
            commanded sends named up.within up.step.described
            (subst (λ f. IsServiceTold sim.description f
            (controls_in service.name (since_docking (past sent.tag older))))
            (ap (λ n. service_called n sim.services) (name_of sim.services name service called) ∙ called)
            (up.step.services service.name))
            (up.served name service called)
    go name service called false is =
        others_served sim.description sent.tag service older entry from (for_of service.name ∙ is)
        (λ touched. (
          refl,
          ap (λ b. if b then Some false else None) (for_of service.name ∙ is),
          λ d. started_other sent.tag service.name d did sent sends is,
        )) (up.served name service called)

-- ---- what it gives

-- each change has its command
pub up_commanded : KeptUpIsCommanded
up_commanded site tag from history sim up =
    counted_commanded site tag history from None sim up.stays up.step up.counted
