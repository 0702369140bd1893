-- What doesn't touch a module, and what counted changes give.
use Rattle.std.proofs.Common.{◌≡◌, ◌≤◌, ◌<◌, ◌+◌, ℕ, suc, Bool, true, false, cond, List, [], ◌∷◌, length, Option, Some}
use Rattle.std.proofs.Common.{None, refl, ap, arith}
use Rattle.std.specs.Prelude.{nat_le, is_some, filter, if◌then◌else◌}
use Rattle.std.specs.List.{cons_option}
use Rattle.std.specs.Str.{bytes_eq}
use Rattle.std.proofs.lemmas.Bool.{or_parts}
use Rattle.mtp_codes.specs.declared.command.Command.{Command}
use Rattle.mtp_assembly.specs.declared.control.ServiceControl.{ServiceControl}
use Rattle.mtp_desc.specs.Plain.{PlainDescription}
use Rattle.mtp_desc.specs.Lookup.{self_completes}
use Rattle.mtp_sim.specs.declared.service.SimService.{SimService}
use Rattle.mtp_sim.specs.declared.report.SimReport.TheVariants.{Service, Variable}
use Rattle.mtp_sim.specs.Ticks.{is_untold, control_now}
use Rattle.pol_events.specs.Events.{PlainEntry}
use Rattle.pol_history.specs.Looking.{History, is_accepted_of, past}
use Rattle.pol_history.specs.Modules.{is_moving, since_docking}
use Rattle.pol_site.specs.Stories.{sent_to, touches, story, times_sent, is_given, controls_in}
use Rattle.pol_site.specs.Commanded.{changes_by, is_change_by}
use Rattle.pol_simulated.specs.Units.{IsServiceTold, IsServiceCounted, service_called}
use Rattle.pol_simulated.specs.Places.{before, StaysFrom}
use Rattle.pol_simulated.specs.Laws.{UntouchedKeeps, CountsGiveCommanded}
use Rattle.pol_simulated.proofs.Places.{before_all, before_later, le_holds, le_fails}

-- an entry that doesn't touch a module
pub untouched_kept : UntouchedKeeps
untouched_kept tag history entry free =
    let parts = or_parts (is_accepted_of tag entry) (is_some (sent_to tag entry)) free in (
      ap (λ own. cond own (entry ∷ past tag history) (past tag history)) parts.0,
      ap
          (λ own. cond own (entry ∷ story tag history) (story tag history)) free,
    )

-- what was sent before a place was sent
sent_more : (tag service : List ℕ) (command : Command) (entry : PlainEntry) (rest : History)
    → (touches tag entry ≡ true → is_moving entry.event ≡ false) →
    times_sent tag service command rest ≤ times_sent tag service command (cond (touches tag entry) (entry ∷ rest) rest)
sent_more tag service command entry rest stays = go (touches tag entry) refl
  where
    longer : (b : Bool) (xs : History) → length xs ≤ length (cond b (entry ∷ xs) xs)
    longer true xs = omega arith
    longer false xs = omega arith

    go : (own : Bool) → touches tag entry ≡ own
        → times_sent tag service command rest ≤ times_sent tag service command (cond own (entry ∷ rest) rest)
    go false is = omega arith
    go true is = rw (stays is) (longer (is_given service command (sent_to tag entry))
        (filter (λ entry. is_given service command (sent_to tag entry)) (since_docking rest)))

-- so it is of a whole history
pub sent_later : (tag : List ℕ) (from : ℕ) (history : History) (service : List ℕ) (command : Command)
    → StaysFrom tag from history →
    times_sent tag service command (story tag (before from history)) ≤ times_sent tag service command
    (story tag history)
sent_later tag from [] service command stays = omega arith
sent_later tag from (entry ∷ older) service command stays =
    go (nat_le (suc (length older)) from) refl (sent_later tag from older service command stays.1)
  where
    go : (all : Bool) → nat_le (suc (length older)) from ≡ all →
        times_sent tag service command (story tag (before from older)) ≤ times_sent tag service command
        (story tag older) →
        times_sent tag service command (story tag (before from (entry ∷ older))) ≤ times_sent tag service command
        (story tag (entry ∷ older))
    go true is again = let l : length (entry ∷ older) ≤ from =
        le_holds (suc (length older)) from is in rw (before_all from (entry ∷ older) l) (omega arith)
    go false is again =
        let f : from < suc (length older) = le_fails (suc (length older)) from is in
        let l : from ≤ length older = omega (arith, f) in
        let more = sent_more tag service command entry (story tag older) (stays.0 l) in
        rw (before_later from entry older l) (omega (arith, again, more))

-- one more control at the front takes no change away
changes_more : (completes : ℕ → Bool) (command : Command) (control : ServiceControl) (controls : List ServiceControl) →
    changes_by completes command controls ≤ changes_by completes command (control ∷ controls)
changes_more completes command control [] = omega arith
changes_more completes command control (old ∷ older) =
    go (if is_change_by completes command old control then 1 else 0) (changes_by completes command (old ∷ older))
  where
    go : (n m : ℕ) → m ≤ n + m
    go n m = omega arith

-- what a service told was commanded, where all that it went through was
commanded_of : (d : PlainDescription) (service : List ℕ) (command : Command) (found : Option SimService)
    (controls : List ServiceControl) (sent : Command → ℕ) →
    IsServiceTold d found controls → IsServiceCounted d service found controls sent →
    changes_by (λ procedure. self_completes service procedure d) command controls ≤ sent command
commanded_of d service command None controls sent is counts = rw is (omega arith)
commanded_of d service command (Some s) controls sent is counts = go (is_untold s) refl (counts command)
  where
    go : (untold : Bool) → is_untold s ≡ untold →
        changes_by (λ procedure. self_completes service procedure d) command
        (cond untold (control_now d s ∷ controls) controls) ≤ sent command →
        changes_by (λ procedure. self_completes service procedure d) command controls ≤ sent command
    go false u counted = counted
    go true u counted = omega (
      arith,
      counted,
      changes_more (λ procedure. self_completes service procedure d) command
          (control_now d s) controls,
    )

-- so it is of a module, whether a report of it waits or not
pub counted_commanded : CountsGiveCommanded
counted_commanded site tag history place None sim stays step counts service command =
    let first = commanded_of sim.description service command (service_called service sim.services)
    (controls_in service (since_docking (past tag history)))
    (λ command. times_sent tag service command (story tag (before place history))) (step.services service)
    (counts service) in
    rw step.described (omega (arith, first, sent_later tag place history service command stays))
counted_commanded site tag history place (Some (Variable name value)) sim stays step counts service command =
    let first = commanded_of sim.description service command (service_called service sim.services)
    (controls_in service (since_docking (past tag history)))
    (λ command. times_sent tag service command (story tag (before place history))) (step.services service)
    (counts service) in
    rw step.described (omega (arith, first, sent_later tag place history service command stays))
counted_commanded site tag history place (Some (Service name control)) sim stays step counts service command =
    let first = commanded_of sim.description service command (service_called service sim.services)
    (cons_option (if bytes_eq name service then Some control else None)
    (controls_in service (since_docking (past tag history))))
    (λ command. times_sent tag service command (story tag (before place history))) (step.services service)
    (counts service) in
    rw step.described (omega (
      arith,
      go (bytes_eq name service),
      first,
      sent_later tag place history service command
          stays,
    ))
  where
    go : (here : Bool) → changes_by (λ procedure. self_completes service procedure sim.description) command
        (controls_in service (since_docking (past tag history)))
        ≤ changes_by (λ procedure. self_completes service procedure sim.description) command
        (cons_option (if here then Some control else None) (controls_in service (since_docking (past tag history))))
    go true = changes_more (λ procedure. self_completes service procedure sim.description) command control
        (controls_in service (since_docking (past tag history)))
    go false = omega arith
