-- Every change of a service that only a command makes has its command. No site is named here.
use Rattle.std.specs.Prelude.{ℕ, ◌+◌, ◌≤◌, Bool, ◌&&◌, not, List, [], ◌∷◌, if◌then◌else◌}
use Rattle.mtp_codes.specs.declared.command.Command.{Command}
use Rattle.mtp_machine.specs.Machine.{command_target, own_target}
use Rattle.mtp_assembly.specs.declared.control.ServiceControl.{ServiceControl}
use Rattle.mtp_sim.specs.Ticks.{changes_in, is_state}
use Rattle.pol_history.specs.Looking.{History, past}
use Rattle.pol_history.specs.Modules.{since_docking, description_by, completes_by}
use Rattle.pol_site.specs.Stories.{story, times_sent, controls_in}

-- the service changed from the first control to the second by itself; from Execute to Completing it does so only where
-- its procedure completes by itself
abbrev pub is_own_change : (ℕ → Bool) → ServiceControl → ServiceControl → Bool
is_own_change completes old new =
    changes_in (completes old.procedure) old.state && is_state new.state (own_target old.state)

-- the change is one that the command makes, and not one that the service makes by itself
abbrev pub is_change_by : (ℕ → Bool) → Command → ServiceControl → ServiceControl → Bool
is_change_by completes command old new =
    is_state new.state (command_target old.state command) && not (is_own_change completes old new)

-- how many of the changes between neighbours in this list, the newest first, the command made
abbrev pub changes_by : (ℕ → Bool) → Command → List ServiceControl → ℕ
changes_by completes command [] = 0
changes_by completes command (only ∷ []) = 0
changes_by completes command (new ∷ old ∷ older) =
    (if is_change_by completes command old new then 1 else 0) + changes_by completes command (old ∷ older)

-- how often the command changed the service since docking, by the module's past
abbrev pub times_changed : List ℕ → Command → History → ℕ
times_changed service command past =
    changes_by (λ procedure. completes_by service procedure (description_by past)) command
    (controls_in service (since_docking past))

-- Each command changed each service of a docked module at most as often as it was sent there. Of a module that isn't
-- docked nothing counts.
abbrev pub IsCommandedNow : History → Type 0
IsCommandedNow history =
    (tag service : List ℕ) (command : Command) →
    times_changed service command (past tag history) ≤ times_sent tag service command (story tag history)

-- After each entry, no command changed a service more often than it was sent there.
abbrev pub IsCommanded : History → Type 0
IsCommanded [] = Unit {0}
IsCommanded (entry ∷ older) = IsCommandedNow (entry ∷ older) × IsCommanded older
