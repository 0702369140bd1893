-- Short histories in which changes have their commands, and others in which one hasn't.
use Rattle.std.specs.Prelude.{ℕ, ◌≡◌, ◌≤◌, nat_le, true, [], ◌∷◌}
use Rattle.std.specs.List.{AllByRecursion}
use Rattle.std.proofs.Common.{refl, arith}
use Rattle.mtp_codes.specs.declared.command.Command.{Command}
use Rattle.mtp_codes.specs.declared.command.Command.TheVariants as command
use Rattle.mtp_codes.specs.declared.state.State.TheVariants as state
use Rattle.mtp_machine.specs.Machine.{command_target, every_command, own_target}
use Rattle.pol_history.specs.Looking.{History, past}
use Rattle.pol_site.specs.Commanded.{IsCommandedNow, times_changed}
use Rattle.pol_site.specs.Stories.{story, times_sent}
use Rattle.pol_site.proofs.SampleSite.{tag, dose, plugged, known, idle, starting, executing, told, started, sent, begun}

-- how often the command changed the doser's service, and how often it was sent to it
abbrev changed : History → Command → ℕ
changed history given = times_changed dose given (past tag history)

abbrev given : History → Command → ℕ
given history command = times_sent tag dose command (story tag history)

-- a start that was sent, and the change that it made
a_start_is_sent : given (sent ∷ started ∷ idle ∷ plugged ∷ known ∷ []) command.Start ≡ 1
a_start_is_sent = refl

a_start_changes : changed (starting ∷ sent ∷ started ∷ idle ∷ plugged ∷ known ∷ []) command.Start ≡ 1
unfolding command_target own_target
a_start_changes = refl

-- no command changes more often than it was sent
each_has_its_command :
    AllByRecursion
    (λ command. nat_le (changed (executing ∷ starting ∷ sent ∷ started ∷ idle ∷ plugged ∷ known ∷ []) command)
    (given (executing ∷ starting ∷ sent ∷ started ∷ idle ∷ plugged ∷ known ∷ []) command) ≡ true) every_command
unfolding command_target own_target
each_has_its_command = search

-- without the command it does
a_start_without_a_command : IsCommandedNow (starting ∷ started ∷ idle ∷ plugged ∷ known ∷ []) → ⊥
unfolding command_target own_target
a_start_without_a_command commanded = let none : 1 ≤ 0 = commanded tag dose command.Start in omega (arith, none)

-- what a procedure completes by itself needs no command; what it doesn't, needs one
completes_by_itself :
    changed (told state.Completing 280 1 ∷ executing ∷ starting ∷ sent ∷ started ∷ idle ∷ plugged ∷ known ∷ [])
    command.Complete ≡ 0
unfolding command_target own_target
completes_by_itself = refl

completes_by_command :
    changed (told state.Completing 280 2 ∷ told state.Execute 1880 2 ∷ told state.Starting 280 2 ∷ idle ∷ plugged
    ∷ known ∷ []) command.Complete
    ≡ 1
unfolding command_target own_target
completes_by_command = refl

-- of a module that is away nothing counts
away_counts_nothing : changed (begun ∷ starting ∷ started ∷ idle ∷ plugged ∷ known ∷ []) command.Start ≡ 0
away_counts_nothing = refl
