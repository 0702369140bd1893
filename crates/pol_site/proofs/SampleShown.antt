-- What the status board of the small site shows.
use Rattle.std.specs.Prelude.{◌≡◌, [], ◌∷◌, Some, None}
use Rattle.std.proofs.Common.{refl}
use Rattle.mtp_codes.specs.declared.state.State.TheVariants as state
use Rattle.pol_site.specs.Shown.{board_word}
use Rattle.pol_site.proofs.SampleSite.{site, known, plugged, idle, begun, ended}

-- nothing before the first report
at_first : board_word site (plugged ∷ known ∷ []) 0 ≡ record { number = 0; state = None }
at_first = refl

-- the last reported state, with the number of entries up to it
idle_is_shown : board_word site (idle ∷ plugged ∷ known ∷ []) 0 ≡ record { number = 3; state = Some state.Idle }
idle_is_shown = refl

stays_shown : board_word site (known ∷ idle ∷ plugged ∷ known ∷ []) 0 ≡ record { number = 3; state = Some state.Idle }
stays_shown = refl

-- no state once an exchange began
none_is_shown : board_word site (begun ∷ idle ∷ plugged ∷ known ∷ []) 0 ≡ record { number = 4; state = None }
none_is_shown = refl

none_until_a_report : board_word site (ended ∷ begun ∷ idle ∷ plugged ∷ known ∷ []) 0 ≡ record
    { number = 4; state = None }
none_until_a_report = refl

-- words of services and of modules that aren't there stay empty
no_second_service : board_word site (begun ∷ idle ∷ plugged ∷ known ∷ []) 1 ≡ record { number = 0; state = None }
no_second_service = refl

no_second_module : board_word site (begun ∷ idle ∷ plugged ∷ known ∷ []) 32 ≡ record { number = 0; state = None }
no_second_module = refl
