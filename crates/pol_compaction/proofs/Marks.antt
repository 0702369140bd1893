-- Reports of one service, and values of one variable, that may be left out.
use Rattle.std.proofs.Common.{◌≡◌, Bool, true, false, not, List, [], ◌∷◌, refl, ap, sym, ◌∙◌, ◌⊎◌, inl, inr, Option}
use Rattle.std.proofs.Common.{Some, None, cond, eqb-true}
use Rattle.std.specs.Prelude.{◌||◌, option_map}
use Rattle.std.specs.List.{AllByRecursion, cons_option}
use Rattle.std.specs.Option.{option_or}
use Rattle.std.proofs.lemmas.Option.{same_Some}
use Rattle.mtp_codes.specs.declared.state.State.{State}
use Rattle.mtp_codes.specs.declared.value.Value.{Value}
use Rattle.mtp_codes.specs.Codes.{state_number, state_codes, state_of}
use Rattle.mtp_machine.specs.Machine.{every_state, same_state}
use Rattle.mtp_machine.proofs.EveryState.{of_each_state}
use Rattle.mtp_assembly.specs.declared.control.ServiceControl.{ServiceControl}
use Rattle.pol_events.specs.Refusals.{not_an_edge}
use Rattle.pol_compaction.specs.Marks.{Mark, told, read, moved, report_stays, value_stays}

-- ---- states

-- each state is found by its code
every_coded : AllByRecursion (λ state. state_of (state_number state) state_codes ≡ Some state) every_state
every_coded = search

-- states of one code are one state
same_state_is : (one other : State) → same_state one other ≡ true → one ≡ other
same_state_is one other is =
    let coded = of_each_state (λ state. state_of (state_number state) state_codes ≡ Some state) every_coded in
    same_Some one other (sym (coded one) ∙ ap (λ n. state_of n state_codes)
    (eqb-true (state_number one) (state_number other) is) ∙ coded other)

-- two states that aren't two are the same
pub not_apart : (one other : State) → not (same_state one other) ≡ false → one ≡ other
not_apart one other is = go (same_state one other) refl is
  where
    go : (same : Bool) → same_state one other ≡ same → not same ≡ false → one ≡ other
    go true same is = same_state_is one other same
    go false same is = cc

-- ---- reports

-- a report may follow the control that was found before it: the same state again, or one to which an edge leads
abbrev pub MayTell : Option ServiceControl → ServiceControl → Type 0
MayTell found control = not_an_edge control.state found ≡ None

-- each report may follow the one before it since the module moved last
abbrev pub AreTold : Option ServiceControl → List (Mark ServiceControl) → Type 0
AreTold found [] = Unit {0}
AreTold found (told control ∷ marks) = MayTell found control × AreTold (Some control) marks
AreTold found (read ∷ marks) = AreTold found marks
AreTold found (moved ∷ marks) = AreTold None marks

-- what is found in those that stay before the next mark: the same, where that reads or nothing comes; else nothing or
-- the same before a move; before a report nothing, or once something has read, what the report may follow
abbrev pub Fits : Bool → Option ServiceControl → Option ServiceControl → List (Mark ServiceControl) → Type 0
Fits was_read whole less [] = less ≡ whole
Fits false whole less (told control ∷ marks) = less ≡ None
Fits true whole less (told control ∷ marks) = MayTell less control
Fits was_read whole less (read ∷ marks) = less ≡ whole
Fits was_read whole less (moved ∷ marks) = (less ≡ None) ⊎ (less ≡ whole)

-- a report that stays may follow
pub may_tell : (was_read : Bool) (whole less : Option ServiceControl) (control : ServiceControl)
    (marks : List (Mark ServiceControl)) → Fits was_read whole less (told control ∷ marks) → MayTell less control
may_tell false whole less control marks fits = rw fits
may_tell true whole less control marks fits = fits

-- where both find the same it fits what comes, once something has read
fits_same : (found : Option ServiceControl) (marks : List (Mark ServiceControl)) → AreTold found marks →
    Fits true found found marks
fits_same found [] are = refl
fits_same found (told control ∷ marks) are = are.0
fits_same found (read ∷ marks) are = refl
fits_same found (moved ∷ marks) are = inr refl

-- where both find nothing it fits what comes
pub fits_none : (was_read : Bool) (marks : List (Mark ServiceControl)) → Fits was_read None None marks
fits_none was_read [] = refl
fits_none false (told control ∷ marks) = refl
fits_none true (told control ∷ marks) = refl
fits_none was_read (read ∷ marks) = refl
fits_none was_read (moved ∷ marks) = inl refl

-- after a report that stays it fits
fits_kept : (was_read : Bool) (control : ServiceControl) (marks : List (Mark ServiceControl)) →
    AreTold (Some control) marks → report_stays control.state was_read marks ≡ true →
    Fits was_read (Some control) (Some control) marks
fits_kept true control marks are stays = fits_same (Some control) marks are
fits_kept false control [] are stays = refl
fits_kept false control (told next ∷ marks) are stays = cc
fits_kept false control (read ∷ marks) are stays = refl
fits_kept false control (moved ∷ marks) are stays = cc

-- after one that goes it fits
fits_gone : (was_read : Bool) (whole less : Option ServiceControl) (control : ServiceControl)
    (marks : List (Mark ServiceControl)) → Fits was_read whole less (told control ∷ marks) →
    report_stays control.state was_read marks ≡ false → Fits was_read (Some control) less marks
fits_gone was_read whole less control [] fits goes = cc
fits_gone false whole less control (told next ∷ marks) fits goes = fits
fits_gone true whole less control (told next ∷ marks) fits goes =
    ap (λ state. not_an_edge state less) (not_apart next.state control.state goes) ∙ fits
fits_gone was_read whole less control (read ∷ marks) fits goes = cc
fits_gone false whole less control (moved ∷ marks) fits goes = inl fits
fits_gone true whole less control (moved ∷ marks) fits goes = cc

-- after an event that tells this of the service, or nothing, and stays or goes, it fits
pub fits_told : (said : Option ServiceControl) (stay was_read : Bool) (whole less : Option ServiceControl)
    (marks : List (Mark ServiceControl)) → AreTold (option_or said whole) marks →
    ((control : ServiceControl) → said ≡ Some control → report_stays control.state was_read marks ≡ stay) →
    Fits was_read whole less (cons_option (option_map told said) marks) →
    Fits was_read (option_or said whole) (cond stay (option_or said less) less) marks
fits_told None true was_read whole less marks are stays fits = fits
fits_told None false was_read whole less marks are stays fits = fits
fits_told (Some control) true was_read whole less marks are stays fits =
    fits_kept was_read control marks are (stays control refl)
fits_told (Some control) false was_read whole less marks are stays fits =
    fits_gone was_read whole less control marks fits (stays control refl)

-- after an event of another subject, which may read, it fits
pub fits_apart : (reading was_read : Bool) (whole less : Option ServiceControl) (marks : List (Mark ServiceControl)) →
    AreTold whole marks → Fits was_read whole less (cons_option (cond reading (Some read) None) marks) →
    Fits (reading || was_read) whole less marks
fits_apart true was_read whole less marks are fits = rw fits (fits_same whole marks are)
fits_apart false was_read whole less marks are fits = fits

-- ---- values

-- what is found in those that stay before the next mark is the same, where that reads or nothing comes
abbrev pub Suits : Option Value → Option Value → List (Mark Value) → Type 0
Suits whole less [] = less ≡ whole
Suits whole less (told value ∷ marks) = Unit {0}
Suits whole less (read ∷ marks) = less ≡ whole
Suits whole less (moved ∷ marks) = Unit {0}

-- where both find the same it suits what comes
pub suits_same : (found : Option Value) (marks : List (Mark Value)) → Suits found found marks
suits_same found [] = refl
suits_same found (told value ∷ marks) = tt
suits_same found (read ∷ marks) = refl
suits_same found (moved ∷ marks) = tt

-- and after a value that goes
suits_gone : (whole less : Option Value) (marks : List (Mark Value)) → value_stays marks ≡ false →
    Suits whole less marks
suits_gone whole less [] goes = cc
suits_gone whole less (told value ∷ marks) goes = tt
suits_gone whole less (read ∷ marks) goes = cc
suits_gone whole less (moved ∷ marks) goes = tt

-- after an event that tells this of the variable, or nothing, and stays or goes, it suits
pub suits_told : (said : Option Value) (stay : Bool) (whole less : Option Value) (marks : List (Mark Value)) →
    ((value : Value) → said ≡ Some value → value_stays marks ≡ stay) →
    Suits whole less (cons_option (option_map told said) marks) →
    Suits (option_or said whole) (cond stay (option_or said less) less) marks
suits_told None true whole less marks stays suits = suits
suits_told None false whole less marks stays suits = suits
suits_told (Some value) true whole less marks stays suits = suits_same (Some value) marks
suits_told (Some value) false whole less marks stays suits =
    suits_gone (Some value) less marks (stays value refl)

-- after an event of another subject, which may read, it suits
pub suits_apart : (reading : Bool) (whole less : Option Value) (marks : List (Mark Value)) →
    Suits whole less (cons_option (cond reading (Some read) None) marks) → Suits whole less marks
suits_apart true whole less marks same = rw same (suits_same whole marks)
suits_apart false whole less marks suits = suits
