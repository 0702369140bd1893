-- The marks of what stays: of all marks those that stay, and each of these stays again.
use Rattle.std.proofs.Common.{◌≡◌, Bool, true, false, cond, not, List, [], ◌∷◌, refl, ap, ◌∙◌}
use Rattle.mtp_codes.specs.declared.state.State.{State}
use Rattle.mtp_codes.specs.declared.value.Value.{Value}
use Rattle.mtp_machine.specs.Machine.{same_state}
use Rattle.mtp_assembly.specs.declared.control.ServiceControl.{ServiceControl}
use Rattle.pol_compaction.specs.Marks.{Mark, told, read, moved, report_stays, value_stays}
use Rattle.pol_compaction.proofs.Marks.{not_apart}

-- what is told and passes, by whether something has read since the module was moved, and by what comes; and all others
abbrev pub thin : {A : Type 0} → (A → Bool → List (Mark A) → Bool) → Bool → List (Mark A) → List (Mark A)
thin passes was_read [] = []
thin passes was_read (told x ∷ marks) =
    cond (passes x was_read marks) (told x ∷ thin passes was_read marks) (thin passes was_read marks)
thin passes was_read (read ∷ marks) = read ∷ thin passes true marks
thin passes was_read (moved ∷ marks) = moved ∷ thin passes false marks

-- a report passes where it stays
abbrev pub report_passes : ServiceControl → Bool → List (Mark ServiceControl) → Bool
report_passes control was_read marks = report_stays control.state was_read marks

-- and so does a value
abbrev pub value_passes : Value → Bool → List (Mark Value) → Bool
value_passes value was_read marks = value_stays marks

-- a value that stays does so again
pub value_again : (was_read : Bool) (marks : List (Mark Value)) → value_stays marks ≡ true →
    value_stays (thin value_passes was_read marks) ≡ true
value_again was_read [] is = refl
value_again was_read (told value ∷ marks) is = cc
value_again was_read (read ∷ marks) is = refl
value_again was_read (moved ∷ marks) is = cc

-- where a report goes because the same state is told next, one of another state stays before both
stays_before : (state : State) (control : ServiceControl) (marks : List (Mark ServiceControl)) →
    not (same_state control.state state) ≡ true → report_stays control.state true marks ≡ false →
    report_stays state true marks ≡ true
stays_before state control [] apart goes = cc
stays_before state control (told next ∷ marks) apart goes =
    ap (λ each. not (same_state each state)) (not_apart next.state control.state goes) ∙ apart
stays_before state control (read ∷ marks) apart goes = cc
stays_before state control (moved ∷ marks) apart goes = cc

-- a report that stays does so again
pub report_again : (state : State) (was_read : Bool) (marks : List (Mark ServiceControl)) →
    report_stays state was_read marks ≡ true → report_stays state was_read (thin report_passes was_read marks) ≡ true
report_again state was_read [] is = refl
report_again state was_read (read ∷ marks) is = refl
report_again state was_read (moved ∷ marks) is = is
report_again state false (told control ∷ marks) is = cc
report_again state true (told control ∷ marks) is =
    go (report_stays control.state true marks) refl (report_again state true marks)
  where
    go : (stays : Bool) → report_stays control.state true marks ≡ stays →
        (report_stays state true marks ≡ true → report_stays state true (thin report_passes true marks) ≡ true) →
        report_stays state true
        (cond stays (told control ∷ thin report_passes true marks) (thin report_passes true marks)) ≡ true
    go true stays rest = is
    go false goes rest = rest (stays_before state control marks is goes)
