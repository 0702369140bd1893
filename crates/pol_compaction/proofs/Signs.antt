-- What happens to a service or a variable, as seen at two times: where it is compacted at the earlier one, nothing is
-- lost at the later one.
use Rattle.std.proofs.Common.{◌≡◌, Bool, true, false, cond, not, List, [], ◌∷◌, refl, ap, sym, ◌∙◌, eq-eqb}
use Rattle.std.specs.Prelude.{◌&&◌}
use Rattle.mtp_codes.specs.declared.state.State.{State}
use Rattle.mtp_codes.specs.declared.value.Value.{Value}
use Rattle.mtp_codes.specs.Codes.{state_number}
use Rattle.mtp_machine.specs.Machine.{same_state}
use Rattle.mtp_assembly.specs.declared.control.ServiceControl.{ServiceControl}
use Rattle.pol_compaction.specs.Marks.{Mark, told, read, moved, report_stays, value_stays}
use Rattle.pol_compaction.proofs.Marks.{not_apart}
use Rattle.pol_compaction.proofs.Thin.{report_passes, value_passes}

-- what is told, a look that is one still at the later time, a look that is none then, and a move
pub data Sign (A : Type 0) : Type 0 where
  tells : A → Sign A
  looks : Sign A
  looked : Sign A
  moves_on : Sign A

-- the marks at the earlier time
abbrev pub earlier : {A : Type 0} → List (Sign A) → List (Mark A)
earlier [] = []
earlier (tells x ∷ signs) = told x ∷ earlier signs
earlier (looks ∷ signs) = read ∷ earlier signs
earlier (looked ∷ signs) = read ∷ earlier signs
earlier (moves_on ∷ signs) = moved ∷ earlier signs

-- those at the later time, before others
abbrev pub later : {A : Type 0} → List (Sign A) → List (Mark A) → List (Mark A)
later [] marks = marks
later (tells x ∷ signs) marks = told x ∷ later signs marks
later (looks ∷ signs) marks = read ∷ later signs marks
later (looked ∷ signs) marks = later signs marks
later (moves_on ∷ signs) marks = moved ∷ later signs marks

-- and those at the later time of what passed at the earlier one
abbrev pub later_kept : {A : Type 0} → (A → Bool → List (Mark A) → Bool) → Bool → List (Sign A) → List (Mark A) →
    List (Mark A)
later_kept passes was_read [] marks = marks
later_kept passes was_read (tells x ∷ signs) marks =
    cond (passes x was_read (earlier signs)) (told x ∷ later_kept passes was_read signs marks)
    (later_kept passes was_read signs marks)
later_kept passes was_read (looks ∷ signs) marks = read ∷ later_kept passes true signs marks
later_kept passes was_read (looked ∷ signs) marks = later_kept passes true signs marks
later_kept passes was_read (moves_on ∷ signs) marks = moved ∷ later_kept passes false signs marks

-- a state is itself
same_itself : (state : State) → same_state state state ≡ true
same_itself state = eq-eqb (state_number state) (state_number state) refl

-- where a report goes at the earlier time, one before it stays at the later time as if that were next
pub goes_by : (state : State) (control : ServiceControl) (before now : Bool) (signs : List (Sign ServiceControl))
    (marks : List (Mark ServiceControl)) → (now ≡ true → before ≡ true) →
    report_stays control.state before (earlier signs) ≡ false →
    report_stays state now (later signs marks) ≡ (now && not (same_state control.state state))
goes_by state control before now [] marks less goes = cc
goes_by state control before false (tells next ∷ signs) marks less goes = refl
goes_by state control true true (tells next ∷ signs) marks less goes =
    ap (λ each. not (same_state each state)) (not_apart next.state control.state goes)
goes_by state control false true (tells next ∷ signs) marks less goes = let clash : false ≡ true = less refl in cc
goes_by state control before now (looks ∷ signs) marks less goes = cc
goes_by state control before now (looked ∷ signs) marks less goes = cc
goes_by state control before false (moves_on ∷ signs) marks less goes = refl
goes_by state control before true (moves_on ∷ signs) marks less goes =
    let clash : false ≡ true = sym goes ∙ less refl in cc

-- so it goes at the later time too
pub goes_later : (control : ServiceControl) (before now : Bool) (signs : List (Sign ServiceControl))
    (marks : List (Mark ServiceControl)) → (now ≡ true → before ≡ true) →
    report_stays control.state before (earlier signs) ≡ false →
    report_stays control.state now (later signs marks) ≡ false
goes_later control before now signs marks less goes =
    goes_by control.state control before now signs marks less goes
    ∙ ap (λ same. now && not same) (same_itself control.state) ∙ none now
  where
    none : (test : Bool) → (test && false) ≡ false
    none true = refl
    none false = refl

-- and any report stays at the later time by what passed as by all
pub same_later : (state : State) (before now : Bool) (signs : List (Sign ServiceControl))
    (marks : List (Mark ServiceControl)) → (now ≡ true → before ≡ true) →
    report_stays state now (later_kept report_passes before signs marks) ≡ report_stays state now (later signs marks)
same_later state before now [] marks less = refl
same_later state before now (tells control ∷ signs) marks less =
    go (report_stays control.state before (earlier signs)) refl (same_later state before now signs marks less)
  where
    go : (stays : Bool) → report_stays control.state before (earlier signs) ≡ stays →
        report_stays state now (later_kept report_passes before signs marks)
        ≡ report_stays state now (later signs marks) →
        report_stays state now (cond stays (told control ∷ later_kept report_passes before signs marks)
        (later_kept report_passes before signs marks)) ≡ (now && not (same_state control.state state))
    go true stays rest = refl
    go false goes rest = rest ∙ goes_by state control before now signs marks less goes
same_later state before now (looks ∷ signs) marks less = refl
same_later state before now (looked ∷ signs) marks less = same_later state true now signs marks (λ is. refl)
same_later state before now (moves_on ∷ signs) marks less = refl

-- a value that goes at the earlier time goes at the later one
pub value_goes_later : (signs : List (Sign Value)) (marks : List (Mark Value)) → value_stays (earlier signs) ≡ false →
    value_stays (later signs marks) ≡ false
value_goes_later [] marks goes = cc
value_goes_later (tells value ∷ signs) marks goes = refl
value_goes_later (looks ∷ signs) marks goes = cc
value_goes_later (looked ∷ signs) marks goes = cc
value_goes_later (moves_on ∷ signs) marks goes = refl

-- and any value stays at the later time by what passed as by all
pub value_same_later : (before : Bool) (signs : List (Sign Value)) (marks : List (Mark Value)) →
    value_stays (later_kept value_passes before signs marks) ≡ value_stays (later signs marks)
value_same_later before [] marks = refl
value_same_later before (tells value ∷ signs) marks =
    go (value_stays (earlier signs)) refl (value_same_later before signs marks)
  where
    go : (stays : Bool) → value_stays (earlier signs) ≡ stays →
        value_stays (later_kept value_passes before signs marks) ≡ value_stays (later signs marks) →
        value_stays (cond stays (told value ∷ later_kept value_passes before signs marks)
        (later_kept value_passes before signs marks)) ≡ false
    go true stays rest = refl
    go false goes rest = rest ∙ value_goes_later signs marks goes
value_same_later before (looks ∷ signs) marks = refl
value_same_later before (looked ∷ signs) marks = value_same_later true signs marks
value_same_later before (moves_on ∷ signs) marks = refl
