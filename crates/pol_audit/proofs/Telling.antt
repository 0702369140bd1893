-- What each module reported last, where one more entry comes.
use Rattle.std.proofs.Common.{◌≡◌, ℕ, Bool, true, false, cond, List, [], ◌∷◌, Option, Some, None, refl, ap, ◌∙◌}
use Rattle.std.specs.Prelude.{◌&&◌}
use Rattle.std.specs.HashMap.{HashMap}
use Rattle.std.specs.Option.{option_or}
use Rattle.std.specs.Str.{bytes_eq}
use Rattle.mtp_codes.specs.declared.value.Value.{Value}
use Rattle.mtp_assembly.specs.declared.control.ServiceControl.{ServiceControl}
use Rattle.pol_events.specs.Events.{PlainEntry, PlainEvent, report, variable}
use Rattle.pol_events.specs.Subjects.{accepted_tag}
use Rattle.pol_history.specs.Looking.{History, is_accepted_of, last_of, past}
use Rattle.pol_history.specs.Modules.{control_by, is_moving, reported, reported_value, since_docking, value_by}
use Rattle.pol_audit.specs.Listed.{is_this}
use Rattle.pol_audit.specs.Told.{Tells, told_after, told_control, told_of, told_under, told_value}
use Rattle.pol_audit.proofs.Listing.{its_tag}

-- what a module says since it was docked, after one more of its events
said_more : {T : Type 0} (says : PlainEntry → Option T) (entry : PlainEntry) (past : History) →
    told_after (is_moving entry.event) (says entry) (last_of says (since_docking past))
    ≡ last_of says (since_docking (entry ∷ past))
said_more says entry past = go (is_moving entry.event)
  where
    go : (moved : Bool) →
        told_after moved (says entry) (last_of says (since_docking past))
        ≡ last_of says (cond moved [] (entry ∷ since_docking past))
    go true = refl
    go false = refl

-- what was reported last is right after one more entry
told_more : {T S : Type 0} (says : List ℕ → PlainEvent → Option T) (history : History) (entry : PlainEntry)
    (more : Option (List ℕ × T)) (old new : List (List ℕ × HashMap (List ℕ) T S)) →
    ((name : List ℕ) → told_of more name ≡ says name entry.event) →
    Tells old new (accepted_tag entry) (is_moving entry.event) more →
    ((tag name : List ℕ) → told_under old tag name
    ≡ last_of (λ entry. says name entry.event) (since_docking (past tag history))) →
    (tag name : List ℕ) → told_under new tag name
    ≡ last_of (λ entry. says name entry.event) (since_docking (past tag (entry ∷ history)))
told_more {T} says history entry more old new same tells before tag name =
    tells tag name
    ∙ ap (λ its. cond its (told_after (is_moving entry.event) (told_of more name) (told_under old tag name))
    (told_under old tag name)) (its_tag tag entry)
    ∙ ap (λ said. cond (is_accepted_of tag entry) (told_after (is_moving entry.event) said (told_under old tag name))
    (told_under old tag name)) (same name)
    ∙ ap (λ found. cond (is_accepted_of tag entry) (told_after (is_moving entry.event) (says name entry.event) found)
    found) (before tag name)
    ∙ go (is_accepted_of tag entry)
  where
    last : History → Option T
    last past = last_of (λ entry. says name entry.event) (since_docking past)

    go : (own : Bool) →
        cond own (told_after (is_moving entry.event) (says name entry.event) (last (past tag history)))
        (last (past tag history))
        ≡ last (cond own (entry ∷ past tag history) (past tag history))
    go true = said_more (λ entry. says name entry.event) entry (past tag history)
    go false = refl

-- the control that an event has of a service is the one that it reports of it
control_same : (event : PlainEvent) (service : List ℕ) → told_of (told_control event) service ≡ reported service event
control_same (report at tag other control) service = refl
control_same _ service = refl

-- and of a variable likewise
value_same : (event : PlainEvent) (name : List ℕ) → told_of (told_value event) name ≡ reported_value name event
value_same (variable at tag other value) name = refl
value_same _ name = refl

-- the controls that were reported last, after one more entry
pub controls_more : {S : Type 0} (history : History) (entry : PlainEntry)
    (old new : List (List ℕ × HashMap (List ℕ) ServiceControl S)) →
    Tells old new (accepted_tag entry) (is_moving entry.event) (told_control entry.event) →
    ((tag service : List ℕ) → told_under old tag service ≡ control_by service (past tag history)) →
    (tag service : List ℕ) → told_under new tag service ≡ control_by service (past tag (entry ∷ history))
controls_more history entry old new =
    told_more reported history entry (told_control entry.event) old new (control_same entry.event)

-- and the values
pub values_more : {S : Type 0} (history : History) (entry : PlainEntry)
    (old new : List (List ℕ × HashMap (List ℕ) Value S)) →
    Tells old new (accepted_tag entry) (is_moving entry.event) (told_value entry.event) →
    ((tag name : List ℕ) → told_under old tag name ≡ value_by name (past tag history)) →
    (tag name : List ℕ) → told_under new tag name ≡ value_by name (past tag (entry ∷ history))
values_more history entry old new =
    told_more reported_value history entry (told_value entry.event) old new (value_same entry.event)

-- something is reported of one name, of a module that wasn't moved
pub one_told : {T : Type 0} (tag name other each : List ℕ) (item : T) (before : Option T) →
    cond (bytes_eq tag other && bytes_eq name each) (Some item) before
    ≡ cond (is_this other (Some tag)) (told_after false (told_of (Some (name, item)) each) before) before
one_told tag name other each item before = go (bytes_eq tag other) (bytes_eq name each)
  where
    go : (its told : Bool) → cond (its && told) (Some item) before
        ≡ cond its (option_or (cond told (Some item) None) before) before
    go true true = refl
    go true false = refl
    go false told = refl

-- or none is
pub none_told : {T : Type 0} (whom : Option (List ℕ)) (other : List ℕ) (before : Option T) →
    before ≡ cond (is_this other whom) (told_after false None before) before
none_told whom other before = go (is_this other whom)
  where
    go : (its : Bool) → before ≡ cond its (option_or None before) before
    go true = refl
    go false = refl
