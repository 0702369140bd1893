-- One module on the way through the entries that last: what is found of it by all of them so far, and by those of them
-- that stay.
use Rattle.std.proofs.Common.{◌≡◌, ℕ, Bool, true, false, not, cond, List, [], ◌∷◌, refl, ap, sym, ◌∙◌, ◌⊎◌, inl, inr}
use Rattle.std.proofs.Common.{Option, Some, None, subst}
use Rattle.std.specs.Prelude.{◌&&◌, ◌||◌, option_map}
use Rattle.std.specs.List.{cons_option}
use Rattle.std.specs.Option.{option_or}
use Rattle.std.specs.Str.{bytes_eq}
use Rattle.std.proofs.lemmas.Bool.{and_right}
use Rattle.mtp_codes.specs.declared.value.Value.{Value}
use Rattle.mtp_codes.proofs.Names.{same_true}
use Rattle.mtp_assembly.specs.declared.control.ServiceControl.{ServiceControl}
use Rattle.pol_events.specs.Events.{PlainEvent, plug, unplug, report, variable, desk, exchange_begin, exchange_end}
use Rattle.pol_events.specs.Events.{exchange_cancel, PlainEntry}
use Rattle.pol_events.specs.declared.answer.Answer.{Answer}
use Rattle.pol_history.specs.Looking.{History, subject, is_module, past, last_of}
use Rattle.pol_history.specs.Modules.{absent, is_moving, docking_by, since_docking, reported, control_by}
use Rattle.pol_history.specs.Modules.{reported_value, value_by}
use Rattle.pol_history.specs.Answers.{rules}
use Rattle.pol_history.proofs.Accepted.{NoneHolds, paired}
use Rattle.pol_compaction.specs.Lasting.{is_desk}
use Rattle.pol_compaction.specs.Reading.{is_replacing, is_replaced, reads, is_read}
use Rattle.pol_compaction.specs.Marks.{told, read, moved, mark_of, marks_of, report_stays, value_stays}
use Rattle.pol_compaction.specs.Compaction.{stays_between}
use Rattle.pol_compaction.specs.Alike.{StandsSame}
use Rattle.pol_compaction.proofs.After.{stands_after, stands_left, stands_plugged}
use Rattle.pol_compaction.proofs.Keeping.{no_other}
use Rattle.pol_compaction.proofs.Marks.{AreTold, Fits, fits_none, fits_told, fits_apart, Suits, suits_same, suits_told}
use Rattle.pol_compaction.proofs.Marks.{suits_apart}

-- ---- what is found since the last docking

-- what these events said last since the module was moved
abbrev pub found_by : {A : Type 0} → (PlainEvent → Option A) → History → Option A
found_by says past = last_of (λ entry. says entry.event) (since_docking past)

-- after an event that moves nothing: what it says, or what was found before
pub found_next : {A : Type 0} (says : PlainEvent → Option A) (event : PlainEvent) (answer : Answer) (past : History) →
    is_moving event ≡ false → found_by says (paired event answer ∷ past) ≡ option_or (says event) (found_by says past)
found_next says event answer past still =
    ap (λ moves. last_of (λ entry. says entry.event) (cond moves [] (paired event answer ∷ since_docking past))) still

-- if it stays
found_if : {A : Type 0} (says : PlainEvent → Option A) (event : PlainEvent) (answer : Answer) (past : History) →
    is_moving event ≡ false → (stay : Bool) → found_by says (cond stay (paired event answer ∷ past) past)
    ≡ cond stay (option_or (says event) (found_by says past)) (found_by says past)
found_if says event answer past still true = found_next says event answer past still
found_if says event answer past still false = refl

-- after one that moves the module nothing is found
pub found_moved : {A : Type 0} (says : PlainEvent → Option A) (event : PlainEvent) (answer : Answer) (past : History) →
    is_moving event ≡ true → found_by says (paired event answer ∷ past) ≡ None
found_moved says event answer past moving =
    ap (λ moves. last_of (λ entry. says entry.event) (cond moves [] (paired event answer ∷ since_docking past))) moving

-- ---- marks

-- an event of the module that doesn't move it is what it says
pub own_mark : {A : Type 0} (whole : History) (tag : List ℕ) (says : PlainEvent → Option A) (event : PlainEvent) →
    is_module tag (subject event) ≡ true → is_moving event ≡ false →
    mark_of whole tag says event ≡ option_map told (says event)
own_mark whole tag says (report at other service control) own still = rw own refl
own_mark whole tag says (variable at other name value) own still = rw own refl
own_mark whole tag says (desk at other service command) own still = rw own refl
own_mark whole tag says _ own still = cc

-- and one that does is a move
pub moved_mark : {A : Type 0} (whole : History) (tag : List ℕ) (says : PlainEvent → Option A) (event : PlainEvent) →
    is_module tag (subject event) ≡ true → is_moving event ≡ true → mark_of whole tag says event ≡ Some moved
moved_mark whole tag says (plug at other description) own moving = rw own refl
moved_mark whole tag says (unplug at other) own moving = rw own refl
moved_mark whole tag says (exchange_begin at other) own moving = rw own refl
moved_mark whole tag says (exchange_end at other ticket description) own moving = rw own refl
moved_mark whole tag says (exchange_cancel at other ticket) own moving = rw own refl
moved_mark whole tag says _ own moving = cc

-- an event of another subject is at most a look
pub apart_mark : {A : Type 0} (whole : History) (tag : List ℕ) (says : PlainEvent → Option A) (event : PlainEvent) →
    is_module tag (subject event) ≡ false →
    mark_of whole tag says event ≡ cond (reads whole tag event) (Some read) None
apart_mark whole tag says event apart = rw apart refl

-- ---- a module that isn't replaced later

-- the same module is there by all entries and by those that stay, and what it reported fits what comes
pub record LooksAlong (whole : History) (tag : List ℕ) (was_read : Bool) (all kept : History)
    (newer : List PlainEntry) : Type 0 where
  pub stands : StandsSame all kept
  pub control : (service : List ℕ) → Fits was_read (control_by service all) (control_by service kept)
      (marks_of whole tag (reported service) newer)
  pub value : (name : List ℕ) → Suits (value_by name all) (value_by name kept)
      (marks_of whole tag (reported_value name) newer)

module _ (whole : History) (tag : List ℕ) (all kept : History) (newer : List PlainEntry) where
  -- what a service told may come before what it tells next
  abbrev pub TellsOn : History → Type 0
  TellsOn past = (service : List ℕ) → AreTold (control_by service past) (marks_of whole tag (reported service) newer)

  -- after an event of another subject
  looks_apart : (was_read : Bool) (entry : PlainEntry) → is_module tag (subject entry.event) ≡ false → TellsOn all →
      LooksAlong whole tag was_read all kept (entry ∷ newer) →
      LooksAlong whole tag (reads whole tag entry.event || was_read) all kept newer
  looks_apart was_read entry apart tells looks = record {
    stands = looks.stands;
    control = λ service. fits_apart (reads whole tag entry.event) was_read (control_by service all)
        (control_by service kept) (marks_of whole tag (reported service) newer) (tells service)
        (subst (λ mark. Fits was_read (control_by service all) (control_by service kept)
        (cons_option mark (marks_of whole tag (reported service) newer)))
        (apart_mark whole tag (reported service) entry.event apart) (looks.control service));
    value = λ name. suits_apart (reads whole tag entry.event) (value_by name all) (value_by name kept)
        (marks_of whole tag (reported_value name) newer)
        (subst (λ mark. Suits (value_by name all) (value_by name kept)
        (cons_option mark (marks_of whole tag (reported_value name) newer)))
        (apart_mark whole tag (reported_value name) entry.event apart) (looks.value name));
  }

  -- after an event that moves the module and stays
  looks_moved : (event : PlainEvent) (answer : Answer) → is_moving event ≡ true →
      StandsSame (paired event answer ∷ all) (paired event answer ∷ kept) →
      LooksAlong whole tag false (paired event answer ∷ all) (paired event answer ∷ kept) newer
  looks_moved event answer moving stands = record {
    stands = stands;
    control = λ service.
        subst (λ found. Fits false found (control_by service (paired event answer ∷ kept))
        (marks_of whole tag (reported service) newer)) (sym (found_moved (reported service) event answer all moving))
        (subst (λ found. Fits false None found (marks_of whole tag (reported service) newer))
        (sym (found_moved (reported service) event answer kept moving))
        (fits_none false (marks_of whole tag (reported service) newer)));
    value = λ name.
        subst (λ found. Suits found (value_by name (paired event answer ∷ kept))
        (marks_of whole tag (reported_value name) newer))
        (sym (found_moved (reported_value name) event answer all moving))
        (subst (λ found. Suits None found (marks_of whole tag (reported_value name) newer))
        (sym (found_moved (reported_value name) event answer kept moving))
        (suits_same None (marks_of whole tag (reported_value name) newer)));
  }

  -- after an event of the module that doesn't move it, and stays or goes as its report or its value does
  looks_told : (was_read : Bool) (event : PlainEvent) (answer : Answer) (stay : Bool) →
      is_module tag (subject event) ≡ true → is_moving event ≡ false → TellsOn (paired event answer ∷ all) →
      ((service : List ℕ) (control : ServiceControl) → reported service event ≡ Some control →
      report_stays control.state was_read (marks_of whole tag (reported service) newer) ≡ stay) →
      ((name : List ℕ) (value : Value) → reported_value name event ≡ Some value →
      value_stays (marks_of whole tag (reported_value name) newer) ≡ stay) →
      LooksAlong whole tag was_read all kept (paired event answer ∷ newer) →
      LooksAlong whole tag was_read (paired event answer ∷ all) (cond stay (paired event answer ∷ kept) kept) newer
  looks_told was_read event answer stay own still tells reports values looks = record {
    stands = stands stay;
    control = λ service.
        let marks = marks_of whole tag (reported service) newer in
        subst (λ found. Fits was_read found (control_by service (cond stay (paired event answer ∷ kept) kept)) marks)
        (sym (found_next (reported service) event answer all still))
        (subst (λ found. Fits was_read (option_or (reported service event) (control_by service all)) found marks)
        (sym (found_if (reported service) event answer kept still stay))
        (fits_told (reported service event) stay was_read (control_by service all) (control_by service kept) marks
        (subst (λ found. AreTold found marks) (found_next (reported service) event answer all still) (tells service))
        (reports service)
        (subst (λ mark. Fits was_read (control_by service all) (control_by service kept) (cons_option mark marks))
        (own_mark whole tag (reported service) event own still) (looks.control service))));
    value = λ name.
        let marks = marks_of whole tag (reported_value name) newer in
        subst (λ found. Suits found (value_by name (cond stay (paired event answer ∷ kept) kept)) marks)
        (sym (found_next (reported_value name) event answer all still))
        (subst (λ found. Suits (option_or (reported_value name event) (value_by name all)) found marks)
        (sym (found_if (reported_value name) event answer kept still stay))
        (suits_told (reported_value name event) stay (value_by name all) (value_by name kept) marks (values name)
        (subst (λ mark. Suits (value_by name all) (value_by name kept) (cons_option mark marks))
        (own_mark whole tag (reported_value name) event own still) (looks.value name))));
  }
    where
      stands : (stay : Bool) →
          StandsSame (paired event answer ∷ all) (cond stay (paired event answer ∷ kept) kept)
      stands true = stands_after event answer all kept looks.stands
      stands false = stands_left event answer all kept still looks.stands

-- ---- any module

-- the module isn't there, and nothing of it stayed; or it looks as by all entries
abbrev pub IsAlong : History → List ℕ → Bool → History → History → List PlainEntry → Type 0
IsAlong whole tag was_read all kept newer =
    ((docking_by all ≡ absent) × (kept ≡ [])) ⊎ LooksAlong whole tag was_read all kept newer

-- where the module is replaced later, nothing of it stayed
pub record ModuleAlong (whole : History) (tag : List ℕ) (was_read : Bool) (all kept : History)
    (newer : List PlainEntry) : Type 0 where
  pub replaced : is_replaced tag newer ≡ true → kept ≡ []
  pub lasting : is_replaced tag newer ≡ false → IsAlong whole tag was_read all kept newer

-- an event that doesn't replace the module
pub unreplaced : (tag : List ℕ) (entry : PlainEntry) (newer : List PlainEntry) → is_replacing entry.event ≡ false →
    is_replaced tag (entry ∷ newer) ≡ is_replaced tag newer
unreplaced tag entry newer is =
    ap (λ replaces. replaces || is_replaced tag newer)
    (and_right (is_module tag (subject entry.event)) (is_replacing entry.event) is)

-- nor does one of another subject
pub apart_replaced : (tag : List ℕ) (entry : PlainEntry) (newer : List PlainEntry) →
    is_module tag (subject entry.event) ≡ false → is_replaced tag (entry ∷ newer) ≡ is_replaced tag newer
apart_replaced tag entry newer apart =
    ap (λ own. (own && is_replacing entry.event) || is_replaced tag newer) apart

module _ (whole : History) (tag : List ℕ) (all kept : History) (newer : List PlainEntry) where
  -- after an event of another subject
  pub module_apart : (was_read : Bool) (entry : PlainEntry) → is_module tag (subject entry.event) ≡ false →
      TellsOn whole tag all kept newer all → ModuleAlong whole tag was_read all kept (entry ∷ newer) →
      ModuleAlong whole tag (reads whole tag entry.event || was_read) all kept newer
  module_apart was_read entry apart tells along = record {
    replaced = λ is. along.replaced (apart_replaced tag entry newer apart ∙ is);
    lasting = λ is. go (along.lasting (apart_replaced tag entry newer apart ∙ is));
  }
    where
      go : IsAlong whole tag was_read all kept (entry ∷ newer) →
          IsAlong whole tag (reads whole tag entry.event || was_read) all kept newer
      go (inl away) = inl away
      go (inr looks) = inr (looks_apart whole tag all kept newer was_read entry apart tells looks)

  -- after an event that moves the module, and stays where that isn't replaced later
  own_moved : (event : PlainEvent) (answer : Answer) → is_moving event ≡ true → (stay : Bool) →
      not (is_replaced tag newer) ≡ stay → (is_replaced tag newer ≡ true → kept ≡ []) →
      (is_replaced tag newer ≡ false → StandsSame (paired event answer ∷ all) (paired event answer ∷ kept)) →
      ModuleAlong whole tag false (paired event answer ∷ all) (cond stay (paired event answer ∷ kept) kept) newer
  own_moved event answer moving true is empty stands = record {
    replaced = λ later. let clash : false ≡ true = sym (ap not later) ∙ is in cc;
    lasting = λ later. inr (looks_moved whole tag all kept newer event answer moving (stands later));
  }
  own_moved event answer moving false is empty stands = record {
    replaced = λ later. empty later;
    lasting = λ later. let clash : true ≡ false = sym (ap not later) ∙ is in cc;
  }

  -- after one that takes the module away, and goes
  own_unplugged : (at : ℕ) (other : List ℕ) (answer : Answer) (stay : Bool) → false ≡ stay → kept ≡ [] →
      ModuleAlong whole tag false (paired (unplug at other) answer ∷ all)
      (cond stay (paired (unplug at other) answer ∷ kept) kept) newer
  own_unplugged at other answer true is empty = cc
  own_unplugged at other answer false is empty =
      record { replaced = λ later. empty; lasting = λ later. inl (refl, empty) }

  -- after one that tells something, and stays where the module isn't replaced later and this passes
  own_told : (was_read : Bool) (event : PlainEvent) (answer : Answer) (passes stay : Bool) →
      (not (is_replaced tag newer) && passes) ≡ stay → (is_replaced tag newer ≡ true → kept ≡ []) →
      (is_replaced tag newer ≡ false → passes ≡ stay →
      LooksAlong whole tag was_read (paired event answer ∷ all) (cond stay (paired event answer ∷ kept) kept) newer) →
      ModuleAlong whole tag was_read (paired event answer ∷ all) (cond stay (paired event answer ∷ kept) kept) newer
  own_told was_read event answer passes stay is empty looks = record {
    replaced = λ later.
        ap (λ stay. cond stay (paired event answer ∷ kept) kept)
        (sym is ∙ ap (λ replaced. not replaced && passes) later) ∙ empty later;
    lasting = λ later. inr (looks later (ap (λ replaced. not replaced && passes) (sym later) ∙ is));
  }

-- the service and its control, by what a report says
pub report_says : (service other : List ℕ) (control found : ServiceControl) →
    cond (bytes_eq service other) (Some control) None ≡ Some found → (service ≡ other) × (control ≡ found)
report_says service other control found is = go (bytes_eq service other) refl is
  where
    go : (same : Bool) → bytes_eq service other ≡ same → cond same (Some control) None ≡ Some found →
        (service ≡ other) × (control ≡ found)
    go true same is = (same_true service other same, cc)
    go false same is = cc

-- the name of the variable, by what a value says
pub value_says : (name other : List ℕ) (value found : Value) →
    cond (bytes_eq name other) (Some value) None ≡ Some found → name ≡ other
value_says name other value found is = go (bytes_eq name other) refl is
  where
    go : (same : Bool) → bytes_eq name other ≡ same → cond same (Some value) None ≡ Some found → name ≡ other
    go true same is = same_true name other same
    go false same is = cc

module _ (whole older : History) (tag : List ℕ) (kept : History) (newer : List PlainEntry) where
  -- the module's past by all entries
  abbrev all : History
  all = past tag older

  -- whether something has read it
  abbrev was_read : Bool
  was_read = is_read whole tag older

  -- by the entry with this event, and what comes after it
  abbrev pub AlongBefore : PlainEvent → Answer → Type 0
  AlongBefore event answer = ModuleAlong whole tag was_read all kept (paired event answer ∷ newer)

  -- by what comes after it
  abbrev pub AlongAfter : PlainEvent → Answer → Bool → Type 0
  AlongAfter event answer stay = ModuleAlong whole tag (cond (is_moving event) false was_read)
      (paired event answer ∷ all) (cond stay (paired event answer ∷ kept) kept) newer

  -- the begin or the end of an exchange
  own_exchange : (event : PlainEvent) (answer : Answer) → is_moving event ≡ true → is_replacing event ≡ false →
      (stay : Bool) → not (is_replaced tag newer) ≡ stay → (docking_by all ≡ absent → ⊥) →
      AlongBefore event answer →
      ModuleAlong whole tag false (paired event answer ∷ all) (cond stay (paired event answer ∷ kept) kept) newer
  own_exchange event answer moving replacing stay is there along =
      own_moved whole tag all kept newer event answer moving stay is
      (λ later. along.replaced (unreplaced tag (paired event answer) newer replacing ∙ later))
      (λ later. go (along.lasting (unreplaced tag (paired event answer) newer replacing ∙ later)))
    where
      go : IsAlong whole tag was_read all kept (paired event answer ∷ newer) →
          StandsSame (paired event answer ∷ all) (paired event answer ∷ kept)
      go (inl away) = absurd (there away.0)
      go (inr looks) = stands_after event answer all kept looks.stands

  -- a report
  own_report : (at : ℕ) (other service : List ℕ) (control : ServiceControl) (answer : Answer) →
      bytes_eq other tag ≡ true → (docking_by all ≡ absent → ⊥) → (stay : Bool) →
      (not (is_replaced tag newer)
      && report_stays control.state was_read (marks_of whole tag (reported service) newer)) ≡ stay →
      TellsOn whole tag all kept newer (paired (report at other service control) answer ∷ all) →
      AlongBefore (report at other service control) answer → AlongAfter (report at other service control) answer stay
  own_report at other service control answer own there stay is tells along =
      own_told whole tag all kept newer was_read event answer
      (report_stays control.state was_read (marks_of whole tag (reported service) newer)) stay is
      (λ later. along.replaced (unreplaced tag (paired event answer) newer refl ∙ later))
      (λ later passes. go passes (along.lasting (unreplaced tag (paired event answer) newer refl ∙ later)))
    where
      event : PlainEvent
      event = report at other service control

      go : report_stays control.state was_read (marks_of whole tag (reported service) newer) ≡ stay →
          IsAlong whole tag was_read all kept (paired event answer ∷ newer) →
          LooksAlong whole tag was_read (paired event answer ∷ all) (cond stay (paired event answer ∷ kept) kept) newer
      go passes (inl away) = absurd (there away.0)
      go passes (inr looks) =
          looks_told whole tag all kept newer was_read event answer stay own refl tells
          (λ name found says. let same = report_says service name control found says in
          subst (λ (found : ServiceControl).
          report_stays found.state was_read (marks_of whole tag (reported name) newer) ≡ stay) same.1
          (subst (λ name. report_stays control.state was_read (marks_of whole tag (reported name) newer) ≡ stay) same.0
          passes))
          (λ name found says. cc) looks

  -- a value
  own_value : (at : ℕ) (other name : List ℕ) (value : Value) (answer : Answer) →
      bytes_eq other tag ≡ true → (docking_by all ≡ absent → ⊥) → (stay : Bool) →
      (not (is_replaced tag newer) && value_stays (marks_of whole tag (reported_value name) newer)) ≡ stay →
      TellsOn whole tag all kept newer (paired (variable at other name value) answer ∷ all) →
      AlongBefore (variable at other name value) answer → AlongAfter (variable at other name value) answer stay
  own_value at other name value answer own there stay is tells along =
      own_told whole tag all kept newer was_read event answer
      (value_stays (marks_of whole tag (reported_value name) newer)) stay is
      (λ later. along.replaced (unreplaced tag (paired event answer) newer refl ∙ later))
      (λ later passes. go passes (along.lasting (unreplaced tag (paired event answer) newer refl ∙ later)))
    where
      event : PlainEvent
      event = variable at other name value

      go : value_stays (marks_of whole tag (reported_value name) newer) ≡ stay →
          IsAlong whole tag was_read all kept (paired event answer ∷ newer) →
          LooksAlong whole tag was_read (paired event answer ∷ all) (cond stay (paired event answer ∷ kept) kept) newer
      go passes (inl away) = absurd (there away.0)
      go passes (inr looks) =
          looks_told whole tag all kept newer was_read event answer stay own refl tells
          (λ service found says. cc)
          (λ other found says. subst (λ name. value_stays (marks_of whole tag (reported_value name) newer) ≡ stay)
          (value_says name other value found says) passes)
          looks

  -- each event of the module
  pub own_along : (event : PlainEvent) (answer : Answer) → is_module tag (subject event) ≡ true →
      is_desk event ≡ false → NoneHolds (rules older event) → (stay : Bool) →
      stays_between whole older newer event ≡ stay → TellsOn whole tag all kept newer (paired event answer ∷ all) →
      AlongBefore event answer → AlongAfter event answer stay
  own_along (plug at other description) answer own heard none stay is tells along =
      own_moved whole tag all kept newer (plug at other description) answer refl stay
      (subst (λ name. not (is_replaced name newer) ≡ stay) (same_true other tag own) is)
      (λ later. along.replaced (rw own refl))
      (λ later. stands_plugged (plug at other description) answer all kept refl)
  own_along (unplug at other) answer own heard none stay is tells along =
      own_unplugged whole tag all kept newer at other answer stay is (along.replaced (rw own refl))
  own_along (exchange_begin at other) answer own heard none stay is tells along =
      own_exchange (exchange_begin at other) answer refl refl stay
      (subst (λ name. not (is_replaced name newer) ≡ stay) (same_true other tag own) is)
      (no_other older other tag own none.0) along
  own_along (exchange_end at other ticket description) answer own heard none stay is tells along =
      own_exchange (exchange_end at other ticket description) answer refl refl stay
      (subst (λ name. not (is_replaced name newer) ≡ stay) (same_true other tag own) is)
      (no_other older other tag own none.0) along
  own_along (exchange_cancel at other ticket) answer own heard none stay is tells along =
      own_exchange (exchange_cancel at other ticket) answer refl refl stay
      (subst (λ name. not (is_replaced name newer) ≡ stay) (same_true other tag own) is)
      (no_other older other tag own none.0) along
  own_along (report at other service control) answer own heard none stay is tells along =
      own_report at other service control answer own (no_other older other tag own none.0) stay
      (subst (λ name. (not (is_replaced name newer) && report_stays control.state (is_read whole name older)
      (marks_of whole name (reported service) newer)) ≡ stay) (same_true other tag own) is) tells along
  own_along (variable at other name value) answer own heard none stay is tells along =
      own_value at other name value answer own (no_other older other tag own none.0) stay
      (subst (λ tag. (not (is_replaced tag newer)
      && value_stays (marks_of whole tag (reported_value name) newer)) ≡ stay) (same_true other tag own) is) tells along
  own_along (desk at other service command) answer own heard none stay is tells along = cc
  own_along _ answer own heard none stay is tells along = cc
