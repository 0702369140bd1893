-- Which steps run and which are held, where a log has one entry more.
use Rattle.std.proofs.Common.{◌≡◌, ℕ, Bool, true, false, cond, List, [], ◌∷◌, ◌++◌, Option, Some, None, refl, ap, sym}
use Rattle.std.proofs.Common.{◌∙◌}
use Rattle.std.specs.Prelude.{◌||◌, not, unwrap_or}
use Rattle.std.specs.Option.{option_map}
use Rattle.std.specs.Str.{bytes_eq}
use Rattle.std.specs.declared.vec.Vec.{Vec}
use Rattle.std.proofs.lemmas.List.Folds.{list_any-append}
use Rattle.mtp_codes.specs.Faults.{when}
use Rattle.mtp_codes.specs.Names.{is_among}
use Rattle.chart_core.specs.Active.{Phase, idle, is_running, last_of, or_earlier, or_idle, phase_after, phase_by}
use Rattle.chart_core.specs.Active.{started, finished, was_reset}
use Rattle.chart_core.specs.declared.entry.LogEntry.{LogEntry}
use Rattle.chart_core.specs.declared.entry.LogEntry.TheVariants.{Start, Finish, Reset, End, Stop, Left, Hold, Unhold}
use Rattle.chart_core.proofs.Latest.{last_pushed}
use Rattle.chart_cursor.specs.Logs.{holding_by, was_held}
use Rattle.pol_events.specs.Events.{PlainEntry}
use Rattle.pol_events.specs.Subjects.{accepted_batch}
use Rattle.pol_history.specs.Looking.{History, is_accepted_of_batch, past_of_batch}
use Rattle.pol_history.specs.Batches.{log_by, taken}
use Rattle.pol_history.specs.Modules.{tags_without}
use Rattle.mtp_codes.proofs.Names.{same_true}
use Rattle.pol_audit.specs.Listed.{is_this, items_under}
use Rattle.pol_audit.specs.Standing.{after_entry, held_more, running_more}
use Rattle.pol_audit.proofs.Listing.{its_batch}
use Rattle.pol_audit.proofs.Logged.{log_grows, log_stays}

-- ---- one batch among others

-- the names of the entry's batch change, those of the others stay
pub of_batch : {Z : Type 0} (more : LogEntry → List (List ℕ) → List (List ℕ)) (did : LogEntry) (batch other : List ℕ)
    (named : List (List ℕ × Vec (List ℕ) Z)) (names : List (List ℕ)) →
    names ≡ more did (items_under named batch) →
    cond (bytes_eq batch other) names (items_under named other)
    ≡ after_entry more (cond (bytes_eq batch other) (Some did) None) (items_under named other)
of_batch more did batch other named names is = go (bytes_eq batch other) refl
  where
    go : (same : Bool) → bytes_eq batch other ≡ same → cond same names (items_under named other)
        ≡ after_entry more (cond same (Some did) None) (items_under named other)
    go true same = is ∙ ap (λ batch. more did (items_under named batch)) (same_true batch other same)
    go false same = refl

-- an entry that is taken changes the names of its batch
pub told_one : (more : LogEntry → List (List ℕ) → List (List ℕ)) (batch : List ℕ) (said whom : Option (List ℕ))
    (told : Option LogEntry) (did : LogEntry) (names : List (List ℕ)) → said ≡ whom → told ≡ Some did →
    after_entry more (cond (is_this batch said) (Some did) None) names
    ≡ after_entry more (cond (is_this batch whom) told None) names
told_one more batch said whom told did names same is = rw (same, is) refl

-- where none is taken all names stay
pub told_none : (more : LogEntry → List (List ℕ) → List (List ℕ)) (batch : List ℕ) (whom : Option (List ℕ))
    (told : Option LogEntry) (names : List (List ℕ)) → told ≡ None →
    names ≡ after_entry more (cond (is_this batch whom) told None) names
told_none more batch whom told names is = rw is (go (is_this batch whom))
  where
    go : (its : Bool) → names ≡ after_entry more (cond its None None) names
    go true = refl
    go false = refl

-- ---- a name that is set or cleared

-- a name that is put behind others is among them
set_name : (names : List (List ℕ)) (step name : List ℕ)
    → is_among (names ++ step ∷ []) name ≡ cond (bytes_eq step name) true (is_among names name)
set_name names step name =
    list_any-append (λ each. bytes_eq each name) names (step ∷ []) ∙ go (bytes_eq step name) (is_among names name)
  where
    go : (same before : Bool) → (before || (same || false)) ≡ cond same true before
    go true true = refl
    go true false = refl
    go false true = refl
    go false false = refl

-- a name that is taken out isn't
cut_name : (names : List (List ℕ)) (step name : List ℕ)
    → is_among (tags_without step names) name ≡ cond (bytes_eq step name) false (is_among names name)
cut_name [] step name = go (bytes_eq step name)
  where
    go : (same : Bool) → false ≡ cond same false false
    go true = refl
    go false = refl
cut_name (each ∷ names) step name =
    go (bytes_eq each step) (bytes_eq step name) refl refl (cut_name names step name)
  where
    among : List (List ℕ)
    among = tags_without step names

    go : (its same : Bool) → bytes_eq each step ≡ its → bytes_eq step name ≡ same →
        is_among among name ≡ cond same false (is_among names name) →
        is_among (cond (not its) (each ∷ among) among) name
        ≡ cond same false (bytes_eq each name || is_among names name)
    go true true its same rest = rest
    go true false its same rest =
        rest ∙ ap (λ here. here || is_among names name)
        (sym (ap (λ each. bytes_eq each name) (same_true each step its) ∙ same))
    go false true its same rest =
        ap (λ here. here || is_among among name)
        (ap (bytes_eq each) (sym (same_true step name same)) ∙ its)
        ∙ rest
    go false false its same rest = ap (λ among. bytes_eq each name || among) rest

-- ---- steps that run

-- what an entry says of a step, or else what was so before
said_phase : (same runs : Bool) (phase : Phase) (before : Bool) → is_running phase ≡ runs →
    cond same runs before ≡ unwrap_or (option_map is_running (when same phase)) before
said_phase true runs phase before is = sym is
said_phase false runs phase before is = refl

-- a step runs as the entry says
running_by : (did : LogEntry) (names : List (List ℕ)) (name : List ℕ) →
    is_among (running_more did names) name
    ≡ unwrap_or (option_map is_running (phase_by name did)) (is_among names name)
running_by (Start step tag service procedure) names name =
    set_name names step name ∙ said_phase (bytes_eq step name) true started (is_among names name) refl
running_by (Finish step tag service) names name =
    set_name names step name ∙ said_phase (bytes_eq step name) true finished (is_among names name) refl
running_by (Reset step tag service) names name =
    set_name names step name ∙ said_phase (bytes_eq step name) true was_reset (is_among names name) refl
running_by (End step) names name =
    cut_name names step name ∙ said_phase (bytes_eq step name) false idle (is_among names name) refl
running_by (Stop step tag service) names name =
    cut_name names step name ∙ said_phase (bytes_eq step name) false idle (is_among names name) refl
running_by (Left step state) names name =
    cut_name names step name ∙ said_phase (bytes_eq step name) false idle (is_among names name) refl
running_by _ names name = refl

-- and else as before
runs_later : (said earlier : Option Phase) → unwrap_or (option_map is_running said) (is_running (or_idle earlier))
    ≡ is_running (or_idle (or_earlier said earlier))
runs_later None earlier = refl
runs_later (Some phase) earlier = refl

-- the names of the steps that run, after one more entry
running_pushed : (log : List LogEntry) (did : LogEntry) (names : List (List ℕ)) (name : List ℕ) →
    is_among names name ≡ is_running (phase_after log name) →
    is_among (running_more did names) name ≡ is_running (phase_after (log ++ did ∷ []) name)
running_pushed log did names name before =
    running_by did names name
    ∙ ap (unwrap_or (option_map is_running (phase_by name did))) before
    ∙ runs_later (phase_by name did) (last_of (phase_by name) log)
    ∙ sym (ap (λ said. is_running (or_idle said)) (last_pushed (phase_by name) log did))

-- ---- steps that are held

-- what an entry says of a step, or else what was so before
said_held : (same held before : Bool) → cond same held before ≡ unwrap_or (when same held) before
said_held true held before = refl
said_held false held before = refl

-- a step is held as the entry says
held_by : (did : LogEntry) (names : List (List ℕ)) (name : List ℕ) →
    is_among (held_more did names) name ≡ unwrap_or (holding_by name did) (is_among names name)
held_by (Hold step tag service) names name =
    set_name names step name ∙ said_held (bytes_eq step name) true (is_among names name)
held_by (Start step tag service procedure) names name =
    cut_name names step name ∙ said_held (bytes_eq step name) false (is_among names name)
held_by (Unhold step tag service) names name =
    cut_name names step name ∙ said_held (bytes_eq step name) false (is_among names name)
held_by _ names name = refl

-- what the later entries say; else what this one says; else what was so before
said_later : {A : Type 0} (later here : Option A) (before : A)
    → unwrap_or (or_earlier later here) before ≡ unwrap_or later (unwrap_or here before)
said_later None here before = refl
said_later (Some said) here before = refl

-- the names of the steps that are held, after one more entry
held_pushed : (log : List LogEntry) (did : LogEntry) (names : List (List ℕ)) (name : List ℕ) →
    is_among names name ≡ was_held log name →
    is_among (held_more did names) name ≡ was_held (log ++ did ∷ []) name
held_pushed log did names name before =
    held_by did names name
    ∙ ap (unwrap_or (holding_by name did)) before
    ∙ sym (said_later (holding_by name did) (last_of (holding_by name) log) false)
    ∙ sym (ap (λ said. unwrap_or said false) (last_pushed (holding_by name) log did))

-- ---- after one more entry of a history

-- names that follow a log follow it with the entry that is taken
module _ (more : LogEntry → List (List ℕ) → List (List ℕ)) (is : List LogEntry → List ℕ → Bool)
    (pushed : (log : List LogEntry) (did : LogEntry) (names : List (List ℕ)) (name : List ℕ) →
    is_among names name ≡ is log name → is_among (more did names) name ≡ is (log ++ did ∷ []) name) where
  follows : (batch : List ℕ) (history : History) (entry : PlainEntry) (old new : List (List ℕ)) →
      new ≡ after_entry more (cond (is_this batch (accepted_batch entry)) (taken entry.answer) None) old →
      ((name : List ℕ) → is_among old name ≡ is (log_by (past_of_batch batch history)) name) →
      (name : List ℕ) → is_among new name ≡ is (log_by (past_of_batch batch (entry ∷ history))) name
  follows batch history entry old new same before name =
      ap (λ names. is_among names name)
      (same ∙ ap (λ its. after_entry more (cond its (taken entry.answer) None) old) (its_batch batch entry))
      ∙ go (is_accepted_of_batch batch entry) (taken entry.answer) refl
    where
      past' : History
      past' = past_of_batch batch history

      go : (its : Bool) (took : Option LogEntry) → taken entry.answer ≡ took →
          is_among (after_entry more (cond its took None) old) name
          ≡ is (log_by (cond its (entry ∷ past') past')) name
      go true (Some did) told =
          pushed (log_by past') did old name (before name)
          ∙ ap (λ log. is log name) (sym (log_grows entry past' did told))
      go true None told = before name ∙ ap (λ log. is log name) (sym (log_stays entry past' told))
      go false took told = before name

-- the steps that run
pub running_follows : (batch : List ℕ) (history : History) (entry : PlainEntry) (old new : List (List ℕ)) →
    new ≡ after_entry running_more (cond (is_this batch (accepted_batch entry)) (taken entry.answer) None) old →
    ((name : List ℕ) → is_among old name
    ≡ is_running (phase_after (log_by (past_of_batch batch history)) name)) →
    (name : List ℕ) → is_among new name
    ≡ is_running (phase_after (log_by (past_of_batch batch (entry ∷ history))) name)
running_follows = follows running_more (λ log name. is_running (phase_after log name)) running_pushed

-- those that are held
pub held_follows : (batch : List ℕ) (history : History) (entry : PlainEntry) (old new : List (List ℕ)) →
    new ≡ after_entry held_more (cond (is_this batch (accepted_batch entry)) (taken entry.answer) None) old →
    ((name : List ℕ) → is_among old name ≡ was_held (log_by (past_of_batch batch history)) name) →
    (name : List ℕ) → is_among new name ≡ was_held (log_by (past_of_batch batch (entry ∷ history))) name
held_follows = follows held_more was_held held_pushed
