-- The reported states of a service are a path.
use Rattle.std.proofs.Common.{◌≡◌, ℕ, Bool, true, false, cond, not, List, [], ◌∷◌, refl, ap, Option, Some, None, sym}
use Rattle.std.proofs.Common.{◌∙◌, subst, reverse, ◌++◌}
use Rattle.std.specs.Prelude.{◌&&◌, unwrap_or}
use Rattle.std.specs.Option.{option_or}
use Rattle.std.specs.Str.{bytes_eq}
use Rattle.std.proofs.lemmas.Bool.{and_parts, and_from}
use Rattle.std.proofs.lemmas.List.{reverse-append}
use Rattle.mtp_codes.specs.declared.state.State.{State}
use Rattle.mtp_codes.specs.Faults.{when}
use Rattle.mtp_codes.proofs.Names.{same_true}
use Rattle.mtp_machine.specs.Machine.{is_path}
use Rattle.mtp_assembly.specs.declared.control.ServiceControl.{ServiceControl}
use Rattle.pol_events.specs.Events.{PlainEvent, plug, unplug, report, variable, recipe, start, advance, freeze, thaw}
use Rattle.pol_events.specs.Events.{stop_batch, abandon, desk, exchange_begin, exchange_end, exchange_cancel}
use Rattle.pol_events.specs.Events.{PlainEntry}
use Rattle.pol_events.specs.declared.answer.Rule.TheVariants.{NotAnEdge}
use Rattle.pol_events.specs.Refusals.{may_follow, not_an_edge, in_exchange}
use Rattle.pol_history.specs.Looking.{History, subject, is_module, is_accepted, is_accepted_of, past, last_of}
use Rattle.pol_history.specs.Looking.{after_last}
use Rattle.pol_history.specs.Modules.{Docking, absent, docked, away, docking_after, docking_by, is_docking, is_moving}
use Rattle.pol_history.specs.Modules.{ticket_of, reported, after_docking, since_docking, states_in, control_by}
use Rattle.pol_history.specs.Rules.{no_module}
use Rattle.pol_history.specs.Answers.{answer_of, rules}
use Rattle.pol_history.specs.Runs.{entry_of, IsLegal}
use Rattle.pol_history.specs.Paths.{ReportsArePaths}
use Rattle.pol_history.proofs.Accepted.{NoneHolds, accepted_none, paired}

-- the same from the newest state on: each may follow the one after it
abbrev is_path_back : List State → Bool
is_path_back [] = true
is_path_back (new ∷ []) = true
is_path_back (new ∷ old ∷ older) = may_follow old new && is_path_back (old ∷ older)

-- the state may come after the last control, if there is one
abbrev comes_after : Option ServiceControl → State → Bool
comes_after None state = true
comes_after (Some control) state = may_follow control.state state

-- a state that may come after the last one makes the path longer
longer : (service : List ℕ) (state : State) (entries : History) →
    comes_after (last_of (λ entry. reported service entry.event) entries) state ≡ true
    → is_path_back (states_in service entries) ≡ true →
    is_path_back (state ∷ states_in service entries) ≡ true
longer service state [] next path = refl
longer service state (entry ∷ older) next path = go (reported service entry.event) refl next path
    (longer service state older)
  where
    go : (control : Option ServiceControl) → reported service entry.event ≡ control →
        comes_after (option_or (reported service entry.event)
        (last_of (λ entry. reported service entry.event) older)) state ≡ true →
        is_path_back (states_in service (entry ∷ older)) ≡ true →
        (comes_after (last_of (λ entry. reported service entry.event) older) state ≡ true
        → is_path_back (states_in service older) ≡ true →
        is_path_back (state ∷ states_in service older) ≡ true) →
        is_path_back (state ∷ states_in service (entry ∷ older)) ≡ true
    go None is next path rest = rw is (rest (rw is at next) (rw is at path))
    go (Some control) is next path rest =
        rw is (and_from (may_follow control.state state) (is_path_back (control.state ∷ states_in service older))
        (rw is at next) (rw is at path))

-- a report that isn't refused for its edge comes after the last state
allowed : (state : State) (last : Option ServiceControl) → not_an_edge state last ≡ None → comes_after last state ≡ true
allowed state None none = refl
allowed state (Some control) none = go (may_follow control.state state) none
  where
    go : (follows : Bool) → when (not follows) (NotAnEdge control.state state) ≡ None → follows ≡ true
    go true none = refl
    go false none = cc

-- a module that is neither absent nor away is docked
is_docked : (tag : List ℕ) (docking : Docking) → no_module tag docking ≡ None
    → in_exchange tag (ticket_of docking) ≡ None →
    (count : ℕ) × (docking ≡ docked count)
is_docked tag absent there still = cc
is_docked tag (docked count) there still = (count, refl)
is_docked tag (away ticket) there still = cc

-- where the last move is a docking, nothing moved after the last docking
docked_last : (all older : History) (count : ℕ) → last_of (λ entry. docking_after all entry.event entry.answer) older
    ≡ Some (docked count) →
    after_last (λ entry. is_moving entry.event) older ≡ after_last (λ entry. is_docking entry.event) older
docked_last all [] count last = refl
docked_last all (entry ∷ older) count last = by_kind (docked_last all older count) entry.event last
  where
    by_kind : (last_of (λ entry. docking_after all entry.event entry.answer) older ≡ Some (docked count) →
        after_last (λ entry. is_moving entry.event) older ≡ after_last (λ entry. is_docking entry.event) older)
        → (event : PlainEvent) →
        option_or (docking_after all event entry.answer) (last_of
        (λ entry. docking_after all entry.event entry.answer) older) ≡ Some (docked count) →
        cond (is_moving event) [] (entry ∷ after_last (λ entry. is_moving entry.event) older)
        ≡ cond (is_docking event) [] (entry ∷ after_last (λ entry. is_docking entry.event) older)
    by_kind rest (plug at tag description) last = refl
    by_kind rest (exchange_end at tag ticket description) last = refl
    by_kind rest (exchange_cancel at tag ticket) last = refl
    by_kind rest (unplug at tag) last = cc
    by_kind rest (exchange_begin at tag) last = cc
    by_kind rest _ last = ap (λ rest. entry ∷ rest) (rest last)

-- so a docked module's reports are those after its last docking
since_docked : (past : History) (count : ℕ) → docking_by past ≡ docked count → since_docking past ≡ after_docking past
since_docked past count is = last (last_of (λ entry. docking_after past entry.event entry.answer) past) refl is
  where
    last : (found : Option Docking) → last_of (λ entry. docking_after past entry.event entry.answer) past ≡ found →
        unwrap_or found absent ≡ docked count → since_docking past ≡ after_docking past
    last None found is = cc
    last (Some docking) found is = docked_last past past count (found ∙ ap Some is)

-- an accepted event of the module keeps the path
step : (history : History) (tag service : List ℕ) (event : PlainEvent) → is_module tag (subject event) ≡ true →
    is_accepted (answer_of history event) ≡ true → is_path_back
    (states_in service (after_docking (past tag history))) ≡ true →
    is_path_back (states_in service (after_docking (entry_of history event ∷ past tag history))) ≡ true
step history tag service (plug at other description) of_tag accepted path = refl
step history tag service (unplug at other) of_tag accepted path = path
step history tag service (exchange_begin at other) of_tag accepted path = path
step history tag service (exchange_end at other ticket description) of_tag accepted path = refl
step history tag service (exchange_cancel at other ticket) of_tag accepted path = refl
step history tag service (variable at other named value) of_tag accepted path = path
step history tag service (desk at other named command) of_tag accepted path = path
step history tag service (recipe at name chart) of_tag accepted path = cc
step history tag service (start at batch name binds) of_tag accepted path = cc
step history tag service (advance at batch) of_tag accepted path = cc
step history tag service (freeze at batch hold) of_tag accepted path = cc
step history tag service (thaw at batch) of_tag accepted path = cc
step history tag service (stop_batch at batch) of_tag accepted path = cc
step history tag service (abandon at batch) of_tag accepted path = cc
step history tag service (report at other named control) of_tag accepted path = go (bytes_eq named service) refl
  where
    free : NoneHolds (rules history (report at other named control))
    free = accepted_none history (report at other named control) accepted

    passed : comes_after (control_by named (past other history)) control.state ≡ true
    passed = allowed control.state (control_by named (past other history)) free.1.1.1.0

    docked_here : since_docking (past tag history) ≡ after_docking (past tag history)
    docked_here =
        let docked = is_docked other (docking_by (past other history)) free.0 free.1.0 in
        ap (λ name. since_docking (past name history)) (sym (same_true other tag of_tag))
        ∙ since_docked (past other history) docked.0 docked.1
        ∙ ap (λ name. after_docking (past name history)) (same_true other tag of_tag)

    go : (same : Bool) → bytes_eq named service ≡ same
        → is_path_back (states_in service
        (after_docking (entry_of history (report at other named control) ∷ past tag history))) ≡ true
    go false is = rw is path
    go true is =
        let here : comes_after (control_by service (past tag history)) control.state ≡ true =
        ap (λ name. comes_after (control_by service (past name history)) control.state)
        (sym (same_true other tag of_tag))
        ∙ ap (λ name. comes_after (control_by name (past other history)) control.state)
        (sym (same_true named service is)) ∙ passed in
        let last : comes_after (last_of (λ entry. reported service entry.event) (after_docking (past tag history)))
        control.state ≡ true =
        ap (λ entries. comes_after (last_of (λ entry. reported service entry.event) entries) control.state)
        (sym docked_here) ∙ here in
        rw is (longer service control.state (after_docking (past tag history)) last path)

-- one event more keeps the states since docking a path
more : (history : History) (tag service : List ℕ) (event : PlainEvent)
    → is_path_back (states_in service (after_docking (past tag history))) ≡ true →
    is_path_back (states_in service (after_docking (past tag (entry_of history event ∷ history)))) ≡ true
more history tag service event path = go (is_accepted_of tag (entry_of history event)) refl
  where
    go : (kept : Bool) → is_accepted_of tag (entry_of history event) ≡ kept →
        is_path_back (states_in service
        (after_docking (cond kept (entry_of history event ∷ past tag history) (past tag history)))) ≡ true
    go true is =
        let parts = and_parts (is_module tag (subject event)) (is_accepted (answer_of history event)) is in
        step history tag service event parts.0 parts.1 path
    go false is = path

-- so in a legal history they are one, read from the newest
paths_back : (history : History) → IsLegal history → (tag service : List ℕ)
    → is_path_back (states_in service (after_docking (past tag history))) ≡ true
paths_back [] legal tag service = refl
paths_back (entry ∷ history) legal tag service =
    let P : PlainEntry → Type 0 = λ newest. is_path_back (states_in service
    (after_docking (past tag (newest ∷ history)))) ≡ true in
    subst P (ap (paired entry.event) (sym legal.0)) (more history tag service entry.event
    (paths_back history legal.2 tag service))

-- the last of the states may be followed by this one
abbrev ends_before : List State → State → Bool
ends_before [] state = true
ends_before (last ∷ []) state = may_follow last state
ends_before (first ∷ next ∷ states) state = ends_before (next ∷ states) state

-- a path with a state behind it that may follow is a path
path_pushed : (states : List State) (state : State) → is_path states ≡ true → ends_before states state ≡ true
    → is_path (states ++ state ∷ []) ≡ true
path_pushed [] state path ends = refl
path_pushed (last ∷ []) state path ends = and_from (may_follow last state) true ends refl
path_pushed (first ∷ next ∷ states) state path ends =
    let parts = and_parts (may_follow first next) (is_path (next ∷ states)) path in
    and_from (may_follow first next) (is_path (next ∷ states ++ state ∷ [])) parts.0
    (path_pushed (next ∷ states) state parts.1 ends)

-- what may follow such a path may follow its last state
ends_pushed : (states : List State) (last state : State) → ends_before (states ++ last ∷ []) state
    ≡ may_follow last state
ends_pushed [] last state = refl
ends_pushed (first ∷ []) last state = refl
ends_pushed (first ∷ next ∷ states) last state = ends_pushed (next ∷ states) last state

-- the newest state comes last when a list is turned round
reversed : (state : State) (states : List State) → reverse (state ∷ states) ≡ reverse states ++ state ∷ []
reversed state states = reverse-append (state ∷ []) states

-- a path read from its end is a path
path_reversed : (states : List State) → is_path_back states ≡ true → is_path (reverse states) ≡ true
path_reversed [] path = refl
path_reversed (new ∷ []) path = refl
path_reversed (new ∷ old ∷ older) path =
    let parts = and_parts (may_follow old new) (is_path_back (old ∷ older)) path in
    let ends : ends_before (reverse (old ∷ older)) new ≡ true =
    ap (λ states. ends_before states new) (reversed old older) ∙ ends_pushed (reverse older) old new ∙ parts.0 in
    rw (reversed new (old ∷ older)) (path_pushed (reverse (old ∷ older)) new (path_reversed (old ∷ older) parts.1) ends)

-- the promise: the accepted reports of a service since docking are a path of the state machine
pub reports_follow_paths : ReportsArePaths
reports_follow_paths history legal tag service = path_reversed (states_in service (after_docking (past tag history)))
    (paths_back history legal tag service)
