-- Looking back over the entries of one kind alone, where the others say nothing.
use Rattle.std.proofs.Common.{◌≡◌, ◌≤◌, ℕ, Bool, true, false, cond, List, [], ◌∷◌, length, map, Option, Some, None}
use Rattle.std.proofs.Common.{refl, ap, sym, ◌∙◌, arith}
use Rattle.std.specs.Prelude.{◌&&◌, ◌||◌, filter, is_some}
use Rattle.std.specs.List.{filter_map}
use Rattle.std.specs.Option.{option_or}
use Rattle.std.proofs.Math.Bool.{and-true}
use Rattle.std.proofs.lemmas.List.{length-map, length-reverse}
use Rattle.pol_events.specs.Events.{PlainEntry, PlainEvent, plug, unplug, start, freeze}
use Rattle.pol_events.specs.Events.{exchange_begin, exchange_end, exchange_cancel, plain_entry, plain_history}
use Rattle.pol_events.specs.declared.answer.Answer.{Answer}
use Rattle.pol_events.specs.declared.event.Entry.{Entry}
use Rattle.pol_history.specs.Looking.{History, after_last, is_accepted, is_accepted_of, last_of, past, since}
use Rattle.pol_history.specs.Modules.{begins_by, described, is_begin, is_moving, is_plug}
use Rattle.pol_history.specs.Batches.{freezing, held_step, holds, is_freeze, is_start, starting, takes, taking, watches}
use Rattle.pol_history.specs.Batches.{watching}
use Rattle.pol_history.proofs.Filters.{all_of, filter_kept, length_filter}
use Rattle.pol_audit.specs.Dockings.{docking_left}
use Rattle.pol_audit.specs.Freezes.{asked_step, asking}
use Rattle.pol_audit.specs.Placed.{asks, freezes, moves}

-- the last that says something is among those that may
pub last_among : {Form : Type 0} (test : PlainEntry → Bool) (says : PlainEntry → Option Form) →
    ((entry : PlainEntry) → test entry ≡ false → says entry ≡ None) → (history : History) →
    last_of says (filter test history) ≡ last_of says history
last_among test says silent [] = refl
last_among test says silent (entry ∷ older) = go (test entry) (silent entry) (last_among test says silent older)
  where
    go : (kept : Bool) → (kept ≡ false → says entry ≡ None) →
        last_of says (filter test older) ≡ last_of says older →
        last_of says (cond kept (entry ∷ filter test older) (filter test older))
        ≡ option_or (says entry) (last_of says older)
    go true none rest = ap (option_or (says entry)) rest
    go false none rest = rw (none refl) rest

-- all that is said is said by those that may
pub all_among : {Form : Type 0} (test : PlainEntry → Bool) (says : PlainEntry → Option Form) →
    ((entry : PlainEntry) → test entry ≡ false → says entry ≡ None) → (history : History) →
    filter_map says (filter test history) ≡ filter_map says history
all_among test says silent [] = refl
all_among {Form} test says silent (entry ∷ older) =
    go (test entry) refl (silent entry) (all_among test says silent older)
  where
    said : (found : Option Form) → says entry ≡ found → filter_map says (filter test older) ≡ filter_map says older →
        filter_map says (entry ∷ filter test older) ≡ filter_map says (entry ∷ older)
    said None is rest = rw is rest
    said (Some form) is rest = rw is (ap (λ forms. form ∷ forms) rest)

    go : (kept : Bool) → test entry ≡ kept → (kept ≡ false → says entry ≡ None) →
        filter_map says (filter test older) ≡ filter_map says older →
        filter_map says (cond kept (entry ∷ filter test older) (filter test older))
        ≡ filter_map says (entry ∷ older)
    go true is none rest = said (says entry) refl rest
    go false is none rest = rw (none refl) rest

-- a cut at an entry that is kept is the same before and after the others are left out
pub cut_kept : (ends keeps : PlainEntry → Bool) →
    ((entry : PlainEntry) → ends entry ≡ true → keeps entry ≡ true) → (history : History) →
    after_last ends (filter keeps history) ≡ filter keeps (after_last ends history)
cut_kept ends keeps all [] = refl
cut_kept ends keeps all (entry ∷ older) =
    go (ends entry) (keeps entry) refl refl (all entry) (cut_kept ends keeps all older)
  where
    go : (end' kept : Bool) → ends entry ≡ end' → keeps entry ≡ kept → (end' ≡ true → kept ≡ true) →
        after_last ends (filter keeps older) ≡ filter keeps (after_last ends older) →
        after_last ends (cond kept (entry ∷ filter keeps older) (filter keeps older))
        ≡ filter keeps (cond end' [] (entry ∷ after_last ends older))
    go true true is also keep rest = rw is refl
    go true false is also keep rest = let clash : false ≡ true = keep refl in cc
    go false true is also keep rest = rw (is, also) (ap (λ found. entry ∷ found) rest)
    go false false is also keep rest = rw also rest

-- ---- modules

-- what doesn't move a module leaves no docking
no_docking : (event : PlainEvent) (answer : Answer) → is_moving event ≡ false →
    docking_left (record { event = event; answer = answer }) ≡ None
no_docking (plug at tag description) answer is = absurd cc
no_docking (unplug at tag) answer is = absurd cc
no_docking (exchange_begin at tag) answer is = absurd cc
no_docking (exchange_end at tag ticket description) answer is = absurd cc
no_docking (exchange_cancel at tag ticket) answer is = absurd cc
no_docking _ answer is = refl

-- and brings no description
no_description : (event : PlainEvent) → is_moving event ≡ false → described event ≡ None
no_description (plug at tag description) is = absurd cc
no_description (exchange_end at tag ticket description) is = absurd cc
no_description _ is = refl

-- a plug moves the module
plug_moves : (event : PlainEvent) → is_plug event ≡ true → is_moving event ≡ true
plug_moves (plug at tag description) is = refl
plug_moves _ is = absurd cc

-- and so does the begin of an exchange
begin_moves : (event : PlainEvent) → is_begin event ≡ true → is_moving event ≡ true
begin_moves (exchange_begin at tag) is = refl
begin_moves _ is = absurd cc

-- the docking is left by what moves the module
pub docking_among : (past : History) → last_of docking_left (filter moves past) ≡ last_of docking_left past
docking_among past =
    last_among moves docking_left (λ entry is. no_docking entry.event entry.answer is) past

-- the description is brought by what moves it
pub description_among : (past : History)
    → last_of (λ entry. described entry.event) (filter moves past) ≡ last_of (λ entry. described entry.event) past
description_among past =
    last_among moves (λ entry. described entry.event) (λ entry is. no_description entry.event is) past

-- the exchanges that were begun are among what moves the module
pub begun_among : (past : History) →
    filter (λ entry. is_begin entry.event) (after_last (λ entry. is_plug entry.event) (filter moves past))
    ≡ filter (λ entry. is_begin entry.event) (after_last (λ entry. is_plug entry.event) past)
begun_among past =
    ap (filter (λ entry. is_begin entry.event))
    (cut_kept (λ entry. is_plug entry.event) moves (λ entry is. plug_moves entry.event is) past)
    ∙ filter_kept (λ entry. is_begin entry.event) moves (after_last (λ entry. is_plug entry.event) past)
    (all_of (λ entry. is_begin entry.event ≡ true → moves entry ≡ true) (λ entry is. begin_moves entry.event is)
    (after_last (λ entry. is_plug entry.event) past))

-- what was since an entry is no more than all
length_since : (test : PlainEntry → Bool) (history : History) → length (since test history) ≤ length history
length_since test [] = omega arith
length_since test (entry ∷ older) = go (test entry) (length_since test older)
  where
    go : (here : Bool) → length (since test older) ≤ length older
        → length (cond here (entry ∷ []) (entry ∷ since test older)) ≤ length (entry ∷ older)
    go true few = omega arith
    go false few = omega (arith, few)

-- no more exchanges were begun than there are entries
pub few_begun : (tag : List ℕ) (entries : List Entry)
    → begins_by (past tag (plain_history entries)) ≤ length entries
few_begun tag entries =
    let own = past tag (plain_history entries) in
    let begun = length_filter (λ entry. is_begin entry.event) (since (λ entry. is_plug entry.event) own) in
    let later = length_since (λ entry. is_plug entry.event) own in
    let all = length_filter (is_accepted_of tag) (plain_history entries) in
    let long = length-reverse (map plain_entry entries) ∙ length-map entries plain_entry in
    omega (arith, begun, later, all, long)

-- ---- batches

-- what neither freezes nor ends a freeze holds nothing
no_hold : (event : PlainEvent) → is_some (freezing event) ≡ false → holds event ≡ None
no_hold (freeze at batch hold) is = absurd cc
no_hold _ is = refl

-- the last freeze is among the freezes, thaws and stops
pub holds_among : (past : History)
    → last_of (λ entry. holds entry.event) (filter freezes past) ≡ last_of (λ entry. holds entry.event) past
holds_among past = last_among freezes (λ entry. holds entry.event) (λ entry is. no_hold entry.event is) past

-- what neither freezes nor asks a step to hold asks none
no_asking : (name : List ℕ) (frozen : Bool) (step : Option (List ℕ)) → (frozen || is_some step) ≡ false →
    cond frozen (Some false) (asked_step name step) ≡ None
no_asking name true step is = absurd cc
no_asking name false None is = refl
no_asking name false (Some step) is = absurd cc

-- the last that asks a step is among those that may
pub asking_among : (name : List ℕ) (past : History)
    → last_of (asking name) (filter asks past) ≡ last_of (asking name) past
asking_among name past =
    last_among asks (asking name) (λ entry is. no_asking name (is_freeze entry.event) (held_step entry.answer) is) past

-- ---- starts

-- what is no start takes no module
no_taking : (tag : List ℕ) (event : PlainEvent) → is_some (starting event) ≡ false → taking tag event ≡ None
no_taking tag (start at batch name binds) is = absurd cc
no_taking tag _ is = refl

-- nor does it watch one
no_watching : (tag : List ℕ) (event : PlainEvent) → is_some (starting event) ≡ false → watching tag event ≡ None
no_watching tag (start at batch name binds) is = absurd cc
no_watching tag _ is = refl

-- so what a start says is nothing where the entry is no accepted start
by_accepted : {A : Type 0} (begins accepted : Bool) (said : Option A) → (begins ≡ false → said ≡ None) →
    (begins && accepted) ≡ false → cond accepted said None ≡ None
by_accepted begins true said none is = none (sym (and-true begins) ∙ is)
by_accepted begins false said none is = refl

-- the last start on a module is among the starts
pub taker_among : (tag : List ℕ) (history : History)
    → last_of (takes tag) (filter is_start history) ≡ last_of (takes tag) history
taker_among tag history =
    last_among is_start (takes tag)
    (λ entry is. by_accepted (is_some (starting entry.event)) (is_accepted entry.answer) (taking tag entry.event)
    (no_taking tag entry.event) is)
    history

-- the starts that watch a module are among the starts
pub watchers_among : (tag : List ℕ) (history : History)
    → filter_map (watches tag) (filter is_start history) ≡ filter_map (watches tag) history
watchers_among tag history =
    all_among is_start (watches tag)
    (λ entry is. by_accepted (is_some (starting entry.event)) (is_accepted entry.answer) (watching tag entry.event)
    (no_watching tag entry.event) is)
    history
