-- Which batches hold and watch a module: what every event keeps of it.
use Rattle.std.proofs.Common.{◌≡◌, ℕ, Bool, true, false, cond, List, ◌∷◌, Option, Some, None, refl, ap, sym, ◌∙◌, subst}
use Rattle.std.proofs.Common.{inl, inr, ◌⊎◌}
use Rattle.std.specs.Prelude.{◌&&◌, filter_map, is_none, if◌then◌else◌}
use Rattle.std.specs.List.{Contains, cons_option}
use Rattle.std.specs.Option.{option_or}
use Rattle.std.specs.Str.{bytes_eq}
use Rattle.mtp_codes.specs.Names.{is_among}
use Rattle.mtp_codes.proofs.Names.{same_refl}
use Rattle.mtp_codes.proofs.Options.{or_none}
use Rattle.chart_core.specs.Roles.{PlainChart, role_names}
use Rattle.chart_core.specs.Trees.{Placed, steps}
use Rattle.pol_events.specs.Events.{PlainEvent, start, PlainEntry}
use Rattle.pol_events.specs.declared.event.Bind.{Bind}
use Rattle.pol_events.specs.Bound.{PlainAllocation, bound_tag, given, tags_of}
use Rattle.pol_events.specs.Orderly.{is_allocation}
use Rattle.pol_events.proofs.Given.{held_once, tag_given}
use Rattle.pol_events.proofs.Played.{bound_member}
use Rattle.pol_history.proofs.Holders.{no_taking}
use Rattle.pol_history.proofs.Watchers.{open_watches, watcher_parts, watches_none}
use Rattle.std.proofs.lemmas.List.Elements.{Contains-append_cases}
use Rattle.chart_core.proofs.Lawful.{member_cases}
use Rattle.pol_history.proofs.Open.{open_before, open_some}
use Rattle.pol_history.specs.Looking.{History, past_of_batch, recipes, is_accepted, last_of}
use Rattle.pol_history.specs.Batches.{Started, starting, start_by, start_of, chart_named, chart_by, outcome_by}
use Rattle.pol_history.specs.Batches.{outcome_of, taking, takes, watches, if_open, holder_of, watchers_of}
use Rattle.pol_history.specs.Rules.{busy_module, busy_role}
use Rattle.pol_history.specs.Runs.{IsLegal, IsOrderly}
use Rattle.pol_safety.specs.Kept.{HoldersAreOpen, WatchersAreOpen}
use Rattle.pol_events.proofs.Options.{no_both}
use Rattle.pol_events.proofs.Lists.{no_member, member_image, image_member, member_among, among_member, none_first}
use Rattle.pol_safety.proofs.Sides.{Sides, sides, accepted, Comes, IsKeptBy, always}
use Rattle.pol_history.proofs.Binds.{binds_known, tags_by_role, unknown_parts}
use Rattle.pol_safety.proofs.Starts.{MayStart, may_start, start_same, start_stays, StartCase, its_own, earlier}
use Rattle.pol_safety.proofs.Starts.{start_case, charted, IsRunning, running_holds}

-- ---- holders

-- a module is held by the batch that took it last, while that batch is open
pub holder_is : (history : History) (tag batch : List ℕ) → last_of (takes tag) history ≡ Some batch
    → outcome_of history batch ≡ None → holder_of history tag ≡ Some batch
holder_is history tag batch took open' =
    ap (if_open history) took ∙ ap (λ outcome. if is_none outcome then Some batch else None) open'

-- the holder of a module took it last and isn't closed
pub holder_parts : (history : History) (tag batch : List ℕ) → holder_of history tag ≡ Some batch →
    (last_of (takes tag) history ≡ Some batch) × (outcome_of history batch ≡ None)
holder_parts history tag batch is = open_some history (last_of (takes tag) history) batch is

-- ---- who took a module last

-- an event that is no start takes no module
taker_same : (history : History) (entry : PlainEntry) (tag : List ℕ) → starting entry.event ≡ None
    → last_of (takes tag) (entry ∷ history) ≡ last_of (takes tag) history
taker_same history entry tag is = go (is_accepted entry.answer)
  where
    go : (kept : Bool) → option_or (if kept then taking tag entry.event else None) (last_of (takes tag) history)
        ≡ last_of (takes tag) history
    go true = ap (λ found. option_or found (last_of (takes tag) history)) (no_taking tag entry.event is)
    go false = refl

-- the batch with this past was started on the module
pub record IsStartedOn (past : History) (tag : List ℕ) : Type 0 where
  pub started : Started
  pub start_is : start_by past ≡ Some started
  pub bind : Bind
  pub binds : Contains started.binds.held bind
  pub tag_is : bind.tag ≡ tag

-- the batch that took a module last was started on it
abbrev pub TakersStarted : Sides → Type 0
TakersStarted side = (tag batch : List ℕ) → side.taker tag ≡ Some batch → IsStartedOn (side.batches batch) tag

-- a batch that was started on a module stays so
started_stays : (history : History) (event : PlainEvent) (batch tag : List ℕ) → Comes history event
    → IsStartedOn (past_of_batch batch history) tag →
    IsStartedOn (past_of_batch batch (accepted history event ∷ history)) tag
started_stays history event batch tag comes on =
    record {
      started = on.started;
      start_is = start_stays history event batch on.started comes on.start_is;
      bind = on.bind;
      binds = on.binds;
      tag_is = on.tag_is;
    }

-- an event that starts no batch keeps the takers started
started_by : (history : History) (event : PlainEvent) → starting event ≡ None → Comes history event
    → TakersStarted (sides history) →
    TakersStarted (sides (accepted history event ∷ history))
started_by history event is comes takers tag batch took =
    started_stays history event batch tag comes (takers tag batch
    (sym (taker_same history (accepted history event) tag is) ∙ took))

-- and so does a start
takers_more : IsKeptBy TakersStarted
takers_more history (start at other name binds) comes takers tag batch took =
    go (is_among (tags_of binds.held) tag) refl took
  where
    own : bytes_eq other batch ≡ true → (bind : Bind) × Contains binds.held bind × (bind.tag ≡ tag) →
        IsStartedOn (cond (bytes_eq other batch && true)
        (accepted history (start at other name binds) ∷ past_of_batch batch history)
        (past_of_batch batch history)) tag
    own same (bind, inside, tag_is) =
        record {
          started = record { recipe = name; binds = binds };
          start_is = ap (λ kept.
              start_by (cond (kept && true) (accepted history (start at other name binds) ∷ past_of_batch batch history)
              (past_of_batch batch history))) same;
          bind = bind;
          binds = inside;
          tag_is = tag_is;
        }

    go : (among : Bool) → is_among (tags_of binds.held) tag ≡ among
        → option_or (if among then Some other else None) (last_of (takes tag) history) ≡ Some batch →
        IsStartedOn (past_of_batch batch (accepted history (start at other name binds) ∷ history)) tag
    go false is took = started_stays history (start at other name binds) batch tag comes (takers tag batch took)
    go true is took =
        let same : other ≡ batch = cc in
        own (ap (bytes_eq other) (sym same) ∙ same_refl other)
        (member_image (λ bind. bind.tag) binds.held tag (among_member (tags_of binds.held) tag is))
takers_more history event comes takers tag batch took = started_by history event refl comes takers tag batch took

-- so in a legal history who took a module was started on it
pub takers_started : (history : History) → IsLegal history → IsOrderly history → TakersStarted (sides history)
takers_started = always TakersStarted (λ tag batch took. cc) takers_more

-- the promise: a holder is an open batch that was started on the module
pub holders_open : HoldersAreOpen
holders_open history tag batch legal orderly is =
    let parts = holder_parts history tag batch is in
    let on = takers_started history legal orderly tag batch parts.0 in
    let charted = charted history legal orderly batch on.started on.start_is in
    record {
      started = on.started;
      chart = charted.chart;
      is_open = record {
        start = on.start_is;
        chart_is = ap (chart_by (recipes history)) on.start_is
            ∙ charted.chart_is;
        unclosed = parts.1;
      };
      bind = on.bind;
      binds = on.binds;
      tag_is = on.tag_is;
    }

-- ---- an open batch holds its modules

-- a module that no rule of a start is against isn't held
not_held : (history : History) (batch : List ℕ) (binds : PlainAllocation) (chart : PlainChart) (bind : Bind)
    → is_allocation binds ≡ true → MayStart history batch binds chart →
    Contains binds.held bind → holder_of history bind.tag ≡ None
not_held history batch binds chart bind formed may inside =
    free (holder_of history bind.tag)
    (ap (busy_role history) (sym (tags_by_role binds.held bind (held_once binds formed) inside))
    ∙ none_first (λ role. busy_role history (bound_tag binds.held role)) (role_names chart) bind.role may.free
    (binds_known binds.held (role_names chart) bind (unknown_parts binds (role_names chart) may.known).0 inside))
  where
    free : (found : Option (List ℕ)) → busy_module bind.tag found ≡ None → found ≡ None
    free None none = refl
    free (Some other) none = cc

-- each module that an open batch binds was taken last by it
abbrev pub OpenHold : Sides → Type 0
OpenHold side =
    (batch : List ℕ) (started : Started) → start_by (side.batches batch) ≡ Some started
    → outcome_by (side.batches batch) ≡ None →
    (bind : Bind) → Contains started.binds.held bind → side.taker bind.tag ≡ Some batch

-- an event that starts no batch keeps each open batch the holder of what it binds
hold_by : (history : History) (event : PlainEvent) → starting event ≡ None → OpenHold (sides history)
    → OpenHold (sides (accepted history event ∷ history))
hold_by history event is hold batch started start_is open' bind inside =
    taker_same history (accepted history event) bind.tag is
    ∙ hold batch started (sym (start_same history (accepted history event) batch is) ∙ start_is)
    (open_before history (accepted history event) batch open') bind inside

-- and so does a start
hold_more : IsKeptBy OpenHold
hold_more history (start at other name binds) comes hold batch started start_is open' bind inside =
    go (start_case history batch started at other name binds start_is)
  where
    may : (chart : PlainChart) × (chart_named name (recipes history) ≡ Some chart) × MayStart history other binds chart
    may = may_start history other binds (chart_named name (recipes history)) comes.free

    took : (among : Bool) → is_among (tags_of binds.held) bind.tag ≡ among →
        last_of (takes bind.tag) history ≡ Some batch →
        option_or (if among then Some other else None) (last_of (takes bind.tag) history) ≡ Some batch
    took false is before = before
    took true is before =
        let open_was = open_before history (accepted history (start at other name binds)) batch open' in
        let (taken_one, within, same) = member_image (λ bind. bind.tag) binds.held bind.tag
        (among_member (tags_of binds.held) bind.tag is) in
        no_both (holder_of history bind.tag) batch
        (ap (holder_of history) (sym same)
        ∙ not_held history other binds may.0 taken_one comes.is_formed may.2 within)
        (holder_is history bind.tag batch before open_was)

    go : StartCase history batch started other name binds
        → option_or (if is_among (tags_of binds.held) bind.tag then Some other else None)
        (last_of (takes bind.tag) history) ≡ Some batch
    go (earlier is before) =
        took (is_among (tags_of binds.held) bind.tag) refl
        (hold batch started before (open_before history (accepted history (start at other name binds)) batch
        open') bind inside)
    go (its_own is same) =
        let within : Contains binds.held bind = subst (λ started. Contains started.binds.held bind) (sym same) inside in
        ap (λ among. option_or (if among then Some other else None) (last_of (takes bind.tag) history))
        (member_among (tags_of binds.held) bind.tag (image_member (λ bind. bind.tag) binds.held bind within))
        ∙ ap Some is
hold_more history event comes hold batch started start_is open' bind inside =
    hold_by history event refl hold batch started start_is open' bind inside

-- so in a legal history an open batch holds what it binds
pub open_hold : (history : History) → IsLegal history → IsOrderly history → OpenHold (sides history)
open_hold = always OpenHold (λ batch started start_is open' bind inside. cc) hold_more

-- an open batch holds each module that it binds
pub holds : (history : History) (batch : List ℕ) (started : Started) → IsLegal history → IsOrderly history
    → start_of history batch ≡ Some started →
    outcome_of history batch ≡ None → (bind : Bind) → Contains started.binds.held bind
    → holder_of history bind.tag ≡ Some batch
holds history batch started legal orderly start_is open' bind inside =
    holder_is history bind.tag batch (open_hold history legal orderly batch started start_is open' bind inside) open'

-- an open batch holds the module of each step's role
pub holds_step : (history : History) (batch : List ℕ) (started : Started) (chart : PlainChart) (placed : Placed)
    (tag : List ℕ) → IsLegal history → IsOrderly history → IsRunning history batch started chart →
    Contains (steps chart.root 0) placed → bound_tag (given started.binds) placed.step.role ≡ Some tag →
    holder_of history tag ≡ Some batch
holds_step history batch started chart placed tag legal orderly running inside bound =
    let unwatched = running_holds history batch started chart legal orderly running placed inside in
    let held : bound_tag started.binds.held placed.step.role ≡ Some tag
    = sym (or_none (bound_tag started.binds.held placed.step.role))
    ∙ ap (option_or (bound_tag started.binds.held placed.step.role)) (sym unwatched)
    ∙ sym (tag_given started.binds placed.step.role) ∙ bound in
    let (bind, within, same) = bound_member started.binds.held placed.step.role tag held in
    ap (holder_of history) (sym same)
    ∙ holds history batch started legal orderly running.start_is running.unclosed bind within

-- ---- watchers

-- the batch with this past was started to watch the module
pub record IsStartedToWatch (past : History) (tag : List ℕ) : Type 0 where
  pub started : Started
  pub start_is : start_by past ≡ Some started
  pub bind : Bind
  pub binds : Contains started.binds.watched bind
  pub tag_is : bind.tag ≡ tag

-- each batch that ever watched a module was started to watch it
abbrev pub OnlookersStarted : Sides → Type 0
OnlookersStarted side =
    (tag batch : List ℕ) → Contains (side.onlookers tag) batch → IsStartedToWatch (side.batches batch) tag

-- a batch that was started to watch the module still was
onlooking_stays : (history : History) (event : PlainEvent) (batch tag : List ℕ) → Comes history event
    → IsStartedToWatch (past_of_batch batch history) tag →
    IsStartedToWatch (past_of_batch batch (accepted history event ∷ history)) tag
onlooking_stays history event batch tag comes on =
    record {
      started = on.started;
      start_is = start_stays history event batch on.started comes on.start_is;
      bind = on.bind;
      binds = on.binds;
      tag_is = on.tag_is;
    }

-- an event that starts no batch adds none
onlookers_by : (history : History) (event : PlainEvent) → starting event ≡ None → Comes history event
    → OnlookersStarted (sides history) →
    OnlookersStarted (sides (accepted history event ∷ history))
onlookers_by history event is comes onlookers tag batch inside =
    onlooking_stays history event batch tag comes (onlookers tag batch
    (subst (λ found. Contains (cons_option found (filter_map (watches tag) history)) batch)
    (watches_none tag (accepted history event) is) inside))

-- every event keeps that
onlookers_more : IsKeptBy OnlookersStarted
onlookers_more history (start at other name binds) comes onlookers tag batch inside =
    go (is_among (tags_of binds.watched) tag) refl inside
  where
    own : other ≡ batch → (bind : Bind) × Contains binds.watched bind × (bind.tag ≡ tag) →
        IsStartedToWatch (past_of_batch batch (accepted history (start at other name binds) ∷ history)) tag
    own same (bind, within, tag_is) =
        record {
          started = record { recipe = name; binds = binds };
          start_is = ap (λ kept.
              start_by (cond (kept && true) (accepted history (start at other name binds) ∷ past_of_batch batch history)
              (past_of_batch batch history))) (ap (bytes_eq other) (sym same) ∙ same_refl other);
          bind = bind;
          binds = within;
          tag_is = tag_is;
        }

    earlier_one : Contains (filter_map (watches tag) history) batch →
        IsStartedToWatch (past_of_batch batch (accepted history (start at other name binds) ∷ history)) tag
    earlier_one before =
        onlooking_stays history (start at other name binds) batch tag comes (onlookers tag batch before)

    go : (among : Bool) → is_among (tags_of binds.watched) tag ≡ among
        → Contains (cons_option (if among then Some other else None) (filter_map (watches tag) history)) batch →
        IsStartedToWatch (past_of_batch batch (accepted history (start at other name binds) ∷ history)) tag
    go false is inside = earlier_one inside
    go true is inside =
        elim (member_cases other batch (filter_map (watches tag) history) inside) [
          | inl same ↦ own same
              (member_image (λ bind. bind.tag) binds.watched tag (among_member (tags_of binds.watched) tag is))
          | inr later ↦ earlier_one later
        ]
onlookers_more history event comes onlookers tag batch inside =
    onlookers_by history event refl comes onlookers tag batch inside

-- so it holds of each legal history
pub onlookers_started : (history : History) → IsLegal history → IsOrderly history → OnlookersStarted (sides history)
onlookers_started = always OnlookersStarted (λ tag batch inside. no_member batch inside) onlookers_more

-- a watcher was started to watch the module and isn't closed
pub watchers_open : WatchersAreOpen
watchers_open history tag batch legal orderly inside =
    let parts = watcher_parts history tag batch inside in
    let on = onlookers_started history legal orderly tag batch parts.0 in
    let charted = charted history legal orderly batch on.started on.start_is in
    record {
      started = on.started;
      chart = charted.chart;
      is_open = record {
        start = on.start_is;
        chart_is = ap (chart_by (recipes history)) on.start_is
            ∙ charted.chart_is;
        unclosed = parts.1;
      };
      bind = on.bind;
      binds = on.binds;
      tag_is = on.tag_is;
    }

-- ---- modules that an open batch uses

-- the batch holds the module, or watches it
abbrev pub IsUsed : History → List ℕ → List ℕ → Type 0
IsUsed history tag batch = (holder_of history tag ≡ Some batch) ⊎ Contains (watchers_of history tag) batch

-- an open batch uses each module that it was started with
pub uses : (history : History) (batch : List ℕ) (started : Started) → IsLegal history → IsOrderly history
    → start_of history batch ≡ Some started →
    outcome_of history batch ≡ None → (bind : Bind) → Contains (given started.binds) bind
    → IsUsed history bind.tag batch
uses history batch started legal orderly start_is open' bind inside =
    elim (Contains-append_cases started.binds.held started.binds.watched bind inside) [
      | inl within ↦ inl (holds history batch started legal orderly start_is open' bind within)
      | inr within ↦ inr (open_watches history batch started bind start_is open' within)
    ]
