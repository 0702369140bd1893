-- An open batch holds the modules that its start binds; a run keeps this.
use Rattle.std.proofs.Common.{◌≡◌, ℕ, Bool, true, false, cond, List, ◌∷◌, refl, ap, sym, ◌∙◌, Option, Some, None}
use Rattle.std.specs.List.{AllByRecursion}
use Rattle.std.specs.Option.{option_or}
use Rattle.mtp_codes.specs.Names.{is_among}
use Rattle.chart_core.specs.Roles.{PlainChart, role_names}
use Rattle.pol_events.specs.Events.{PlainEvent, start, PlainEntry}
use Rattle.pol_events.specs.declared.event.Bind.{Bind}
use Rattle.pol_events.specs.Orderly.{is_orderly, roles_once}
use Rattle.pol_events.proofs.Given.{held_once}
use Rattle.pol_events.specs.Bound.{PlainAllocation, tags_of, bound_tag}
use Rattle.pol_events.proofs.Lists.{among_member, member_image, none_first}
use Rattle.pol_history.proofs.Binds.{binds_known, tags_by_role, unknown_parts}
use Rattle.pol_history.proofs.Open.{open_before, open_some}
use Rattle.pol_history.specs.Looking.{History, last_of, is_accepted, recipes}
use Rattle.pol_history.specs.Batches.{outcome_of, chart_named, taking, takes, if_open, holder_of}
use Rattle.pol_history.specs.Rules.{busy_module, busy_role, busy, unknown_role}
use Rattle.pol_history.specs.Answers.{start_rules, answer_of}
use Rattle.pol_history.specs.Runs.{entry_of, is_recorded, recorded}
use Rattle.pol_history.proofs.Accepted.{NoneHolds, accepted_none}
use Rattle.pol_removal.proofs.Each.{all_map}

-- the batch whose accepted start the entry is holds each module that the start binds, while it is open
abbrev pub Owned : History → PlainEntry → Type 0
Owned history entry = (batch tag : List ℕ) → takes tag entry ≡ Some batch → outcome_of history batch ≡ None
    → holder_of history tag ≡ Some batch

-- an entry that takes a module is accepted, and its event takes the module
pub takes_parts : (accepted : Bool) (taken : Option (List ℕ)) (batch : List ℕ) → cond accepted taken None ≡ Some batch
    → (accepted ≡ true) × (taken ≡ Some batch)
takes_parts true taken batch is = (refl, is)
takes_parts false taken batch is = cc

-- ---- a module that a start takes had no holder

-- a module that the rule finds free has no holder
not_held : (tag : List ℕ) (holder : Option (List ℕ)) → busy_module tag holder ≡ None → holder ≡ None
not_held tag None none = refl
not_held tag (Some batch) none = cc

-- the modules of a start that isn't refused as busy are nobody's
bound_free : (history : History) (binds : List Bind) (roles : List (List ℕ)) (tag : List ℕ) → roles_once binds ≡ true
    → is_among (tags_of binds) tag ≡ true →
    unknown_role binds roles ≡ None → busy history binds roles ≡ None → holder_of history tag ≡ None
bound_free history binds roles tag once inside known free =
    let (bind, within, tag_is) = member_image (λ bind. bind.tag) binds tag (among_member (tags_of binds) tag inside) in
    let is = tags_by_role binds bind once within ∙ ap Some tag_is in
    let none = none_first (λ role. busy_role history (bound_tag binds role)) roles bind.role free
    (binds_known binds roles bind known within) in
    not_held tag (holder_of history tag) (ap (busy_role history) (sym is) ∙ none)

-- a module that a start binds is free before it
started_free : (history : History) (batch : List ℕ) (binds : PlainAllocation) (chart : Option PlainChart) (tag : List ℕ)
    → roles_once binds.held ≡ true →
    is_among (tags_of binds.held) tag ≡ true → NoneHolds (start_rules history batch binds chart)
    → holder_of history tag ≡ None
started_free history batch binds None tag once inside none = let clash = none.0 in cc
started_free history batch binds (Some chart) tag once inside none =
    bound_free history binds.held (role_names chart) tag once inside
    (unknown_parts binds (role_names chart) none.1.1.0).0 none.1.1.1.1.1.1.0

-- a module is taken by the batch that is named only where it is among those bound
bound_by : (inside : Bool) (named batch : List ℕ) → cond inside (Some named) None ≡ Some batch → inside ≡ true
bound_by true named batch is = refl
bound_by false named batch is = cc

-- an accepted start takes only modules that nobody held
pub taken_free : (history : History) (event : PlainEvent) (tag batch : List ℕ) → is_orderly event ≡ true
    → is_accepted (answer_of history event) ≡ true →
    taking tag event ≡ Some batch → holder_of history tag ≡ None
taken_free history (start at named recipe binds) tag batch orderly accepted taken =
    started_free history named binds (chart_named recipe (recipes history)) tag
    (held_once binds orderly)
    (bound_by (is_among (tags_of binds.held) tag) named batch taken)
    (accepted_none history (start at named recipe binds) accepted)
taken_free history _ tag batch orderly accepted taken = cc

-- ---- one more entry

-- a batch without an outcome is still open
still_open : (history : History) (batch : List ℕ) → outcome_of history batch ≡ None
    → if_open history (Some batch) ≡ Some batch
still_open history batch is = rw is

-- a module has a holder or none
clash : {A : Type 0} (holder : Option (List ℕ)) (batch : List ℕ) → holder ≡ None → holder ≡ Some batch → A
clash None batch none some = cc
clash (Some other) batch none some = cc

-- what an entry takes stays its batch's, while that is open, with one more event
owned_more : (history : History) (event : PlainEvent) → is_orderly event ≡ true → (entry : PlainEntry)
    → Owned history entry → Owned (entry_of history event ∷ history) entry
owned_more history event orderly entry owned batch tag took is = go (takes tag (entry_of history event)) refl
  where
    held : holder_of history tag ≡ Some batch
    held = owned batch tag took (open_before history (entry_of history event) batch is)

    go : (taken : Option (List ℕ)) → takes tag (entry_of history event) ≡ taken →
        if_open (entry_of history event ∷ history) (option_or (takes tag (entry_of history event))
        (last_of (takes tag) history)) ≡ Some batch
    go None none = rw (none, (open_some history (last_of (takes tag) history) batch held).0)
        (still_open (entry_of history event ∷ history) batch is)
    go (Some other) some =
        let parts = takes_parts (is_accepted (answer_of history event)) (taking tag event) other some in
        clash (holder_of history tag) batch (taken_free history event tag other orderly parts.0 parts.1) held

-- and is its batch's when it is new
owned_new : (history : History) (entry : PlainEntry) → Owned (entry ∷ history) entry
owned_new history entry batch tag took is = rw took (still_open (entry ∷ history) batch is)

-- each entry of a history owns what it takes, whether or not the event is recorded
pub owned_recorded : (history : History) (event : PlainEvent) → is_orderly event ≡ true
    → AllByRecursion (Owned history) history →
    AllByRecursion (Owned (recorded (entry_of history event) history)) (recorded (entry_of history event) history)
owned_recorded history event orderly owned = go (is_recorded (answer_of history event))
  where
    go : (kept : Bool) → AllByRecursion (Owned (cond kept (entry_of history event ∷ history) history))
        (cond kept (entry_of history event ∷ history) history)
    go true = (
      owned_new history (entry_of history event),
      all_map (Owned history) (Owned (entry_of history event ∷ history))
          (owned_more history event orderly) history owned,
    )
    go false = owned
