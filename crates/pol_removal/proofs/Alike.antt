-- What the history without the concerned entries has in common with the whole history.
use Rattle.std.proofs.Common.{◌≡◌, ℕ, ◌≤◌, Bool, true, false, cond, not, List, length, reverse, refl, ap, sym, ◌∙◌, ◌⊎◌}
use Rattle.std.proofs.Common.{inl, inr, Option, Some, None, is_none}
use Rattle.std.specs.Prelude.{filter, filter_map}
use Rattle.std.specs.List.{AllByRecursion}
use Rattle.std.proofs.lemmas.Bool.{and_parts, not-true}
use Rattle.mtp_codes.specs.Names.{is_among}
use Rattle.chart_core.specs.declared.next.Outcome.{Outcome}
use Rattle.pol_events.specs.Events.{PlainEvent, start, PlainEntry}
use Rattle.pol_events.specs.Bound.{given, tags_of}
use Rattle.pol_history.specs.Looking.{History, of_batch, subject, last_of, is_accepted, is_batch, is_accepted_of_batch}
use Rattle.pol_history.specs.Looking.{past, past_of_batch, recipes}
use Rattle.pol_history.specs.Modules.{present_tags}
use Rattle.pol_history.specs.Batches.{Started, starting, start_of, started_batch, binds_in, outcome_by, outcome_of}
use Rattle.pol_history.specs.Batches.{taking, takes, watching, watches, if_open, is_open, holder_of, watchers_of}
use Rattle.pol_history.specs.Batches.{is_start}
use Rattle.pol_history.proofs.Filters.{filter_filter, filter_reverse, length_filter}
use Rattle.pol_removal.proofs.Kept.{filter_agrees, filter_map_kept}
use Rattle.pol_removal.specs.Removal.{is_some_among, is_of, stays}
use Rattle.pol_removal.proofs.Each.{all_kept, all_map, last_of_all}
use Rattle.pol_removal.proofs.Sparing.{Covered, newly_started, start_stays, stays_parts, past_stays, other_batch}
use Rattle.pol_removal.proofs.Sparing.{other_batch_apart, past_of_batch_stays, recipes_stay}
use Rattle.pol_removal.proofs.Present.{fewer_present}
use Rattle.pol_removal.proofs.Owned.{Owned, takes_parts}

-- after the smaller history nobody holds the module, or the batch that holds it after the whole one and isn't taken out
abbrev pub HolderAlike : List (List ℕ) → History → History → List ℕ → Type 0
HolderAlike bound whole less tag =
    (holder_of less tag ≡ None) ⊎ ((batch : List ℕ) × (is_among bound batch ≡ false)
    × (holder_of less tag ≡ Some batch) × (holder_of whole tag ≡ Some batch))

-- the facts on the whole history and a smaller one
pub record Alike (tags bound : List (List ℕ)) (whole less : History) : Type 0 where
  pub pasts : (tag : List ℕ) → is_among tags tag ≡ false → past tag less ≡ past tag whole
  pub batch_pasts : (batch : List ℕ) → is_among bound batch ≡ false
      → past_of_batch batch less ≡ past_of_batch batch whole
  pub same_recipes : recipes less ≡ recipes whole
  pub apart : (batch : List ℕ) (started : Started) → is_among bound batch ≡ false
      → start_of whole batch ≡ Some started →
      is_some_among tags (tags_of (given started.binds)) ≡ false
  pub holders : (tag : List ℕ) → HolderAlike bound whole less tag
  pub watchers : (tag : List ℕ) → watchers_of less tag
      ≡ filter (λ batch. not (is_among bound batch)) (watchers_of whole tag)
  pub fewer_tags : length (present_tags less) ≤ length (present_tags whole)
  pub fewer_starts : length (filter is_start less) ≤ length (filter is_start whole)
  pub fewer : length less ≤ length whole

-- ---- holders

-- an event that takes a module is its batch's
taking_batch : (tag batch : List ℕ) (event : PlainEvent) → taking tag event ≡ Some batch
    → subject event ≡ of_batch batch
taking_batch tag batch (start at other name binds) is = go (is_among (tags_of binds.held) tag) is
  where
    go : (inside : Bool) → cond inside (Some other) None ≡ Some batch → of_batch other ≡ of_batch batch
    go true is = cc
    go false is = cc
taking_batch tag batch _ is = cc

-- an entry of a batch that stays is of no batch that is taken out
batch_outside : (tags bound : List (List ℕ)) (batch : List ℕ) (entry : PlainEntry) → stays tags bound entry ≡ true
    → subject entry.event ≡ of_batch batch →
    is_among bound batch ≡ false
batch_outside tags bound batch entry stay is = ap (is_of tags bound) (sym is) ∙ (stays_parts tags bound entry stay).0

-- a batch is closed, or holds what it held
open_or_none : (less : History) (batch : List ℕ) (holder : Option (List ℕ))
    → (outcome_of less batch ≡ None → holder ≡ Some batch) →
    (if_open less (Some batch) ≡ None) ⊎ ((if_open less (Some batch) ≡ Some batch) × (holder ≡ Some batch))
open_or_none less batch holder held = go (outcome_of less batch) refl
  where
    go : (outcome : Option Outcome) → outcome_of less batch ≡ outcome →
        (cond (is_none (outcome_of less batch)) (Some batch) None ≡ None)
        ⊎ ((cond (is_none (outcome_of less batch)) (Some batch) None ≡ Some batch) × (holder ≡ Some batch))
    go None is = inr (rw is, held is)
    go (Some outcome) is = inl (rw is)

-- what takes the module last after the smaller history: its batch is closed there, or holds the module after both
holder_found : (bound : List (List ℕ)) (whole less : History) (tag batch : List ℕ) → is_among bound batch ≡ false
    → last_of (takes tag) less ≡ Some batch →
    (if_open less (Some batch) ≡ None) ⊎ ((if_open less (Some batch) ≡ Some batch)
    × (holder_of whole tag ≡ Some batch)) → HolderAlike bound whole less tag
holder_found bound whole less tag batch outside is (inl closed) = inl (ap (if_open less) is ∙ closed)
holder_found bound whole less tag batch outside is (inr held) =
    inr (batch, outside, ap (if_open less) is ∙ held.0, held.1)

-- the holder of each module is alike after both histories
holders_alike : (tags bound : List (List ℕ)) (history : History) → AllByRecursion (Covered tags bound) history
    → AllByRecursion (Owned history) history →
    (tag : List ℕ) → HolderAlike bound history (filter (stays tags bound) history) tag
holders_alike tags bound history covered owned tag = go (last_of (takes tag) (filter (stays tags bound) history)) refl
  where
    go : (taken : Option (List ℕ)) → last_of (takes tag) (filter (stays tags bound) history) ≡ taken
        → HolderAlike bound history (filter (stays tags bound) history) tag
    go None is = inl (ap (if_open (filter (stays tags bound) history)) is)
    go (Some batch) is =
        let (entry, (holds, stay), took) =
        last_of_all (λ entry. Owned history entry × (stays tags bound entry ≡ true)) (takes tag)
        (filter (stays tags bound) history) batch
        (all_kept (Owned history) (stays tags bound) history owned) is in
        let parts = takes_parts (is_accepted entry.answer) (taking tag entry.event) batch took in
        let outside = batch_outside tags bound batch entry stay (taking_batch tag batch entry.event parts.1) in
        holder_found bound history (filter (stays tags bound) history) tag batch outside is
        (open_or_none (filter (stays tags bound) history) batch (holder_of history tag)
        (λ none. holds batch tag took (ap (λ past. outcome_by past)
        (sym (past_of_batch_stays tags bound history covered batch outside)) ∙ none)))

-- ---- watchers

-- an event that watches a module starts that batch
watching_starts : (tag : List ℕ) (event : PlainEvent) (batch : List ℕ) → watching tag event ≡ Some batch
    → started_batch event ≡ Some batch
watching_starts tag (start at other name binds) batch is = go (is_among (tags_of binds.watched) tag) is
  where
    go : (inside : Bool) → cond inside (Some other) None ≡ Some batch → Some other ≡ Some batch
    go true is = is
    go false is = cc
watching_starts tag _ batch is = cc

-- and so does its entry
watches_start : (tag : List ℕ) (entry : PlainEntry) (batch : List ℕ) → watches tag entry ≡ Some batch
    → newly_started entry ≡ Some batch
watches_start tag entry batch is = go (is_accepted entry.answer) is
  where
    go : (accepted : Bool) → cond accepted (watching tag entry.event) None ≡ Some batch →
        cond accepted (started_batch entry.event) None ≡ Some batch
    go true is = watching_starts tag entry.event batch is
    go false is = cc

-- the watchers of a module are those that aren't taken out
watchers_alike : (tags bound : List (List ℕ)) (history : History) → AllByRecursion (Covered tags bound) history →
    (tag : List ℕ) → watchers_of (filter (stays tags bound) history) tag
    ≡ filter (λ batch. not (is_among bound batch)) (watchers_of history tag)
watchers_alike tags bound history covered tag =
    ap (λ found. reverse (filter (is_open less) found))
    (filter_map_kept (watches tag) (stays tags bound) keeps history
    (all_map (Covered tags bound)
    (λ entry. (batch : List ℕ) → watches tag entry ≡ Some batch → stays tags bound entry ≡ keeps batch)
    (λ entry covers batch is. start_stays tags bound entry covers batch (watches_start tag entry batch is))
    history covered))
    ∙ ap reverse
    (filter_agrees (is_open less) (is_open history) keeps
    (λ batch free. ap (λ past. is_none (outcome_by past))
    (past_of_batch_stays tags bound history covered batch (not-true (is_among bound batch) free))) found
    ∙ filter_filter (is_open history) keeps found)
    ∙ filter_reverse keeps (filter (is_open history) found)
  where
    less : History
    less = filter (stays tags bound) history

    keeps : List ℕ → Bool
    keeps batch = not (is_among bound batch)

    found : List (List ℕ)
    found = filter_map (watches tag) history

-- ---- starts

-- the binds of an event that starts a batch are those of its start
start_binds : (event : PlainEvent) (started : Started) → starting event ≡ Some started
    → binds_in event ≡ given started.binds
start_binds (start at batch name binds) started is = cc
start_binds _ started is = cc

-- a started batch that isn't taken out binds no module that is taken out
starts_apart : (tags bound : List (List ℕ)) (history : History) → AllByRecursion (Covered tags bound) history
    → (batch : List ℕ) (started : Started) →
    is_among bound batch ≡ false → start_of history batch ≡ Some started
    → is_some_among tags (tags_of (given started.binds)) ≡ false
starts_apart tags bound history covered batch started outside is =
    let (entry, (covers, of_it), said) =
    last_of_all (λ entry. Covered tags bound entry × (is_accepted_of_batch batch entry ≡ true))
    (λ entry. starting entry.event)
    (past_of_batch batch history) started (all_kept (Covered tags bound)
    (is_accepted_of_batch batch) history covered) is in
    let parts = and_parts (is_batch batch (subject entry.event)) (is_accepted entry.answer) of_it in
    ap (λ binds. is_some_among tags (tags_of binds)) (sym (start_binds entry.event started said))
    ∙ other_batch_apart tags bound entry covers (other_batch tags bound batch
    (subject entry.event) parts.0 outside) parts.1

-- ---- all of them

-- all these facts hold of a history and of what stays of it
pub alike_without : (tags bound : List (List ℕ)) (history : History) → AllByRecursion (Covered tags bound) history
    → AllByRecursion (Owned history) history →
    Alike tags bound history (filter (stays tags bound) history)
alike_without tags bound history covered owned = record {
  pasts = past_stays tags bound history;
  batch_pasts = past_of_batch_stays tags bound history covered;
  same_recipes = recipes_stay tags bound history;
  apart = starts_apart tags bound history covered;
  holders = holders_alike tags bound history covered owned;
  watchers = watchers_alike tags bound history covered;
  fewer_tags = fewer_present tags bound history;
  fewer_starts = rw (filter_filter is_start (stays tags bound) history)
      (length_filter (stays tags bound) (filter is_start history));
  fewer = length_filter (stays tags bound) history;
}
