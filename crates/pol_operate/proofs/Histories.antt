-- The history of a ledger's plant, by what contracts see of the ledger.
use Rattle.std.proofs.Common.{◌≡◌, ◌∙◌, ℕ, List, [], ◌∷◌, length, map, true, false, Option, Some, None, refl, sym, ap}
use Rattle.std.proofs.Common.{ap₂, arith}
use Rattle.std.proofs.lemmas.List.{length-reverse, length-map, reverse-reverse}
use Rattle.std.specs.Prelude.{is_some, reverse}
use Rattle.pol_core.specs.Plants.{plant_history}
use Rattle.pol_events.specs.Events.{PlainEntry, PlainEvent, plain_entry, plain_history}
use Rattle.pol_events.specs.declared.event.Entry.{Entry}
use Rattle.pol_history.specs.Runs.{events_of}
use Rattle.pol_ledger.specs.Items.{PlainAsked, asked}
use Rattle.pol_ledger.specs.Ledgers.{PlainLedger, all_asked, asked_so_far, begun_by, ledger_state}
use Rattle.pol_ledger.specs.Work.{BegunLedger, history_of, ledger_after, ledger_answer}
use Rattle.pol_ledger.specs.declared.items.LedgerAnswer.{LedgerAnswer}
use Rattle.pol_overview.specs.Entries.{all_named}
use Rattle.pol_operate.specs.Questions.{entries_in}
use Rattle.pol_operate.specs.Texts.{history_in, so_far_in}
use Rattle.pol_operate.specs.Saying.{answered_text}

-- where there are as many names as events, so many were asked for
length-asked : (names : List (Option (List ℕ))) (events : List PlainEvent) → length names ≡ length events →
    length (all_asked names events) ≡ length events
length-asked [] [] same = refl
length-asked [] (event ∷ events) same = cc
length-asked (name ∷ names) [] same = refl
length-asked (name ∷ names) (event ∷ events) same =
    let rest : length names ≡ length events = omega (arith, same) in
    omega (arith, length-asked names events rest)

-- a history has as many entries as the plant
length-history : (entries : List Entry) → length (events_of (plain_history entries)) ≡ length entries
length-history entries =
    length-reverse (map (λ (entry : PlainEntry). entry.event) (plain_history entries))
    ∙ length-map (plain_history entries) (λ (entry : PlainEntry). entry.event)
    ∙ length-reverse (map plain_entry entries) ∙ length-map entries plain_entry

-- what was asked for of a ledger that was begun
so_far_begun : (build : Option (List ℕ)) (so_far : List PlainAsked) → is_some (begun_by build so_far) ≡ true →
    so_far_in (begun_by build so_far) ≡ so_far
so_far_begun None so_far is = cc
so_far_begun (Some build) so_far is = refl

-- of one that wasn't, nothing was
so_far_none : (build : Option (List ℕ)) (so_far : List PlainAsked) → is_some (begun_by build so_far) ≡ false →
    so_far_in (begun_by build so_far) ≡ []
so_far_none None so_far is = refl
so_far_none (Some build) so_far is = cc

-- once it was begun, its history is that of its plant
history_begun : (ledger : PlainLedger) → plant_history ledger.plant ≡ history_of (asked_so_far ledger) →
    is_some (ledger_state ledger) ≡ true → plant_history ledger.plant ≡ history_in (ledger_state ledger)
history_begun ledger runs is = runs ∙ ap history_of (sym (so_far_begun ledger.build (asked_so_far ledger) is))

-- and an entry stands for each event that was asked for
pub entries_begun : (ledger : PlainLedger) → plant_history ledger.plant ≡ history_of (asked_so_far ledger) →
    length ledger.names ≡ length ledger.plant.entries → is_some (ledger_state ledger) ≡ true →
    (plant_history ledger.plant ≡ history_in (ledger_state ledger))
    × (length ledger.plant.entries ≡ length (so_far_in (ledger_state ledger)))
entries_begun ledger runs many is =
    let events = events_of (plant_history ledger.plant) in
    let long : length events ≡ length ledger.plant.entries = length-history ledger.plant.entries in (
      history_begun ledger runs is,
      sym (ap length (so_far_begun ledger.build (asked_so_far ledger) is)
          ∙ length-asked ledger.names events (many ∙ sym long) ∙ long),
    )

-- before, its history is empty, and nothing was asked for
pub entries_none : (ledger : PlainLedger) → is_some (ledger_state ledger) ≡ false →
    ([] ≡ history_in (ledger_state ledger)) × (0 ≡ length (so_far_in (ledger_state ledger)))
entries_none ledger is =
    let none = sym (so_far_none ledger.build (asked_so_far ledger) is) in (ap history_of none, ap length none)

-- where an event was asked for, what is answered is told by the plant's history as by that of the ledger
pub answered_same : (ledger : PlainLedger) (before : Option BegunLedger) (one : PlainAsked) (batch : Option (List ℕ))
    (answer : LedgerAnswer) → plant_history ledger.plant ≡ history_of (asked_so_far ledger) →
    ledger_state ledger ≡ ledger_after before (asked one) → answer ≡ ledger_answer before (asked one) →
    answered_text (plant_history ledger.plant) batch answer
    ≡ answered_text (history_in (ledger_after before (asked one))) batch (ledger_answer before (asked one))
answered_same ledger None one batch answer runs after is =
    ap (answered_text (plant_history ledger.plant) batch) is
answered_same ledger (Some begun) one batch answer runs after is =
    ap (answered_text (plant_history ledger.plant) batch) is
    ∙ ap (λ history. answered_text history batch (ledger_answer (Some begun) (asked one)))
    (history_begun ledger runs (ap is_some after) ∙ ap history_in after)

-- ---- entries with who asked

-- who asked for events that were asked for in this order
names_asked : (names : List (Option (List ℕ))) (events : List PlainEvent) → length names ≡ length events →
    map (λ (one : PlainAsked). one.by) (all_asked names events) ≡ names
names_asked [] [] same = refl
names_asked [] (event ∷ events) same = refl
names_asked (name ∷ names) [] same = cc
names_asked (name ∷ names) (event ∷ events) same =
    let rest : length names ≡ length events = omega (arith, same) in
    ap (λ (others : List (Option (List ℕ))). name ∷ others) (names_asked names events rest)

-- the entries of a ledger that was begun, with who asked for them, are those of its plant
pub entries_asked : (ledger : PlainLedger) → plant_history ledger.plant ≡ history_of (asked_so_far ledger) →
    length ledger.names ≡ length ledger.plant.entries → is_some (ledger_state ledger) ≡ true →
    all_named ledger.names (map plain_entry ledger.plant.entries) ≡ entries_in (ledger_state ledger)
entries_asked ledger runs many is =
    let events = events_of (plant_history ledger.plant) in
    let long : length events ≡ length ledger.plant.entries = length-history ledger.plant.entries in
    let persons : map (λ (one : PlainAsked). one.by) (so_far_in (ledger_state ledger)) ≡ ledger.names =
    ap (map (λ (one : PlainAsked). one.by)) (so_far_begun ledger.build (asked_so_far ledger) is)
    ∙ names_asked ledger.names events (many ∙ sym long) in
    let entries : map plain_entry ledger.plant.entries ≡ reverse (history_in (ledger_state ledger)) =
    sym (reverse-reverse (map plain_entry ledger.plant.entries)) ∙ ap reverse (history_begun ledger runs is) in
    ap₂ all_named (sym persons) entries

-- of one that wasn't there are none
pub no_entries : (ledger : PlainLedger) → is_some (ledger_state ledger) ≡ false →
    [] ≡ entries_in (ledger_state ledger)
no_entries ledger is = by_build ledger.build is
  where
    by_build : (build : Option (List ℕ)) → is_some (begun_by build (asked_so_far ledger)) ≡ false →
        [] ≡ entries_in (begun_by build (asked_so_far ledger))
    by_build None is = refl
    by_build (Some build) is = absurd cc
