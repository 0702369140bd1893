-- What is known of a batch, after one more entry of the history.
use Rattle.std.proofs.Common.{◌≡◌, ℕ, ◌<◌, ◌+◌, Bool, true, false, cond, List, [], ◌∷◌, ◌++◌, length, get_or, take, map}
use Rattle.std.proofs.Common.{reverse, append-nil, Option, Some, None, refl, ap, sym, ◌∙◌}
use Rattle.std.specs.Prelude.{◌&&◌, filter_map}
use Rattle.std.specs.List.{cons_option}
use Rattle.std.specs.Option.{option_eq, option_or}
use Rattle.std.specs.Str.{bytes_eq}
use Rattle.std.proofs.Math.Bool.{and-false, and-true}
use Rattle.std.proofs.lemmas.List.{map-append, reverse-append, take_more}
use Rattle.pol_events.specs.Events.{PlainEntry, plain_entry, plain_history}
use Rattle.pol_events.specs.declared.event.Entry.{Entry}
use Rattle.pol_events.specs.Subjects.{Subject, accepted_batch, of_module, of_batch, of_recipe, subject, subject_batch}
use Rattle.pol_history.specs.Looking.{History, is_batch, is_accepted, is_accepted_of_batch, past_of_batch}
use Rattle.pol_history.specs.Batches.{starting, start_by, batches, taken, closing, outcome_by}
use Rattle.pol_record.specs.Gathered.{PlainRecord, record_by, with_entry, newly_started, known_of, IsGathered}
use Rattle.pol_record.specs.declared.gathering.BatchRecords.{BatchRecords}
use Rattle.pol_record.specs.declared.records.BatchRecord.{BatchRecord}

-- a list, with what one more entry brings
brings : {X : Type 0} (found : Option X) (older : List X) →
    reverse (cons_option found older) ≡ reverse older ++ cons_option found []
brings None older = sym (append-nil (reverse older))
brings (Some found) older = reverse-append (found ∷ []) older

-- one more entry of the batch
pub record_grows : (entry : PlainEntry) (past : History) → record_by (entry ∷ past) ≡ with_entry entry (record_by past)
record_grows entry past =
    ap (λ log. record {
      start = option_or (starting entry.event) (start_by past);
      log = log;
      outcome = option_or (closing entry.answer) (outcome_by past);
    })
    (brings (taken entry.answer) (filter_map (λ entry. taken entry.answer) past))

-- the entry is an accepted event of the batch
abbrev pub is_its : PlainEntry → List ℕ → Bool
is_its entry batch = option_eq bytes_eq (accepted_batch entry) (Some batch)

-- the past takes it exactly where it is
its_or_not : (entry : PlainEntry) (batch : List ℕ) → is_accepted_of_batch batch entry ≡ is_its entry batch
its_or_not entry batch = go (subject entry.event) (is_accepted entry.answer)
  where
    go : (of : Subject) (kept : Bool) →
        (is_batch batch of && kept) ≡ option_eq bytes_eq (cond kept (subject_batch of) None) (Some batch)
    go (of_module tag) true = refl
    go (of_module tag) false = refl
    go (of_batch other) true = and-true (bytes_eq other batch)
    go (of_batch other) false = and-false (bytes_eq other batch)
    go (of_recipe name) true = refl
    go (of_recipe name) false = refl

-- the history of one entry more
pub one_more : (entries : List Entry) (i : ℕ) (entry : Entry) → i < length entries → entry ≡ get_or entries i entry →
    plain_history (take (i + 1) entries) ≡ plain_entry entry ∷ plain_history (take i entries)
one_more entries i entry inside same =
    ap plain_history (take_more entries i entry inside ∙ ap (λ read. take i entries ++ read ∷ []) (sym same))
    ∙ ap reverse (map-append plain_entry (take i entries) (entry ∷ []))
    ∙ reverse-append (map plain_entry (take i entries)) (plain_entry entry ∷ [])

-- where it is, it is in the batch's past
pub known_more : (history : History) (entry : PlainEntry) (batch : List ℕ) (known : PlainRecord) →
    known ≡ record_by (past_of_batch batch history) →
    is_its entry batch ≡ true → with_entry entry known ≡ record_by (past_of_batch batch (entry ∷ history))
known_more history entry batch known is its =
    ap (with_entry entry) is
    ∙ sym (record_grows entry (past_of_batch batch history))
    ∙ ap (λ kept. record_by (cond kept (entry ∷ past_of_batch batch history) (past_of_batch batch history)))
    (sym (its_or_not entry batch ∙ its))

-- where it isn't, the past stays
pub known_same : (history : History) (entry : PlainEntry) (batch : List ℕ) (known : PlainRecord) →
    known ≡ record_by (past_of_batch batch history) →
    is_its entry batch ≡ false → known ≡ record_by (past_of_batch batch (entry ∷ history))
known_same history entry batch known is other =
    is
    ∙ ap (λ kept. record_by (cond kept (entry ∷ past_of_batch batch history) (past_of_batch batch history)))
    (sym (its_or_not entry batch ∙ other))

-- ---- all batches

-- the batches that were started, after one more entry
started_grows : (history : History) (entry : PlainEntry) →
    batches (entry ∷ history) ≡ batches history ++ cons_option (newly_started entry) []
started_grows history entry = brings (newly_started entry) (filter_map newly_started history)

-- each batch is known as the history says
abbrev AreKnown : List (List ℕ × BatchRecord) → History → Type 0
AreKnown records history = (other : List ℕ) → known_of records other ≡ record_by (past_of_batch other history)

-- an accepted event of a batch is added to that batch's record
all_more : (history : History) (entry : PlainEntry) (batch : List ℕ) (old new : List (List ℕ × BatchRecord)) →
    accepted_batch entry ≡ Some batch →
    ((other : List ℕ) → known_of new other
    ≡ cond (bytes_eq batch other) (with_entry entry (known_of old other)) (known_of old other)) →
    AreKnown old history → AreKnown new (entry ∷ history)
all_more history entry batch old new is added known other = go (bytes_eq batch other) refl (added other)
  where
    its : is_its entry other ≡ bytes_eq batch other
    its = ap (λ found. option_eq bytes_eq found (Some other)) is

    go : (same : Bool) → bytes_eq batch other ≡ same →
        known_of new other ≡ cond same (with_entry entry (known_of old other)) (known_of old other) →
        known_of new other ≡ record_by (past_of_batch other (entry ∷ history))
    go true same added = added ∙ known_more history entry other (known_of old other) (known other) (its ∙ same)
    go false apart added = added ∙ known_same history entry other (known_of old other) (known other) (its ∙ apart)

-- what was gathered, after an accepted event of a batch
pub gathered_more : (history : History) (entry : PlainEntry) (batch : List ℕ) (old new : BatchRecords) →
    new.started.items ≡ old.started.items ++ cons_option (newly_started entry) [] →
    accepted_batch entry ≡ Some batch →
    ((other : List ℕ) → known_of new.records.entries other
    ≡ cond (bytes_eq batch other) (with_entry entry (known_of old.records.entries other))
    (known_of old.records.entries other)) →
    IsGathered old history → IsGathered new (entry ∷ history)
gathered_more history entry batch old new pushed is added gathered = record {
  started = pushed
      ∙ ap (λ started. started ++ cons_option (newly_started entry) []) gathered.started
      ∙ sym (started_grows history entry);
  known = all_more history entry batch old.records.entries new.records.entries is added gathered.known;
}
