-- The lines that are to follow the entries of a history.
use Rattle.std.proofs.Common.{◌≡◌, ◌≤◌, ◌∷◌, [], ◌++◌, ℕ, suc, List, Vec, length, map, arith, ap, refl, ◌∙◌}
use Rattle.std.proofs.lemmas.List.{length-map, length-reverse, map-append}
use Rattle.std.specs.declared.alloc.Global.{Global}
use Rattle.pol_events.specs.Events.{plain_entry, plain_history}
use Rattle.pol_events.specs.declared.event.Entry.{Entry}
use Rattle.pol_history.specs.Batches.{batches}
use Rattle.pol_history.specs.Looking.{History, past_of_batch}
use Rattle.pol_record.specs.Gathered.{IsGathered, known_of, record_by, record_text}
use Rattle.pol_record.specs.Texts.{batch_text, end_text}
use Rattle.pol_record.specs.declared.gathering.BatchRecords.{BatchRecords}
use Rattle.pol_audit.specs.Verdict.{closing_lines}
use Rattle.pol_audit.proofs.Reading.{few_wanted}

-- what was gathered gives the lines of these batches
each_gathered : (gathered : BatchRecords) (history : History) → IsGathered gathered history →
    (names : List (List ℕ)) →
    map (λ batch. record_text batch (known_of gathered.records.entries batch)) names ≡ map (batch_text history) names
each_gathered gathered history is [] = refl
each_gathered gathered history is (name ∷ names) =
    ap (λ known. record_text name known
    ∷ map (λ batch. record_text batch (known_of gathered.records.entries batch)) names) (is.known name)
    ∙ ap (λ rest. record_text name (record_by (past_of_batch name history)) ∷ rest)
    (each_gathered gathered history is names)

-- those of all batches are the lines of the batches
pub records_are : (gathered : BatchRecords) (history : List Entry) (lines : List (Vec ℕ Global)) →
    IsGathered gathered (plain_history history) →
    map (λ line. line.items) lines
    ≡ map (λ batch. record_text batch (known_of gathered.records.entries batch)) gathered.started.items →
    map (λ line. line.items) lines ≡ map (batch_text (plain_history history)) (batches (plain_history history))
records_are gathered history lines is texts =
    texts
    ∙ each_gathered gathered (plain_history history) is gathered.started.items
    ∙ ap (map (batch_text (plain_history history))) is.started

-- and with the end line behind them the closing lines
pub closing_is : (history : List Entry) (lines : List (Vec ℕ Global)) (last : Vec ℕ Global) →
    map (λ line. line.items) lines ≡ map (batch_text (plain_history history)) (batches (plain_history history)) →
    last.items ≡ end_text →
    map (λ line. line.items) (lines ++ last ∷ []) ≡ closing_lines (plain_history history)
closing_is history lines last texts ends =
    map-append (λ line. line.items) lines (last ∷ [])
    ∙ ap (λ rest. map (λ line. line.items) lines ++ rest ∷ []) ends
    ∙ ap (λ front. front ++ end_text ∷ []) texts

-- they are no more than the entries, and one
pub closing_few : (history : List Entry) (lines : List (Vec ℕ Global)) →
    map (λ line. line.items) lines ≡ closing_lines (plain_history history) → length lines ≤ suc (length history)
closing_few history lines is =
    let few = few_wanted (plain_history history) in
    let turned = length-reverse (map plain_entry history) in
    let mapped = length-map history plain_entry in
    let same = length-map lines (λ line. line.items) in
    let texts = ap length is in
    omega (arith, few, turned, mapped, same, texts)
