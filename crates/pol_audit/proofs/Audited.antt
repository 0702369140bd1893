-- What an audit keeps, and the steps to its verdict.
use Rattle.std.proofs.Common.{◌≡◌, ◌≤◌, ◌<◌, ◌∷◌, [], ◌++◌, ℕ, List, Bool, true, false, true≢false, Option, Some, None}
use Rattle.std.proofs.Common.{Ok, Err, length, map, take, reverse, arith, ap, sym, refl, ◌∙◌, if◌then◌else◌}
use Rattle.std.proofs.lemmas.Bool.{le-ltb, lt-ltb}
use Rattle.std.proofs.lemmas.List.{length-map, length-take, take_all, take-map}
use Rattle.std.proofs.lemmas.List.Folds.{list_all-append}
use Rattle.std.specs.List.{AllByRecursion}
use Rattle.std.specs.Prelude.{◌&&◌, IsTrue}
use Rattle.std.specs.Result.{result_ok}
use Rattle.mtp_codes.proofs.Lists.{all_reverse}
use Rattle.pol_events.specs.Events.{PlainEntry, plain_entry, plain_event, plain_history}
use Rattle.pol_events.specs.Orderly.{is_orderly}
use Rattle.pol_events.specs.declared.event.Entry.{Entry}
use Rattle.pol_events.specs.declared.answer.Answer.{Answer}
use Rattle.event_json.specs.declared.fault.LineFault.{LineFault}
use Rattle.pol_history.specs.Runs.{IsOrderly}
use Rattle.pol_record.specs.declared.verdicts.Verdict.{Verdict}
use Rattle.pol_record.specs.declared.verdicts.Verdict.TheVariants as verdict
use Rattle.pol_entries.specs.Entries.{entry_of}
use Rattle.pol_audit.specs.Judging.{judged}
use Rattle.pol_audit.specs.Reading.{Read, are_orderly, read_all, verdict_after}
use Rattle.pol_audit.specs.Verdict.{Line, by_answers, by_tail, closing_lines, entry_on, first_other, verdict_of}
use Rattle.pol_audit.specs.Verdict.{verdict_on}
use Rattle.pol_audit.specs.declared.judging.Judged.{Judged}
use Rattle.pol_audit.specs.declared.judging.Judged.TheVariants.{Good, Wrong}
use Rattle.pol_audit.specs.declared.judging.TheConstants.{MOST_JUDGED}
use Rattle.pol_audit.proofs.Found.{orderly_before}
use Rattle.pol_audit.proofs.Reading.{read_to_verdict}

-- one more entry
pub orderly_more : (entries : List Entry) (entry : Entry) → IsTrue (are_orderly entries) →
    IsTrue (is_orderly (plain_event entry.event)) → IsTrue (are_orderly (entries ++ entry ∷ []))
orderly_more entries entry all one =
    list_all-append (λ entry. is_orderly (plain_event entry.event)) entries (entry ∷ []) ∙ rw (all, one) refl

-- two facts together are each of them
both : (one other : Bool) → (one && other) ≡ true → (one ≡ true) × (other ≡ true)
both true other is = (refl, is)
both false other is = absurd (true≢false (sym is))

-- each of the entries that are tested to be orderly has an orderly event
each_orderly : (entries : List Entry) → IsTrue (are_orderly entries) →
    AllByRecursion (λ entry. is_orderly entry.event ≡ true) (map plain_entry entries)
each_orderly [] all = tt
each_orderly (entry ∷ entries) all =
    let parts = both (is_orderly (plain_event entry.event)) (are_orderly entries) all in
    (parts.0, each_orderly entries parts.1)

-- one more entry, where there was memory for it
pub orderly_pushed : (entries next : List Entry) (entry : Entry) (taken : Bool) →
    next ≡ (if taken then entries ++ entry ∷ [] else entries) → IsTrue (are_orderly entries) →
    IsTrue (is_orderly (plain_event entry.event)) → IsTrue (are_orderly next)
orderly_pushed entries next entry true is all one = rw is (orderly_more entries entry all one)
orderly_pushed entries next entry false is all one = rw is all

-- no entry
abbrev none_said : Option PlainEntry
none_said = None

-- a line says the entry that is read of it
pub entry_read : (line : List ℕ) (entry : PlainEntry) → entry_of line ≡ Ok entry → Some entry ≡ entry_on (Some line)
entry_read line entry is = sym (ap result_ok is)

-- and none where it is at fault
pub fault_read : (line : List ℕ) (fault : LineFault) → entry_of line ≡ Err fault → none_said ≡ entry_on (Some line)
fault_read line fault is = sym (ap result_ok is)

-- the entries that are judged have orderly events
pub orderly_front : (entries front : List Entry) → front ≡ take MOST_JUDGED entries → IsTrue (are_orderly entries) →
    IsOrderly (plain_history front)
orderly_front entries front is all = rw is (orderly_before entries MOST_JUDGED
    (all_reverse (λ entry. is_orderly entry.event ≡ true) (map plain_entry entries) (each_orderly entries all)))

-- and are few
pub front_few : (entries front : List Entry) → front ≡ take MOST_JUDGED entries → length front ≤ MOST_JUDGED
front_few entries front is = let cut = length-take MOST_JUDGED entries in rw is (omega (arith, cut))

-- all entries are judged where they are few
pub all_taken : (entries : List Entry) → length entries ≤ MOST_JUDGED → entries ≡ take MOST_JUDGED entries
all_taken entries few = sym (take_all MOST_JUDGED entries few)

-- what is found of them is what is found of the first entries that were read
pub front_judged : (entries front : List Entry) (found : Judged) → front ≡ take MOST_JUDGED entries →
    found ≡ judged (map plain_entry front) → judged (take MOST_JUDGED (map plain_entry entries)) ≡ found
front_judged entries front found is judgement =
    ap judged (take-map plain_entry MOST_JUDGED entries ∙ ap (map plain_entry) (sym is)) ∙ sym judgement

-- ---- the verdict

-- an answer is wrong
pub wrong_found : (entries front : List Entry) (behind : List Line) (place : ℕ) (says : Answer) →
    front ≡ take MOST_JUDGED entries → Wrong place says ≡ judged (map plain_entry front) →
    verdict.WrongAnswer place says ≡ verdict_on (map plain_entry entries) behind
wrong_found entries front behind place says is judgement =
    sym (ap (by_answers (map plain_entry entries) behind) (front_judged entries front (Wrong place says) is judgement))

-- there are too many
pub many_found : (entries front : List Entry) (behind : List Line) → MOST_JUDGED < length entries →
    front ≡ take MOST_JUDGED entries → Good ≡ judged (map plain_entry front) →
    verdict.TooMany MOST_JUDGED ≡ verdict_on (map plain_entry entries) behind
many_found entries front behind many is judgement =
    let more = lt-ltb MOST_JUDGED (length (map plain_entry entries)) (rw (length-map entries plain_entry) many) in
    sym (ap (by_answers (map plain_entry entries) behind) (front_judged entries front Good is judgement) ∙ rw more refl)

-- all is right but what stands behind the entries
pub tail_found : (entries front : List Entry) (behind : List Line) (found : Verdict) → length entries ≤ MOST_JUDGED →
    front ≡ take MOST_JUDGED entries → Good ≡ judged (map plain_entry front) →
    found ≡ by_tail (length (map plain_entry entries))
    (first_other (length (map plain_entry entries)) (closing_lines (reverse (map plain_entry entries))) behind) →
    found ≡ verdict_on (map plain_entry entries) behind
tail_found entries front behind found few is judgement tail =
    let fits = le-ltb MOST_JUDGED (length (map plain_entry entries)) (rw (length-map entries plain_entry) few) in
    tail
    ∙ sym (ap (by_answers (map plain_entry entries) behind) (front_judged entries front Good is judgement)
    ∙ rw fits refl)

-- what is found over what was kept is found over all lines
pub exactly : (read : Read) (found : Verdict) (lines : List Line) → read ≡ read_all lines →
    found ≡ verdict_after read → found ≡ verdict_of lines
exactly read found lines is value = value ∙ ap verdict_after is ∙ read_to_verdict lines
