-- What is kept while lines are read gives the verdict over all of them.
use Rattle.std.proofs.Common.{◌≡◌, ◌≤◌, ◌<◌, ◌∷◌, [], ◌++◌, ℕ, suc, length, map, take, drop, List, Bool, true, false}
use Rattle.std.proofs.Common.{Option, Some, None, refl, sym, ap, ◌∙◌, arith, append_assoc, append-nil, length-append}
use Rattle.std.proofs.Common.{reverse, if◌then◌else◌}
use Rattle.std.proofs.Math.Dec.{eqb-suc-zero}
use Rattle.std.proofs.lemmas.Bool.{le-ltb, lt-ltb, ltb-true}
use Rattle.std.proofs.lemmas.List.{length-map, length-reverse, take-append-le}
use Rattle.std.specs.Prelude.{nat_lt}
use Rattle.std.specs.List.{filter_map, fold}
use Rattle.mtp_codes.proofs.Lists.{length_filter_map}
use Rattle.pol_events.specs.Events.{PlainEntry}
use Rattle.pol_history.specs.Batches.{batches}
use Rattle.pol_history.specs.Looking.{History}
use Rattle.pol_record.specs.Gathered.{newly_started}
use Rattle.pol_record.specs.Texts.{batch_text, end_text}
use Rattle.pol_record.specs.declared.verdicts.Verdict.{Verdict}
use Rattle.pol_record.specs.declared.verdicts.Verdict.TheVariants as verdict
use Rattle.pol_audit.specs.Judging.{judged}
use Rattle.pol_audit.specs.Verdict.{Line, entry_on, run_from, entries_of, lines_behind, closing_lines, is_line}
use Rattle.pol_audit.specs.Verdict.{first_other, by_tail, by_answers, verdict_on, verdict_of}
use Rattle.pol_audit.specs.Reading.{Read, with_behind, with_front, is_decided, with_line, after_line, read_all}
use Rattle.pol_audit.specs.Reading.{verdict_after}
use Rattle.pol_audit.specs.declared.judging.Judged.{Judged}
use Rattle.pol_audit.specs.declared.judging.Judged.TheVariants.{Good, Wrong}
use Rattle.pol_audit.specs.declared.judging.TheConstants.{MOST_JUDGED}

-- ---- how many lines can be wanted

-- no more lines are wanted than there are entries, and one
pub few_wanted : (history : History) → length (closing_lines history) ≤ suc (length history)
few_wanted history =
    let end : List (List ℕ) = end_text ∷ [] in
    let kept = length_filter_map newly_started history in
    let turned = length-reverse (filter_map newly_started history) in
    rw (
      length-append (map (batch_text history) (batches history)) end,
      length-map (batches history) (batch_text history),
    ) (omega (arith, kept, turned))

-- lines behind more than are wanted tell nothing more
first_enough : (place : ℕ) (wanted : List (List ℕ)) (lines later : List Line) → length wanted < length lines →
    first_other place wanted (lines ++ later) ≡ first_other place wanted lines
first_enough place [] [] later more = absurd (omega (arith, more))
first_enough place [] (line ∷ lines) later more = refl
first_enough place (one ∷ wanted) [] later more = absurd (omega (arith, more))
first_enough place (one ∷ wanted) (line ∷ lines) later more =
    ap (λ found. if is_line one line then found else Some place)
    (first_enough (suc place) wanted lines later (omega (arith, more)))

-- a verdict, by the first of the lines behind the entries that differs
abbrev verdict_found : List PlainEntry → Judged → Option ℕ → Verdict
verdict_found entries (Wrong place says) found = verdict.WrongAnswer place says
verdict_found entries Good found =
    if nat_lt MOST_JUDGED (length entries) then verdict.TooMany MOST_JUDGED else by_tail (length entries) found

-- it is by that line alone
found_is : (entries : List PlainEntry) (lines : List Line) (found : Judged) →
    by_answers entries lines found
    ≡ verdict_found entries found (first_other (length entries) (closing_lines (reverse entries)) lines)
found_is entries lines (Wrong place says) = refl
found_is entries lines Good = refl

-- so the verdict over them is the same
decided_behind : (entries : List PlainEntry) (lines later : List Line) → suc (length entries) < length lines →
    verdict_on entries (lines ++ later) ≡ verdict_on entries lines
decided_behind entries lines later more =
    let few = few_wanted (reverse entries) in
    let turned = length-reverse entries in
    found_is entries (lines ++ later) (judged (take MOST_JUDGED entries))
    ∙ ap (verdict_found entries (judged (take MOST_JUDGED entries)))
    (first_enough (length entries) (closing_lines (reverse entries)) lines later (omega (arith, few, turned, more)))
    ∙ sym (found_is entries lines (judged (take MOST_JUDGED entries)))

-- where there are more entries than are judged, neither further entries nor the lines behind them change the verdict
decided_front : (entries later : List PlainEntry) (lines others : List Line) → MOST_JUDGED < length entries →
    verdict_on (entries ++ later) lines ≡ verdict_on entries others
decided_front entries later lines others many =
    ap (by_answers (entries ++ later) lines)
    (ap judged (take-append-le MOST_JUDGED entries later (omega (arith, many))))
    ∙ go (judged (take MOST_JUDGED entries)) (lt-ltb MOST_JUDGED (length entries) many)
    (lt-ltb MOST_JUDGED (length (entries ++ later)) (rw (length-append entries later) (omega (arith, many))))
  where
    go : (found : Judged) → nat_lt MOST_JUDGED (length entries) ≡ true →
        nat_lt MOST_JUDGED (length (entries ++ later)) ≡ true →
        by_answers (entries ++ later) lines found ≡ by_answers entries others found
    go (Wrong place says) own all = refl
    go Good own all = rw (own, all) refl

-- ---- reading on

-- once the verdict is decided nothing more is kept
stays_decided : (read : Read) (lines : List Line) → is_decided read ≡ true → fold after_line read lines ≡ read
stays_decided read [] decided = refl
stays_decided read (line ∷ lines) decided =
    ap (λ next. fold after_line next lines) (ap (λ enough. if enough then read else with_line read line) decided)
    ∙ stays_decided read lines decided

-- lines that are read behind the entries
behind_on : (entries : List PlainEntry) (line : Line) (lines later : List Line)
    → nat_lt MOST_JUDGED (length entries) ≡ false →
    verdict_after (fold after_line (record { entries = entries; behind = line ∷ lines }) later)
    ≡ verdict_on entries ((line ∷ lines) ++ later)
behind_on entries line lines [] few = ap (verdict_on entries) (sym (append-nil (line ∷ lines)))
behind_on entries line lines (next ∷ later) few =
    go (nat_lt (suc (length entries)) (length (line ∷ lines))) refl
    (behind_on entries line (lines ++ next ∷ []) later few)
  where
    now : Read
    now = record { entries = entries; behind = line ∷ lines }

    decided : (enough : Bool) → nat_lt (suc (length entries)) (length (line ∷ lines)) ≡ enough → is_decided now ≡ enough
    decided enough is = rw (few, is) refl

    go : (enough : Bool) → nat_lt (suc (length entries)) (length (line ∷ lines)) ≡ enough →
        verdict_after (fold after_line (with_behind now next) later)
        ≡ verdict_on entries ((line ∷ lines ++ next ∷ []) ++ later) →
        verdict_after (fold after_line now (next ∷ later)) ≡ verdict_on entries ((line ∷ lines) ++ next ∷ later)
    go true is further =
        ap verdict_after (stays_decided now (next ∷ later) (decided true is))
        ∙ sym (decided_behind entries (line ∷ lines) (next ∷ later)
        (ltb-true (suc (length entries)) (length (line ∷ lines)) is))
    go false is further =
        ap (λ enough. verdict_after (fold after_line (if enough then now else with_line now next) later))
        (decided false is)
        ∙ ap (λ none. verdict_after
        (fold after_line (if none then with_front now (entry_on next) next else with_behind now next) later))
        (eqb-suc-zero (length lines))
        ∙ further
        ∙ ap (verdict_on entries) (append_assoc (line ∷ lines) (next ∷ []) later)

-- lines that are read while each before them was an entry
front_on : (entries : List PlainEntry) (lines : List Line) →
    verdict_after (fold after_line (record { entries = entries; behind = [] }) lines)
    ≡ verdict_on (entries ++ entries_of lines) (lines_behind lines)
front_on entries [] = ap (λ all. verdict_on all []) (sym (append-nil entries))
front_on entries (line ∷ lines) =
    by_many (nat_lt MOST_JUDGED (length entries)) refl (λ entry. front_on (entries ++ entry ∷ []) lines)
  where
    now : Read
    now = record { entries = entries; behind = [] }

    undecided : nat_lt MOST_JUDGED (length entries) ≡ false → is_decided now ≡ false
    undecided few = rw (few, le-ltb (suc (length entries)) 0 (omega arith)) refl

    Further : Type 0
    Further = (entry : PlainEntry)
        → verdict_after (fold after_line (record { entries = entries ++ entry ∷ []; behind = [] }) lines)
        ≡ verdict_on ((entries ++ entry ∷ []) ++ entries_of lines) (lines_behind lines)

    by_entry : (says : Option PlainEntry) → nat_lt MOST_JUDGED (length entries) ≡ false → Further →
        verdict_after (fold after_line (with_front now says line) lines)
        ≡ verdict_on (entries ++ run_from says (entries_of lines))
        (drop (length (run_from says (entries_of lines))) (line ∷ lines))
    by_entry None few further = behind_on entries line [] lines few ∙ ap (λ all. verdict_on all (line ∷ lines))
        (sym (append-nil entries))
    by_entry (Some entry) few further =
        further entry
        ∙ ap (λ all. verdict_on all (lines_behind lines)) (append_assoc entries (entry ∷ []) (entries_of lines))

    by_many : (many : Bool) → nat_lt MOST_JUDGED (length entries) ≡ many → Further →
        verdict_after (fold after_line now (line ∷ lines))
        ≡ verdict_on (entries ++ entries_of (line ∷ lines)) (lines_behind (line ∷ lines))
    by_many true is further =
        ap verdict_after (stays_decided now (line ∷ lines) (rw is refl))
        ∙ sym (decided_front entries (entries_of (line ∷ lines)) (lines_behind (line ∷ lines)) []
        (ltb-true MOST_JUDGED (length entries) is))
    by_many false few further =
        ap (λ enough. verdict_after (fold after_line (if enough then now else with_line now line) lines))
        (undecided few)
        ∙ by_entry (entry_on line) few further

-- what is kept of all lines gives the verdict over them
pub read_to_verdict : (lines : List Line) → verdict_after (read_all lines) ≡ verdict_of lines
unfolding verdict_of
read_to_verdict lines = front_on [] lines
