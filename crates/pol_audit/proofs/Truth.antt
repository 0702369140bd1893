-- A good verdict is given of true histories alone.
use Rattle.std.proofs.Common.{◌≡◌, ◌≤◌, ℕ, List, Bool, true, false, Option, Some, None, length, take, refl, sym, ap}
use Rattle.std.proofs.Common.{◌∙◌, if◌then◌else◌}
use Rattle.std.proofs.lemmas.Bool.{ltb-false}
use Rattle.std.proofs.lemmas.List.{take_all}
use Rattle.std.specs.Prelude.{nat_lt}
use Rattle.pol_events.specs.Events.{PlainEntry}
use Rattle.pol_record.specs.declared.verdicts.Verdict.TheVariants as verdict
use Rattle.pol_audit.specs.Judging.{judged}
use Rattle.pol_audit.specs.Truth.{GoodIsTrue, IsTrueHistory, spelled}
use Rattle.pol_audit.specs.Verdict.{by_answers, by_tail, closing_lines, entries_of, first_other, lines_behind}
use Rattle.pol_audit.specs.Verdict.{verdict_of}
use Rattle.pol_audit.specs.declared.judging.Judged.{Judged}
use Rattle.pol_audit.specs.declared.judging.Judged.TheVariants.{Good, Wrong}
use Rattle.pol_audit.specs.declared.judging.TheConstants.{MOST_JUDGED}
use Rattle.pol_audit.proofs.Found.{judges_all}
use Rattle.pol_audit.proofs.Orderly.{lines_orderly}

-- the number of the entries, where nothing behind them differs
tail_good : (count own : ℕ) (found : Option ℕ) → by_tail own found ≡ verdict.Good count → (own ≡ count) × (found ≡ None)
tail_good count own None is = (cc, refl)
tail_good count own (Some place) is = absurd cc

-- a good verdict is given of true histories alone
pub good_is_true : GoodIsTrue
unfolding verdict_of
good_is_true lines count is = by_judged (judged (take MOST_JUDGED entries)) refl is
  where
    entries : List PlainEntry
    entries = entries_of lines

    found : Option ℕ
    found = first_other (length entries) (closing_lines (spelled lines)) (lines_behind lines)

    by_count : (many : Bool) → nat_lt MOST_JUDGED (length entries) ≡ many →
        judged (take MOST_JUDGED entries) ≡ Good →
        (if many then verdict.TooMany MOST_JUDGED else by_tail (length entries) found) ≡ verdict.Good count →
        IsTrueHistory lines count
    by_count true many good is = absurd cc
    by_count false many good is =
        let few : length entries ≤ MOST_JUDGED = ltb-false MOST_JUDGED (length entries) many in
        let tail = tail_good count (length entries) found is in
        record {
          legal = judges_all entries few Good (sym good ∙ ap judged (take_all MOST_JUDGED entries few));
          orderly = lines_orderly lines;
          counted = tail.0;
          few = rw (← tail.0) few;
          closed = ap (λ first. first_other first (closing_lines (spelled lines)) (lines_behind lines))
              (sym tail.0) ∙ tail.1;
        }

    by_judged : (judgement : Judged) → judged (take MOST_JUDGED entries) ≡ judgement →
        by_answers entries (lines_behind lines) judgement ≡ verdict.Good count → IsTrueHistory lines count
    by_judged (Wrong place says) judgement is = absurd cc
    by_judged Good good is = by_count (nat_lt MOST_JUDGED (length entries)) refl good is
