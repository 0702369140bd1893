-- The work of an audit, line by line, gives its output; and what follows from a good verdict.
use Rattle.std.proofs.Common.{◌≡◌, ◌<◌, ℕ, List, [], ◌∷◌, Bool, true, false, length, map, refl, ap, sym, subst}
use Rattle.std.proofs.Common.{◌∙◌, arith, length-append, if◌then◌else◌}
use Rattle.std.proofs.lemmas.List.{length-reverse}
use Rattle.std.specs.List.{fold, list_all}
use Rattle.std.specs.Prelude.{filter, Some}
use Rattle.serde_json.specs.Written.{compact_text}
use Rattle.mtp_codes.proofs.Lists.{all_reverse}
use Rattle.pol_history.proofs.Legal.{earlier_legal, earlier_orderly}
use Rattle.pol_events.specs.Events.{PlainEntry}
use Rattle.pol_events.specs.Orderly.{is_orderly}
use Rattle.pol_history.specs.Looking.{History}
use Rattle.pol_history.specs.Runs.{AreOrderly, IsLegal, IsOrderly, events_of}
use Rattle.pol_io.specs.Pieces.{pieces, line_of}
use Rattle.pol_record.specs.Verdicts.{verdict_data, verdict_text}
use Rattle.pol_record.specs.declared.verdicts.Verdict.{Verdict}
use Rattle.pol_audit.specs.Reading.{Read, after_line, nothing_read, verdict_after}
use Rattle.pol_audit.specs.Truth.{GoodIsTrue, spelled}
use Rattle.pol_audit.specs.Verdict.{entries_of}
use Rattle.pol_audit.proofs.Reading.{read_to_verdict}
use Rattle.pol_safety.specs.Sound.{HistoriesAreSound, EntriesAreRight}
use Rattle.pol_removal.specs.Removal.{RemovalOfEvents}
use Rattle.pol_jobs.specs.LineWork.{after_all, line_met, met, output_by, replies}
use Rattle.event_json.specs.Lines.{is_blank_byte}
use Rattle.site_json.specs.Texts.{is_filled}
use Rattle.pol_cli.specs.Audits.{AuditTheorem, after_audited, audit_of, audit_work, audited}
use Rattle.pol_retold.specs.Inputs.{lines_read}
use Rattle.pol_cli.proofs.Filled.{met_filled}

-- ---- one line

-- of a line of blanks nothing is kept
pub blank_read : (read : Read) (line : List ℕ) → list_all is_blank_byte line ≡ true →
    read ≡ after_audited read (Some line)
blank_read read line blank = rw blank refl

-- another one is read
pub filled_read : (read next : Read) (line : List ℕ) → list_all is_blank_byte line ≡ false →
    next ≡ after_line read (Some line) → next ≡ after_audited read (Some line)
filled_read read next line some is = rw some is

-- the line of a verdict isn't empty
pub some_verdict : (found : Verdict) → 0 < length (verdict_text found)
some_verdict found =
    let feed : List ℕ = 10 ∷ [] in rw (length-append (compact_text (verdict_data found)) feed) (omega arith)

-- ---- all lines

-- an audit replies nothing to any line
no_replies : (read : Read) (parts : List (List ℕ)) → replies audit_work read parts ≡ []
no_replies read [] = refl
no_replies read (piece ∷ parts) = no_replies (after_audited read (line_met piece)) parts

-- what is kept of all lines is what is kept of those that aren't blank
kept_of_filled : (read : Read) (parts : List (List ℕ)) →
    after_all audit_work read parts ≡ fold after_line read (map met (filter is_filled (map line_of parts)))
kept_of_filled read [] = refl
kept_of_filled read (piece ∷ parts) =
    rw (met_filled (line_of piece)) (by_line (is_filled (line_of piece)) (λ later. kept_of_filled later parts))
  where
    by_line : (filled : Bool) → ((later : Read) → after_all audit_work later parts
        ≡ fold after_line later (map met (filter is_filled (map line_of parts)))) →
        after_all audit_work (if filled then after_line read (line_met piece) else read) parts
        ≡ fold after_line read (map met (if filled then line_of piece ∷ filter is_filled (map line_of parts)
        else filter is_filled (map line_of parts)))
    by_line true rest = rest (after_line read (line_met piece))
    by_line false rest = rest read

-- behind all lines its verdict is the one of the whole input
closed_with : (bytes : List ℕ) → verdict_after (after_all audit_work nothing_read (pieces bytes)) ≡ audit_of bytes
closed_with bytes = ap verdict_after (kept_of_filled nothing_read (pieces bytes)) ∙ read_to_verdict (lines_read bytes)

-- the output of an audit that has read nothing is the line of the verdict
pub audit_output : output_by audit_work nothing_read ≡ audited
audit_output =
    λ i. record {
      replies = λ bytes. no_replies nothing_read (pieces bytes) i;
      Closing = λ bytes text. text ≡ verdict_text (closed_with bytes i);
      Refuses = λ bytes line reason. ⊥;
      RefusesEnd = λ bytes reason. ⊥;
    }

-- ---- what follows from a good verdict

-- the events of orderly entries are orderly
each_orderly : (entries : List PlainEntry) → IsOrderly entries → AreOrderly (map (λ entry. entry.event) entries)
each_orderly [] orderly = tt
each_orderly (entry ∷ entries) orderly = (orderly.0, each_orderly entries orderly.1)

-- the events of an orderly history are orderly
events_orderly : (history : History) → IsOrderly history → AreOrderly (events_of history)
events_orderly history orderly =
    all_reverse (λ event. is_orderly event ≡ true) (map (λ entry. entry.event) history) (each_orderly history orderly)

-- where the verdict is good, what holds of all legal histories of orderly events holds of the history
pub audit_theorem : HistoriesAreSound → EntriesAreRight → RemovalOfEvents → GoodIsTrue → (bytes : List ℕ) →
    AuditTheorem bytes
audit_theorem sound right removal good bytes count is =
    let true_history = good (lines_read bytes) count is in (
      record {
        sound = λ later earlier cut. sound earlier
            (earlier_legal later earlier (subst IsLegal (sym cut) true_history.legal))
            (earlier_orderly later earlier (subst IsOrderly (sym cut) true_history.orderly));
        right = λ later earlier entry cut. right earlier entry
            (earlier_legal later (entry ∷ earlier) (subst IsLegal (sym cut) true_history.legal))
            (earlier_orderly later (entry ∷ earlier) (subst IsOrderly (sym cut) true_history.orderly)).1;
        removal = λ tags. removal tags (events_of (spelled (lines_read bytes)))
            (events_orderly (spelled (lines_read bytes)) true_history.orderly);
      },
      length-reverse (entries_of (lines_read bytes)) ∙ true_history.counted,
    )
