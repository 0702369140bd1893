-- The audit of a history: the lines of an input, what is kept of them, the output, and what a good verdict says.
use Rattle.std.specs.Prelude.{ℕ, ◌≡◌, List, [], ◌∷◌, ◌++◌, length, map, if◌then◌else◌}
use Rattle.std.specs.declared.convert.Infallible.{Infallible}
use Rattle.pol_events.specs.Events.{PlainEntry}
use Rattle.pol_history.specs.Looking.{History}
use Rattle.pol_history.specs.Runs.{events_of, run_of}
use Rattle.pol_record.specs.Verdicts.{verdict_text}
use Rattle.pol_record.specs.declared.verdicts.Verdict.{Verdict}
use Rattle.pol_record.specs.declared.verdicts.Verdict.TheVariants as verdict
use Rattle.pol_audit.specs.Reading.{Read, after_line, verdict_after}
use Rattle.pol_audit.specs.Truth.{spelled}
use Rattle.pol_audit.specs.Verdict.{verdict_of}
use Rattle.pol_safety.specs.Sound.{IsRight, IsSound}
use Rattle.pol_removal.specs.Removal.{entries_without}
use Rattle.pol_jobs.specs.LineWork.{Line, LineWork, Output, texts_of, work_of}
use Rattle.pol_retold.specs.Inputs.{lines_read}
use Rattle.pol_replay.specs.Meanings.{is_some_line}

-- ---- the output of an audit

-- the verdict over an input
abbrev pub audit_of : List ℕ → Verdict
audit_of bytes = verdict_of (lines_read bytes)

-- the output of an audit: nothing for lines, and the line of the verdict for an input
abbrev pub audited : Output Infallible
audited = texts_of (λ lines. []) (λ input. verdict_text (audit_of input))

-- ---- the work of an audit

-- what is kept after one more line
abbrev pub after_audited : Read → Line → Read
after_audited read line = if is_some_line line then after_line read line else read

-- what an audit does with each line, and at the end
abbrev pub audit_work : LineWork Read Infallible
audit_work = work_of (λ read line. []) after_audited (λ read. verdict_text (verdict_after read))

-- ---- what a good verdict says

-- At each time the history was sound, each entry of it is right, and taking out the events that concern some modules
-- takes out just their entries.
pub record IsTrueRecord (history : History) : Type 0 where
  pub sound : (later earlier : History) → later ++ earlier ≡ history → IsSound earlier
  pub right : (later earlier : History) (entry : PlainEntry) → later ++ entry ∷ earlier ≡ history →
      IsRight earlier entry
  pub removal : (tags : List (List ℕ)) →
      run_of (map (λ entry. entry.event) (entries_without tags (events_of history)))
      ≡ entries_without tags (events_of history)

-- Where the verdict over an input is good, the entry lines spell a true record of a history, of so many entries.
abbrev pub AuditTheorem : List ℕ → Type 0
AuditTheorem bytes =
    (count : ℕ) → audit_of bytes ≡ verdict.Good count →
    IsTrueRecord (spelled (lines_read bytes)) × (length (spelled (lines_read bytes)) ≡ count)
