-- The work of a guard, line by line, gives its output.
use Rattle.std.proofs.Common.{◌≡◌, ℕ, Bool, true, false, List, [], ◌∷◌, ◌++◌, Ok, Err, map, refl, ap, ◌∙◌}
use Rattle.std.proofs.Common.{if◌then◌else◌}
use Rattle.std.specs.Prelude.{filter, IsTrue}
use Rattle.std.specs.List.{fold}
use Rattle.mtp_json.specs.ReadResult.{ReadResult}
use Rattle.mtp_json.specs.declared.fault.JsonFault.{JsonFault}
use Rattle.pol_history.specs.Answers.{answer_of}
use Rattle.pol_history.specs.Looking.{History}
use Rattle.pol_history.specs.Runs.{entry_of, history_after, recorded, run_after}
use Rattle.pol_io.specs.Pieces.{pieces}
use Rattle.pol_jobs.specs.LineWork.{Line, after_all, line_met, output_by, replies}
use Rattle.pol_policy.specs.Policies.{PlainPolicy}
use Rattle.pol_record.specs.Lines.{closing_text}
use Rattle.pol_record.specs.Texts.{answer_text, fault_text}
use Rattle.pol_replay.specs.Meanings.{is_some_line}
use Rattle.pol_guard.specs.Denials.{denial_text}
use Rattle.pol_guard.specs.Guarded.{IsNoPolicy, admitted_in, behind_first, guarded, guarded_history, guarded_lines}
use Rattle.pol_guard.specs.Guarded.{history_by, policy_among, policy_of, policy_said, replies_by, some_lines}
use Rattle.pol_guard.specs.Guarded.{texts_with}
use Rattle.pol_guard.specs.Lines.{GuardedLine, faulty, denied, admitted, guarded_line}
use Rattle.pol_guard.specs.Work.{Known, waiting, begun, RefusesSome, after_some, guard_work, history_in, history_with}
use Rattle.pol_guard.specs.Work.{reply_some, said_in, text_after}

-- ---- blank lines do nothing

-- the lines of these pieces that aren't blank
abbrev some_of : List (List ℕ) → List Line
some_of parts = filter is_some_line (map line_met parts)

-- the replies to lines that aren't blank
abbrev replied : Known → List Line → List ℕ
replied known [] = []
replied known (line ∷ lines) = reply_some known line ++ replied (after_some known line) lines

-- what is known after all lines is what is known after those that aren't blank
known_of_some : (known : Known) (parts : List (List ℕ)) →
    after_all guard_work known parts ≡ fold after_some known (some_of parts)
known_of_some known [] = refl
known_of_some known (piece ∷ parts) =
    by_line (is_some_line (line_met piece)) (λ later. known_of_some later parts)
  where
    by_line : (some : Bool) → ((later : Known) → after_all guard_work later parts
        ≡ fold after_some later (some_of parts)) →
        after_all guard_work (if some then after_some known (line_met piece) else known) parts
        ≡ fold after_some known (if some then line_met piece ∷ some_of parts else some_of parts)
    by_line true rest = rest (after_some known (line_met piece))
    by_line false rest = rest known

-- the replies to all lines are the replies to those
replies_to_some : (known : Known) (parts : List (List ℕ)) →
    replies guard_work known parts ≡ replied known (some_of parts)
replies_to_some known [] = refl
replies_to_some known (piece ∷ parts) =
    by_line (is_some_line (line_met piece)) (λ later. replies_to_some later parts)
  where
    by_line : (some : Bool) → ((later : Known) → replies guard_work later parts ≡ replied later (some_of parts)) →
        (if some then reply_some known (line_met piece) else [])
        ++ replies guard_work (if some then after_some known (line_met piece) else known) parts
        ≡ replied known (if some then line_met piece ∷ some_of parts else some_of parts)
    by_line true rest =
        ap (λ text. reply_some known (line_met piece) ++ text) (rest (after_some known (line_met piece)))
    by_line false rest = rest known

-- ---- a journal under a policy

-- the replies to it are the texts of what comes of its lines, with the entries of a run
replied_under : (policy : PlainPolicy) (history : History) (journal : List Line) →
    replied (begun (Ok policy) history) journal
    ≡ texts_with (guarded_lines policy journal) (run_after history (admitted_in (guarded_lines policy journal)))
replied_under policy history [] = refl
replied_under policy history (line ∷ journal) =
    by_line (guarded_line policy line) (λ later. replied_under policy later journal)
  where
    by_line : (row : GuardedLine) → ((later : History) → replied (begun (Ok policy) later) journal
        ≡ texts_with (guarded_lines policy journal) (run_after later (admitted_in (guarded_lines policy journal)))) →
        text_after history row ++ replied (begun (Ok policy) (history_with history row)) journal
        ≡ texts_with (row ∷ guarded_lines policy journal)
        (run_after history (admitted_in (row ∷ guarded_lines policy journal)))
    by_line (faulty fault) rest = ap (λ text. fault_text fault ++ text) (rest history)
    by_line (denied rule) rest = ap (λ text. denial_text rule ++ text) (rest history)
    by_line (admitted event) rest =
        ap (λ text. answer_text (answer_of history event) ++ text) (rest (recorded (entry_of history event) history))

-- what is known after it is the history of the events that aren't denied
known_under : (policy : PlainPolicy) (history : History) (journal : List Line) →
    fold after_some (begun (Ok policy) history) journal
    ≡ begun (Ok policy) (history_after history (admitted_in (guarded_lines policy journal)))
known_under policy history [] = refl
known_under policy history (line ∷ journal) =
    by_line (guarded_line policy line) (λ later. known_under policy later journal)
  where
    by_line : (row : GuardedLine) → ((later : History) → fold after_some (begun (Ok policy) later) journal
        ≡ begun (Ok policy) (history_after later (admitted_in (guarded_lines policy journal)))) →
        fold after_some (begun (Ok policy) (history_with history row)) journal
        ≡ begun (Ok policy) (history_after history (admitted_in (row ∷ guarded_lines policy journal)))
    by_line (faulty fault) rest = rest history
    by_line (denied rule) rest = rest history
    by_line (admitted event) rest = rest (recorded (entry_of history event) history)

-- behind a line that says no policy nothing is replied
replied_nothing : (fault : JsonFault) (history : History) (journal : List Line) →
    replied (begun (Err fault) history) journal ≡ []
replied_nothing fault history [] = refl
replied_nothing fault history (line ∷ journal) = replied_nothing fault history journal

-- and nothing else is known
known_nothing : (fault : JsonFault) (history : History) (journal : List Line) →
    fold after_some (begun (Err fault) history) journal ≡ begun (Err fault) history
known_nothing fault history [] = refl
known_nothing fault history (line ∷ journal) = known_nothing fault history journal

-- ---- an input

-- what is known after lines that aren't blank
abbrev known_of : List Line → Known
known_of [] = waiting
known_of (first ∷ others) = begun (policy_said first) (history_by (policy_said first) others)

-- it is
known_all : (lines : List Line) → fold after_some waiting lines ≡ known_of lines
known_all [] = refl
known_all (first ∷ others) = by_said (policy_said first)
  where
    by_said : (said : ReadResult PlainPolicy) →
        fold after_some (begun said []) others ≡ begun said (history_by said others)
    by_said (Ok policy) = known_under policy [] others
    by_said (Err fault) = known_nothing fault [] others

-- what is replied to them
replied_all : (lines : List Line) → replied waiting lines ≡ replies_by (policy_among lines) (behind_first lines)
replied_all [] = refl
replied_all (first ∷ others) = by_said (policy_said first)
  where
    by_said : (said : ReadResult PlainPolicy) → replied (begun said []) others ≡ replies_by said others
    by_said (Ok policy) = replied_under policy [] others
    by_said (Err fault) = replied_nothing fault [] others

-- what is known after the lines of an input
known_after : (bytes : List ℕ) → after_all guard_work waiting (pieces bytes) ≡ known_of (some_lines bytes)
known_after bytes = known_of_some waiting (pieces bytes) ∙ known_all (some_lines bytes)

-- the history then
history_left : (bytes : List ℕ) → history_in (after_all guard_work waiting (pieces bytes)) ≡ guarded_history bytes
history_left bytes = ap history_in (known_after bytes) ∙ by_lines (some_lines bytes)
  where
    by_lines : (lines : List Line) → history_in (known_of lines)
        ≡ history_by (policy_among lines) (behind_first lines)
    by_lines [] = refl
    by_lines (first ∷ others) = refl

-- what was said of the policy
policy_left : (bytes : List ℕ) → said_in (after_all guard_work waiting (pieces bytes)) ≡ policy_of bytes
policy_left bytes = ap said_in (known_after bytes) ∙ by_lines (some_lines bytes)
  where
    by_lines : (lines : List Line) → said_in (known_of lines) ≡ policy_among lines
    by_lines [] = refl
    by_lines (first ∷ others) = refl

-- for which faults the next line is refused
refused_next : (bytes : List ℕ) (line : Line) (fault : JsonFault) →
    RefusesSome (after_all guard_work waiting (pieces bytes)) line fault ≡ IsNoPolicy (some_lines bytes) line fault
refused_next bytes line fault =
    ap (λ known. RefusesSome known line fault) (known_after bytes) ∙ by_lines (some_lines bytes)
  where
    by_lines : (lines : List Line) → RefusesSome (known_of lines) line fault ≡ IsNoPolicy lines line fault
    by_lines [] = refl
    by_lines (first ∷ others) = refl

-- the output of a guard that has read nothing is the defined one
pub guard_output : output_by guard_work waiting ≡ guarded
guard_output =
    λ i. record {
      replies = λ bytes. (replies_to_some waiting (pieces bytes) ∙ replied_all (some_lines bytes)) i;
      Closing = λ bytes text. text ≡ closing_text (history_left bytes i);
      Refuses = λ bytes line fault. IsTrue (is_some_line line) × refused_next bytes line fault i;
      RefusesEnd = λ bytes fault. policy_left bytes i ≡ Err fault;
    }
