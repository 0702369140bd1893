-- The output of a journal under a policy.
use Rattle.std.specs.Prelude.{ℕ, ◌≡◌, List, [], ◌∷◌, ◌++◌, map, filter, IsTrue, Some, None, Ok, Err}
use Rattle.mtp_json.specs.ReadResult.{ReadResult, here}
use Rattle.mtp_json.specs.declared.fault.FaultKind.TheVariants.{Missing, TooLong}
use Rattle.mtp_json.specs.declared.fault.JsonFault.{JsonFault}
use Rattle.pol_events.specs.Events.{PlainEntry, PlainEvent}
use Rattle.pol_history.specs.Looking.{History}
use Rattle.pol_history.specs.Runs.{history_after, run_of}
use Rattle.pol_io.specs.Pieces.{pieces}
use Rattle.pol_jobs.specs.LineWork.{Line, Output, line_met}
use Rattle.pol_policy.specs.Form.{policy_on}
use Rattle.pol_policy.specs.Policies.{PlainPolicy}
use Rattle.pol_record.specs.Lines.{closing_text}
use Rattle.pol_record.specs.Texts.{answer_text, fault_text}
use Rattle.pol_replay.specs.Meanings.{is_some_line}
use Rattle.pol_guard.specs.Denials.{denial_text}
use Rattle.pol_guard.specs.Lines.{GuardedLine, faulty, denied, admitted, guarded_line}

-- ---- the policy and the journal behind it

-- the lines of an input that aren't blank, as a job meets them
abbrev pub some_lines : List ℕ → List Line
some_lines bytes = filter is_some_line (map line_met (pieces bytes))

-- the policy that a line says, or its first fault; a line that is too long has that fault
abbrev pub policy_said : Line → ReadResult PlainPolicy
policy_said None = here (Err TooLong)
policy_said (Some text) = policy_on text

-- the policy of lines that aren't blank: the first of them says it; where there is none, it is missing
abbrev pub policy_among : List Line → ReadResult PlainPolicy
policy_among [] = here (Err Missing)
policy_among (first ∷ others) = policy_said first

-- the policy of an input, or why it has none
abbrev pub policy_of : List ℕ → ReadResult PlainPolicy
policy_of bytes = policy_among (some_lines bytes)

-- the lines behind the first
abbrev pub behind_first : List Line → List Line
behind_first [] = []
behind_first (first ∷ others) = others

-- the journal of an input: its lines behind the policy that aren't blank
abbrev pub journal_of : List ℕ → List Line
journal_of bytes = behind_first (some_lines bytes)

-- ---- what comes of a journal under a policy

-- what comes of each line of a journal
abbrev pub guarded_lines : PlainPolicy → List Line → List GuardedLine
guarded_lines policy journal = map (guarded_line policy) journal

-- the events of lines that aren't denied, in their order
abbrev pub admitted_in : List GuardedLine → List PlainEvent
admitted_in [] = []
admitted_in (faulty fault ∷ lines) = admitted_in lines
admitted_in (denied rule ∷ lines) = admitted_in lines
admitted_in (admitted event ∷ lines) = event ∷ admitted_in lines

-- the line of each fault, of each denial, and of the answer to each event that isn't denied, with its entry
abbrev pub texts_with : List GuardedLine → List PlainEntry → List ℕ
texts_with [] entries = []
texts_with (faulty fault ∷ lines) entries = fault_text fault ++ texts_with lines entries
texts_with (denied rule ∷ lines) entries = denial_text rule ++ texts_with lines entries
texts_with (admitted event ∷ lines) [] = []
texts_with (admitted event ∷ lines) (entry ∷ entries) = answer_text entry.answer ++ texts_with lines entries

-- the events of a journal that aren't denied under a policy
abbrev pub admitted_under : PlainPolicy → List Line → List PlainEvent
admitted_under policy journal = admitted_in (guarded_lines policy journal)

-- what is replied to a journal: the events that aren't denied are answered as in a run of these alone
abbrev pub replies_under : PlainPolicy → List Line → List ℕ
replies_under policy journal = texts_with (guarded_lines policy journal) (run_of (admitted_under policy journal))

-- the history that the events leave that aren't denied
abbrev pub history_under : PlainPolicy → List Line → History
history_under policy journal = history_after [] (admitted_under policy journal)

-- ---- the output

-- what is replied to the journal of an input, by what is said of its policy: nothing where that is none
abbrev pub replies_by : ReadResult PlainPolicy → List Line → List ℕ
replies_by (Ok policy) journal = replies_under policy journal
replies_by (Err fault) journal = []

-- the history that the journal of an input leaves, by what is said of its policy: nothing where that is none
abbrev pub history_by : ReadResult PlainPolicy → List Line → History
history_by (Ok policy) journal = history_under policy journal
history_by (Err fault) journal = []

-- the history that an input leaves under its policy
abbrev pub guarded_history : List ℕ → History
guarded_history bytes = history_by (policy_of bytes) (journal_of bytes)

-- a line is refused, for this fault, where it is the first that isn't blank and says no policy
abbrev pub IsNoPolicy : List Line → Line → JsonFault → Type 0
IsNoPolicy [] line fault = policy_said line ≡ Err fault
IsNoPolicy (first ∷ others) line fault = ⊥

-- The replies to the journal's lines; then the lines of the batches and the end line. The first line that isn't blank
-- is refused where it says no policy, and an input without such a line at its end.
abbrev pub guarded : Output JsonFault
guarded =
    record {
      replies = λ bytes. replies_by (policy_of bytes) (journal_of bytes);
      Closing = λ bytes text. text ≡ closing_text (guarded_history bytes);
      Refuses = λ bytes line fault. IsTrue (is_some_line line) × IsNoPolicy (some_lines bytes) line fault;
      RefusesEnd = λ bytes fault. policy_of bytes ≡ Err fault;
    }
