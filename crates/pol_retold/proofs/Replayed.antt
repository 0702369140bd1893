-- The replay of a history's events gives its answers.
use Rattle.std.proofs.Common.{◌≡◌, [], ◌∷◌, ◌++◌, ℕ, List, false, length, map, reverse, if◌then◌else◌, append_assoc}
use Rattle.std.proofs.Common.{append-nil, refl, sym, ap, ap₂, ◌∙◌, subst}
use Rattle.std.proofs.lemmas.Bool.{le-ltb}
use Rattle.std.proofs.lemmas.List.{reverse-reverse}
use Rattle.std.specs.List.{AllByRecursion, flat_map, list_all}
use Rattle.serde_json.specs.Written.{compact_text}
use Rattle.mtp_codes.proofs.Lists.{reverse_next, all_reverse}
use Rattle.pol_history.proofs.Legal.{earlier_legal}
use Rattle.pol_io.specs.declared.limits.TheConstants.{LONGEST_LINE}
use Rattle.pol_io.proofs.Pieces.{line_of_feed, pieces_feed}
use Rattle.pol_events.specs.Events.{PlainEntry, PlainEvent, unplug}
use Rattle.event_json.specs.Lines.{is_blank_byte}
use Rattle.event_json.specs.Written.{written_batch, written_desk, written_event, written_exchange_cancel}
use Rattle.event_json.specs.Written.{written_exchange_end, written_plug, written_recipe, written_report, start_with}
use Rattle.event_json.specs.Written.{written_tag, written_variable, written_freeze}
use Rattle.pol_events.specs.declared.answer.Answer.{Answer}
use Rattle.pol_history.specs.Looking.{History}
use Rattle.pol_history.specs.Runs.{IsLegal, entry_of, history_after, recorded, recorded_all, run_after}
use Rattle.pol_record.specs.Lines.{InputLine, answered_lines, answered_texts, as_input_line, closing_text, events_in}
use Rattle.pol_record.specs.Lines.{happening, input_line_of, input_lines_of, meaning_of}
use Rattle.pol_record.specs.Texts.{IsReadBack, answer_text, event_text}
use Rattle.pol_retold.specs.Replayed.{IsShortEvent, ReplaysAnswer, answers_text, journal_of}
use Rattle.pol_retold.specs.Retold.{with_feed}
use Rattle.pol_retold.proofs.Feeds.{text_no_feed}

-- ---- the run of the events

-- the events of these entries
abbrev events_in_order : List PlainEntry → List PlainEvent
events_in_order entries = map (λ entry. entry.event) entries

-- the run of the later events of a legal history is that of its later entries, and leaves the history
pub runs_again : (history : History) (later : List PlainEntry) → IsLegal (reverse later ++ history)
    → (run_after history (events_in_order later) ≡ later) × (recorded_all history later ≡ reverse later ++ history)
runs_again history [] legal = (refl, refl)
runs_again history (entry ∷ later) legal =
    let moved : IsLegal (reverse later ++ entry ∷ history) = subst IsLegal (reverse_next later entry history) legal in
    let here : IsLegal (entry ∷ history) = earlier_legal (reverse later) (entry ∷ history) moved in
    let same : entry_of history entry.event ≡ entry =
    ap (λ answer. entry_with entry.event answer) (sym here.0) in
    let kept : recorded entry history ≡ entry ∷ history =
    ap (λ kept. if kept then entry ∷ history else history) here.1 in
    let rest = runs_again (entry ∷ history) later moved in (
      ap (λ first. first ∷ run_after (recorded first history) (events_in_order later)) same
          ∙ ap (λ past. entry ∷ run_after past (events_in_order later)) kept
          ∙ ap (λ others. entry ∷ others) rest.0,
      ap (λ past. recorded_all past later) kept ∙ rest.1 ∙ sym (reverse_next later entry history),
    )
  where
    entry_with : PlainEvent → Answer → PlainEntry
    entry_with event answer = record { event = event; answer = answer }

-- ---- the lines of the journal

-- an event's text begins with a brace
first_byte : (event : PlainEvent) → list_all is_blank_byte (compact_text (written_event event)) ≡ false
unfolding written_plug written_tag written_report written_variable written_desk written_exchange_end
    written_exchange_cancel written_recipe start_with written_batch written_freeze
first_byte (unplug at tag) = refl
first_byte _ = refl

-- the line of an event says the event
line_says : (entry : PlainEntry) → IsReadBack entry → IsShortEvent entry
    → input_line_of (with_feed (event_text entry.event)) ≡ happening (with_feed (event_text entry.event)) entry.event
unfolding meaning_of
line_says entry read short =
    ap (λ line. as_input_line (with_feed (event_text entry.event)) (meaning_of line))
    (sym (line_of_feed (event_text entry.event) (text_no_feed (written_event entry.event))))
    ∙ rw (le-ltb LONGEST_LINE (length (event_text entry.event)) short, first_byte entry.event, read) refl

-- the lines of these entries' events, as they were read
abbrev happened : List PlainEntry → List InputLine
happened entries = map (λ entry. happening (with_feed (event_text entry.event)) entry.event) entries

-- the journal of these entries is read as their events
lines_are : (entries : List PlainEntry) → AllByRecursion IsReadBack entries → AllByRecursion IsShortEvent entries
    → input_lines_of (flat_map (λ entry. with_feed (event_text entry.event)) entries) ≡ happened entries
lines_are [] read short = refl
lines_are (entry ∷ entries) read short =
    let rest = flat_map (λ entry. with_feed (event_text entry.event)) entries in
    ap input_lines_of (append_assoc (event_text entry.event) (10 ∷ []) rest)
    ∙ ap (map input_line_of) (pieces_feed (event_text entry.event) rest (text_no_feed (written_event entry.event)))
    ∙ ap₂ (λ (first : InputLine) (others : List InputLine). first ∷ others) (line_says entry read.0 short.0)
    (lines_are entries read.1 short.1)

-- the events of those lines
happened_events : (entries : List PlainEntry) → events_in (happened entries) ≡ events_in_order entries
happened_events [] = refl
happened_events (entry ∷ entries) = ap (λ rest. entry.event ∷ rest) (happened_events entries)

-- the answer lines of those lines, with these entries
happened_answers : (entries : List PlainEntry) → answered_texts (answered_lines (happened entries) entries)
    ≡ flat_map (λ entry. answer_text entry.answer) entries
happened_answers [] = refl
happened_answers (entry ∷ entries) = ap (λ rest. answer_text entry.answer ++ rest) (happened_answers entries)

-- ---- the replay

-- the replay of a history's journal gives its answers
pub replays_answer : ReplaysAnswer
replays_answer history legal read short =
    ap₂ (λ (answers closing : List ℕ). answers ++ closing) answers (ap closing_text left)
  where
    entries : List PlainEntry
    entries = reverse history

    lines : input_lines_of (journal_of history) ≡ happened entries
    lines = lines_are entries (all_reverse IsReadBack history read) (all_reverse IsShortEvent history short)

    events : events_in (input_lines_of (journal_of history)) ≡ events_in_order entries
    events = ap events_in lines ∙ happened_events entries

    again : (run_after [] (events_in_order entries) ≡ entries) × (recorded_all [] entries ≡ reverse entries ++ [])
    again = runs_again [] entries (subst IsLegal (sym (append-nil (reverse entries) ∙ reverse-reverse history)) legal)

    ran : run_after [] (events_in (input_lines_of (journal_of history))) ≡ entries
    ran = ap (run_after []) events ∙ again.0

    left : history_after [] (events_in (input_lines_of (journal_of history))) ≡ history
    left = ap (recorded_all []) ran ∙ again.1 ∙ append-nil (reverse entries) ∙ reverse-reverse history

    answers : answered_texts (answered_lines (input_lines_of (journal_of history))
        (run_after [] (events_in (input_lines_of (journal_of history))))) ≡ answers_text history
    answers =
        ap₂ (λ (items : List InputLine) (run : List PlainEntry). answered_texts (answered_lines items run)) lines ran
        ∙ happened_answers entries
