-- The journal of kept events is replayed as their run.
use Rattle.std.proofs.Common.{ℕ, ◌≡◌, ◌+◌, ◌≤◌, List, [], ◌∷◌, ◌++◌, length, reverse, refl, sym, ◌∙◌, ap, subst, Ok}
use Rattle.std.proofs.Common.{arith, append_assoc, append-nil}
use Rattle.std.proofs.lemmas.List.{reverse-append}
use Rattle.std.specs.List.{AllByRecursion, flat_map}
use Rattle.mtp_codes.specs.declared.limits.TheConstants.{LONGEST_HISTORY}
use Rattle.pol_io.specs.declared.limits.TheConstants.{LONGEST_LINE}
use Rattle.pol_events.specs.Events.{PlainEntry, PlainEvent}
use Rattle.event_json.specs.Lines.{event_of}
use Rattle.pol_history.specs.Looking.{History}
use Rattle.pol_history.specs.Runs.{entry_of, history_after, recorded, run_after, run_of}
use Rattle.pol_history.proofs.Legal.{legal_after}
use Rattle.pol_record.specs.Lines.{closing_text, output_of}
use Rattle.pol_record.specs.Texts.{IsReadBack, answer_text, event_text}
use Rattle.pol_retold.specs.Replayed.{IsShortEvent, ReplaysAnswer, journal_of}
use Rattle.pol_kept.specs.Stands.{AreTextsOf}
use Rattle.pol_store.specs.Lawful.{recorded_is, room_recorded}
use Rattle.pol_store.specs.Work.{plant_work}
use Rattle.pol_journal.specs.Journals.{event_line, journal_text}
use Rattle.pol_keep.specs.Exported.{JournalsAreReplayed}
use Rattle.pol_keep.proofs.Orderly.{all_reverse}

-- where there is room for all of them, the run of some events stands behind the history
run_behind : (history : History) (events : List PlainEvent) → length history + length events ≤ LONGEST_HISTORY →
    reverse (history_after history events) ≡ reverse history ++ run_after history events
run_behind history [] few = sym (append-nil (reverse history))
run_behind history (event ∷ events) few =
    let entry = entry_of history event in
    let is : recorded entry history ≡ entry ∷ history =
    recorded_is history event (room_recorded history event (omega (arith, few))) in
    let rest : reverse (history_after (entry ∷ history) events)
    ≡ reverse (entry ∷ history) ++ run_after (entry ∷ history) events =
    run_behind (entry ∷ history) events (omega (arith, few)) in
    ap (λ (later : History). reverse (history_after later events)) is ∙ rest
    ∙ ap (λ (first : List PlainEntry). first ++ run_after (entry ∷ history) events)
    (reverse-append (entry ∷ []) history)
    ∙ append_assoc (reverse history) (entry ∷ []) (run_after (entry ∷ history) events)
    ∙ ap (λ (later : History). reverse history ++ entry ∷ run_after later events) (sym is)

-- the journal of a run's entries is that of its events
journal_run : (history : History) (events : List PlainEvent) →
    flat_map (λ (entry : PlainEntry). event_line entry.event) (run_after history events) ≡ journal_text events
journal_run history [] = refl
journal_run history (event ∷ events) =
    ap (λ (rest : List ℕ). event_line event ++ rest) (journal_run (recorded (entry_of history event) history) events)

-- what holds of each event holds of each entry of its run
all_run : (P : PlainEvent → Type 0) (history : History) (events : List PlainEvent) → AllByRecursion P events →
    AllByRecursion (λ (entry : PlainEntry). P entry.event) (run_after history events)
all_run P history [] all = tt
all_run P history (event ∷ events) all = (all.0, all_run P (recorded (entry_of history event) history) events all.1)

-- kept events are read back
read_back : (before events : List PlainEvent) (texts : List (List ℕ)) → AreTextsOf plant_work before events texts →
    AllByRecursion (λ (event : PlainEvent). event_of (event_text event) ≡ Ok event) events
read_back before [] texts are = tt
read_back before (event ∷ events) [] are = absurd are
read_back before (event ∷ events) (text ∷ texts) are = (
  subst (λ (bytes : List ℕ). event_of bytes ≡ Ok event) are.0.written are.0.reads,
  read_back (before ++ event ∷ []) events texts are.1,
)

-- so what pol_retold says of a history's journal holds of theirs
pub journals_replayed : ReplaysAnswer → JournalsAreReplayed
journals_replayed replays events image stands few replayable =
    let history = history_after [] events in
    let is : reverse history ≡ run_of events = run_behind [] events (omega (arith, few)) in
    let read = all_run (λ (event : PlainEvent). event_of (event_text event) ≡ Ok event) [] events
    (read_back [] events stands.texts stands.are) in
    let short = all_run (λ (event : PlainEvent). length (event_text event) ≤ LONGEST_LINE) [] events replayable.lines in
    let journal : journal_of history ≡ journal_text events =
    ap (flat_map (λ (entry : PlainEntry). event_line entry.event)) is ∙ journal_run [] events in
    record {
      output =
          ap output_of (sym journal)
          ∙ replays history (legal_after [] events tt)
          (all_reverse IsReadBack history (subst (AllByRecursion IsReadBack) (sym is) read))
          (all_reverse IsShortEvent history (subst (AllByRecursion IsShortEvent) (sym is) short))
          ∙ ap (λ (entries : List PlainEntry). flat_map (λ (entry : PlainEntry). answer_text entry.answer) entries
          ++ closing_text history) is;
      fits = λ more. omega (arith, more, replayable.fits);
    }
