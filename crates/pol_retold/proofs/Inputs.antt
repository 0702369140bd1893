-- The bytes that are written of a history, cut into lines again.
use Rattle.std.proofs.Common.{◌≡◌, ◌≤◌, [], ◌∷◌, ◌++◌, ℕ, List, Bool, true, false, Option, Some, None, length, map}
use Rattle.std.proofs.Common.{reverse, append_assoc, length-append, append-nil, refl, sym, ap, ap₂, ◌∙◌, subst, arith}
use Rattle.std.proofs.Common.{if◌then◌else◌}
use Rattle.std.proofs.lemmas.Bool.{le-ltb}
use Rattle.std.proofs.lemmas.Slice.Eq.{bytes_eq-Decides}
use Rattle.std.specs.List.{AllByRecursion, cons_option, flat_map, list_all}
use Rattle.std.specs.Prelude.{filter, filter_map, is_some}
use Rattle.std.specs.Option.{option_or}
use Rattle.serde_json.specs.Written.{compact_text}
use Rattle.mtp_codes.proofs.Lists.{all_append, all_reverse}
use Rattle.pol_io.specs.Pieces.{has_no_feed, line_of, pieces}
use Rattle.pol_io.specs.declared.limits.TheConstants.{LONGEST_LINE}
use Rattle.pol_io.proofs.Pieces.{line_of_feed, pieces_feed}
use Rattle.pol_events.specs.Events.{PlainEntry, PlainEvent, start}
use Rattle.event_json.specs.Lines.{is_blank_byte}
use Rattle.event_json.specs.Written.{written_event}
use Rattle.pol_events.specs.declared.answer.Answer.{Answer}
use Rattle.pol_history.specs.Batches.{Started, batches, log_of, outcome_of, start_by, start_of, started_batch, starting}
use Rattle.pol_history.specs.Looking.{History, is_accepted, is_accepted_of_batch, past_of_batch}
use Rattle.pol_record.specs.Texts.{answer_data, batch_data, batch_object, batch_text, end_data, end_text}
use Rattle.pol_record.specs.Texts.{entry_line_text, entry_object, under_key}
use Rattle.pol_audit.specs.Verdict.{closing_lines}
use Rattle.pol_jobs.specs.LineWork.{met}
use Rattle.pol_jobs.proofs.Meeting.{met_by_length}
use Rattle.site_json.specs.Texts.{is_filled}
use Rattle.pol_retold.specs.Inputs.{InputsAreGood, IsShortLine, lines_read, run_text}
use Rattle.pol_retold.specs.Retold.{AreGood, entry_text, run_lines, short_lines, with_feed}
use Rattle.pol_retold.proofs.Feeds.{text_no_feed}
use Rattle.pol_retold.proofs.Good.{plants_good}

-- ---- each batch was started

-- the batch was started
abbrev WasStarted : History → List ℕ → Type 0
WasStarted history batch = is_some (start_of history batch) ≡ true

-- a batch that was started stays so
still_started : (entry : PlainEntry) (history : History) (batch : List ℕ) → WasStarted history batch
    → WasStarted (entry ∷ history) batch
still_started entry history batch was = go (is_accepted_of_batch batch entry)
  where
    by : (here : Option Started) → is_some (option_or here (start_of history batch)) ≡ true
    by None = was
    by (Some started) = refl

    go : (its : Bool) →
        is_some (start_by (if its then entry ∷ past_of_batch batch history else past_of_batch batch history))
        ≡ true
    go true = by (starting entry.event)
    go false = was

-- all of them stay so
all_still : (entry : PlainEntry) (history : History) (names : List (List ℕ))
    → AllByRecursion (WasStarted history) names → AllByRecursion (WasStarted (entry ∷ history)) names
all_still entry history [] was = tt
all_still entry history (name ∷ names) was =
    (still_started entry history name was.0, all_still entry history names was.1)

-- the batch that an entry starts, if it is an accepted start
abbrev newly : PlainEntry → Option (List ℕ)
newly entry = if is_accepted entry.answer then started_batch entry.event else None

-- where none was found, none is taken
never : (kept : Bool) (found : Option (List ℕ)) (batch : List ℕ) → found ≡ None
    → (if kept then found else None) ≡ Some batch → ⊥
never true found batch empty is = let clash : None ≡ Some batch = sym empty ∙ is in cc
never false found batch empty is = cc

-- a batch that an event starts was started
new_by : (event : PlainEvent) (answer : Answer) (history : History) (batch : List ℕ)
    → (if is_accepted answer then started_batch event else None) ≡ Some batch
    → WasStarted (record { event = event; answer = answer } ∷ history) batch
new_by (start at own name binds) answer history batch is = go (is_accepted answer) refl is
  where
    go : (kept : Bool) → is_accepted answer ≡ kept → (if kept then Some own else None) ≡ Some batch
        → WasStarted (record { event = start at own name binds; answer = answer } ∷ history) batch
    go true kept is = let same : own ≡ batch = cc in rw ((bytes_eq-Decides own batch).1 same, kept) refl
    go false kept is = absurd cc
new_by _ answer history batch is = absurd (never (is_accepted answer) None batch refl is)

-- a batch that an entry starts was started
new_started : (entry : PlainEntry) (history : History) (batch : List ℕ) → newly entry ≡ Some batch
    → WasStarted (entry ∷ history) batch
new_started entry history batch is = new_by entry.event entry.answer history batch is

-- each of the batches that the entries start was started
each_started : (history : History) → AllByRecursion (WasStarted history) (filter_map newly history)
each_started [] = tt
each_started (entry ∷ history) =
    go (newly entry) refl (all_still entry history (filter_map newly history) (each_started history))
  where
    go : (found : Option (List ℕ)) → newly entry ≡ found
        → AllByRecursion (WasStarted (entry ∷ history)) (filter_map newly history)
        → AllByRecursion (WasStarted (entry ∷ history)) (cons_option found (filter_map newly history))
    go None is rest = rest
    go (Some batch) is rest = (new_started entry history batch is, rest)

-- ---- each line is one

-- the line is a text without a line feed that isn't blank, and a line feed
record IsLine (line : List ℕ) : Type 0 where
  text : List ℕ
  is : line ≡ with_feed text
  none : has_no_feed text ≡ true
  filled : list_all is_blank_byte text ≡ false

-- the line of an entry is one
entry_is : (entry : PlainEntry) → IsLine (entry_line_text entry)
unfolding entry_object
entry_is entry =
    record {
      text = entry_text entry;
      is = refl;
      none = text_no_feed (entry_object (answer_data entry.answer) (written_event entry.event));
      filled = refl;
    }

-- the end line is one
end_is : IsLine end_text
unfolding under_key
end_is = record { text = compact_text end_data; is = refl; none = text_no_feed end_data; filled = refl }

-- the line of a batch that was started is one
batch_is : (history : History) (batch : List ℕ) → WasStarted history batch → IsLine (batch_text history batch)
unfolding batch_object
batch_is history batch was = go (start_of history batch) refl was
  where
    go : (found : Option Started) → start_of history batch ≡ found → is_some found ≡ true
        → IsLine (batch_text history batch)
    go None found was = absurd cc
    go (Some started) found was =
        let value = batch_data batch started (log_of history batch) (outcome_of history batch) in
        record { text = compact_text value; is = rw found refl; none = text_no_feed value; filled = refl }

-- each line of an entry is one
entries_are : (entries : List PlainEntry) → AllByRecursion IsLine (map entry_line_text entries)
entries_are [] = tt
entries_are (entry ∷ entries) = (entry_is entry, entries_are entries)

-- each line of a batch is one
batches_are : (history : History) (names : List (List ℕ)) → AllByRecursion (WasStarted history) names
    → AllByRecursion IsLine (map (batch_text history) names)
batches_are history [] was = tt
batches_are history (name ∷ names) was = (batch_is history name was.0, batches_are history names was.1)

-- each line that is written of a history is one
lines_are : (history : History) → AllByRecursion IsLine (run_lines history)
lines_are history =
    all_append IsLine (map entry_line_text (reverse history)) (closing_lines history) (entries_are (reverse history))
    (all_append IsLine (map (batch_text history) (batches history)) (end_text ∷ [])
    (batches_are history (batches history)
    (all_reverse (WasStarted history) (filter_map newly history) (each_started history)))
    (end_is, tt))

-- ---- cut again

-- the lines behind each other
abbrev joined : List (List ℕ) → List ℕ
joined lines = flat_map (λ line. line) lines

-- lines that are read as their texts
record AreRead (lines : List (List ℕ)) : Type 0 where
  texts : List (List ℕ)
  are : map with_feed texts ≡ lines
  read : lines_read (joined lines) ≡ short_lines texts

-- a first line is read as its text
first_read : (text rest : List ℕ) → has_no_feed text ≡ true → list_all is_blank_byte text ≡ false
    → length text ≤ LONGEST_LINE → lines_read (with_feed text ++ rest) ≡ Some text ∷ lines_read rest
first_read text rest none filled short =
    ap lines_read (append_assoc text (10 ∷ []) rest)
    ∙ ap (λ found. map met (filter is_filled (map line_of found))) (pieces_feed text rest none)
    ∙ ap (λ line. map met (filter is_filled (line ∷ map line_of (pieces rest)))) (sym (line_of_feed text none))
    ∙ rw (
      le-ltb LONGEST_LINE (length text) short,
      filled,
      met_by_length text,
      le-ltb LONGEST_LINE (length text) short,
    ) refl

-- short lines are read as their texts
all_read : (lines : List (List ℕ)) → AllByRecursion IsLine lines → AllByRecursion IsShortLine lines → AreRead lines
all_read [] are short = record { texts = []; are = refl; read = refl }
all_read (line ∷ lines) are short =
    let rest = all_read lines are.1 short.1 in
    let first = are.0 in
    let few : length first.text ≤ LONGEST_LINE =
    let sizes = ap length first.is in
    let parts = length-append first.text (10 ∷ []) in
    let whole = short.0 in
    omega (arith, sizes, parts, whole) in
    record {
      texts = first.text ∷ rest.texts;
      are = ap₂ (λ (line : List ℕ) (lines : List (List ℕ)). line ∷ lines) (sym first.is) rest.are;
      read =
          ap (λ line. lines_read (line ++ joined lines)) first.is
          ∙ first_read first.text (joined lines) first.none first.filled few
          ∙ ap (λ others. Some first.text ∷ others) rest.read;
    }

-- what a function writes of each, one behind the other, is what it writes of all
joined_map : {A : Type 0} (f : A → List ℕ) (xs : List A) (more : List (List ℕ))
    → joined (map f xs ++ more) ≡ flat_map f xs ++ joined more
joined_map f [] more = refl
joined_map f (x ∷ xs) more =
    ap (λ rest. f x ++ rest) (joined_map f xs more) ∙ sym (append_assoc (f x) (flat_map f xs) (joined more))

-- all that is written of a history are its lines, one behind the other
text_is : (history : History) → run_text history ≡ joined (run_lines history)
text_is history =
    sym (joined_map entry_line_text (reverse history) (closing_lines history)
    ∙ ap (λ rest. flat_map entry_line_text (reverse history) ++ rest)
    (joined_map (batch_text history) (batches history) (end_text ∷ [])
    ∙ ap (λ rest. flat_map (batch_text history) (batches history) ++ rest) (append-nil end_text)))

-- the bytes that are written of a history are audited good
pub inputs_good : InputsAreGood
inputs_good history legal few told short =
    let read = all_read (run_lines history) (lines_are history) short in
    subst (AreGood history) (sym (ap lines_read (text_is history) ∙ read.read))
    (plants_good history read.texts legal few told read.are)
