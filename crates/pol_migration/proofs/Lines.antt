-- What a line of version 1 becomes is one line that says the same event, or nothing.
use Rattle.std.proofs.Common.{◌≡◌, ℕ, nat_lt, List, [], ◌∷◌, ◌++◌, length, Bool, true, false, not, ◌==◌, cond, map}
use Rattle.std.proofs.Common.{Result, Ok, Err, IsTrue, refl, ap, sym, ◌∙◌, subst}
use Rattle.std.specs.List.{list_all}
use Rattle.std.proofs.lemmas.Bool.{and_from}
use Rattle.serde_json.specs.Written.{compact_text}
use Rattle.pol_io.specs.Pieces.{pieces, line_of, has_no_feed, is_whole}
use Rattle.pol_io.specs.declared.limits.TheConstants.{LONGEST_LINE}
use Rattle.pol_io.proofs.Pieces.{pieces_feed, line_of_feed, whole_feed}
use Rattle.pol_events.specs.Events.{PlainEvent, freeze}
use Rattle.event_json.specs.Lines.{is_blank_byte}
use Rattle.event_json.specs.Version1.{event_of_version_1}
use Rattle.event_json.specs.Written.{written_event}
use Rattle.event_json.specs.declared.fault.LineFault.{LineFault}
use Rattle.event_json.specs.declared.fault.LineFault.TheVariants.{TooLong}
use Rattle.event_json.proofs.Versions.{is_a_freeze, line_alike, freeze_stamped}
use Rattle.pol_record.specs.Lines.{LineMeaning, nothing, a_fault, an_event, meaning_from, meaning_of, InputLine}
use Rattle.pol_record.specs.Lines.{happening, as_input_line, input_line_of}
use Rattle.pol_migration.specs.Migration.{meaning_of_version_1, migrated_event, migrated_line}
use Rattle.pol_migration.proofs.FreezeText.{freeze_line}

-- the line of a piece has no line feed
line_no_feed : (bytes : List ℕ) → IsTrue (has_no_feed (line_of bytes))
line_no_feed [] = refl
line_no_feed (byte ∷ bytes) = go (byte == 10) refl (line_no_feed bytes)
  where
    go : (feed : Bool) → (byte == 10) ≡ feed → IsTrue (has_no_feed (line_of bytes)) →
        IsTrue (has_no_feed (cond feed [] (byte ∷ line_of bytes)))
    go true is rest = refl
    go false is rest = and_from (not (byte == 10)) (has_no_feed (line_of bytes)) (ap not is) rest

-- a line that says an event is short, not blank, and read so
record IsRead (said : Result PlainEvent LineFault) (line : List ℕ) (event : PlainEvent) : Type 0 where
  short : nat_lt LONGEST_LINE (length line) ≡ false
  filled : list_all is_blank_byte line ≡ false
  read : said ≡ Ok event

-- a line that is said to say an event is so read
read_so : (said : Result PlainEvent LineFault) (line : List ℕ) (event : PlainEvent) (long empty : Bool) →
    nat_lt LONGEST_LINE (length line) ≡ long → list_all is_blank_byte line ≡ empty →
    cond long (a_fault TooLong) (cond empty nothing (meaning_from said)) ≡ an_event event → IsRead said line event
read_so said line event true empty long_is empty_is is = cc
read_so said line event false true long_is empty_is is = cc
read_so (Err fault) line event false false long_is empty_is is = cc
read_so (Ok other) line event false false long_is empty_is is =
    let same : other ≡ event = cc in record { short = long_is; filled = empty_is; read = ap Ok same }

-- and so is one that says an event by version 1
first_read : (line : List ℕ) (event : PlainEvent) → meaning_of_version_1 line ≡ an_event event →
    IsRead (event_of_version_1 line) line event
unfolding meaning_of_version_1
first_read line event is =
    read_so (event_of_version_1 line) line event (nat_lt LONGEST_LINE (length line)) (list_all is_blank_byte line)
    refl refl is

-- an event that is no freeze is said by its line in version 2 too
other_says : (line : List ℕ) (event : PlainEvent) → meaning_of_version_1 line ≡ an_event event →
    is_a_freeze event ≡ false → meaning_of line ≡ an_event event
unfolding meaning_of
other_says line event is other =
    let read = first_read line event is in
    rw (read.short, read.filled, line_alike line event read.read other) refl

-- one line that says the event
pub record IsLine (event : PlainEvent) (text : List ℕ) : Type 0 where
  pub line : List ℕ
  pub is : text ≡ line ++ 10 ∷ []
  pub no_feed : IsTrue (has_no_feed line)
  pub says : meaning_of line ≡ an_event event

-- the line of an event that is no freeze, as it is
as_it_is : (piece : List ℕ) (event : PlainEvent) → meaning_of_version_1 (line_of piece) ≡ an_event event →
    is_a_freeze event ≡ false → IsLine event (line_of piece ++ 10 ∷ [])
as_it_is piece event is other =
    record {
      line = line_of piece;
      is = refl;
      no_feed = line_no_feed piece;
      says = other_says (line_of piece) event is other;
    }

-- what the line of an event becomes is such a line
event_line : (piece : List ℕ) (event : PlainEvent) → meaning_of_version_1 (line_of piece) ≡ an_event event →
    IsLine event (migrated_event (line_of piece) event)
event_line piece (freeze at batch hold) is =
    let read = first_read (line_of piece) (freeze at batch hold) is in
    let made = freeze_line at batch hold (freeze_stamped (line_of piece) at batch hold read.read) in
    record {
      line = compact_text (written_event (freeze at batch hold));
      is = refl;
      no_feed = made.no_feed;
      says = made.says;
    }
event_line piece event is = as_it_is piece event is refl

-- one line that says an event is one piece, and is read as that event
pub one_piece : (event : PlainEvent) (text : List ℕ) → IsLine event text →
    map input_line_of (pieces text) ≡ happening text event ∷ []
one_piece event text is =
    subst (λ text. map input_line_of (pieces text) ≡ happening text event ∷ []) (sym is.is)
    (ap (map input_line_of) (pieces_feed is.line [] is.no_feed)
    ∙ ap (λ line. as_input_line (is.line ++ 10 ∷ []) (meaning_of line) ∷ [])
    (sym (line_of_feed is.line is.no_feed))
    ∙ ap (λ meaning. as_input_line (is.line ++ 10 ∷ []) meaning ∷ []) is.says)

-- what a line becomes is whole
pub migrated_whole : (piece : List ℕ) (meaning : LineMeaning) → meaning_of_version_1 (line_of piece) ≡ meaning →
    IsTrue (is_whole (migrated_line (line_of piece) meaning))
migrated_whole piece nothing is = refl
migrated_whole piece (a_fault fault) is = refl
migrated_whole piece (an_event event) is =
    let line = event_line piece event is in
    subst (λ text. IsTrue (is_whole text)) (sym line.is) (whole_feed line.line)

-- the lines that it is to have
abbrev pub lines_by : List ℕ → LineMeaning → List InputLine
lines_by piece nothing = []
lines_by piece (a_fault fault) = []
lines_by piece (an_event event) = happening (migrated_event (line_of piece) event) event ∷ []

-- what a line becomes has these lines
pub migrated_lines : (piece : List ℕ) (meaning : LineMeaning) → meaning_of_version_1 (line_of piece) ≡ meaning →
    map input_line_of (pieces (migrated_line (line_of piece) meaning)) ≡ lines_by piece meaning
migrated_lines piece nothing is = refl
migrated_lines piece (a_fault fault) is = refl
migrated_lines piece (an_event event) is =
    one_piece event (migrated_event (line_of piece) event) (event_line piece event is)
