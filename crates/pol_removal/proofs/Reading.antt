-- Lines and the events that they say, which are orderly.
use Rattle.std.proofs.Common.{◌≡◌, ℕ, Bool, true, false, cond, List, [], ◌∷◌, length, map, refl, ap, sym, ◌∙◌, Ok, Err}
use Rattle.std.proofs.Common.{Result}
use Rattle.std.specs.Prelude.{nat_lt}
use Rattle.std.specs.List.{AllByRecursion, list_all}
use Rattle.pol_io.specs.Pieces.{line_of}
use Rattle.pol_io.specs.declared.limits.TheConstants.{LONGEST_LINE}
use Rattle.pol_events.specs.Events.{PlainEvent}
use Rattle.pol_events.specs.Orderly.{is_orderly}
use Rattle.event_json.specs.Lines.{event_of, is_blank_byte}
use Rattle.event_json.specs.declared.fault.LineFault.{LineFault}
use Rattle.event_json.specs.declared.fault.LineFault.TheVariants.{TooLong}
use Rattle.event_json.proofs.Orderly.{line_orderly}
use Rattle.pol_history.specs.Runs.{AreOrderly}
use Rattle.pol_record.specs.Lines.{LineMeaning, nothing, a_fault, an_event, meaning_from, meaning_of, InputLine, blank}
use Rattle.pol_record.specs.Lines.{faulty, happening, as_input_line, input_line_of, events_in, AnsweredLine, skipped}
use Rattle.pol_record.specs.Lines.{bad, answered}
use Rattle.pol_removal.specs.Removal.{piece_of}

-- an event that a line says is in order
said_orderly : (line : List ℕ) (event : PlainEvent) → meaning_of line ≡ an_event event → is_orderly event ≡ true
unfolding meaning_of
said_orderly line event says = go (nat_lt LONGEST_LINE (length line)) (list_all is_blank_byte line)
    (event_of line) refl says
  where
    go : (long empty : Bool) (read : Result PlainEvent LineFault) → event_of line ≡ read →
        cond long (a_fault TooLong) (cond empty nothing (meaning_from read)) ≡ an_event event → is_orderly event ≡ true
    go true empty read is says = cc
    go false true read is says = cc
    go false false (Err fault) is says = cc
    go false false (Ok other) is says = let same : other ≡ event = cc in line_orderly line event (is ∙ ap Ok same)

-- the events of the lines of an input are orderly
pub events_orderly : (pieces : List (List ℕ)) → AreOrderly (events_in (map input_line_of pieces))
events_orderly [] = tt
events_orderly (piece ∷ pieces) = go (meaning_of (line_of piece)) refl (events_orderly pieces)
  where
    go : (meaning : LineMeaning) → meaning_of (line_of piece) ≡ meaning
        → AreOrderly (events_in (map input_line_of pieces)) →
        AreOrderly (events_in (as_input_line piece meaning ∷ map input_line_of pieces))
    go nothing says rest = rest
    go (a_fault fault) says rest = rest
    go (an_event event) says rest = (said_orderly (line_of piece) event says, rest)

-- the line of a row, as it was read
abbrev pub item_in : AnsweredLine → InputLine
item_in (skipped piece) = blank piece
item_in (bad piece fault) = faulty piece fault
item_in (answered piece entry) = happening piece entry.event

-- the bytes of an input line
abbrev item_piece : InputLine → List ℕ
item_piece (blank piece) = piece
item_piece (faulty piece fault) = piece
item_piece (happening piece event) = piece

-- an item has the piece that it was read from
item_piece_is : (piece : List ℕ) (meaning : LineMeaning) → item_piece (as_input_line piece meaning) ≡ piece
item_piece_is piece nothing = refl
item_piece_is piece (a_fault fault) = refl
item_piece_is piece (an_event event) = refl

-- they are those of the row that it answers
row_piece : (row : AnsweredLine) → item_piece (item_in row) ≡ piece_of row
row_piece (skipped piece) = refl
row_piece (bad piece fault) = refl
row_piece (answered piece entry) = refl

-- the row's line reads as the row's item
abbrev pub IsReadBack : AnsweredLine → Type 0
IsReadBack row = input_line_of (piece_of row) ≡ item_in row

-- rows with the items of some pieces have these pieces, and read back
pub read_back : (pieces : List (List ℕ)) (rows : List AnsweredLine) → map item_in rows ≡ map input_line_of pieces →
    (map piece_of rows ≡ pieces) × AllByRecursion IsReadBack rows
read_back [] [] is = (refl, tt)
read_back [] (row ∷ rows) is = cc
read_back (piece ∷ pieces) [] is = cc
read_back (piece ∷ pieces) (row ∷ rows) is =
    let first : item_in row ≡ input_line_of piece = cc in
    let others : map item_in rows ≡ map input_line_of pieces = cc in
    let same : piece_of row ≡ piece = sym (row_piece row) ∙ ap item_piece first
    ∙ item_piece_is piece (meaning_of (line_of piece)) in
    let rest = read_back pieces rows others in
    (rw (same, rest.0), (ap input_line_of same ∙ sym first, rest.1))
