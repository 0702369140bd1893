-- Taking out lines takes out their output lines, and the lines of the batches that are bound.
use Rattle.std.proofs.Common.{◌≡◌, ℕ, Bool, true, false, cond, List, [], ◌∷◌, ◌++◌, map, refl, ap, ◌∙◌}
use Rattle.std.specs.Prelude.{filter}
use Rattle.std.specs.List.{AllByRecursion}
use Rattle.pol_io.specs.Pieces.{pieces}
use Rattle.pol_history.specs.Runs.{run_of, history_after, AreOrderly}
use Rattle.pol_record.specs.Texts.{end_text}
use Rattle.pol_record.specs.Lines.{InputLine, input_line_of, input_lines_of, events_in, AnsweredLine}
use Rattle.pol_record.specs.Lines.{answered_lines_after, answered_texts, closing_text}
use Rattle.pol_removal.specs.Removal.{bound_batches, stays, row_stays, piece_of, rows_without, without, RemovalOfLines}
use Rattle.pol_removal.proofs.Pieces.{AreCut, pieces_cut, filter_cut, pieces_joined}
use Rattle.pol_removal.proofs.Reading.{events_orderly, item_in, IsReadBack, read_back}
use Rattle.pol_removal.proofs.Rows.{items_of_rows, staying_rows, staying_events, rows_stay}
use Rattle.pol_removal.proofs.Batches.{history_without, covered_after, batch_lines_stay}

-- rows that are kept are read back from their lines
kept_read_back : (keeps : AnsweredLine → Bool) (rows : List AnsweredLine) → AllByRecursion IsReadBack rows
    → map input_line_of (map piece_of (filter keeps rows)) ≡ map item_in (filter keeps rows)
kept_read_back keeps [] all = refl
kept_read_back keeps (row ∷ rows) all = go (keeps row) (kept_read_back keeps rows all.1)
  where
    go : (kept : Bool) → map input_line_of (map piece_of (filter keeps rows)) ≡ map item_in (filter keeps rows) →
        map input_line_of (map piece_of (cond kept (row ∷ filter keeps rows) (filter keeps rows)))
        ≡ map item_in (cond kept (row ∷ filter keeps rows) (filter keeps rows))
    go true rest = rw (all.0, rest)
    go false rest = rest

-- the lines of the input that is left are the lines that stay
items_without : (tags : List (List ℕ)) (bytes : List ℕ) → input_lines_of (without tags bytes)
    ≡ map item_in (rows_without tags bytes)
items_without tags bytes =
    let keeps : AnsweredLine → Bool = row_stays tags (bound_batches tags (run_of (events_in (input_lines_of bytes)))) in
    let read = read_back (pieces bytes) (answered_lines_after [] (input_lines_of bytes))
    (items_of_rows (input_lines_of bytes) []) in
    let cut : AreCut (map piece_of (answered_lines_after [] (input_lines_of bytes))) = rw read.0 (pieces_cut bytes) in
    ap (map input_line_of) (pieces_joined piece_of (rows_without tags bytes)
    (filter_cut piece_of keeps (answered_lines_after [] (input_lines_of bytes)) cut))
    ∙ kept_read_back keeps (answered_lines_after [] (input_lines_of bytes)) read.1

-- what ends the output of the lines that stay
closing_stays : (tags : List (List ℕ)) (items : List InputLine) → AreOrderly (events_in items) →
    history_after [] (events_in (map item_in (staying_rows tags items)))
    ≡ filter (stays tags (bound_batches tags (run_of (events_in items)))) (history_after [] (events_in items))
closing_stays tags items orderly = ap (history_after []) (staying_events tags items)
    ∙ history_without tags (events_in items) orderly

-- taking out lines takes out just their output lines
pub lines_removed : RemovalOfLines
lines_removed tags bytes =
    let orderly = events_orderly (pieces bytes) in
    let bound = bound_batches tags (run_of (events_in (input_lines_of bytes))) in
    ap (λ items. answered_texts (answered_lines_after [] items) ++ closing_text (history_after [] (events_in items)))
    (items_without tags bytes)
    ∙ ap (λ rows. answered_texts rows
    ++ closing_text (history_after [] (events_in (map item_in (rows_without tags bytes)))))
    (rows_stay tags (input_lines_of bytes) orderly)
    ∙ ap (λ history. answered_texts (rows_without tags bytes) ++ closing_text history)
    (closing_stays tags (input_lines_of bytes) orderly)
    ∙ ap (λ lines. answered_texts (rows_without tags bytes) ++ (lines ++ end_text))
    (batch_lines_stay tags bound (history_after [] (events_in (input_lines_of bytes)))
    (covered_after tags (events_in (input_lines_of bytes))))
