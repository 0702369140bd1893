-- The lines of the batches, one after another.
use Rattle.std.proofs.Common.{ℕ, ◌≡◌, ◌<◌, List, [], ◌∷◌, ◌++◌, suc, length, drop, get_or, refl, ap, sym, subst, ◌+◌}
use Rattle.std.proofs.Common.{◌∙◌, arith, append_assoc, append-nil, length-append, Option}
use Rattle.std.specs.List.{flat_map}
use Rattle.std.proofs.Math.Seq.{drop-cons}
use Rattle.std.specs.Io.KnownBytes.{Appends}
use Rattle.serde_json.specs.Written.{compact_text}
use Rattle.pol_io.proofs.Known.{Appends_trans, Appends_none, Keeps_refl}
use Rattle.pol_history.specs.Looking.{History, past_of_batch}
use Rattle.pol_record.specs.Texts.{batch_lines, batches_text, end_data, end_text}
use Rattle.pol_record.specs.Lines.{closing_text}
use Rattle.pol_record.specs.Gathered.{IsGathered, record_by, record_text}
use Rattle.pol_record.specs.declared.gathering.BatchRecords.{BatchRecords}
use Rattle.pol_replay.specs.BatchLines.{WritesUpTo, gathered_lines}
use Rattle.pol_jobs.specs.Written.{WritesPart, WritesSome}
use Rattle.pol_jobs.proofs.Written.{some_behind, some_of_more}

-- what was gathered gives the lines of these batches
lines_each : (gathered : BatchRecords) (history : History) → IsGathered gathered history → (batches : List (List ℕ)) →
    gathered_lines gathered batches ≡ batch_lines history batches
lines_each gathered history is [] = refl
lines_each gathered history is (batch ∷ batches) =
    ap (λ known. record_text batch known ++ gathered_lines gathered batches) (is.known batch)
    ∙ ap (λ text. record_text batch (record_by (past_of_batch batch history)) ++ text)
    (lines_each gathered history is batches)

-- so those of all batches
pub lines_of_all : (gathered : BatchRecords) (history : History) → IsGathered gathered history →
    gathered_lines gathered gathered.started.items ≡ batches_text history
lines_of_all gathered history is =
    lines_each gathered history is gathered.started.items ∙ ap (batch_lines history) is.started

-- nothing was written yet
pub up_to_start : (held : Option (List ℕ)) (rest all : List ℕ) → rest ≡ all → WritesUpTo held held rest all
up_to_start held rest all is = record { written = []; appended = Appends_none held held (Keeps_refl held); up_to = is }

-- one more line was
pub up_to_next : (held between held' : Option (List ℕ)) (line rest all : List ℕ) →
    WritesUpTo held between (line ++ rest) all →
    Appends between held' line → WritesUpTo held held' rest all
up_to_next held between held' line rest all so_far appended = record {
  written = so_far.written ++ line;
  appended = Appends_trans held between held' so_far.written line so_far.appended appended;
  up_to = append_assoc so_far.written line rest ∙ so_far.up_to;
}

-- all was
pub up_to_end : (held held' : Option (List ℕ)) (all : List ℕ) → WritesUpTo held held' [] all → Appends held held' all
up_to_end held held' all so_far = let whole : so_far.written ≡ all = sym (append-nil so_far.written) ∙ so_far.up_to in
    rw (← whole) so_far.appended

-- a part of one more line was
pub up_to_part : (held between held' : Option (List ℕ)) (line rest all : List ℕ) →
    WritesUpTo held between (line ++ rest) all →
    WritesSome between held' line → WritesSome held held' all
up_to_part held between held' line rest all so_far some =
    some_behind held between held' so_far.written (line ++ rest) all so_far.appended
    (some_of_more between held' line rest some) so_far.up_to

-- the end line isn't empty
pub some_end : 0 < length end_text
some_end = let feed : List ℕ = 10 ∷ [] in rw (length-append (compact_text end_data) feed) (omega arith)

-- nor is what closes an output
pub some_closing : (history : History) → 0 < length (closing_text history)
some_closing history = let end = some_end in rw (length-append (batches_text history) end_text) (omega (arith, end))

-- the text of the first of these from a place on, and that of those behind it
pub cut_lines : {T : Type 0} (text : T → List ℕ) (items : List T) (i : ℕ) (item : T) → i < length items →
    item ≡ get_or items i item →
    flat_map text (drop i items) ≡ text item ++ flat_map text (drop (i + 1) items)
cut_lines text items i item inside same =
    let next : suc i ≡ i + 1 = omega arith in
    subst (λ n. flat_map text (drop i items) ≡ text item ++ flat_map text (drop n items)) next
    (rw (drop-cons items i item inside, ← same) refl)

-- the lines of the batches were not written whole
pub broken_before : (held held' : Option (List ℕ)) (lines last : List ℕ) → 0 < length last →
    WritesSome held held' lines → WritesPart held held' (lines ++ last)
broken_before held held' lines last long some = record {
  some = record {
    written = some.written;
    more = some.more ++ last;
    appended = some.appended;
    front = sym (append_assoc some.written some.more last) ∙ ap (λ text. text ++ last) some.front;
  };
  proper = rw (length-append some.more last) (omega (arith, long));
}

-- they were, and the last line was not begun, or not written whole
pub broken_at_end : (held between held' : Option (List ℕ)) (lines last : List ℕ) → Appends held between lines →
    WritesPart between held' last → WritesPart held held' (lines ++ last)
broken_at_end held between held' lines last appended part = record {
  some = record {
    written = lines ++ part.some.written;
    more = part.some.more;
    appended = Appends_trans held between held' lines part.some.written appended part.some.appended;
    front = append_assoc lines part.some.written part.some.more ∙ ap (λ text. lines ++ text) part.some.front;
  };
  proper = part.proper;
}
