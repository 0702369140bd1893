-- The lines of the entries of a history, one after another, and then what closes the output.
use Rattle.std.proofs.Common.{ℕ, zero, suc, ◌+◌, ◌≡◌, ◌<◌, List, [], ◌∷◌, ◌++◌, length, arith, get_or, sym, ap, subst}
use Rattle.std.proofs.Common.{◌∙◌, append_assoc, length-append, map, take, true}
use Rattle.std.proofs.lemmas.List.{reverse-reverse}
use Rattle.std.proofs.lemmas.List.Folds.{flat_map-map}
use Rattle.std.specs.Prelude.{Option}
use Rattle.std.specs.List.{AllByRecursion, flat_map}
use Rattle.std.specs.Io.KnownBytes.{Appends}
use Rattle.pol_io.proofs.Known.{Appends_trans}
use Rattle.pol_events.specs.Events.{PlainEntry, plain_entry, plain_history}
use Rattle.pol_events.specs.Orderly.{is_orderly}
use Rattle.pol_events.specs.declared.event.Entry.{Entry}
use Rattle.pol_history.specs.Looking.{History}
use Rattle.pol_history.specs.Runs.{IsLegal, IsOrderly}
use Rattle.pol_keep.proofs.Orderly.{all_reverse}
use Rattle.pol_record.specs.Lines.{closing_text}
use Rattle.pol_record.specs.Texts.{batches_text, end_text, entry_line_text}
use Rattle.pol_retold.specs.Inputs.{run_text}
use Rattle.pol_retold.proofs.Inputs.{inputs_good}
use Rattle.pol_retold.proofs.Replayed.{replays_answer}
use Rattle.pol_site.specs.Sites.{PlainSite}
use Rattle.pol_cli.specs.SiteRuns.{AreReadBack, AreRetold, IsRunOf, IsToldWell, PutsRun, entries_text, entry_lines}
use Rattle.pol_jobs.specs.Written.{WritesPart, WritesSome}
use Rattle.pol_replay.proofs.BatchLines.{some_end}

-- ---- what holds of each entry, or of each up to one

module _ (P : PlainEntry → Type 0) where
  -- it holds of each up to the next one too, where it holds of that one
  next_too : (entries : List Entry) (place : ℕ) (entry : Entry) → place < length entries →
      entry ≡ get_or entries place entry → AllByRecursion P (map plain_entry (take place entries)) →
      P (plain_entry entry) → AllByRecursion P (map plain_entry (take (suc place) entries))
  next_too [] place entry inside same before this = absurd (omega arith)
  next_too (first ∷ entries) zero entry inside same before this = (subst (λ each. P (plain_entry each)) same this, tt)
  next_too (first ∷ entries) (suc place) entry inside same before this =
      (before.0, next_too entries place entry (omega arith) same before.1 this)

  -- the same, as a loop counts them
  pub all_next : (entries : List Entry) (place : ℕ) (entry : Entry) → place < length entries →
      entry ≡ get_or entries place entry → AllByRecursion P (map plain_entry (take place entries)) →
      P (plain_entry entry) → AllByRecursion P (map plain_entry (take (place + 1) entries))
  all_next entries place entry inside same before this =
      let more : suc place ≡ place + 1 = omega arith in
      subst (λ count. AllByRecursion P (map plain_entry (take count entries))) more
      (next_too entries place entry inside same before this)

-- each entry of an orderly history is orderly
each_orderly : (entries : List Entry) (place : ℕ) (default : Entry) → IsOrderly (map plain_entry entries) →
    place < length entries → is_orderly (plain_entry (get_or entries place default)).event ≡ true
each_orderly [] place default orderly inside = absurd (omega arith)
each_orderly (entry ∷ entries) zero default orderly inside = orderly.0
each_orderly (entry ∷ entries) (suc place) default orderly inside =
    each_orderly entries place default orderly.1 (omega arith)

-- so is the entry at a place, where the history of the entries is orderly
pub entry_orderly : (entries : List Entry) (place : ℕ) (entry : Entry) → IsOrderly (plain_history entries) →
    place < length entries → entry ≡ get_or entries place entry → is_orderly (plain_entry entry).event ≡ true
entry_orderly entries place entry orderly inside same =
    subst (λ each. is_orderly (plain_entry each).event ≡ true) (sym same)
    (each_orderly entries place entry
    (all_reverse (λ each. is_orderly each.event ≡ true) (map plain_entry entries) orderly) inside)

-- ---- what is written of a legal history tells it

-- where each event is read back, and each entry is told by its line
told_well : (history : History) → IsLegal history → AreReadBack history → AreRetold history → IsToldWell history
told_well history legal read_back retold = record {
  audited = λ few short. inputs_good history legal few retold short;
  replayed = λ short. replays_answer history legal read_back short;
}

-- all that a run of the site leaves was written
pub puts_run : (site : PlainSite) (held held' : Option (List ℕ)) (history : History) → IsRunOf site history →
    Appends held held' (run_text history) → AreReadBack history → AreRetold history → PutsRun site held held'
puts_run site held held' history is_run written read_back retold = record {
  history = history;
  is_run = is_run;
  written = written;
  read_back = read_back;
  told = told_well history is_run.legal read_back retold;
}

-- ---- their lines

-- the lines of the entries are those of the history
pub lines_of_entries : (entries : List Entry) → entry_lines entries ≡ entries_text (plain_history entries)
lines_of_entries entries =
    sym (flat_map-map entry_line_text plain_entry entries)
    ∙ ap (flat_map entry_line_text) (sym (reverse-reverse (map plain_entry entries)))

-- what closes the output isn't empty
some_closing : (history : History) → 0 < length (closing_text history)
some_closing history = let end = some_end in rw (length-append (batches_text history) end_text) (omega arith)

-- the lines of the entries were not written whole
pub cut_before : (held held' : Option (List ℕ)) (history : History) → WritesSome held held' (entries_text history) →
    WritesPart held held' (run_text history)
cut_before held held' history some = record {
  some = record {
    written = some.written;
    more = some.more ++ closing_text history;
    appended = some.appended;
    front = sym (append_assoc some.written some.more (closing_text history))
        ∙ ap (λ text. text ++ closing_text history) some.front;
  };
  proper =
      let longer = some_closing history in rw (length-append some.more (closing_text history)) (omega arith);
}

-- they were, but what closes the output was not
pub cut_behind : (held between held' : Option (List ℕ)) (history : History) →
    Appends held between (entries_text history) → WritesPart between held' (closing_text history) →
    WritesPart held held' (run_text history)
cut_behind held between held' history appended part = record {
  some = record {
    written = entries_text history ++ part.some.written;
    more = part.some.more;
    appended = Appends_trans held between held' (entries_text history) part.some.written appended part.some.appended;
    front = append_assoc (entries_text history) part.some.written part.some.more
        ∙ ap (λ text. entries_text history ++ text) part.some.front;
  };
  proper = part.proper;
}
