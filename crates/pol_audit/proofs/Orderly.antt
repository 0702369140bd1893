-- The events of entry lines are as a line says them.
use Rattle.std.proofs.Common.{◌≡◌, [], ◌∷◌, ℕ, List, true, Option, Some, None, Ok, Err, rules, refl}
use Rattle.std.proofs.Common.{codes, reverse}
use Rattle.std.specs.List.{AllByRecursion}
use Rattle.std.specs.Prelude.{IfOk, Result}
use Rattle.std.specs.Result.{result_ok}
use Rattle.serde_json.specs.Data.{Data}
use Rattle.mtp_codes.proofs.Lists.{all_reverse}
use Rattle.mtp_json.specs.Form.{nested, nothing_but, object_here}
use Rattle.mtp_json.specs.ReadResult.{ReadResult}
use Rattle.chart_core.specs.declared.fault.ChartFault.{ChartFault}
use Rattle.chart_json.proofs.Told.{any_before, told_before, told_inside}
use Rattle.pol_events.specs.Events.{PlainEntry}
use Rattle.pol_events.specs.Orderly.{is_orderly}
use Rattle.event_json.specs.Forms.{event_in}
use Rattle.event_json.specs.Lines.{fault_within, unless_faulty}
use Rattle.event_json.specs.declared.fault.LineFault.{LineFault}
use Rattle.event_json.proofs.Orderly.{IsOrderly, value_orderly}
use Rattle.pol_history.specs.Runs as runs
use Rattle.pol_entries.specs.Answers.{answer_form}
use Rattle.pol_entries.specs.Entries.{entry_form, entry_of, of_line, read_of}
use Rattle.pol_audit.specs.Verdict.{Line, entry_on, entries_of, run_from}

-- ---- one entry

-- the event is orderly, unless its chart has a fault
abbrev IsOrderlyEntry : PlainEntry → Type 0
IsOrderlyEntry entry = IsOrderly entry.event

-- the entry that a value says has an orderly event, unless its chart has a fault
form_orderly : (value : Data) → IfOk (entry_form value) IsOrderlyEntry
unfolding entry_form
form_orderly value =
    any_before IsOrderlyEntry (object_here value) _ (λ _.
    any_before IsOrderlyEntry (nested (codes "answer") answer_form value) _ (λ answer.
    told_before IsOrderly IsOrderlyEntry (nested (codes "event") event_in value) _
    (told_inside IsOrderly (codes "event") event_in value_orderly value) (λ event orderly.
    any_before IsOrderlyEntry (nothing_but (codes "answer event") value) _ (λ _. orderly))))

-- the entry that is read of a line has an orderly event, unless its chart has a fault
read_orderly : (line : List ℕ) → IfOk (read_of line) IsOrderlyEntry
read_orderly line = search (rules, any_before, form_orderly)

-- an entry that passes because its chart has no fault has an orderly event
valid_orderly : (found entry : PlainEntry) (fault : Option ChartFault) → fault_within found.event ≡ fault →
    IsOrderlyEntry found → unless_faulty found fault ≡ Ok entry → is_orderly entry.event ≡ true
valid_orderly found entry None none orderly is = let same : found ≡ entry = cc in rw (← same) (orderly none)
valid_orderly found entry (Some fault) some orderly is = absurd cc

-- an entry that a line says by what was read of it has an orderly event
said_orderly : (said : ReadResult PlainEntry) (entry : PlainEntry) → IfOk said IsOrderlyEntry
    → of_line said ≡ Ok entry →
    is_orderly entry.event ≡ true
said_orderly (Ok found) entry orderly is = valid_orderly found entry (fault_within found.event) refl orderly is
said_orderly (Err fault) entry orderly is = absurd cc

-- the event of an entry that a line says is orderly
entry_orderly : (line : List ℕ) (entry : PlainEntry) → entry_of line ≡ Ok entry → is_orderly entry.event ≡ true
unfolding entry_of
entry_orderly line entry is = said_orderly (read_of line) entry (read_orderly line) is

-- ---- all entries

-- each of these events is orderly
abbrev AreOrderly : List PlainEntry → Type 0
AreOrderly entries = AllByRecursion (λ entry. is_orderly entry.event ≡ true) entries

-- the entry on a line has an orderly event
line_orderly : (line : Line) (entry : PlainEntry) → entry_on line ≡ Some entry → is_orderly entry.event ≡ true
line_orderly None entry is = absurd cc
line_orderly (Some bytes) entry is = go (entry_of bytes) refl is
  where
    go : (said : Result PlainEntry LineFault) → entry_of bytes ≡ said → result_ok said ≡ Some entry →
        is_orderly entry.event ≡ true
    go (Ok own) said is = let same : own ≡ entry = cc in rw (← same) (entry_orderly bytes own said)
    go (Err fault) said is = absurd cc

-- each of the entries that lines spell has an orderly event
each_orderly : (lines : List Line) → AreOrderly (entries_of lines)
each_orderly [] = tt
each_orderly (line ∷ lines) = go (entry_on line) (line_orderly line) (each_orderly lines)
  where
    go : (says : Option PlainEntry) → ((entry : PlainEntry) → says ≡ Some entry → is_orderly entry.event ≡ true) →
        AreOrderly (entries_of lines) → AreOrderly (run_from says (entries_of lines))
    go None one rest = tt
    go (Some entry) one rest = (one entry refl, rest)

-- the events of a history that lines spell are orderly
pub lines_orderly : (lines : List Line) → runs.IsOrderly (reverse (entries_of lines))
lines_orderly lines = all_reverse (λ entry. is_orderly entry.event ≡ true) (entries_of lines) (each_orderly lines)
