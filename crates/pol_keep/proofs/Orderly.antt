-- The run of the events of an orderly history and of those of more lines.
use Rattle.std.proofs.Common.{ℕ, ◌≡◌, List, [], ◌∷◌, ◌++◌, length, Bool, true, false, cond, Result, Ok}
use Rattle.std.proofs.Common.{Err, refl, sym, ◌∙◌, ap, subst, map}
use Rattle.std.proofs.lemmas.List.{reverse-append}
use Rattle.std.specs.Prelude.{reverse, nat_lt}
use Rattle.std.specs.List.{AllByRecursion, list_all}
use Rattle.pol_io.specs.Pieces.{line_of}
use Rattle.pol_io.specs.declared.limits.TheConstants.{LONGEST_LINE}
use Rattle.pol_events.specs.Events.{PlainEvent}
use Rattle.pol_events.specs.Orderly.{is_orderly}
use Rattle.event_json.specs.Lines.{event_of, is_blank_byte}
use Rattle.event_json.specs.declared.fault.LineFault.{LineFault}
use Rattle.event_json.specs.declared.fault.LineFault.TheVariants.{TooLong}
use Rattle.event_json.proofs.Orderly.{line_orderly}
use Rattle.pol_history.specs.Looking.{History}
use Rattle.pol_history.specs.Runs.{AreOrderly, IsLegal, IsOrderly, events_of, history_after}
use Rattle.pol_history.proofs.Legal.{legal_after, orderly_after}
use Rattle.pol_record.specs.Lines.{LineMeaning, a_fault, an_event, as_input_line, events_in, input_line_of}
use Rattle.pol_record.specs.Lines.{meaning_from, meaning_of, nothing}
use Rattle.pol_record.proofs.Appending.{history_after_append}
use Rattle.pol_store.proofs.Histories.{runs_legal}
use Rattle.pol_keep.specs.Kept.{run_with}

-- what holds of all of two lists holds of all of each
all_parts : {A : Type 0} (P : A → Type 0) (xs ys : List A) → AllByRecursion P (xs ++ ys) →
    AllByRecursion P xs × AllByRecursion P ys
all_parts P [] ys all = (tt, all)
all_parts P (x ∷ xs) ys all = let rest = all_parts P xs ys all.1 in ((all.0, rest.0), rest.1)

-- what holds of all in one order holds of all in the other
pub all_reverse : {A : Type 0} (P : A → Type 0) (xs : List A) → AllByRecursion P (reverse xs) → AllByRecursion P xs
all_reverse P [] all = tt
all_reverse P (x ∷ xs) all =
    let parts = all_parts P (reverse xs) (x ∷ []) (subst (AllByRecursion P) (reverse-append (x ∷ []) xs) all) in
    (parts.1.0, all_reverse P xs parts.0)

-- an event that a line says is in order
said_orderly : (line : List ℕ) (event : PlainEvent) → meaning_of line ≡ an_event event → is_orderly event ≡ true
unfolding meaning_of
said_orderly line event says = go (nat_lt LONGEST_LINE (length line)) (list_all is_blank_byte line)
    (event_of line) refl says
  where
    go : (long empty : Bool) (read : Result PlainEvent LineFault) → event_of line ≡ read →
        cond long (a_fault TooLong) (cond empty nothing (meaning_from read)) ≡ an_event event → is_orderly event ≡ true
    go true empty read is says = cc
    go false true read is says = cc
    go false false (Err fault) is says = cc
    go false false (Ok other) is says = let same : other ≡ event = cc in line_orderly line event (is ∙ ap Ok same)

-- the events of some lines are orderly
lines_orderly : (lines : List (List ℕ)) → AreOrderly (events_in (map input_line_of lines))
lines_orderly [] = tt
lines_orderly (line ∷ lines) = go (meaning_of (line_of line)) refl (lines_orderly lines)
  where
    go : (meaning : LineMeaning) → meaning_of (line_of line) ≡ meaning →
        AreOrderly (events_in (map input_line_of lines))
        → AreOrderly (events_in (as_input_line line meaning ∷ map input_line_of lines))
    go nothing says rest = rest
    go (a_fault fault) says rest = rest
    go (an_event event) says rest = (said_orderly (line_of line) event says, rest)

-- the run of the events of a legal and orderly history and of those of some lines is legal and orderly
pub sound_run : (history : History) → IsLegal history → IsOrderly history → (lines : List (List ℕ)) →
    IsLegal (run_with (events_of history) lines) × IsOrderly (run_with (events_of history) lines)
sound_run history legal orderly lines =
    let events = events_in (map input_line_of lines) in
    let is : history_after history events ≡ run_with (events_of history) lines =
    ap (λ (before : History). history_after before events) (runs_legal history legal)
    ∙ sym (history_after_append [] (events_of history) events) in (
      subst IsLegal is (legal_after history events legal),
      subst IsOrderly is (orderly_after history events orderly (lines_orderly lines)),
    )
