-- A job that refuses nothing and closes with one text.
use Rattle.std.proofs.Common.{ℕ, ◌≡◌, ◌<◌, List, length, refl, subst}
use Rattle.std.specs.Prelude.{Option, Result, Ok, Err, OnErr, OnOk}
use Rattle.std.specs.Io.KnownBytes.{Appends}
use Rattle.pol_jobs.specs.Written.{Closes, ClosesPart, WritesPart}
use Rattle.pol_jobs.proofs.Written.{none_written}
use Rattle.pol_jobs.specs.declared.output.PutFault.{PutFault}

-- its text was written
pub closes_with : (result : Result (Unit {0}) PutFault) (held held' : Option (List ℕ)) (text : List ℕ) →
    OnOk result (Appends held held' text) → OnOk result (Closes (λ other. other ≡ text) held held')
closes_with (Ok done) held held' text appended = record { text = text; may = refl; appended = appended }
closes_with (Err fault) held held' text appended = tt

-- or a proper part of it
pub closes_part : (result : Result (Unit {0}) PutFault) (held held' : Option (List ℕ)) (text : List ℕ) →
    OnErr result (WritesPart held held' text) → OnErr result (ClosesPart (λ other. other ≡ text) held held')
closes_part (Ok done) held held' text part = tt
closes_part (Err fault) held held' text part = record { text = text; may = refl; part = part }

-- before anything is written of a text that has some byte, a proper part of it is: none
pub unclosed : (held : Option (List ℕ)) (closing : List ℕ) → 0 < length closing →
    ClosesPart (λ other. other ≡ closing) held held
unclosed held closing some = record { text = closing; may = refl; part = none_written held closing some }

-- the text that was made was written
pub closed : (result : Result (Unit {0}) PutFault) (held held' : Option (List ℕ)) (text closing : List ℕ) →
    text ≡ closing → OnOk result (Appends held held' text) →
    OnOk result (Closes (λ other. other ≡ closing) held held')
closed result held held' text closing is appended =
    closes_with result held held' closing (subst (λ text. OnOk result (Appends held held' text)) is appended)

-- or a proper part of it
pub closed_part : (result : Result (Unit {0}) PutFault) (held held' : Option (List ℕ)) (text closing : List ℕ) →
    text ≡ closing → OnErr result (WritesPart held held' text) →
    OnErr result (ClosesPart (λ other. other ≡ closing) held held')
closed_part result held held' text closing is part =
    closes_part result held held' closing (subst (λ text. OnErr result (WritesPart held held' text)) is part)
