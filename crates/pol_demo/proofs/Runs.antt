-- Batches of a demo journal that are run one after another.
use Rattle.std.proofs.Common.{ℕ, zero, suc, ◌+◌, ◌*◌, ◌%◌, ◌≡◌, List, [], ◌∷◌, ◌++◌, append-nil, true, refl, sym, ap}
use Rattle.std.proofs.Common.{◌∙◌, arith}
use Rattle.std.proofs.lemmas.Grind.{flat_map-append}
use Rattle.std.specs.List.{flat_map, range_with_len}
use Rattle.pol_events.specs.Events.{recipe}
use Rattle.pol_events.specs.Orderly.{is_orderly}
use Rattle.pol_history.specs.Runs.{history_after}
use Rattle.pol_demo.specs.declared.journal.TheConstants.{MODULES, VALUES}
use Rattle.pol_demo.specs.Journal.{Happening, batch_on, batch_run, batch_runs, batches_of, busy, demo_events, docked}
use Rattle.pol_demo.specs.Journal.{dosed, each, happenings, idle, known, measured, started}
use Rattle.pol_demo.specs.Doser.{dosing}
use Rattle.pol_demo.specs.Names.{batch_of, tag_of}
use Rattle.pol_demo.specs.Telling.{Told, line_told, lines_told}
use Rattle.pol_demo.specs.Values.{drawn, following}
use Rattle.pol_demo.proofs.Told.{told_append, told_history}

-- no place behind a number
pub drawn_none : (number : ℕ) → number ≡ drawn number 0
unfolding drawn
drawn_none number = refl

-- one place more
pub drawn_next : (number places now next : ℕ) → now ≡ drawn number places → next ≡ following now →
    next ≡ drawn number (places + 1)
unfolding drawn
drawn_next number places now next so_far is =
    let more : places + 1 ≡ suc places = omega arith in
    rw more (is ∙ ap following so_far)

-- some places and then more
pub drawn_on : (number places more : ℕ) → drawn (drawn number places) more ≡ drawn number (places + more)
unfolding drawn
drawn_on number places zero = let same : places + 0 ≡ places = omega arith in rw same refl
drawn_on number places (suc more) =
    let next : places + suc more ≡ suc (places + more) = omega arith in
    rw next (ap following (drawn_on number places more))

-- a batch is told: its start, the start of another one where its module is busy then, its values and the run of its
-- recipe
pub batch_told : (tag batch : List ℕ) (sequence number : ℕ) (first begun filled last : Told) →
    tag ≡ tag_of (number % MODULES) → batch ≡ batch_of number →
    begun ≡ lines_told (busy number tag) (line_told (started batch tag) first) →
    filled ≡ lines_told (each (measured tag sequence) VALUES) begun → last ≡ lines_told (dosed batch tag) filled →
    last ≡ lines_told (batch_run sequence number) first
unfolding batch_on
batch_told tag batch sequence number first begun filled last tag_is batch_is starts fills doses =
    let begin = line_told (started batch tag) first in
    let values = each (measured tag sequence) VALUES in
    let told : last ≡ lines_told (batch_on tag batch sequence number) first =
    doses ∙ (ap (lines_told (dosed batch tag)) (fills ∙ ap (lines_told values) starts)
    ∙ (ap (lines_told (dosed batch tag)) (sym (told_append (busy number tag) values begin))
    ∙ sym (told_append (busy number tag ++ values) (dosed batch tag) begin))) in
    told ∙ (ap (λ tag. lines_told (batch_on tag batch sequence number) first) tag_is
    ∙ ap (λ batch. lines_told (batch_on (tag_of (number % MODULES)) batch sequence number) first) batch_is)

-- no batch yet
pub runs_none : (seed : ℕ) (told : Told) → told ≡ lines_told (batch_runs seed 0) told
unfolding batch_runs
runs_none seed told = refl

-- one number more
range_more : (from count : ℕ) → range_with_len from (count + 1) ≡ range_with_len from count ++ (from + count) ∷ []
range_more from zero = let same : from + 0 ≡ from = omega arith in rw same refl
range_more from (suc count) =
    let more : suc count + 1 ≡ suc (count + 1) = omega arith in
    let next : from + suc count ≡ from + 1 + count = omega arith in
    rw (more, next) (ap (λ numbers. from ∷ numbers) (range_more (from + 1) count))

-- one batch more
pub runs_next : (seed count : ℕ) →
    batch_runs seed (count + 1) ≡ batch_runs seed count ++ batch_run (drawn seed (VALUES * count)) count
unfolding batch_runs
runs_next seed count =
    let run : ℕ → List Happening = λ number. batch_run (drawn seed (VALUES * number)) number in
    let start : 0 + count ≡ count = omega arith in
    ap (flat_map run) (rw start at (range_more 0 count)) ∙ (flat_map-append run (range_with_len 0 count) (count ∷ [])
    ∙ ap (λ last. flat_map run (range_with_len 0 count) ++ last) (append-nil (run count)))

-- a journal is told: the modules are docked and report, the recipe is made known, and the batches are run
pub journal_told : (seed : ℕ) (first docks reports knows last : Told) → first ≡ record { history = []; at = 1 } →
    docks ≡ lines_told (each docked MODULES) first → reports ≡ lines_told (each idle MODULES) docks →
    knows ≡ line_told known reports → last ≡ lines_told (batch_runs seed (batches_of seed)) knows →
    last.history ≡ history_after [] (demo_events seed)
unfolding happenings
journal_told seed first docks reports knows last begins docked_so reported_so known_so run_so =
    let runs = batch_runs seed (batches_of seed) in
    let told : last ≡ lines_told (happenings seed) first =
    run_so ∙ (ap (lines_told runs) known_so
    ∙ ap (λ told. lines_told runs (line_told known told)) (reported_so ∙ ap (lines_told (each idle MODULES)) docked_so)
    ∙ (ap (λ told. lines_told runs (line_told known told))
    (sym (told_append (each docked MODULES) (each idle MODULES) first))
    ∙ sym (told_append (each docked MODULES ++ each idle MODULES) (known ∷ runs) first))) in
    ap (λ told. told.history) (told ∙ ap (lines_told (happenings seed)) begins)
    ∙ told_history (happenings seed) (record { history = []; at = 1 })

-- the dosing recipe's event is as a line says it
pub dosing_is_orderly : (at : ℕ) (name : List ℕ) → is_orderly (recipe at name dosing) ≡ true
unfolding dosing
dosing_is_orderly at name = refl
