-- The lists of all seats, compared with a history one after another.
use Rattle.std.proofs.Common.{◌≡◌, ◌<◌, ◌+◌, ℕ, suc, zero, Bool, true, false, List, [], ◌∷◌, length, get_or, Option}
use Rattle.std.proofs.Common.{Some, refl, ap, sym, ◌∙◌, subst, arith}
use Rattle.std.specs.Prelude.{nat_lt, slice_get}
use Rattle.std.specs.List.{range_with_len}
use Rattle.std.proofs.lemmas.Bool.Decides.{nat_tests}
use Rattle.std.proofs.lemmas.Option.{same_Some, slice_get_read}
use Rattle.std.proofs.lemmas.Bool.{ltb-true}
use Rattle.pol_events.specs.declared.answer.Answer.{Answer}
use Rattle.pol_events.specs.declared.event.Entry.{Entry}
use Rattle.pol_live.specs.Parts.{IsPart, IsStray, IsStrayIn, made_in_all}
use Rattle.pol_live.specs.Seats.{AreSeated, Seated, actors_of}
use Rattle.pol_live.specs.declared.turned.Placed.{Placed}

-- ---- seats in the order of their actors

-- the first name, or zero where there is none
abbrev head : List ℕ → ℕ
head [] = 0
head (name ∷ names) = name

-- the names behind the first
abbrev tail : List ℕ → List ℕ
tail [] = []
tail (name ∷ names) = names

-- in a range of actors, the seat at a place is that of the actor so many behind the first
named_from : (from count place : ℕ) (seats : List Seated) (seat : Seated)
    → actors_of seats ≡ range_with_len from count →
    slice_get seats place ≡ Some seat → seat.actor ≡ from + place
named_from from count place [] seat named at = cc
named_from from zero place (first ∷ seats) seat named at = let long = ap length named in absurd (omega (arith, long))
named_from from (suc count) zero (first ∷ seats) seat named at =
    let here : first.actor ≡ from = ap head named in
    let same : first ≡ seat = same_Some first seat at in
    let own : seat.actor ≡ first.actor = ap (λ (each : Seated). each.actor) (sym same) in
    omega (arith, here, own)
named_from from (suc count) (suc place) (first ∷ seats) seat named at =
    let rest : actors_of seats ≡ range_with_len (from + 1) count = ap tail named in
    let again = named_from (from + 1) count place seats seat rest at in
    omega (arith, again)

-- the seat at a place is that of the actor with that number
seat_named : (count place : ℕ) (seats : List Seated) (seat : Seated) → AreSeated count seats →
    slice_get seats place ≡ Some seat → seat.actor ≡ place
seat_named count place seats seat seated at =
    let is = named_from 0 count place seats seat seated at in omega (arith, is)

-- ---- the lists

-- what a part is of, by the seat
part_of : (makers : List ℕ) (entries : List Entry) (seat : Seated) (actor : ℕ) (list : List Placed) →
    actor ≡ seat.actor → list ≡ seat.list → IsPart actor 0 makers entries list →
    IsPart seat.actor 0 makers entries seat.list
part_of makers entries seat actor list named listed part =
    subst (IsPart seat.actor 0 makers entries) listed (subst (λ each. IsPart each 0 makers entries list) named part)

-- a place that is below the next index but not below this one is this one
same_next : (place index : ℕ) → nat_lt place index ≡ false → place < index + 1 → place ≡ index
same_next place index is less = grind (arith, nat_tests)

-- one seat more
pub parts_more : (makers : List ℕ) (entries : List Entry) (seats : List Seated) (index actor : ℕ) (list : List Placed)
    (seat : Seated) → index < length seats → seat ≡ get_or seats index seat → actor ≡ seat.actor → list ≡ seat.list →
    IsPart actor 0 makers entries list →
    ((place : ℕ) (each : Seated) → place < index → slice_get seats place ≡ Some each →
    IsPart each.actor 0 makers entries each.list) → (place : ℕ) (each : Seated) → place < index + 1 →
    slice_get seats place ≡ Some each → IsPart each.actor 0 makers entries each.list
parts_more makers entries seats index actor list seat within is named listed part before place each less at =
    go (nat_lt place index) refl
  where
    stands : slice_get seats index ≡ Some seat
    stands = slice_get_read seats (length seats) index seat refl within is

    go : (earlier : Bool) → nat_lt place index ≡ earlier → IsPart each.actor 0 makers entries each.list
    go true e = before place each (ltb-true place index e) at
    go false e =
        let here : slice_get seats index ≡ Some each = ap (slice_get seats) (sym (same_next place index e less)) ∙ at in
        subst (λ (one : Seated). IsPart one.actor 0 makers entries one.list) (same_Some seat each (sym stands ∙ here))
        (part_of makers entries seat actor list named listed part)

-- a seat whose list strayed
pub strays_of : (makers : List ℕ) (entries : List Entry) (count : ℕ) (seats : List Seated) (index actor own place : ℕ)
    (list : List Placed) (seat : Seated) (kept : Option Answer) (given : Answer) → AreSeated count seats →
    index < length seats → seat ≡ get_or seats index seat → actor ≡ seat.actor → list ≡ seat.list → own ≡ actor →
    IsStrayIn makers entries actor list place kept given →
    ((earlier : ℕ) (each : Seated) → earlier < index → slice_get seats earlier ≡ Some each →
    IsPart each.actor 0 makers entries each.list) → IsStray makers entries seats own place kept given
strays_of makers entries count seats index actor own place list seat kept given seated within is named listed told stray
    before =
    record {
      seat = seat;
      who = ap (slice_get seats) here ∙ stands;
      first = λ earlier each less. before earlier each (omega (arith, less, here));
      stray = subst (λ pairs. IsStrayIn makers entries own pairs place kept given) listed
          (subst (λ each. IsStrayIn makers entries each list place kept given) (sym told) stray);
    }
  where
    stands : slice_get seats index ≡ Some seat
    stands = slice_get_read seats (length seats) index seat refl within is

    here : own ≡ index
    here = told ∙ named ∙ seat_named count index seats seat seated stands

-- there are as many seats as actors
seats_long : (from count : ℕ) (seats : List Seated) → actors_of seats ≡ range_with_len from count → length seats ≡ count
seats_long from zero [] named = refl
seats_long from (suc count) [] named = let long = ap length named in absurd (omega (arith, long))
seats_long from zero (seat ∷ seats) named = let long = ap length named in absurd (omega (arith, long))
seats_long from (suc count) (seat ∷ seats) named = ap suc (seats_long (from + 1) count seats (ap tail named))

-- the seats made as many entries as the ledger counts
pub all_counted : (count parts rest left whole amount total entries : ℕ) (seats : List Seated) → AreSeated count seats →
    parts ≡ count → rest ≡ 0 → left ≡ 0 → whole ≡ rest + length seats → amount ≡ left + made_in_all seats →
    (whole ≡ parts → amount ≡ total) → total ≡ entries → made_in_all seats ≡ entries
all_counted count parts rest left whole amount total entries seats seated all spent none whole_is amount_is audited
    counted =
    let long = seats_long 0 count seats seated in
    let same = audited (omega (arith, long, whole_is, spent, all)) in
    omega (arith, same, amount_is, none, counted)
