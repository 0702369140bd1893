-- The seats that come back are those that were promised.
use Rattle.std.proofs.Common.{◌≡◌, ◌<◌, ℕ, List, [], ◌∷◌, ◌++◌, ◌+◌, suc, length, get_or, refl, sym, ap, ◌∙◌, arith}
use Rattle.std.proofs.Common.{append-nil, length-append}
use Rattle.std.specs.List.{range_with_len}
use Rattle.std.proofs.lemmas.List.{length-map, map-append}
use Rattle.std.proofs.lemmas.List.FromFn.{length-range_with_len}
use Rattle.std.specs.declared.thread.PromisedHandle.{PromisedHandle}
use Rattle.pol_live.specs.declared.run.SeatOf.{SeatOf}
use Rattle.pol_live.specs.Seats.{AreSeated, Seated, actors_of}
use Rattle.pol_live.specs.Promises.{promised}

-- each seat that came back is its handle's
pub joined : (handles : List (PromisedHandle Seated SeatOf)) (seats : List Seated) → length seats ≡ length handles →
    ((place : ℕ) (other : Seated) → place < length handles → (handle : PromisedHandle Seated SeatOf)
    × (handle ≡ get_or handles place handle) × ((get_or seats place other).actor ≡ handle.promise.0)) →
    actors_of seats ≡ promised handles
joined [] [] same kept = refl
joined [] (seat ∷ seats) same kept = absurd (omega arith)
joined (handle ∷ handles) [] same kept = absurd (omega arith)
joined (handle ∷ handles) (seat ∷ seats) same kept =
    let first = kept 0 seat (omega arith) in
    let here : seat.actor ≡ handle.promise.0 =
    first.2 ∙ ap (λ (each : PromisedHandle Seated SeatOf). each.promise.0) first.1 in
    let rest : actors_of seats ≡ promised handles =
    joined handles seats (omega arith) (λ place other less. kept (suc place) other (omega arith)) in
    λ i. here i ∷ rest i

-- no seat is left
none_left : (seats : List Seated) → length seats ≡ 0 → actors_of seats ≡ []
none_left [] is = refl
none_left (seat ∷ seats) is = absurd (omega arith)

-- those that came back and those that stayed here are all seats
pub all_home : (count : ℕ) (handles : List (PromisedHandle Seated SeatOf)) (home here turned rest : List Seated) →
    promised handles ++ (actors_of here ++ actors_of rest) ≡ range_with_len 0 count → length rest ≡ 0 →
    actors_of home ≡ promised handles → actors_of turned ≡ actors_of here → AreSeated count (home ++ turned)
all_home count handles home here turned rest all none back same =
    map-append (λ (seat : Seated). seat.actor) home turned
    ∙ ap (λ (actors : List ℕ). actors ++ actors_of turned) back
    ∙ ap (λ (actors : List ℕ). promised handles ++ actors)
    (same ∙ sym (append-nil (actors_of here))
    ∙ ap (λ (actors : List ℕ). actors_of here ++ actors) (sym (none_left rest none)))
    ∙ all

-- where a seat is left, the threads and the seats that stayed here are fewer than all seats
pub room_left : (count : ℕ) (handles : List (PromisedHandle Seated SeatOf)) (here rest : List Seated) →
    promised handles ++ (actors_of here ++ actors_of rest) ≡ range_with_len 0 count → 0 < length rest →
    length handles + length here < count
room_left count handles here rest all some =
    let long : length (promised handles ++ (actors_of here ++ actors_of rest)) ≡ count =
    ap length all ∙ length-range_with_len 0 count in
    let parts : length (promised handles ++ (actors_of here ++ actors_of rest))
    ≡ length handles + (length here + length rest) =
    rw (
      length-append (promised handles) (actors_of here ++ actors_of rest),
      length-append (actors_of here) (actors_of rest),
      length-map handles (λ (handle : PromisedHandle Seated SeatOf). handle.promise.0),
      length-map here (λ (seat : Seated). seat.actor),
      length-map rest (λ (seat : Seated). seat.actor),
    ) refl in
    omega (arith, long, parts, some)

-- as many seats as actors
pub seated_long : (count : ℕ) (seats : List Seated) → AreSeated count seats → length seats ≡ count
seated_long count seats is =
    sym (length-map seats (λ (seat : Seated). seat.actor)) ∙ ap length is ∙ length-range_with_len 0 count
