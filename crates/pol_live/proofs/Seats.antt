-- Seats in the order of their actors.
use Rattle.std.proofs.Common.{◌≡◌, ℕ, ◌+◌, List, [], ◌∷◌, ◌++◌, get_or, length, set, sym, ap, ◌∙◌, arith, add-one, suc}
use Rattle.std.proofs.Common.{zero, Ok, Err, IfOk, Result}
use Rattle.std.specs.List.{range_with_len}
use Rattle.std.proofs.lemmas.List.{map-append}
use Rattle.std.proofs.Math.Seq.{map-set_same}
use Rattle.pol_site.specs.Sites.{PlainSite}
use Rattle.pol_live.specs.Parts.{IsRun, made_in_all}
use Rattle.pol_live.specs.Seats.{AreSeated, Seated, actors_of}
use Rattle.pol_live.specs.Turns.{Locked, TookTurn, Turns}
use Rattle.pol_live.specs.declared.turned.Turned.{Turned}

-- a range with one number more at its end
range_suc : (from count : ℕ) → range_with_len from (suc count) ≡ range_with_len from count ++ (from + count) ∷ []
range_suc from zero = let same : from ≡ from + 0 = omega arith in ap (λ (n : ℕ). n ∷ []) same
range_suc from (suc count) =
    let same : (from + 1) + count ≡ from + suc count = omega arith in
    ap (λ (ns : List ℕ). from ∷ ns)
    (range_suc (from + 1) count ∙ ap (λ (n : ℕ). range_with_len (from + 1) count ++ n ∷ []) same)

-- one actor more
range_more : (count : ℕ) → range_with_len 0 (count + 1) ≡ range_with_len 0 count ++ count ∷ []
range_more count =
    let same : 0 + count ≡ count = omega arith in
    rw (add-one count) (range_suc 0 count ∙ ap (λ (n : ℕ). range_with_len 0 count ++ n ∷ []) same)

-- one seat more
pub seated_more : (count : ℕ) (seats : List Seated) (seat : Seated) → AreSeated count seats → seat.actor ≡ count →
    AreSeated (count + 1) (seats ++ seat ∷ [])
seated_more count seats seat before is =
    map-append (λ (each : Seated). each.actor) seats (seat ∷ [])
    ∙ ap (λ (ns : List ℕ). ns ++ seat.actor ∷ []) before ∙ ap (λ (n : ℕ). range_with_len 0 count ++ n ∷ []) is
    ∙ sym (range_more count)

-- one seat more, which made nothing
pub unmade_more : (seats : List Seated) (seat : Seated) → made_in_all seats ≡ 0 → seat.list ≡ [] →
    made_in_all (seats ++ seat ∷ []) ≡ 0
unmade_more [] seat none empty = let long = ap length empty in omega (arith, long)
unmade_more (first ∷ seats) seat none empty =
    let all : length first.list + made_in_all seats ≡ 0 = none in
    let again = unmade_more seats seat (omega (arith, all)) empty in
    omega (arith, all, again)

-- a seat that is put back in its place
pub seat_kept : (seats : List Seated) (place : ℕ) (seat other : Seated)
    → seat.actor ≡ (get_or seats place other).actor →
    actors_of (set seats place seat) ≡ actors_of seats
seat_kept seats place seat other same = map-set_same (λ (each : Seated). each.actor) seats place seat other same

-- a turn of an actor at a plant is one that it took
pub took_turn : {E : Type 0} (site : PlainSite) (before after : Locked) (actor : ℕ) (result : Result Turned E) →
    IsRun site before.entries before.by → IsRun site after.entries after.by →
    IfOk result (λ turned. Turns site before after actor turned) → IfOk result (λ turned. TookTurn site actor turned)
took_turn site before after actor (Ok turned) ran runs turns =
    record { before = before; after = after; run_before = ran; run_after = runs; turns = turns }
took_turn site before after actor (Err refused) ran runs turns = tt
