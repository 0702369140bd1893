-- Lists that have some of what their actors made, and in all as much as they made, have all of it.
use Rattle.std.proofs.Common.{◌≡◌, ◌⊎◌, inl, inr, ◌<◌, ◌≤◌, ◌+◌, ℕ, suc, zero, Bool, true, false, List, [], ◌∷◌, length}
use Rattle.std.proofs.Common.{refl, ap, sym, ◌∙◌, arith}
use Rattle.std.specs.Prelude.{◌==◌, if◌then◌else◌}
use Rattle.std.specs.List.{AllByRecursion, range_with_len}
use Rattle.std.proofs.lemmas.Bool.{eqb-true}
use Rattle.std.proofs.lemmas.Bool.Decides.{nat_tests}
use Rattle.pol_events.specs.declared.event.Entry.{Entry}
use Rattle.pol_live.specs.Parts.{AreOwnParts, AreParts, IsPart, made_from, made_in_all}
use Rattle.pol_live.specs.Seats.{AreSeated, Seated, actors_of}
use Rattle.pol_live.specs.declared.turned.Placed.{Placed}

-- ---- one list

-- a list is no longer than all, and where it is as long it is all
record IsShort (list all : List Placed) : Type 0 where
  pub short : length list ≤ length all
  pub whole : length list ≡ length all → list ≡ all

-- one entry more, of this maker
short_step : (own : Bool) (maker actor : ℕ) (one : Placed) (made list : List Placed) (Part : List Placed → Type 0) →
    ((rest : List Placed) → Part rest → IsShort rest made) → (maker == actor) ≡ own →
    ((rest : List Placed) × (list ≡ one ∷ rest) × ((maker == actor) ≡ true) × Part rest) ⊎ Part list →
    IsShort list (if own then one ∷ made else made)
short_step true maker actor one made list Part shorter is (inl taken) =
    let again = shorter taken.0 taken.3 in
    let less = again.short in
    let long : length list ≡ suc (length taken.0) = ap length taken.1 in
    record {
      short = omega (arith, less, long);
      whole = λ same. taken.1 ∙ ap (λ (others : List Placed). one ∷ others) (again.whole (omega (arith, same, long)));
    }
short_step false maker actor one made list Part shorter is (inl taken) =
    let clash : false ≡ true = sym is ∙ taken.2 in cc
short_step true maker actor one made list Part shorter is (inr left) =
    let less = (shorter list left).short in
    record { short = omega (arith, less); whole = λ same. absurd (omega (arith, less, same)) }
short_step false maker actor one made list Part shorter is (inr left) = shorter list left

-- some of what an actor made is no longer than all of it, and where it is as long it is all of it
part_short : (actor place : ℕ) (makers : List ℕ) (entries : List Entry) (list : List Placed) →
    IsPart actor place makers entries list → IsShort list (made_from actor place makers entries)
part_short actor place [] entries list none =
    record { short = let is = ap length none in omega (arith, is); whole = λ same. none }
part_short actor place (maker ∷ makers) [] list none =
    record { short = let is = ap length none in omega (arith, is); whole = λ same. none }
part_short actor place (maker ∷ makers) (entry ∷ entries) list part =
    short_step (maker == actor) maker actor (record { place = place; answer = entry.answer })
    (made_from actor (suc place) makers entries) list (IsPart actor (suc place) makers entries)
    (part_short actor (suc place) makers entries) refl part

-- ---- how many each actor made

-- as many as its name stands among the makers
abbrev count_of : ℕ → List ℕ → ℕ
count_of actor [] = 0
count_of actor (maker ∷ makers) = (if maker == actor then 1 else 0) + count_of actor makers

-- with one entry more, of this maker or of another, list and count stay equally long
long_step : (own : Bool) (one : Placed) (made : List Placed) (count : ℕ) → length made ≡ count →
    length (if own then one ∷ made else made) ≡ (if own then 1 else 0) + count
long_step true one made count same = ap suc same ∙ omega arith
long_step false one made count same = same ∙ omega arith

-- an actor made as many entries as it has places among the makers
made_long : (actor place : ℕ) (makers : List ℕ) (entries : List Entry) → length makers ≡ length entries →
    length (made_from actor place makers entries) ≡ count_of actor makers
made_long actor place [] entries same = refl
made_long actor place (maker ∷ makers) [] same = absurd (omega (arith, same))
made_long actor place (maker ∷ makers) (entry ∷ entries) same =
    long_step (maker == actor) (record { place = place; answer = entry.answer })
    (made_from actor (suc place) makers entries) (count_of actor makers)
    (made_long actor (suc place) makers entries (omega (arith, same)))

-- as many as a range of actors made
abbrev count_all : ℕ → ℕ → List ℕ → ℕ
count_all from zero makers = 0
count_all from (suc count) makers = count_of from makers + count_all (from + 1) count makers

-- the makers are of a range
abbrev pub AreWithin : ℕ → ℕ → List ℕ → Type 0
AreWithin from count makers = AllByRecursion (λ (maker : ℕ). (from ≤ maker) × (maker < from + count)) makers

-- where neither the first of a range nor those behind it count a maker, the range does not
before_step : (own : Bool) (from maker here rest again : ℕ) → maker < from → (maker == from) ≡ own → again ≡ rest →
    ((if own then 1 else 0) + here) + again ≡ here + rest
before_step true from maker here rest again before is same =
    let equal = eqb-true maker from is in absurd (omega (arith, equal, before))
before_step false from maker here rest again before is same = omega (arith, same)

-- a maker before the range counts nothing in it
count_before : (from count maker : ℕ) (makers : List ℕ) → maker < from →
    count_all from count (maker ∷ makers) ≡ count_all from count makers
count_before from zero maker makers before = refl
count_before from (suc count) maker makers before =
    before_step (maker == from) from maker (count_of from makers) (count_all (from + 1) count makers)
    (count_all (from + 1) count (maker ∷ makers)) before refl
    (count_before (from + 1) count maker makers (omega (arith, before)))

-- a maker of the range that is not its first is behind it
later : (from maker : ℕ) → from ≤ maker → (maker == from) ≡ false → from < maker
later from maker low is = grind (arith, nat_tests)

-- the maker counts once, either as the first of the range or among the others
one_step : (own : Bool) (from maker here rest again : ℕ) → (maker == from) ≡ own →
    ((maker ≡ from) → again ≡ rest) → (((maker == from) ≡ false) → again ≡ suc rest) →
    ((if own then 1 else 0) + here) + again ≡ suc (here + rest)
one_step true from maker here rest again is same more =
    let all = same (eqb-true maker from is) in omega (arith, all)
one_step false from maker here rest again is same more =
    let all = more is in omega (arith, all)

-- one maker of the range counts once in it
count_one : (from count maker : ℕ) (makers : List ℕ) → from ≤ maker → maker < from + count →
    count_all from count (maker ∷ makers) ≡ suc (count_all from count makers)
count_one from zero maker makers low high = absurd (omega (arith, low, high))
count_one from (suc count) maker makers low high =
    one_step (maker == from) from maker (count_of from makers) (count_all (from + 1) count makers)
    (count_all (from + 1) count (maker ∷ makers)) refl
    (λ same. count_before (from + 1) count maker makers (omega (arith, same)))
    (λ apart.
    let above = later from maker low apart in
    count_one (from + 1) count maker makers (omega (arith, above)) (omega (arith, high)))

-- of no makers nothing counts
count_none : (from count : ℕ) → count_all from count [] ≡ 0
count_none from zero = refl
count_none from (suc count) = let again = count_none (from + 1) count in omega (arith, again)

-- all of them in all
count_whole : (from count : ℕ) (makers : List ℕ) → AreWithin from count makers
    → count_all from count makers ≡ length makers
count_whole from count [] within = count_none from count
count_whole from count (maker ∷ makers) within =
    count_one from count maker makers within.0.0 within.0.1 ∙ ap suc (count_whole from count makers within.1)

-- ---- all lists

-- no longer in all than what the actors made, and where as long each is all of it
record AreShort (makers : List ℕ) (entries : List Entry) (count : ℕ) (seats : List Seated) : Type 0 where
  pub short : made_in_all seats ≤ count
  pub whole : made_in_all seats ≡ count → AreOwnParts makers entries seats

-- the first name, or zero where there is none
abbrev head : List ℕ → ℕ
head [] = 0
head (name ∷ names) = name

-- the names behind the first
abbrev tail : List ℕ → List ℕ
tail [] = []
tail (name ∷ names) = names

-- lists of a range of actors are no longer in all than what these made, and where as long each is all of it
all_short : (makers : List ℕ) (entries : List Entry) (from count : ℕ) (seats : List Seated) →
    length makers ≡ length entries → actors_of seats ≡ range_with_len from count → AreParts makers entries seats →
    AreShort makers entries (count_all from count makers) seats
all_short makers entries from zero [] same named parts = record { short = omega arith; whole = λ e. tt }
all_short makers entries from zero (seat ∷ seats) same named parts =
    let long = ap length named in absurd (omega (arith, long))
all_short makers entries from (suc count) [] same named parts =
    let long = ap length named in absurd (omega (arith, long))
all_short makers entries from (suc count) (seat ∷ seats) same named parts =
    let here : seat.actor ≡ from = ap head named in
    let rest : actors_of seats ≡ range_with_len (from + 1) count = ap tail named in
    let one = part_short seat.actor 0 makers entries seat.list parts.0 in
    let long = made_long seat.actor 0 makers entries same ∙ ap (λ actor. count_of actor makers) here in
    let again = all_short makers entries (from + 1) count seats same rest parts.1 in
    let less = one.short in
    let fewer = again.short in
    record {
      short = omega (arith, less, long, fewer);
      whole = λ e. (
        one.whole (omega (arith, less, long, fewer, e)),
        again.whole (omega (arith, less, long, fewer, e)),
      );
    }

-- where the seats of all actors made as many entries in all as there are, each list is exactly its actor's part
pub all_own : (makers : List ℕ) (entries : List Entry) (count : ℕ) (seats : List Seated) →
    length makers ≡ length entries → AreWithin 0 count makers → AreSeated count seats → AreParts makers entries seats →
    made_in_all seats ≡ length makers → AreOwnParts makers entries seats
all_own makers entries count seats same within seated parts counted =
    (all_short makers entries 0 count seats same seated parts).whole (counted ∙ sym (count_whole 0 count makers within))
