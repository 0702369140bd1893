-- A list that is compared with a history, pair by pair.
use Rattle.std.proofs.Common.{◌≡◌, ◌≢◌, inl, inr, ◌<◌, ◌≤◌, ◌+◌, ◌++◌, ℕ, suc, zero, Bool, true, false, List, [], ◌∷◌}
use Rattle.std.proofs.Common.{length, Option, Some, None, refl, ap, sym, ◌∙◌, subst, arith, drop, get_or, take}
use Rattle.std.specs.Prelude.{◌==◌, nat_lt, slice_get, if◌then◌else◌}
use Rattle.std.proofs.Math.Seq.{split_at}
use Rattle.std.proofs.lemmas.List.{take_all, take_more}
use Rattle.std.proofs.lemmas.Bool.{eqb-true, ltb-false}
use Rattle.std.proofs.lemmas.Bool.Decides.{nat_tests}
use Rattle.std.proofs.lemmas.Option.{same_Some}
use Rattle.pol_events.specs.declared.answer.Answer.{Answer}
use Rattle.pol_events.specs.declared.event.Entry.{Entry}
use Rattle.pol_live.specs.Parts.{IsPart, IsStrayIn, answer_by, kept_at, least_after}
use Rattle.pol_live.specs.declared.turned.Placed.{Placed}

-- ---- parts of a history

-- no pair at all
part_none : (actor base : ℕ) (makers : List ℕ) (entries : List Entry) (list : List Placed) → list ≡ [] →
    IsPart actor base makers entries list
part_none actor base [] entries list none = none
part_none actor base (maker ∷ makers) [] list none = none
part_none actor base (maker ∷ makers) (entry ∷ entries) list none =
    inr (part_none actor (suc base) makers entries list none)

-- a part of the first entries is one of all
pub part_wide : (actor base count : ℕ) (makers : List ℕ) (entries : List Entry) (list : List Placed) →
    IsPart actor base (take count makers) (take count entries) list → IsPart actor base makers entries list
part_wide actor base zero makers entries list part = part_none actor base makers entries list part
part_wide actor base (suc count) [] entries list part = part
part_wide actor base (suc count) (maker ∷ makers) [] list part = part
part_wide actor base (suc count) (maker ∷ makers) (entry ∷ entries) list (inl taken) =
    inl (taken.0, taken.1, taken.2, part_wide actor (suc base) count makers entries taken.0 taken.3)
part_wide actor base (suc count) (maker ∷ makers) (entry ∷ entries) list (inr left) =
    inr (part_wide actor (suc base) count makers entries list left)

-- the same number
same_number : (one other : ℕ) → one ≡ other → (one == other) ≡ true
same_number one other same = grind (arith, nat_tests)

-- one pair more
pub part_more : (actor base count place : ℕ) (makers : List ℕ) (entries : List Entry) (list : List Placed)
    (entry : Entry)
    (pair : Placed) → count ≤ place → slice_get makers place ≡ Some actor → slice_get entries place ≡ Some entry →
    pair.place ≡ base + place → pair.answer ≡ entry.answer
    → IsPart actor base (take count makers) (take count entries) list →
    IsPart actor base (take (suc place) makers) (take (suc place) entries) (list ++ pair ∷ [])
part_more actor base count place [] entries list entry pair within made there at said part = cc
part_more actor base count place (maker ∷ makers) [] list entry pair within made there at said part = cc
part_more actor base zero zero (maker ∷ makers) (first ∷ entries) list entry pair within made there at said part =
    let own : maker ≡ actor = same_Some maker actor made in
    let is : first ≡ entry = same_Some first entry there in
    let here : pair.place ≡ base = omega (arith, at) in
    let told : pair.answer ≡ first.answer = said ∙ ap (λ (one : Entry). one.answer) (sym is) in
    inl (
      [],
      ap (λ (others : List Placed). others ++ pair ∷ []) part ∙ (λ i. record { place = here i; answer = told i } ∷ []),
      same_number maker actor own,
      refl,
    )
part_more actor base zero (suc place) (maker ∷ makers) (first ∷ entries) list entry pair within made there at said part
    =
    inr (part_more actor (suc base) zero place makers entries list entry pair (omega arith) made there
    (omega (arith, at)) said
    part)
part_more actor base (suc count) zero (maker ∷ makers) (first ∷ entries) list entry pair within made there at said part
    =
    absurd (omega (arith, within))
part_more actor base (suc count) (suc place) (maker ∷ makers) (first ∷ entries) list entry pair within made there at
    said
    (inl taken) =
    inl (
      taken.0 ++ pair ∷ [],
      ap (λ (others : List Placed). others ++ pair ∷ []) taken.1,
      taken.2,
      part_more actor (suc base) count place makers entries taken.0 entry pair (omega (arith, within)) made there
          (omega (arith, at)) said taken.3,
    )
part_more actor base (suc count) (suc place) (maker ∷ makers) (first ∷ entries) list entry pair within made there at
    said
    (inr left) =
    inr (part_more actor (suc base) count place makers entries list entry pair (omega (arith, within)) made there
    (omega (arith, at)) said left)

-- ---- what is kept at a place

-- where the history has this answer for the actor there
pub record IsKeptAt (actor : ℕ) (makers : List ℕ) (entries : List Entry) (least place : ℕ) (answer : Answer) : Type 0
  where
    pub within : least ≤ place
    pub made : slice_get makers place ≡ Some actor
    pub entry : Entry
    pub there : slice_get entries place ≡ Some entry
    pub said : answer ≡ entry.answer

-- an answer that is told only where the maker is the actor is the one of the entry that the actor made
own_step : (own : Bool) (maker actor : ℕ) (entry : Entry) (answer : Answer) → (maker == actor) ≡ own →
    (if own then Some entry.answer else None) ≡ Some answer → (maker ≡ actor) × (answer ≡ entry.answer)
own_step true maker actor entry answer is e = (eqb-true maker actor is, sym (same_Some entry.answer answer e))
own_step false maker actor entry answer is e = cc

-- where an answer is told of what was found, there is an entry, the actor made it, and the answer is its own
by_step : (actor : ℕ) (maker : Option ℕ) (found : Option Entry) (answer : Answer) →
    answer_by actor maker found ≡ Some answer →
    (maker ≡ Some actor) × (entry : Entry) × (found ≡ Some entry) × (answer ≡ entry.answer)
by_step actor maker None answer e = cc
by_step actor None (Some entry) answer e = cc
by_step actor (Some maker) (Some entry) answer e =
    let own = own_step (maker == actor) maker actor entry answer refl e in (ap Some own.0, entry, refl, own.1)

-- where a place is not too low and the actor has an answer there, the history has it there
least_step : (below : Bool) (actor : ℕ) (makers : List ℕ) (entries : List Entry) (least place : ℕ) (answer : Answer) →
    nat_lt place least ≡ below →
    (if below then None else answer_by actor (slice_get makers place) (slice_get entries place)) ≡ Some answer →
    IsKeptAt actor makers entries least place answer
least_step true actor makers entries least place answer is e = cc
least_step false actor makers entries least place answer is e =
    let own = by_step actor (slice_get makers place) (slice_get entries place) answer e in
    record {
      within = ltb-false place least is;
      made = own.0;
      entry = own.1;
      there = own.2;
      said = own.3;
    }

-- the answer that is kept for an actor at a place is that of an entry that the actor made
pub kept_tells : (actor : ℕ) (makers : List ℕ) (entries : List Entry) (least place : ℕ) (answer : Answer) →
    kept_at actor makers entries least place ≡ Some answer → IsKeptAt actor makers entries least place answer
kept_tells actor makers entries least place answer e =
    least_step (nat_lt place least) actor makers entries least place answer refl e

-- the least place after one pair more
pub least_more : (least : ℕ) (list : List Placed) (pair : Placed)
    → least_after least (list ++ pair ∷ []) ≡ suc pair.place
least_more least [] pair = refl
least_more least (first ∷ list) pair = least_more (suc first.place) list pair

-- ---- a list up to one of its pairs

-- the pair at which it strays
pub strays_at : (makers : List ℕ) (entries : List Entry) (actor least index : ℕ) (list : List Placed)
    (pair other : Placed) (kept : Option Answer) → index < length list → pair ≡ get_or list index other →
    least ≡ least_after 0 (take index list) → kept ≡ kept_at actor makers entries least pair.place →
    kept ≢ Some pair.answer → IsPart actor 0 (take least makers) (take least entries) (take index list) →
    IsStrayIn makers entries actor list pair.place kept pair.answer
strays_at makers entries actor least index list pair other kept within is from kept_is differs part =
    record {
      before = take index list;
      behind = drop (suc index) list;
      listed = split_at list index other within
          ∙ ap (λ (each : Placed). take index list ++ each ∷ drop (suc index) list) (sym is);
      part = part_wide actor 0 least makers entries (take index list) part;
      kept_is = kept_is ∙ ap (λ each. kept_at actor makers entries each pair.place) from;
      differs = differs;
    }

-- the least place after it
pub least_then : (index : ℕ) (list : List Placed) (pair other : Placed) → index < length list →
    pair ≡ get_or list index other → pair.place + 1 ≡ least_after 0 (take (index + 1) list)
least_then index list pair other within is =
    let more : least_after 0 (take (index + 1) list) ≡ suc (get_or list index other).place =
    ap (least_after 0) (take_more list index other within) ∙ least_more 0 (take index list) (get_or list index other) in
    let same : pair.place ≡ (get_or list index other).place = ap (λ (each : Placed). each.place) is in
    omega (arith, more, same)

-- with it, it still is a part
pub part_then : (makers : List ℕ) (entries : List Entry) (actor least index : ℕ) (list : List Placed)
    (pair other : Placed) → index < length list → pair ≡ get_or list index other →
    kept_at actor makers entries least pair.place ≡ Some pair.answer →
    IsPart actor 0 (take least makers) (take least entries) (take index list) →
    IsPart actor 0 (take (pair.place + 1) makers) (take (pair.place + 1) entries) (take (index + 1) list)
part_then makers entries actor least index list pair other within is kept part =
    let told = kept_tells actor makers entries least pair.place pair.answer kept in
    let next : suc pair.place ≡ pair.place + 1 = omega arith in
    let more : take (index + 1) list ≡ take index list ++ pair ∷ [] =
    take_more list index other within ∙ ap (λ (each : Placed). take index list ++ each ∷ []) (sym is) in
    subst (λ each. IsPart actor 0 (take each makers) (take each entries) (take (index + 1) list)) next
    (subst (IsPart actor 0 (take (suc pair.place) makers) (take (suc pair.place) entries)) (sym more)
    (part_more actor 0 least pair.place makers entries (take index list) told.entry pair told.within told.made
    told.there
    (omega arith) told.said part))

-- all of it
pub part_whole : (makers : List ℕ) (entries : List Entry) (actor least index : ℕ) (list : List Placed) →
    length list ≤ index → IsPart actor 0 (take least makers) (take least entries) (take index list) →
    IsPart actor 0 makers entries list
part_whole makers entries actor least index list all part =
    part_wide actor 0 least makers entries list
    (subst (IsPart actor 0 (take least makers) (take least entries)) (take_all index list all) part)
