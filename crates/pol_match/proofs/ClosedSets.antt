-- No exchange among the holders of a closed set sets one of its places free.
use Rattle.std.proofs.Common.{◌≡◌, ◌⊎◌, ℕ, ◌<◌, Bool, true, false, not, ◌&&◌, Option, Some, None, List, length, refl}
use Rattle.std.proofs.Common.{arith, sym, ◌∙◌, ap, subst, ⊎_elim, inl, inr}
use Rattle.std.specs.Prelude.{slice_index, unwrap_or}
use Rattle.std.proofs.lemmas.Bool.{cases_Bool, cases_lt}
use Rattle.std.proofs.Math.ListN.{get_or-eq_default}
use Rattle.pol_match.specs.Places.{is_in, passing, IsWithin}
use Rattle.pol_match.specs.Seats.{fits, holder_at, Sits, IsSeating, IsClosed}
use Rattle.pol_match.proofs.Counting.{Has, passing_has, has_passing, passing_distinct, one_spare}

-- a place that is held is there
pub held_there : (holders : List (Option ℕ)) (place row : ℕ) → holder_at holders place ≡ Some row
    → place < length holders
held_there holders place row held =
    ⊎_elim
    (λ low. low)
    (λ high. let none : holder_at holders place ≡ None = get_or-eq_default holders None high in cc)
    (cases_lt place (length holders))

-- the row is to be seated, or sits outside the places seen and fits no place outside the set
abbrev pub IsConcerned : List ℕ → List (Option ℕ) → ℕ → ℕ → ℕ → ℕ → Type 0
IsConcerned rows holders seen set row each =
    (each ≡ row) ⊎ (Sits holders seen each × IsWithin (slice_index rows each) set)

-- these rows have places of their own outside those that were seen
pub record HavePlaces (rows : List ℕ) (holders : List (Option ℕ)) (seen set row : ℕ) (place_of : ℕ → ℕ) : Type 0 where
  pub fit : (each : ℕ) → IsConcerned rows holders seen set row each → fits rows each (place_of each) ≡ true
  pub outside : (each : ℕ) → IsConcerned rows holders seen set row each → is_in seen (place_of each) ≡ false
  pub once : (one other : ℕ) → IsConcerned rows holders seen set row one → IsConcerned rows holders seen set row other
      → place_of one ≡ place_of other → one ≡ other

-- the places that were added to those seen
added : ℕ → ℕ → ℕ → Bool
added seen set place = is_in set place && not (is_in seen place)

-- what is in the set and wasn't seen was added
added-yes : (seen set place : ℕ) → is_in set place ≡ true → is_in seen place ≡ false → added seen set place ≡ true
unfolding added
added-yes seen set place there out = rw (there, out) refl

-- what was added is in the set and wasn't seen
added-both : (seen set place : ℕ) → added seen set place ≡ true → (is_in set place ≡ true) × (is_in seen place ≡ false)
unfolding added
added-both seen set place both =
    ⊎_elim
    (λ holds. ⊎_elim
    (λ holds_too. let never = ap (λ answer. answer && not (is_in seen place)) holds ∙ ap not holds_too in cc)
    (λ fails. (holds, fails))
    (cases_Bool (is_in seen place)))
    (λ fails. let never = ap (λ answer. answer && not (is_in seen place)) fails in cc)
    (cases_Bool (is_in set place))

-- the holder of a place, or 0
pub holder_or : List (Option ℕ) → ℕ → ℕ
holder_or holders place = unwrap_or (holder_at holders place) 0

-- it is the holder, where there is one
pub holder_or-is : (holders : List (Option ℕ)) (place row : ℕ) → holder_at holders place ≡ Some row
    → holder_or holders place ≡ row
unfolding holder_or
holder_or-is holders place row held = ap (λ holder. unwrap_or holder 0) held

-- a place added is held by a row that sits there, and fits no place outside the set
pub held_added : (rows : List ℕ) (holders : List (Option ℕ)) (seen set place : ℕ) → IsClosed rows holders seen set
    → is_in set place ≡ true → is_in seen place ≡ false
    → (holder_at holders place ≡ Some (holder_or holders place))
    × IsWithin (slice_index rows (holder_or holders place)) set
held_added rows holders seen set place closed there out =
    let by = closed.held place there out in
    let equal = holder_or-is holders place by.holder by.held in (
      subst (λ (owner : ℕ). holder_at holders place ≡ Some owner) (sym equal) by.held,
      subst
          (λ (owner : ℕ). IsWithin (slice_index rows owner) set) (sym equal) by.within,
    )

-- in no way of giving all these rows places does the one get a place of a closed set
pub none_from_closed : (rows : List ℕ) (holders : List (Option ℕ)) (seen set row : ℕ) (place_of : ℕ → ℕ)
    → IsSeating rows holders seen → (Sits holders seen row → ⊥) → IsClosed rows holders seen set
    → HavePlaces rows holders seen set row place_of → is_in set (place_of row) ≡ true → ⊥
none_from_closed rows holders seen set row place_of seating alone closed have there =
    let longer = one_spare (λ place. place_of (holder_or holders place)) all all (place_of row)
    (passing_distinct (added seen set) (length holders))
    (λ place has. let passed = has_passing (added seen set) (length holders) place has in
    let parts = added-both seen set place passed.1 in
    let held = held_added rows holders seen set place closed parts.0 parts.1 in
    in_all (place_of (holder_or holders place))
    (held.1 (place_of (holder_or holders place)) (have.fit (holder_or holders place) (sits place has)))
    (have.outside (holder_or holders place) (sits place has)))
    (λ one other there there_too equal.
    let passed = has_passing (added seen set) (length holders) one there in
    let passed_too = has_passing (added seen set) (length holders) other there_too in
    let parts = added-both seen set one passed.1 in
    let parts_too = added-both seen set other passed_too.1 in
    let held = held_added rows holders seen set one closed parts.0 parts.1 in
    let also = held_added rows holders seen set other closed parts_too.0 parts_too.1 in
    let same = have.once (holder_or holders one) (holder_or holders other) (sits one there) (sits other there_too)
    equal in
    seating.once one other (holder_or holders one) parts.1 parts_too.1 held.0 (also.0 ∙ ap Some (sym same)))
    (in_all (place_of row) there (have.outside row (inl refl)))
    (λ place has equal.
    let passed = has_passing (added seen set) (length holders) place has in
    let parts = added-both seen set place passed.1 in
    let held = held_added rows holders seen set place closed parts.0 parts.1 in
    let same = have.once row (holder_or holders place) (inl refl) (sits place has) equal in
    alone (record { place = place; outside = parts.1; held = held.0 ∙ ap Some (sym same) })) in
    omega (arith, longer)
  where
    all : List ℕ
    all = passing (added seen set) (length holders)

    sits : (place : ℕ) → Has (passing (added seen set) (length holders)) place
        → IsConcerned rows holders seen set row (holder_or holders place)
    sits place has =
        let passed = has_passing (added seen set) (length holders) place has in
        let parts = added-both seen set place passed.1 in
        let held = held_added rows holders seen set place closed parts.0 parts.1 in
        inr (record { place = place; outside = parts.1; held = held.0 }, held.1)

    in_all : (place : ℕ) → is_in set place ≡ true → is_in seen place ≡ false
        → Has (passing (added seen set) (length holders)) place
    in_all place here out =
        let by = closed.held place here out in
        passing_has (added seen set) (length holders) place (held_there holders place by.holder by.held)
        (added-yes seen set place here out)
