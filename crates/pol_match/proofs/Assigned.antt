-- Rows that fit at most 64 places have the least assignment, or some of them are too many for their places.
use Rattle.std.proofs.Common.{◌≡◌, ◌⊎◌, ℕ, zero, suc, ◌*◌, ◌%◌, ◌^◌, ◌<◌, ◌≤◌, true, false, Option, Some, None, List}
use Rattle.std.proofs.Common.{[], ◌∷◌, ◌++◌, length, map, refl, arith, sym, ◌∙◌, ap, subst, ⊎_elim, inl, inr}
use Rattle.std.specs.Prelude.{bit_or, slice_index, slice_set}
use Rattle.std.proofs.lemmas.Bool.{cases_Bool, cases_eq}
use Rattle.std.proofs.lemmas.List.{length-map}
use Rattle.std.proofs.lemmas.Nat.{or_lt}
use Rattle.std.proofs.Math.ListN.{length-set}
use Rattle.pol_match.specs.Places.{is_in, IsFirstBeyond, IsWithin}
use Rattle.pol_match.specs.Seats.{fits, holder_at, AreForced, AreInside, IsClosed, IsSeated, IsSeating, IsStuck}
use Rattle.pol_match.specs.Seats.{IsVacated, Sits}
use Rattle.pol_match.specs.Assignments.{AreSeated, HaveNone, IsCrowded, IsFirstCrowd, IsLeastAssignment, IsUnseated}
use Rattle.pol_match.specs.Assignments.{other_than}
use Rattle.pol_match.proofs.Chains.{HasMore, closed_more, forced_itself, forced_more, kept_forced, may_be_vacated}
use Rattle.pol_match.proofs.Chains.{more_here, more_within, seated}
use Rattle.pol_match.proofs.Counting.{unseen, unseen_less}
use Rattle.pol_match.proofs.Lowering.{AreLowered, all_lowered, none_lowered, one_more_lowered}
use Rattle.pol_match.proofs.PlaceSets.{in_more}
use Rattle.pol_match.proofs.Reseating.{IsFreed, freed_alone, freed_seating, not_stuck, reseated}
use Rattle.pol_match.proofs.Seatings.{crowded_where_stuck, next_alone, none_seated, none_where_stuck, one_more_seated}

-- ---- the first place of a set that another one lacks

-- below this end there is such a place, the first one
record HasBeyond (set other end : ℕ) : Type 0 where
  place : ℕ
  low : place < end
  here : is_in set place ≡ true
  new : is_in other place ≡ false
  first : (each : ℕ) → each < place → is_in set each ≡ true → is_in other each ≡ true

-- below this end there is none
abbrev IsWithinBelow : ℕ → ℕ → ℕ → Type 0
IsWithinBelow set other end = (place : ℕ) → place < end → is_in set place ≡ true → is_in other place ≡ true

-- one or the other
beyond_below : (set other end : ℕ) → HasBeyond set other end ⊎ IsWithinBelow set other end
beyond_below set other zero = inr (λ place low there. absurd (omega arith))
beyond_below set other (suc end) =
    ⊎_elim
    (λ has. inl (record {
      place = has.place;
      low = omega (arith, has.low);
      here = has.here;
      new = has.new;
      first = has.first;
    }))
    (λ within. ⊎_elim
    (λ there. inr (more within (λ here. there)))
    (λ out. ⊎_elim
    (λ here. inl (record { place = end; low = omega arith; here = here; new = out; first = within }))
    (λ gone. inr (more within (λ here. absurd cc)))
    (cases_Bool (is_in set end)))
    (cases_Bool (is_in other end)))
    (beyond_below set other end)
  where
    more : IsWithinBelow set other end → (is_in set end ≡ true → is_in other end ≡ true) →
        IsWithinBelow set other (suc end)
    more within last place low there =
        ⊎_elim
        (λ same. ap (is_in other) same ∙ last (ap (is_in set) (sym same) ∙ there))
        (λ apart. within place (omega arith) there)
        (cases_eq place end)

-- the same of all places, where those of the set are below 64
beyond_or_within : (set other : ℕ) → ((place : ℕ) → is_in set place ≡ true → place < 64) →
    ((place : ℕ) × IsFirstBeyond set other place) ⊎ IsWithin set other
beyond_or_within set other below =
    ⊎_elim
    (λ has. inl (
      has.place,
      record { below = has.low; here = has.here; new = has.new; first = has.first },
    ))
    (λ within. inr (λ place there. within place (below place there) there))
    (beyond_below set other 64)

-- ---- one more row

-- the row gets a place
pub record GetsSeat (rows : List ℕ) (holders : List (Option ℕ)) (seen row : ℕ) : Type 0 where
  pub after : List (Option ℕ)
  pub place : ℕ
  pub long : length after ≡ length holders
  pub seated : IsSeated rows holders after seen row place

-- or it can't
pub record GetsStuck (rows : List ℕ) (holders : List (Option ℕ)) (seen row : ℕ) : Type 0 where
  pub set : ℕ
  pub small : set < 2 ^ 64
  pub stuck : IsStuck rows holders holders seen set row

-- one or the other
abbrev pub Tried : List ℕ → List (Option ℕ) → ℕ → ℕ → Type 0
Tried rows holders seen row = GetsSeat rows holders seen row ⊎ GetsStuck rows holders seen row

-- what is known where a row looks at its next place: what was seen so far is closed
record LooksAt (rows : List ℕ) (holders : List (Option ℕ)) (seen set more row place : ℕ) : Type 0 where
  seating : IsSeating rows holders seen
  alone : Sits holders seen row → ⊥
  closed : IsClosed rows holders seen set
  forced : AreForced rows holders seen row set
  next : IsFirstBeyond (slice_index rows row) set place
  has_more : HasMore set more place
  low : place < length holders

module _ (rows : List ℕ) (holders : List (Option ℕ)) (seen set more row place : ℕ)
    (looks : LooksAt rows holders seen set more row place) where
  -- a place that no one holds is vacated
  vacated_free : holder_at holders place ≡ None → IsVacated rows holders holders more place
  vacated_free free =
      record {
        seating = (may_be_vacated rows holders seen set more place looks.seating looks.closed looks.next.new
            looks.has_more).0;
        kept = λ each there. refl;
        moved = λ each held. absurd cc;
        still = λ each sits. sits;
        only = λ each sits. inr sits;
      }

  -- one whose holder moves is
  vacated_moved : (holder : ℕ) → holder_at holders place ≡ Some holder → (got : GetsSeat rows holders more holder) →
      IsVacated rows holders got.after more place
  vacated_moved holder held got =
      record {
        seating = got.seated.seating;
        kept = got.seated.kept;
        moved = λ each held_too.
            let same : Some holder ≡ Some each = sym held ∙ held_too in
            let is : holder ≡ each = cc in
            subst (λ (who : ℕ). Sits got.after more who) is
            (record { place = got.place; outside = got.seated.outside; held = got.seated.here });
        still = got.seated.still;
        only = λ each sits. ⊎_elim
            (λ same. inl (held ∙ ap Some (sym same)))
            (λ sat. inr sat)
            (got.seated.only each sits);
      }

  -- where the place is vacated the row gets it
  gets : (after : List (Option ℕ)) → length after ≡ length holders → IsVacated rows holders after more place →
      GetsSeat rows holders seen row
  gets after long vacated =
      record {
        after = slice_set after place (Some row);
        place = place;
        long = length-set after place (Some row) ∙ long;
        seated = seated rows holders after seen set more row place (record {
          seating = looks.seating;
          alone = looks.alone;
          closed = looks.closed;
          next = looks.next;
          has_more = looks.has_more;
          low = subst (λ (count : ℕ). place < count) (sym long) looks.low;
          vacated = vacated;
        });
      }

  -- where its holder is stuck, all that was seen by then is closed
  closed_wider : (holder wider : ℕ) → holder_at holders place ≡ Some holder →
      IsStuck rows holders holders more wider holder → IsClosed rows holders seen wider
  closed_wider holder wider held stuck =
      closed_more rows holders seen set more wider place looks.closed looks.has_more stuck.closed
      (record { holder = holder; held = held; within = stuck.within })

  -- and forced
  forced_wider : (holder wider : ℕ) → holder_at holders place ≡ Some holder →
      IsStuck rows holders holders more wider holder → AreForced rows holders seen row wider
  forced_wider holder wider held stuck =
      forced_more rows holders seen set more wider row place looks.closed looks.next looks.has_more looks.forced
      (kept_forced rows holders more wider holder place held stuck.forced)

-- a set is closed beyond itself
pub closed_itself : (rows : List ℕ) (holders : List (Option ℕ)) (set : ℕ) → IsClosed rows holders set set
closed_itself rows holders set =
    record { grown = λ each there. there; held = λ each there out. absurd cc }

-- A row gets a place, or it is stuck: it looks at its places one after the other, and where one is held its holder
-- tries in the same way. The set of the places seen grows with each try.
pub try : (fuel : ℕ) (rows : List ℕ) (holders : List (Option ℕ)) (seen set row : ℕ) → length holders ≤ 64 →
    AreInside rows holders → IsSeating rows holders seen → (Sits holders seen row → ⊥) →
    IsClosed rows holders seen set → AreForced rows holders seen row set → set < 2 ^ 64 → unseen set < fuel →
    Tried rows holders seen row
try zero rows holders seen set row few inside seating alone closed forced small low = absurd (omega arith)
try (suc fuel) rows holders seen set row few inside seating alone closed forced small low =
    ⊎_elim
    (λ found.
    let place = found.0 in
    let next = found.1 in
    let more = bit_or set (1 * 2 ^ place % 2 ^ 64) in
    let has : HasMore set more place = λ each. in_more set place each next.below in
    let tiny : 1 * 2 ^ place % 2 ^ 64 < 2 ^ 64 = omega arith in
    let fewer = unseen_less set more place (more_within set more place has) next.below next.new
    (more_here set more place has) in
    let may = may_be_vacated rows holders seen set more place seating closed next.new has in
    by_holder place more next has (holder_at holders place) refl
    (λ holder held.
    try fuel rows holders more more holder few inside may.0 (may.1 holder held) (closed_itself rows holders more)
    (forced_itself rows holders more holder) (or_lt 64 set (1 * 2 ^ place % 2 ^ 64) small tiny) (omega arith))
    (λ wider small_too grown closed_too forced_too.
    let fewer_too = unseen_less set wider place
    (λ each there. grown each (more_within set more place has each there)) next.below next.new
    (grown place (more_here set more place has)) in
    try fuel rows holders seen wider row few inside seating alone closed_too forced_too small_too (omega arith)))
    (λ within. inr (record {
      set = set;
      small = small;
      stuck = record { same = refl; closed = closed; within = within; forced = forced };
    }))
    (beyond_or_within (slice_index rows row) set (λ place fit. omega (arith, inside row place fit)))
  where
    looking : (place more : ℕ) → IsFirstBeyond (slice_index rows row) set place → HasMore set more place →
        LooksAt rows holders seen set more row place
    looking place more next has =
        record {
          seating = seating;
          alone = alone;
          closed = closed;
          forced = forced;
          next = next;
          has_more = has;
          low = inside row place next.here;
        }

    by_holder : (place more : ℕ) → IsFirstBeyond (slice_index rows row) set place → HasMore set more place →
        (holder : Option ℕ) → holder_at holders place ≡ holder →
        ((who : ℕ) → holder_at holders place ≡ Some who → Tried rows holders more who) →
        ((wider : ℕ) → wider < 2 ^ 64 → IsWithin more wider → IsClosed rows holders seen wider →
        AreForced rows holders seen row wider → Tried rows holders seen row) → Tried rows holders seen row
    by_holder place more next has None free moves again =
        inl (gets rows holders seen set more row place (looking place more next has) holders refl
        (vacated_free rows holders seen set more row place (looking place more next has) free))
    by_holder place more next has (Some holder) held moves again =
        ⊎_elim
        (λ got. inl (gets rows holders seen set more row place (looking place more next has) got.after got.long
        (vacated_moved rows holders seen set more row place (looking place more next has) holder held got)))
        (λ stuck. again stuck.set stuck.small stuck.stuck.closed.grown
        (closed_wider rows holders seen set more row place (looking place more next has) holder stuck.set held
        stuck.stuck)
        (forced_wider rows holders seen set more row place (looking place more next has) holder stuck.set held
        stuck.stuck))
        (moves holder held)

-- ---- all rows

-- so many rows have places, in a table of this length
record HaveSeats (rows : List ℕ) (count row : ℕ) : Type 0 where
  holders : List (Option ℕ)
  long : length holders ≡ count
  seated : AreSeated rows holders row

-- some rows are too many for their places
pub record AreTooMany (rows : List ℕ) : Type 0 where
  pub set : ℕ
  pub small : set < 2 ^ 64
  pub crowded : IsCrowded rows set
  pub none : HaveNone rows
  pub first : IsFirstCrowd rows set

-- a table of places that no one holds
free_places : ℕ → List (Option ℕ)
free_places zero = []
free_places (suc count) = None ∷ free_places count

-- it has so many
long_free : (count : ℕ) → length (free_places count) ≡ count
unfolding free_places
long_free zero = refl
long_free (suc count) = ap suc (long_free count)

-- and no one holds any of them
held_free : (count place : ℕ) → holder_at (free_places count) place ≡ None
unfolding free_places
held_free zero place = refl
held_free (suc count) zero = refl
held_free (suc count) (suc place) = held_free count place

-- the table in which the row holds no place
pub freed_of : ℕ → List (Option ℕ) → List (Option ℕ)
freed_of row holders = map (other_than row) holders

-- so it is there: the others hold what they held
pub is_freed : (row : ℕ) (holders : List (Option ℕ)) → IsUnseated holders (freed_of row holders) row
unfolding freed_of
is_freed row [] place = refl
is_freed row (holder ∷ holders) zero = refl
is_freed row (holder ∷ holders) (suc place) = is_freed row holders place

-- the table is as long
pub long_freed : (row : ℕ) (holders : List (Option ℕ)) → length (freed_of row holders) ≡ length holders
unfolding freed_of
long_freed row holders = length-map holders (other_than row)

module _ (rows : List ℕ) (count : ℕ) (few : count ≤ 64)
    (inside : (row place : ℕ) → fits rows row place ≡ true → place < count)
    (small_rows : (row : ℕ) → slice_index rows row < 2 ^ 64) where
  -- so many have places, or some are too many
  seats_or_crowd : (row : ℕ) → row ≤ length rows → HaveSeats rows count row ⊎ AreTooMany rows
  seats_or_crowd zero low =
      inl (record {
        holders = free_places count;
        long = long_free count;
        seated = none_seated rows (free_places count) (held_free count);
      })
  seats_or_crowd (suc row) low =
      ⊎_elim
      (λ have. ⊎_elim
      (λ got. inl (record {
        holders = got.after;
        long = got.long ∙ have.long;
        seated = subst (AreSeated rows got.after) (omega arith)
            (one_more_seated rows have.holders got.after row got.place have.seated got.seated);
      }))
      (λ stuck. inr (record {
        set = stuck.set;
        small = stuck.small;
        crowded = crowded_where_stuck rows have.holders have.holders row stuck.set (omega arith) small_rows have.seated
            stuck.stuck;
        none = none_where_stuck rows have.holders have.holders row stuck.set (omega arith) have.seated stuck.stuck;
        first = record {
          row = row;
          low = omega arith;
          holders = have.holders;
          few = omega (arith, have.long);
          inside = λ each place fit. omega (arith, inside each place fit, have.long);
          seated = have.seated;
          stuck = stuck.stuck;
        };
      }))
      (try (suc (unseen 0)) rows have.holders 0 0 row (omega (arith, have.long))
      (λ each place fit. omega (arith, inside each place fit, have.long)) have.seated.seating
      (next_alone rows have.holders row 0 have.seated) (closed_itself rows have.holders 0)
      (forced_itself rows have.holders 0 row) (omega arith) (omega arith)))
      (λ many. inr many)
      (seats_or_crowd row (omega arith))

  -- so many have the least places
  record HaveLeast (row : ℕ) : Type 0 where
    holders : List (Option ℕ)
    settled : ℕ
    places : List ℕ
    long : length holders ≡ count
    small : settled < 2 ^ 64
    lowered : AreLowered rows holders settled row places

  -- where all have places, so many have the least
  least_from : HaveSeats rows count (length rows) → (row : ℕ) → row ≤ length rows → HaveLeast row
  least_from have zero low =
      record {
        holders = have.holders;
        settled = 0;
        places = [];
        long = have.long;
        small = omega arith;
        lowered = none_lowered rows have.holders [] have.seated refl;
      }
  least_from have (suc row) low = one_more (least_from have row (omega arith))
    where
      settle : (least : HaveLeast row) →
          IsFreed rows least.holders (freed_of row least.holders) least.settled row →
          GetsSeat rows (freed_of row least.holders) least.settled row → HaveLeast (suc row)
      settle least freed got =
          let step = reseated freed got.after got.place got.seated in
          let low_place : got.place < 64 = omega (
            arith,
            inside row got.place (got.seated.seating.fit got.place row
                got.seated.here),
          ) in
          let more = bit_or least.settled (1 * 2 ^ got.place % 2 ^ 64) in
          let tiny : 1 * 2 ^ got.place % 2 ^ 64 < 2 ^ 64 = omega arith in
          record {
            holders = got.after;
            settled = more;
            places = least.places ++ got.place ∷ [];
            long = got.long ∙ long_freed row least.holders ∙ least.long;
            small = or_lt 64 least.settled (1 * 2 ^ got.place % 2 ^ 64) least.small tiny;
            lowered = subst (λ (end : ℕ). AreLowered rows got.after more end (least.places ++ got.place ∷ []))
                (omega arith)
                (one_more_lowered rows least.holders got.after least.settled more row got.place least.places
                (omega arith) least.lowered step (λ each. in_more least.settled got.place each low_place));
          }

      one_more : HaveLeast row → HaveLeast (suc row)
      one_more least =
          let freed : IsFreed rows least.holders (freed_of row least.holders) least.settled row =
          record {
            low = omega arith;
            seated = least.lowered.seated;
            is_settled = least.lowered.is_settled;
            unseated = is_freed row least.holders;
          } in
          ⊎_elim
          (λ got. settle least freed got)
          (λ stuck. absurd (not_stuck freed (freed_of row least.holders) stuck.set stuck.stuck))
          (try (suc (unseen least.settled)) rows (freed_of row least.holders) least.settled least.settled row
          (omega (arith, long_freed row least.holders, least.long))
          (λ each place fit. omega (arith, inside each place fit, long_freed row least.holders, least.long))
          (freed_seating freed) (freed_alone freed)
          (closed_itself rows (freed_of row least.holders) least.settled)
          (forced_itself rows (freed_of row least.holders) least.settled row) least.small (omega arith))

  -- All have the least places, or some are too many for theirs.
  pub least_or_crowd : ((places : List ℕ) × IsLeastAssignment rows places) ⊎ AreTooMany rows
  least_or_crowd =
      ⊎_elim
      (λ have. let least = least_from have (length rows) (omega arith) in
      inl (least.places, all_lowered rows least.holders least.settled least.places least.lowered))
      (λ many. inr many)
      (seats_or_crowd (length rows) (omega arith))
