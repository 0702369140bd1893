-- A row is seated anew, with the lowest place that leaves the later rows theirs.
use Rattle.std.proofs.Common.{◌≡◌, ◌≢◌, ◌⊎◌, ℕ, ◌<◌, ◌≤◌, ◌==◌, true, false, if◌then◌else◌, Option, Some, None, List}
use Rattle.std.proofs.Common.{length, refl, arith, sym, ◌∙◌, ap, ⊎_elim, inl, inr}
use Rattle.std.specs.Prelude.{slice_index}
use Rattle.std.proofs.lemmas.Bool.Decides.{nat_tests}
use Rattle.std.proofs.lemmas.Bool.{cases_Bool, cases_lt, cases_eq}
use Rattle.pol_match.specs.Places.{is_in}
use Rattle.pol_match.specs.Seats.{holder_at, Sits, IsSeating, IsSeated, IsStuck}
use Rattle.pol_match.specs.Assignments.{AreSeated, other_than, IsUnseated, IsSettled, IsLowest, IsReseated}
use Rattle.pol_match.proofs.PlaceSets.{nothing_in}
use Rattle.pol_match.proofs.ClosedSets.{IsConcerned, none_from_closed}

-- a place that the row held is held by none
pub other_than-none : (row : ℕ) (holder : Option ℕ) → holder ≡ Some row → other_than row holder ≡ None
other_than-none row holder equal =
    let same : (row == row) ≡ true = grind (arith, nat_tests) in
    ap (other_than row) equal ∙ ap (λ answer. if answer then None else Some row) same

-- a place that another row held is held by it
pub other_than-some : (row who : ℕ) (holder : Option ℕ) → who ≢ row → holder ≡ Some who → other_than row holder ≡ Some who
other_than-some row who holder differs equal =
    let apart : (who == row) ≡ false = grind (arith, nat_tests) in
    ap (other_than row) equal ∙ ap (λ answer. if answer then None else Some who) apart

-- who holds a place without the row held it with the row, and is another one
pub some_other_than : (row who : ℕ) (holder : Option ℕ) → other_than row holder ≡ Some who
    → (holder ≡ Some who) × (who ≢ row)
some_other_than row who None equal = cc
some_other_than row who (Some holder) equal =
    ⊎_elim
    (λ holds. let none = ap (λ answer. if answer then None else Some holder) holds in cc)
    (λ fails. let some : Some holder ≡ Some who = sym (ap (λ answer. if answer then None else Some holder) fails)
    ∙ equal in
    let same : holder ≡ who = cc in
    (some, grind (arith, nat_tests)))
    (cases_Bool (holder == row))

-- what is known before the row is seated anew
pub record IsFreed (rows : List ℕ) (before freed : List (Option ℕ)) (settled row : ℕ) : Type 0 where
  pub low : row < length rows
  pub seated : AreSeated rows before (length rows)
  pub is_settled : IsSettled before settled row
  pub unseated : IsUnseated before freed row

-- who holds a place once the row is freed held it before, and is another row
held_before : {rows : List ℕ} {before freed : List (Option ℕ)} {settled row : ℕ} → IsFreed rows before freed settled row
    → (place who : ℕ) → holder_at freed place ≡ Some who → (holder_at before place ≡ Some who) × (who ≢ row)
held_before {before = before} {row = row} is place who held =
    some_other_than row who (holder_at before place) (sym (is.unseated place) ∙ held)

-- each other row that held a place holds it once the row is freed
held_freed : {rows : List ℕ} {before freed : List (Option ℕ)} {settled row : ℕ} → IsFreed rows before freed settled row
    → (place who : ℕ) → who ≢ row → holder_at before place ≡ Some who → holder_at freed place ≡ Some who
held_freed {before = before} {row = row} is place who differs held = is.unseated place
    ∙ other_than-some row who (holder_at before place) differs held

-- once the row is freed the others are seated, outside the settled places
pub freed_seating : {rows : List ℕ} {before freed : List (Option ℕ)} {settled row : ℕ}
    → IsFreed rows before freed settled row → IsSeating rows freed settled
freed_seating is =
    record {
      fit = λ place who held. is.seated.seating.fit place who (held_before is place who held).0;
      once = λ one other who out out_too held also. is.seated.seating.once one other who (nothing_in one)
          (nothing_in other) (held_before is one who held).0 (held_before is other who also).0;
    }

-- the row that was freed sits nowhere
pub freed_alone : {rows : List ℕ} {before freed : List (Option ℕ)} {settled row : ℕ}
    → IsFreed rows before freed settled row → Sits freed settled row → ⊥
freed_alone {row = row} is sits = (held_before is sits.place row sits.held).1 refl

-- the place that the row had is free, so it isn't stuck
pub not_stuck : {rows : List ℕ} {before freed : List (Option ℕ)} {settled row : ℕ}
    → IsFreed rows before freed settled row → (after : List (Option ℕ)) (set : ℕ)
    → IsStuck rows freed after settled set row → ⊥
not_stuck {before = before} {freed = freed} {settled = settled} {row = row} is after set stuck =
    let had = is.seated.sits row is.low in
    let none : holder_at freed had.0 ≡ None = is.unseated had.0 ∙ other_than-none row (holder_at before had.0) had.1 in
    ⊎_elim
    (λ holds. let by = is.is_settled.only had.0 holds in
    let same : Some by.0 ≡ Some row = sym by.2 ∙ had.1 in
    let equal : by.0 ≡ row = cc in
    omega (arith, by.1))
    (λ fails. let held = stuck.closed.held had.0 (stuck.within had.0 (is.seated.seating.fit had.0 row had.1)) fails in
    let known = held.held in cc)
    (cases_Bool (is_in settled had.0))

-- who sits outside the settled places is a later row
later : {rows : List ℕ} {before freed : List (Option ℕ)} {settled row : ℕ} → IsFreed rows before freed settled row
    → (each : ℕ) → Sits freed settled each → (row < each) × (each < length rows)
later {settled = settled} {row = row} is each sits =
    let held = held_before is sits.place each sits.held in
    let inside = is.seated.known sits.place each held.0 in
    ⊎_elim
    (λ low. let holds = is.is_settled.early sits.place each held.0 low in let fails = sits.outside in absurd cc)
    (λ high. (omega (arith, held.1), inside))
    (cases_lt each row)

-- a settled place is held as before
settled_kept : {rows : List ℕ} {before freed : List (Option ℕ)} {settled row : ℕ}
    → IsFreed rows before freed settled row → (place : ℕ) → is_in settled place ≡ true
    → holder_at freed place ≡ holder_at before place
settled_kept is place holds =
    let by = is.is_settled.only place holds in
    held_freed is place by.0 (omega (arith, by.1)) by.2 ∙ sym by.2

-- the row has its lowest place
pub lowest : {rows : List ℕ} {before freed : List (Option ℕ)} {settled row : ℕ} → IsFreed rows before freed settled row
    → (after : List (Option ℕ)) (place : ℕ) → IsSeated rows freed after settled row place
    → IsLowest rows settled row place
lowest {rows = rows} {freed = freed} {settled = settled} {row = row} is after place step others assignment leaves =
    ⊎_elim
    (λ low. absurd (none_from_closed rows freed settled step.first.set row (slice_index others) (freed_seating is)
    (freed_alone is) step.first.closed
    (record {
      fit = λ each concerned. assignment.fit each (inside each concerned).1;
      outside = λ each concerned. leaves each (inside each concerned).0 (inside each concerned).1;
      once = λ one other concerned concerned_too equal. assignment.once one other (inside one concerned).1
          (inside other concerned_too).1 equal;
    })
    (step.first.lower (slice_index others row) low (assignment.fit row is.low))))
    (λ high. high)
    (cases_lt (slice_index others row) place)
  where
    inside : (each : ℕ) → IsConcerned rows freed settled step.first.set row each → (row ≤ each) × (each < length rows)
    inside each concerned = ⊎_elim
        (λ equal. (omega arith, omega (arith, is.low)))
        (λ sits. let behind = later is each sits.0 in (omega (arith, behind.0), behind.1))
        concerned

-- who holds a place after the step, by whether the place is settled
held_after : {rows : List ℕ} {before freed : List (Option ℕ)} {settled row : ℕ} → IsFreed rows before freed settled row
    → (after : List (Option ℕ)) (place : ℕ) → IsSeated rows freed after settled row place → (there each : ℕ)
    → holder_at after there ≡ Some each → ((is_in settled there ≡ true) × (each < row)) ⊎ ((is_in settled there ≡ false)
    × (row ≤ each) × (each < length rows))
held_after {before = before} {settled = settled} {row = row} is after place step there each held =
    ⊎_elim
    (λ holds. let old : holder_at before there ≡ Some each = sym (settled_kept is there holds)
    ∙ (sym (step.kept there holds) ∙ held) in
    let by = is.is_settled.only there holds in
    let same : Some by.0 ≡ Some each = sym by.2 ∙ old in
    let equal : by.0 ≡ each = cc in
    inl (holds, omega (arith, by.1)))
    (λ fails. ⊎_elim
    (λ equal. inr (fails, omega arith, omega (arith, is.low)))
    (λ sits. let behind = later is each sits in inr (fails, omega (arith, behind.0), behind.1))
    (step.only each (record { place = there; outside = fails; held = held })))
    (cases_Bool (is_in settled there))

-- a row that got a place once it was freed is seated anew
pub reseated : {rows : List ℕ} {before freed : List (Option ℕ)} {settled row : ℕ}
    → IsFreed rows before freed settled row → (after : List (Option ℕ)) (place : ℕ)
    → IsSeated rows freed after settled row place → IsReseated rows before after settled row place
reseated {rows = rows} {before = before} {freed = freed} {settled = settled} {row = row} is after place step =
    record {
      seated = record {
        seating = record {
          fit = step.seating.fit;
          once = λ one other who out out_too held also. ⊎_elim
              (λ early. ⊎_elim
              (λ too. is.seated.seating.once one other who out out_too
              (sym (settled_kept is one early.0) ∙ (sym (step.kept one early.0) ∙ held))
              (sym (settled_kept is other too.0) ∙ (sym (step.kept other too.0) ∙ also)))
              (λ late. absurd (omega (arith, early.1, late.1)))
              (held_after is after place step other who also))
              (λ late. ⊎_elim
              (λ early. absurd (omega (arith, early.1, late.1)))
              (λ too. step.seating.once one other who late.0 too.0 held also)
              (held_after is after place step other who also))
              (held_after is after place step one who held);
        };
        known = λ there each held. ⊎_elim
            (λ early. omega (arith, early.1, is.low))
            (λ late. late.2)
            (held_after is after place step there each held);
        sits = λ each low. ⊎_elim
            (λ equal. (place, step.here ∙ ap Some (sym equal)))
            (λ differs. let had = is.seated.sits each low in
            let old = held_freed is had.0 each differs had.1 in
            ⊎_elim
            (λ holds. (had.0, step.kept had.0 holds ∙ old))
            (λ fails. let still = step.still each (record { place = had.0; outside = fails; held = old }) in
            (still.place, still.held))
            (cases_Bool (is_in settled had.0)))
            (cases_eq each row);
      };
      kept = λ each holds. step.kept each holds ∙ settled_kept is each holds;
      here = step.here;
      new = step.outside;
      lowest = lowest is after place step;
    }
