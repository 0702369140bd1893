-- All rows are seated one after the other, or the first that can't be shows that there is no assignment.
use Rattle.std.proofs.Common.{◌≡◌, ℕ, ◌+◌, ◌^◌, ◌<◌, true, false, Option, Some, None, List, length, arith, sym, ◌∙◌, ap}
use Rattle.std.proofs.Common.{⊎_elim}
use Rattle.std.specs.Prelude.{slice_index, is_some, MatchOption}
use Rattle.std.proofs.lemmas.Bool.{cases_eq}
use Rattle.pol_match.specs.Places.{is_in, has_all, passing, places_of, IsWithin}
use Rattle.pol_match.specs.Seats.{holder_at, Sits, IsSeated, IsStuck}
use Rattle.pol_match.specs.Assignments.{HaveNone, IsCrowded, AreSeated}
use Rattle.pol_match.proofs.PlaceSets.{nothing_in, test_from_within}
use Rattle.pol_match.proofs.Counting.{Has, passing_has, has_passing, passing_distinct, one_spare}
use Rattle.pol_match.proofs.ClosedSets.{IsConcerned, none_from_closed, holder_or, held_added}

-- who sits somewhere is one of the first rows
pub sits_below : (rows : List ℕ) (holders : List (Option ℕ)) (row set each : ℕ) → AreSeated rows holders row
    → Sits holders set each → each < row
sits_below rows holders row set each seated sits = seated.known sits.place each sits.held

-- the next row sits nowhere
pub next_alone : (rows : List ℕ) (holders : List (Option ℕ)) (row set : ℕ) → AreSeated rows holders row
    → Sits holders set row → ⊥
next_alone rows holders row set seated sits = let low = sits_below rows holders row set row seated sits in omega arith

-- at first no row is seated
pub none_seated : (rows : List ℕ) (holders : List (Option ℕ)) → ((place : ℕ) → holder_at holders place ≡ None)
    → AreSeated rows holders 0
none_seated rows holders free =
    record {
      seating = record {
        fit = λ place row held. let none = free place in cc;
        once = λ one other row out out_too held also. let none = free one in cc;
      };
      known = λ place each held. let none = free place in cc;
      sits = λ each low. absurd (omega arith);
    }

-- one more row is seated
pub one_more_seated : (rows : List ℕ) (before after : List (Option ℕ)) (row place : ℕ) → AreSeated rows before row
    → IsSeated rows before after 0 row place → AreSeated rows after (row + 1)
one_more_seated rows before after row place seated step =
    record {
      seating = step.seating;
      known = λ there each held. ⊎_elim
          (λ equal. omega arith)
          (λ sits. let low = sits_below rows before row 0 each seated sits in omega arith)
          (step.only each (record { place = there; outside = nothing_in there; held = held }));
      sits = λ each low. ⊎_elim
          (λ equal. (place, step.here ∙ ap Some (sym equal)))
          (λ apart. let there = seated.sits each (omega arith) in
          let still = step.still each (record { place = there.0; outside = nothing_in there.0; held = there.1 }) in
          (still.place, still.held))
          (cases_eq each row);
    }

-- where the next row is stuck, there is no assignment
pub none_where_stuck : (rows : List ℕ) (before after : List (Option ℕ)) (row set : ℕ) → row < length rows
    → AreSeated rows before row → IsStuck rows before after 0 set row → HaveNone rows
none_where_stuck rows before after row set low seated stuck places assignment =
    none_from_closed rows before 0 set row (slice_index places) seated.seating (next_alone rows before row 0 seated)
    stuck.closed
    (record {
      fit = λ each concerned. assignment.fit each (below each concerned);
      outside = λ each concerned. nothing_in (slice_index places each);
      once = λ one other concerned concerned_too equal. assignment.once one other (below one concerned)
          (below other concerned_too) equal;
    })
    (stuck.within (slice_index places row) (assignment.fit row low))
  where
    below : (each : ℕ) → IsConcerned rows before 0 set row each → each < length rows
    below each concerned = ⊎_elim
        (λ equal. omega arith)
        (λ sits. let lower = sits_below rows before row 0 each seated sits.0 in omega arith)
        concerned

-- where the next row is stuck, more rows fit the closed set alone than it has places
pub crowded_where_stuck : (rows : List ℕ) (before after : List (Option ℕ)) (row set : ℕ) → row < length rows
    → ((each : ℕ) → slice_index rows each < 2 ^ 64) → AreSeated rows before row → IsStuck rows before after 0 set row
    → IsCrowded rows set
unfolding places_of
crowded_where_stuck rows before after row set low small_rows seated stuck =
    one_spare (holder_or before) (passing (is_in set) 64) (passing (λ each. has_all set (slice_index rows each))
    (length rows)) row
    (passing_distinct (is_in set) 64)
    (λ place has.
    let held = held_here place has in
    there (holder_or before place) (known place has) held.1)
    (λ one other there_one there_too equal.
    let held = held_here one there_one in
    let also = held_here other there_too in
    seated.seating.once one other (holder_or before one) (nothing_in one) (nothing_in other) held.0
    (also.0 ∙ ap Some (sym equal)))
    (there row low stuck.within)
    (λ place has equal. let lower = seated.known place (holder_or before place) (held_here place has).0 in omega arith)
  where
    held_here : (place : ℕ) → Has (passing (is_in set) 64) place
        → (holder_at before place ≡ Some (holder_or before place))
        × IsWithin (slice_index rows (holder_or before place)) set
    held_here place has =
        held_added rows before 0 set place stuck.closed (has_passing (is_in set) 64 place has).1 (nothing_in place)

    known : (place : ℕ) → Has (passing (is_in set) 64) place → holder_or before place < length rows
    known place has = let lower = seated.known place (holder_or before place) (held_here place has).0 in omega arith

    there : (each : ℕ) → each < length rows → IsWithin (slice_index rows each) set
        → Has (passing (λ each. has_all set (slice_index rows each)) (length rows)) each
    there each inside within = passing_has (λ each. has_all set (slice_index rows each)) (length rows) each inside
        (test_from_within set (slice_index rows each) (small_rows each) within)

-- what is known of a row's seat by whether it got one
pub stuck_of : (Stuck : Type 0) (Seated : ℕ → Type 0) (place : Option ℕ) → MatchOption place Stuck Seated
    → is_some place ≡ false → Stuck
stuck_of Stuck Seated None known none = known
stuck_of Stuck Seated (Some place) known none = cc

-- a row that got a place is seated there
pub seated_of : (Stuck : Type 0) (Seated : ℕ → Type 0) (place : Option ℕ) → MatchOption place Stuck Seated
    → is_some place ≡ true → (each : ℕ) × Seated each
seated_of Stuck Seated None known some = cc
seated_of Stuck Seated (Some place) known some = (place, known)
