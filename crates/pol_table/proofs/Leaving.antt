-- What the seat of a tag says of its leaving.
use Rattle.std.proofs.Common.{◌≡◌, ℕ, List, Option, Some, None, Ok, Err, ◌+◌, refl, sym, ap, ◌∙◌, is_some, true≢false}
use Rattle.std.specs.Prelude.{if◌then◌else◌, Result, unwrap_or}
use Rattle.std.specs.Result.{result_ok, result_err}
use Rattle.std.specs.Map.{lookup}
use Rattle.std.specs.Str.{bytes_eq}
use Rattle.pol_table.specs.HeldAnswers.{leaving}
use Rattle.pol_table.specs.Places.{part_at, rows_of, seat_leaving, seat_parting, IsSound}
use Rattle.pol_table.specs.Reasons.{parting}
use Rattle.pol_table.specs.declared.faults.LeaveFault.{LeaveFault}
use Rattle.pol_table.specs.declared.faults.LeaveFault.TheVariants.{Held, NoModule}
use Rattle.pol_table.specs.declared.seat.Seat.{Seat}
use Rattle.pol_table.proofs.Views.{some_of, no_row, row_with_part}

-- what is taken out where something is found is one
pub one_less : {A : Type 0} (taken : Option A) (value : A) (new old : ℕ) → taken ≡ Some value
    → new + (if is_some taken then 1 else 0) ≡ old → new + 1 ≡ old
one_less None value new old is len = absurd (true≢false (sym (ap is_some is)))
one_less (Some other) value new old is len = len

-- one fault is one, beside whatever else might be answered
same_fault : {A B E : Type 0} (one other : E) → ◌≡◌ {A = Result A E} (Err one) (Err other)
    → ◌≡◌ {A = Result B E} (Err one) (Err other)
same_fault {A} {B} {E} one other same = ap (λ r. let fault : Result B E =
    Err (unwrap_or (result_err r) other) in fault) same

-- a seat that may leave is the one that was found, and is free
pub found_free : (found : Option Seat) (seat : Seat) → seat_parting found ≡ Ok seat
    → (found ≡ Some seat) × (seat.holder ≡ None)
found_free None seat is = absurd (cc)
found_free (Some other) seat is = go other.holder refl is
  where
    go : (holder : Option (List ℕ)) → other.holder ≡ holder → parting other holder ≡ Ok seat
        → (Some other ≡ Some seat) × (seat.holder ≡ None)
    go None free same = let one : other ≡ seat = ap (λ r. unwrap_or (result_ok r) other) same in
        (ap Some one, sym (ap (λ s. s.holder) one) ∙ free)
    go (Some batch) free same = absurd (cc)

module _ {T : Type 0} (seats : List (List ℕ × Seat)) (parts : List (Option T)) (sound : IsSound seats parts)
    (tag : List ℕ) where
  -- a tag that may not leave by its seat may not leave
  pub leaving_refused : (fault : LeaveFault) → seat_leaving tag seats ≡ Err fault
      → leaving tag (rows_of seats parts) ≡ Err fault
  leaving_refused fault is = go (lookup (bytes_eq tag) seats) refl is
    where
      held : (seat : Seat) (holder : Option (List ℕ)) (part : T) → parting seat holder ≡ Err fault
          → parting part holder ≡ Err fault
      held seat None part same = absurd (cc)
      held seat (Some batch) part same = same_fault (Held batch) fault same

      go : (found : Option Seat) → lookup (bytes_eq tag) seats ≡ found → seat_parting found ≡ Err fault
          → leaving tag (rows_of seats parts) ≡ Err fault
      go None none same = rw (no_row seats parts sound tag none) (same_fault NoModule fault same)
      go (Some seat) some same = step (some_of (part_at parts seat.place) (sound.occupied tag seat some))
        where
          step : (part : T) × (part_at parts seat.place ≡ Some part) → leaving tag (rows_of seats parts) ≡ Err fault
          step (part, there) = rw (row_with_part seats parts sound tag seat some part there)
              (held seat seat.holder part same)

  -- a tag whose seat may leave gives its part
  pub leaving_free : (seat : Seat) (part : T) → seat_leaving tag seats ≡ Ok seat → part_at parts seat.place ≡ Some part
      → leaving tag (rows_of seats parts) ≡ Ok part
  leaving_free seat part is there =
      let found = found_free (lookup (bytes_eq tag) seats) seat is in
      rw (row_with_part seats parts sound tag seat found.0 part there, found.1) refl
