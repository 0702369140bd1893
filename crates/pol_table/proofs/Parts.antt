-- A part that is changed in its place.
use Rattle.std.proofs.Common.{◌≡◌, ◌≢◌, ℕ, zero, suc, ◌<◌, Bool, true, false, List, [], ◌∷◌, length, Option, Some, None, refl, sym, ap, subst, ◌∙◌, arith, true≢false}
use Rattle.std.specs.Prelude.{IsSome, slice_set}
use Rattle.std.specs.List.{AllByRecursion}
use Rattle.std.specs.Map.{lookup}
use Rattle.std.specs.Str.{bytes_eq}
use Rattle.std.proofs.lemmas.List.{get_or-set_same, get_or-set_other}
use Rattle.std.proofs.lemmas.Option.{same_Some}
use Rattle.mtp_codes.proofs.Names.{same_refl, same_true}
use Rattle.pol_table.specs.HeldRows.{with_part}
use Rattle.pol_table.specs.Places.{part_at, rows_of, IsSound}
use Rattle.pol_table.specs.declared.seat.Seat.{Seat}
use Rattle.pol_table.proofs.Tags.{each_entry}
use Rattle.pol_table.proofs.Views.{some_of}

-- a place where a part is lies within the list
within : {T : Type 0} (parts : List (Option T)) (place : ℕ) → IsSome (part_at parts place) → place < length parts
within [] place is = absurd (true≢false (sym is))
within (first ∷ parts) zero is = omega arith
within (first ∷ parts) (suc place) is = let inside : place < length parts = within parts place is in
    omega (arith, inside)

module _ {T : Type 0} (parts : List (Option T)) (tag : List ℕ) (place : ℕ) (part : T)
    (there : IsSome (part_at parts place)) where
  -- each entry of the tag is at the place, and every other one elsewhere
  rows_set : (seats : List (List ℕ × Seat))
      → AllByRecursion (λ entry. (bytes_eq tag entry.0 ≡ true → entry.1.place ≡ place)
      × (bytes_eq tag entry.0 ≡ false → entry.1.place ≢ place) × IsSome (part_at parts entry.1.place)) seats
      → rows_of seats (slice_set parts place (Some part)) ≡ with_part tag (rows_of seats parts) part
  rows_set [] all = refl
  rows_set (entry ∷ seats) all = go (some_of (part_at parts entry.1.place) all.0.2) (bytes_eq tag entry.0) refl
      (rows_set seats all.1)
    where
      go : (old : T) × (part_at parts entry.1.place ≡ Some old) → (same : Bool) → bytes_eq tag entry.0 ≡ same
          → rows_of seats (slice_set parts place (Some part)) ≡ with_part tag (rows_of seats parts) part
          → rows_of (entry ∷ seats) (slice_set parts place (Some part))
          ≡ with_part tag (rows_of (entry ∷ seats) parts) part
      go (old, is) true same rest =
          let new : part_at (slice_set parts place (Some part)) entry.1.place ≡ Some part =
          rw (all.0.0 same) (get_or-set_same parts place (Some part) None (within parts place there)) in
          rw (new, is, same) (ap (λ more. (entry.0, record { part = part; holder = entry.1.holder }) ∷ more) rest)
      go (old, is) false same rest =
          let new : part_at (slice_set parts place (Some part)) entry.1.place ≡ Some old =
          get_or-set_other parts place entry.1.place (Some part) None (all.0.1 same) ∙ is in
          rw (new, is, same) (ap (λ more. (entry.0, record { part = old; holder = entry.1.holder }) ∷ more) rest)

-- a part that is set at the place of a tag's seat is set in the tag's row
pub rows_set_part : {T : Type 0} (seats : List (List ℕ × Seat)) (parts : List (Option T)) (tag : List ℕ)
    (seat : Seat) (part : T)
    → IsSound seats parts → lookup (bytes_eq tag) seats ≡ Some seat
    → rows_of seats (slice_set parts seat.place (Some part)) ≡ with_part tag (rows_of seats parts) part
rows_set_part seats parts tag seat part sound found =
    rows_set parts tag seat.place part (sound.occupied tag seat found) seats
    (each_entry (λ name other. (bytes_eq tag name ≡ true → other.place ≡ seat.place)
    × (bytes_eq tag name ≡ false → other.place ≢ seat.place) × IsSome (part_at parts other.place))
    seats sound.unique
    (λ name other at. (
      (λ same.
          let here : lookup (bytes_eq name) seats ≡ Some seat = rw (← same_true tag name same) found in
          ap (λ s. s.place) (same_Some other seat (sym at ∙ here))),
      (λ apart same.
          let one : tag ≡ name = sound.apart tag name seat other found at (sym same) in
          true≢false (sym (same_refl name) ∙ subst (λ label. bytes_eq label name ≡ false) one apart)),
      sound.occupied name other at,
    )))
