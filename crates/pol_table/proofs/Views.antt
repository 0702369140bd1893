-- What the seats of a table say of its rows.
use Rattle.std.proofs.Common.{◌≡◌, ℕ, suc, Bool, true, false, cond, List, [], ◌∷◌, length, Option, Some, None, is_some, refl, sym, ap, true≢false}
use Rattle.std.specs.Prelude.{IsSome}
use Rattle.std.specs.List.{AllByRecursion}
use Rattle.std.specs.Map.{lookup, keys_of}
use Rattle.std.specs.Option.{option_map, option_and_then}
use Rattle.std.specs.Str.{bytes_eq}
use Rattle.pol_table.specs.HeldRows.{HeldRow, look, part_of, holder_of}
use Rattle.pol_table.specs.HeldAnswers.{dock_fault}
use Rattle.pol_table.specs.Reasons.{dock_reason}
use Rattle.pol_table.specs.Places.{part_at, row_at, rows_of, seat_holder, IsSound}
use Rattle.pol_table.specs.declared.seat.Seat.{Seat}
use Rattle.pol_table.proofs.Tags.{each_entry}

-- what is some has a value
pub some_of : {A : Type 0} (found : Option A) → IsSome found → (value : A) × (found ≡ Some value)
some_of None is = absurd (true≢false (sym is))
some_of (Some value) is = (value, refl)

-- what is made of the first that is found, or of the rest
first_or_rest : {A B : Type 0} (same : Bool) (f : A → Option B) (first : A) (rest : Option A) (value : B)
    → f first ≡ Some value
    → cond same (Some value) (option_and_then f rest) ≡ option_and_then f (cond same (Some first) rest)
first_or_rest true f first rest value at = sym at
first_or_rest false f first rest value at = refl

module _ {T : Type 0} where
  -- the part of a row is the one that was found
  same_part : (found : Option T) (holder : Option (List ℕ))
      → option_map (λ row. row.part)
      (option_map (λ part. let row : HeldRow T = record { part = part; holder = holder } in row) found) ≡ found
  same_part None holder = refl
  same_part (Some part) holder = refl

  -- its holder is the seat's
  same_holder : (found : Option T) (holder : Option (List ℕ)) → IsSome found
      → option_and_then (λ row. row.holder)
      (option_map (λ part. let row : HeldRow T = record { part = part; holder = holder } in row) found) ≡ holder
  same_holder None holder is = absurd (true≢false (sym is))
  same_holder (Some part) holder is = refl

  -- and the row is there
  some_row : (found : Option T) (holder : Option (List ℕ)) → IsSome found
      → is_some (option_map (λ part. let row : HeldRow T = record { part = part; holder = holder } in row) found)
      ≡ true
  some_row None holder is = is
  some_row (Some part) holder is = refl

  -- the row of a tag is that of its seat
  found_in : (seats : List (List ℕ × Seat)) (parts : List (Option T))
      → AllByRecursion (λ entry. IsSome (part_at parts entry.1.place)) seats
      → (tag : List ℕ) → look tag (rows_of seats parts) ≡ option_and_then (row_at parts)
      (lookup (bytes_eq tag) seats)
  found_in [] parts all tag = refl
  found_in (entry ∷ seats) parts all tag = go (some_of (part_at parts entry.1.place) all.0)
      (found_in seats parts all.1 tag)
    where
      go : (part : T) × (part_at parts entry.1.place ≡ Some part)
          → look tag (rows_of seats parts) ≡ option_and_then (row_at parts) (lookup (bytes_eq tag) seats)
          → look tag (rows_of (entry ∷ seats) parts) ≡ option_and_then (row_at parts)
          (lookup (bytes_eq tag) (entry ∷ seats))
      go (part, is) rest =
          let row : row_at parts entry.1 ≡ Some (record { part = part; holder = entry.1.holder }) = rw is refl in
          rw (row, rest)
          (first_or_rest (bytes_eq tag entry.0) (row_at parts) entry.1 (lookup (bytes_eq tag) seats)
          (record { part = part; holder = entry.1.holder }) row)

  -- there are as many rows as seats
  count_of : (seats : List (List ℕ × Seat)) (parts : List (Option T))
      → AllByRecursion (λ entry. IsSome (part_at parts entry.1.place)) seats
      → length (rows_of seats parts) ≡ length seats
  count_of [] parts all = refl
  count_of (entry ∷ seats) parts all = go (some_of (part_at parts entry.1.place) all.0) (count_of seats parts all.1)
    where
      go : (part : T) × (part_at parts entry.1.place ≡ Some part) → length (rows_of seats parts) ≡ length seats
          → length (rows_of (entry ∷ seats) parts) ≡ length (entry ∷ seats)
      go (part, is) rest = rw is (ap suc rest)

  -- where each place has a part, the rows have the tags of the seats
  tags_of : (seats : List (List ℕ × Seat)) (parts : List (Option T))
      → AllByRecursion (λ entry. IsSome (part_at parts entry.1.place)) seats
      → keys_of (rows_of seats parts) ≡ keys_of seats
  tags_of [] parts all = refl
  tags_of (entry ∷ seats) parts all = go (some_of (part_at parts entry.1.place) all.0) (tags_of seats parts all.1)
    where
      go : (part : T) × (part_at parts entry.1.place ≡ Some part) → keys_of (rows_of seats parts) ≡ keys_of seats
          → keys_of (rows_of (entry ∷ seats) parts) ≡ keys_of (entry ∷ seats)
      go (part, is) rest = rw is (ap (λ tags. entry.0 ∷ tags) rest)

  module _ (seats : List (List ℕ × Seat)) (parts : List (Option T)) (sound : IsSound seats parts) where
    occupied : AllByRecursion (λ entry. IsSome (part_at parts entry.1.place)) seats
    occupied = each_entry (λ tag seat. IsSome (part_at parts seat.place)) seats sound.unique sound.occupied

    -- a tag has the row of its seat
    pub look_rows_of : (tag : List ℕ) → look tag (rows_of seats parts)
        ≡ option_and_then (row_at parts) (lookup (bytes_eq tag) seats)
    look_rows_of = found_in seats parts occupied

    -- there are as many rows as seats
    pub length_rows_of : length (rows_of seats parts) ≡ length seats
    length_rows_of = count_of seats parts occupied

    -- the rows have the tags of the seats
    pub keys_rows_of : keys_of (rows_of seats parts) ≡ keys_of seats
    keys_rows_of = tags_of seats parts occupied

    -- a tag is docked where it has a seat
    pub is_some_look : (tag : List ℕ) → is_some (look tag (rows_of seats parts))
        ≡ is_some (lookup (bytes_eq tag) seats)
    is_some_look tag = rw (look_rows_of tag) (go (lookup (bytes_eq tag) seats) refl)
      where
        go : (seat : Option Seat) → lookup (bytes_eq tag) seats ≡ seat
            → is_some (option_and_then (row_at parts) seat) ≡ is_some seat
        go None none = refl
        go (Some seat) found = some_row (part_at parts seat.place) seat.holder (sound.occupied tag seat found)

    -- why nothing may dock under a tag, by the seats
    pub dock_fault_seats : (tag : List ℕ) → dock_fault tag (rows_of seats parts)
        ≡ dock_reason (is_some (lookup (bytes_eq tag) seats)) (length seats)
    dock_fault_seats tag = rw (is_some_look tag, length_rows_of) refl

    -- a tag has the holder of its seat
    pub holder_rows_of : (tag : List ℕ) → holder_of tag (rows_of seats parts) ≡ seat_holder tag seats
    holder_rows_of tag = rw (look_rows_of tag) (go (lookup (bytes_eq tag) seats) refl)
      where
        go : (seat : Option Seat) → lookup (bytes_eq tag) seats ≡ seat
            → option_and_then (λ row. row.holder) (option_and_then (row_at parts) seat)
            ≡ option_and_then (λ held. held.holder) seat
        go None none = refl
        go (Some seat) found = same_holder (part_at parts seat.place) seat.holder (sound.occupied tag seat found)

    module _ (tag : List ℕ) where
      -- a tag without a seat has no row
      pub no_row : lookup (bytes_eq tag) seats ≡ None → look tag (rows_of seats parts) ≡ None
      no_row none = rw (look_rows_of tag, none) refl

      module _ (seat : Seat) (found : lookup (bytes_eq tag) seats ≡ Some seat) where
        -- a tag with a seat has its row
        pub row_of_seat : look tag (rows_of seats parts) ≡ row_at parts seat
        row_of_seat = rw (look_rows_of tag, found) refl

        -- and its part
        pub part_of_seat : part_of tag (rows_of seats parts) ≡ part_at parts seat.place
        part_of_seat = rw row_of_seat (same_part (part_at parts seat.place) seat.holder)

        -- its row is of this part
        pub row_with_part : (part : T) → part_at parts seat.place ≡ Some part
            → look tag (rows_of seats parts) ≡ Some (record { part = part; holder = seat.holder })
        row_with_part part is = rw (row_of_seat, is) refl
