-- Freeing the seats of a batch frees its rows.
use Rattle.std.proofs.Common.{◌≡◌, ℕ, suc, List, [], ◌∷◌, length, map, Option, Some, None, refl, ap, sym, ◌∙◌}
use Rattle.std.specs.Map.{keys_of}
use Rattle.std.specs.Option.{option_map}
use Rattle.std.specs.Str.{bytes_eq}
use Rattle.std.proofs.lemmas.Map.Made.{lookup-map_values}
use Rattle.pol_table.specs.HeldRows.{HeldRow, look, freed_from}
use Rattle.pol_table.specs.Places.{part_at, rows_of, seat_freed_from, IsSound}
use Rattle.pol_table.specs.declared.seat.Seat.{Seat}
use Rattle.pol_table.proofs.Mapped.{sound_changed, look_changed}
use Rattle.pol_table.proofs.Views.{length_rows_of}

-- each value is changed, and the keys stay
keys_changed : {K X : Type 0} (change : X → X) (entries : List (K × X))
    → keys_of (map (λ entry. (entry.0, change entry.1)) entries) ≡ keys_of entries
keys_changed change [] = refl
keys_changed change (entry ∷ entries) = ap (λ keys. entry.0 ∷ keys) (keys_changed change entries)

-- a change of each value makes no list longer
length_changed : {K X : Type 0} (change : X → X) (entries : List (K × X))
    → length {A = K × X} (map (λ entry. (entry.0, change entry.1)) entries) ≡ length entries
length_changed change [] = refl
length_changed change (entry ∷ entries) = ap suc (length_changed change entries)

module _ {T : Type 0} (seats : List (List ℕ × Seat)) (parts : List (Option T)) (batch : List ℕ)
    (sound : IsSound seats parts) where
  -- the seats once the batch has let go
  abbrev free_seats : List (List ℕ × Seat)
  free_seats = map (λ entry. (entry.0, seat_freed_from batch entry.1)) seats

  -- seats freed from a batch are sound
  pub sound_freed : IsSound (map (λ entry. (entry.0, seat_freed_from batch entry.1)) seats) parts
  sound_freed =
      sound_changed parts seats free_seats (λ tag. seat_freed_from batch) (λ tag seat. refl)
      (λ tag. lookup-map_values (seat_freed_from batch) (bytes_eq tag) seats) sound
      (rw (keys_changed (seat_freed_from batch) seats) sound.unique)
      (rw (length_changed (seat_freed_from batch) seats) sound.few)

  -- a row freed from a batch has the freed seat's holder
  alike : (seat : Seat) (found : Option T)
      → option_map (λ part. let row : HeldRow T =
      record { part = part; holder = (seat_freed_from batch seat).holder } in row) found
      ≡ option_map (freed_from batch) (option_map (λ part. let row : HeldRow T =
      record { part = part; holder = seat.holder } in row) found)
  alike seat None = refl
  alike seat (Some part) = refl

  -- so what is found of a tag is freed from the batch
  pub look_freed : (tag : List ℕ)
      → look tag (rows_of (map (λ entry. (entry.0, seat_freed_from batch entry.1)) seats) parts)
      ≡ option_map (freed_from batch) (look tag (rows_of seats parts))
  look_freed =
      look_changed parts seats free_seats (λ tag. seat_freed_from batch) (λ tag seat. refl)
      (λ tag. lookup-map_values (seat_freed_from batch) (bytes_eq tag) seats) sound sound_freed
      (λ tag. freed_from batch)
      (λ tag seat. alike seat (part_at parts seat.place))

  -- and there are as many rows
  pub length_freed : length (rows_of (map (λ entry. (entry.0, seat_freed_from batch entry.1)) seats) parts)
      ≡ length (rows_of seats parts)
  length_freed = length_rows_of free_seats parts sound_freed ∙ length_changed (seat_freed_from batch) seats
      ∙ sym (length_rows_of seats parts sound)
