-- What the seats say of the holding of tags is what the rows say.
use Rattle.std.proofs.Common.{◌≡◌, ℕ, Bool, true, false, List, [], ◌∷◌, length, Option, Some, None, refl, sym, ap, ◌∙◌, is_some, map}
use Rattle.std.specs.Prelude.{if◌then◌else◌}
use Rattle.std.specs.List.{IsDistinct}
use Rattle.std.specs.Map.{lookup, keys_of}
use Rattle.std.specs.Option.{option_map, option_and_then}
use Rattle.std.specs.Str.{bytes_eq}
use Rattle.mtp_codes.specs.Faults.{first_of}
use Rattle.mtp_codes.specs.Names.{is_among}
use Rattle.pol_table.specs.HeldAnswers.{missing_at, busy_at}
use Rattle.pol_table.specs.HeldRows.{HeldRow, look, held_by}
use Rattle.pol_table.specs.Reasons.{missing_reason, busy_reason}
use Rattle.pol_table.specs.Places.{part_at, row_at, rows_of, seat_missing_at, seat_busy_at, seat_held_by, IsSound}
use Rattle.pol_table.specs.declared.seat.Seat.{Seat}
use Rattle.pol_table.proofs.Mapped.{sound_changed, look_changed}
use Rattle.pol_table.proofs.Views.{look_rows_of, length_rows_of, holder_rows_of, some_of}

-- answers that agree at each item agree on the first
pub first_alike : {A B : Type 0} (one other : A → Option B) → ((item : A) → one item ≡ other item) → (items : List A)
    → first_of (map one items) ≡ first_of (map other items)
first_alike one other same [] = refl
first_alike one other same (item ∷ items) = rw (same item, first_alike one other same items) refl

module _ {T : Type 0} (seats : List (List ℕ × Seat)) (parts : List (Option T)) (sound : IsSound seats parts) where
  -- a tag is missing among the seats where it is among the rows
  missing_alike : (tag : List ℕ) → seat_missing_at seats tag ≡ missing_at (rows_of seats parts) tag
  missing_alike tag = rw (look_rows_of seats parts sound tag) (go (lookup (bytes_eq tag) seats) refl)
    where
      go : (found : Option Seat) → lookup (bytes_eq tag) seats ≡ found
          → missing_reason tag (is_some found) ≡ missing_reason tag (is_some (option_and_then (row_at parts) found))
      go None is = refl
      go (Some seat) is = step (some_of (part_at parts seat.place) (sound.occupied tag seat is))
        where
          step : (part : T) × (part_at parts seat.place ≡ Some part)
              → None ≡ missing_reason tag (is_some (row_at parts seat))
          step (part, there) = rw there refl

  -- and busy where it is among the rows
  busy_alike : (tag : List ℕ) → seat_busy_at seats tag ≡ busy_at (rows_of seats parts) tag
  busy_alike tag = ap (busy_reason tag) (sym (holder_rows_of seats parts sound tag))

  -- the first tag without a seat is the first that is not docked
  pub first_missing : (tags : List (List ℕ)) → first_of (map (seat_missing_at seats) tags)
      ≡ first_of (map (missing_at (rows_of seats parts)) tags)
  first_missing = first_alike (seat_missing_at seats) (missing_at (rows_of seats parts)) missing_alike

  -- the first tag whose seat is held is the first that is held
  pub first_busy : (tags : List (List ℕ)) → first_of (map (seat_busy_at seats) tags)
      ≡ first_of (map (busy_at (rows_of seats parts)) tags)
  first_busy = first_alike (seat_busy_at seats) (busy_at (rows_of seats parts)) busy_alike

-- some seats are held now, and nothing else changes
pub record Holds {T : Type 0} (tags : List (List ℕ)) (batch : List ℕ) (old new : List (List ℕ × Seat))
    (parts : List (Option T)) : Type 0 where
  pub sound : IsSound old parts
  pub held : (tag : List ℕ)
      → lookup (bytes_eq tag) new
      ≡ option_map (λ seat. if is_among tags tag then seat_held_by batch seat else seat) (lookup (bytes_eq tag) old)
  pub len : length new ≡ length old
  pub unique : IsDistinct bytes_eq (keys_of new)

module _ {T : Type 0} (tags : List (List ℕ)) (batch : List ℕ) (old new : List (List ℕ × Seat)) (parts : List (Option T))
    (holds : Holds tags batch old new parts) where
  -- to hold a seat doesn't move it
  in_place : (tag : List ℕ) (seat : Seat)
      → (if is_among tags tag then seat_held_by batch seat else seat).place ≡ seat.place
  in_place tag seat = go (is_among tags tag)
    where
      go : (among : Bool) → (if among then seat_held_by batch seat else seat).place ≡ seat.place
      go true = refl
      go false = refl

  -- so seats that are held are sound
  pub sound_held : IsSound new parts
  sound_held =
      sound_changed parts old new (λ tag seat. if is_among tags tag then seat_held_by batch seat else seat) in_place
      holds.held holds.sound
      holds.unique (rw holds.len holds.sound.few)

  -- a row that is held has the held seat's holder
  alike : (among : Bool) (seat : Seat) (found : Option T)
      → option_map (λ part. let row : HeldRow T = record {
        part = part;
        holder =
            (if among then seat_held_by batch seat else seat).holder;
      } in row) found
      ≡ option_map (λ row. if among then held_by batch row else row)
      (option_map (λ part. let row : HeldRow T = record { part = part; holder = seat.holder } in row) found)
  alike true seat None = refl
  alike true seat (Some part) = refl
  alike false seat None = refl
  alike false seat (Some part) = refl

  -- and the part that it had
  placed : (among : Bool) (seat : Seat) → part_at parts (if among then seat_held_by batch seat else seat).place
      ≡ part_at parts seat.place
  placed true seat = refl
  placed false seat = refl

  -- so what is found of a tag is held where the tag is among those
  pub look_held : (tag : List ℕ)
      → look tag (rows_of new parts)
      ≡ option_map (λ row. if is_among tags tag then held_by batch row else row) (look tag (rows_of old parts))
  look_held =
      look_changed parts old new (λ tag seat. if is_among tags tag then seat_held_by batch seat else seat) in_place
      holds.held holds.sound sound_held
      (λ tag row. if is_among tags tag then held_by batch row else row)
      (λ tag seat. rw (placed (is_among tags tag) seat) (alike (is_among tags tag) seat (part_at parts seat.place)))

  -- and there are as many rows
  pub length_held : length (rows_of new parts) ≡ length (rows_of old parts)
  length_held = length_rows_of new parts sound_held ∙ holds.len ∙ sym (length_rows_of old parts holds.sound)
