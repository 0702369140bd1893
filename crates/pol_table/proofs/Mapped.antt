-- A change of seats that leaves each in its place: rows change alike, and the table stays sound.
use Rattle.std.proofs.Common.{◌≡◌, ℕ, ◌≤◌, List, length, Option, Some, None, refl, sym, ap, ◌∙◌, true≢false, is_some}
use Rattle.std.proofs.lemmas.Option.{same_Some}
use Rattle.std.specs.List.{IsDistinct}
use Rattle.std.specs.Map.{lookup, keys_of}
use Rattle.std.specs.Option.{option_map, option_and_then}
use Rattle.std.specs.Str.{bytes_eq}
use Rattle.mtp_codes.specs.declared.limits.TheConstants.{MOST_MODULES}
use Rattle.pol_table.specs.HeldRows.{HeldRow, look}
use Rattle.pol_table.specs.Places.{row_at, rows_of, IsSound}
use Rattle.pol_table.specs.declared.seat.Seat.{Seat}
use Rattle.pol_table.proofs.Views.{look_rows_of}

-- what is found after a change was found before it
before : {A : Type 0} (change : A → A) (found : Option A) (value : A) → option_map change found ≡ Some value
    → (old : A) × (found ≡ Some old) × (change old ≡ value)
before change None value is = absurd (true≢false (sym (ap is_some is)))
before change (Some old) value is = (old, refl, same_Some _ _ is)

module _ {T : Type 0} (parts : List (Option T)) (old new : List (List ℕ × Seat)) (change : List ℕ → Seat → Seat)
    (in_place : (tag : List ℕ) (seat : Seat) → (change tag seat).place ≡ seat.place)
    (changed : (tag : List ℕ) → lookup (bytes_eq tag) new ≡ option_map (change tag) (lookup (bytes_eq tag) old)) where
  -- a tag that has a seat had one in the same place
  was : (tag : List ℕ) (seat : Seat) → lookup (bytes_eq tag) new ≡ Some seat
      → (first : Seat) × (lookup (bytes_eq tag) old ≡ Some first) × (first.place ≡ seat.place)
  was tag seat found =
      let back = before (change tag) (lookup (bytes_eq tag) old) seat (sym (changed tag) ∙ found) in
      (back.0, back.1, sym (in_place tag back.0) ∙ ap (λ s. s.place) back.2)

  -- so seats that stay in their places are sound
  pub sound_changed : IsSound old parts → IsDistinct bytes_eq (keys_of new) → length new ≤ MOST_MODULES
      → IsSound new parts
  sound_changed sound unique few = record {
    unique = unique;
    occupied = λ tag seat found. let back = was tag seat found in rw (← back.2) (sound.occupied tag back.0 back.1);
    apart = λ tag other seat next found beside same.
        let back = was tag seat found in
        let far = was other next beside in
        sound.apart tag other back.0 far.0 back.1 far.1 (back.2 ∙ same ∙ sym far.2);
    few = few;
  }

  -- the rows change as the seats do
  pub look_changed : IsSound old parts → IsSound new parts → (give : List ℕ → HeldRow T → HeldRow T)
      → ((tag : List ℕ) (seat : Seat) → row_at parts (change tag seat) ≡ option_map (give tag) (row_at parts seat))
      → (tag : List ℕ) → look tag (rows_of new parts) ≡ option_map (give tag) (look tag (rows_of old parts))
  look_changed sound after give alike tag =
      rw (look_rows_of new parts after tag, look_rows_of old parts sound tag, changed tag)
      (go (lookup (bytes_eq tag) old))
    where
      go : (found : Option Seat)
          → option_and_then (row_at parts) (option_map (change tag) found)
          ≡ option_map (give tag) (option_and_then (row_at parts) found)
      go None = refl
      go (Some seat) = alike tag seat
