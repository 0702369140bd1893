-- One seat more, and one seat less: rows change at its tag alone, and the table stays sound.
use Rattle.std.proofs.Common.{◌≡◌, ◌≢◌, ℕ, ◌+◌, ◌<◌, ◌⊎◌, inl, inr, Bool, true, false, cond, List, length, Option, Some, None, refl, sym, ap, ◌∙◌, subst, arith, true≢false, is_some}
use Rattle.std.specs.Prelude.{if◌then◌else◌}
use Rattle.std.proofs.lemmas.Option.{same_Some}
use Rattle.std.specs.List.{IsDistinct}
use Rattle.std.specs.Map.{lookup, keys_of}
use Rattle.std.specs.Option.{option_and_then}
use Rattle.std.specs.Str.{bytes_eq}
use Rattle.mtp_codes.specs.declared.limits.TheConstants.{MOST_MODULES}
use Rattle.mtp_codes.proofs.Names.{same_refl, same_true}
use Rattle.pol_table.specs.HeldRows.{look}
use Rattle.pol_table.specs.Places.{part_at, row_at, rows_of, IsSound}
use Rattle.pol_table.specs.declared.seat.Seat.{Seat}
use Rattle.pol_table.proofs.Views.{look_rows_of, length_rows_of}

-- what is none isn't some
none_is_none : {A : Type 0} (found : Option A) (value : A) → found ≡ None → found ≡ Some value → ⊥
none_is_none found value none some = true≢false (sym (ap is_some some) ∙ ap is_some none)

-- what is put where nothing was is one more
pub one_more : {A : Type 0} (was : Option A) (found : Option A) (new kept old : ℕ) → was ≡ found → is_some found ≡ false
    → new ≡ kept + (if is_some was then 0 else 1) → kept ≡ old → new ≡ old + 1
one_more None found new kept old same none len unchanged = omega (arith, len, unchanged)
one_more (Some value) found new kept old same none len unchanged = absurd (true≢false (ap is_some same ∙ none))

-- a part docks: the tag has this seat, its place has the part, and nothing else changes
pub record Docks {T : Type 0} (tag : List ℕ) (seat : Seat) (part : T) (old new : List (List ℕ × Seat))
    (parts after : List (Option T)) : Type 0 where
  pub sound : IsSound old parts
  pub added : (other : List ℕ) → lookup (bytes_eq other) new
      ≡ cond (bytes_eq tag other) (Some seat) (lookup (bytes_eq other) old)
  pub vacant : part_at parts seat.place ≡ None
  pub docked : part_at after seat.place ≡ Some part
  pub others : (place : ℕ) → place ≢ seat.place → part_at after place ≡ part_at parts place
  pub unique : IsDistinct bytes_eq (keys_of new)
  pub count : length new ≡ length old + 1
  pub room : length old < MOST_MODULES

module _ {T : Type 0} (tag : List ℕ) (seat : Seat) (part : T) (old new : List (List ℕ × Seat))
    (parts after : List (Option T))
    (docks : Docks tag seat part old new parts after) where
  -- a tag that is found is the new one, or was found before
  found_after : (other : List ℕ) (value : Seat) → lookup (bytes_eq other) new ≡ Some value
      → ((tag ≡ other) × (value ≡ seat)) ⊎ (lookup (bytes_eq other) old ≡ Some value)
  found_after other value found = go (bytes_eq tag other) refl (sym (docks.added other) ∙ found)
    where
      go : (same : Bool) → bytes_eq tag other ≡ same → cond same (Some seat) (lookup (bytes_eq other) old) ≡ Some value
          → ((tag ≡ other) × (value ≡ seat)) ⊎ (lookup (bytes_eq other) old ≡ Some value)
      go true same is = inl (same_true tag other same, sym (same_Some _ _ is))
      go false same is = inr is

  -- a seat from before is at another place
  elsewhere : (other : List ℕ) (value : Seat) → lookup (bytes_eq other) old ≡ Some value → value.place ≢ seat.place
  elsewhere other value found same = true≢false (sym (docks.sound.occupied other value found)
      ∙ ap is_some (ap (part_at parts) same ∙ docks.vacant))

  -- seats with one more are sound over the parts with one more
  pub sound_docked : IsSound new after
  sound_docked = record {
    unique = docks.unique;
    occupied = λ other value found. elim (found_after other value found) [
      | inl is ↦ ap is_some (ap (part_at after) (ap (λ s. s.place) is.1) ∙ docks.docked)
      | inr kept ↦ ap is_some (docks.others value.place (elsewhere other value kept))
          ∙ docks.sound.occupied other value kept
    ];
    apart = λ first second here far found beside same. elim (found_after first here found) [
      | inl is ↦ elim (found_after second far beside) [
        | inl too ↦ sym is.0 ∙ too.0
        | inr kept ↦ absurd (elsewhere second far kept (sym same ∙ ap (λ s. s.place) is.1))
      ]
      | inr was ↦ elim (found_after second far beside) [
        | inl too ↦ absurd (elsewhere first here was (same ∙ ap (λ s. s.place) too.1))
        | inr kept ↦ docks.sound.apart first second here far was kept same
      ]
    ];
    few = let count = docks.count in let room = docks.room in omega (arith, count, room);
  }

  -- the new tag has the new row, and each other tag the one that it had
  pub look_docked : (other : List ℕ)
      → look other (rows_of new after)
      ≡ (if bytes_eq tag other then Some (record { part = part; holder = seat.holder })
      else look other (rows_of old parts))
  look_docked other =
      rw (look_rows_of new after sound_docked other, look_rows_of old parts docks.sound other, docks.added other)
      (go (bytes_eq tag other) (lookup (bytes_eq other) old) refl)
    where
      go : (same : Bool) (found : Option Seat) → lookup (bytes_eq other) old ≡ found
          → option_and_then (row_at after) (cond same (Some seat) found)
          ≡ (if same then Some (record { part = part; holder = seat.holder })
          else option_and_then (row_at parts) found)
      go true found is = rw docks.docked refl
      go false None is = refl
      go false (Some value) is = rw (docks.others value.place (elsewhere other value is)) refl

  -- and there is one row more
  pub length_docked : length (rows_of new after) ≡ length (rows_of old parts) + 1
  length_docked = length_rows_of new after sound_docked ∙ docks.count
      ∙ ap (λ n. n + 1) (sym (length_rows_of old parts docks.sound))

-- a part leaves: the tag has no seat any more, and nothing changes but at its place
pub record Leaves {T : Type 0} (tag : List ℕ) (seat : Seat) (old new : List (List ℕ × Seat))
    (parts after : List (Option T)) : Type 0 where
  pub sound : IsSound old parts
  pub seated : lookup (bytes_eq tag) old ≡ Some seat
  pub taken : (other : List ℕ) → lookup (bytes_eq other) new
      ≡ cond (bytes_eq tag other) None (lookup (bytes_eq other) old)
  pub others : (place : ℕ) → place ≢ seat.place → part_at after place ≡ part_at parts place
  pub unique : IsDistinct bytes_eq (keys_of new)
  pub count : length new + 1 ≡ length old

module _ {T : Type 0} (tag : List ℕ) (seat : Seat) (old new : List (List ℕ × Seat)) (parts after : List (Option T))
    (leaves : Leaves tag seat old new parts after) where
  -- a tag that is found was found before, and is another one
  found_before : (other : List ℕ) (value : Seat) → lookup (bytes_eq other) new ≡ Some value
      → (bytes_eq tag other ≡ false) × (lookup (bytes_eq other) old ≡ Some value)
  found_before other value found = go (bytes_eq tag other) refl (sym (leaves.taken other) ∙ found)
    where
      go : (same : Bool) → bytes_eq tag other ≡ same → cond same None (lookup (bytes_eq other) old) ≡ Some value
          → (bytes_eq tag other ≡ false) × (lookup (bytes_eq other) old ≡ Some value)
      go true same is = absurd (none_is_none None value refl is)
      go false same is = (same, is)

  -- the seat of another tag is at another place
  stays : (other : List ℕ) (value : Seat) → bytes_eq tag other ≡ false → lookup (bytes_eq other) old ≡ Some value
      → value.place ≢ seat.place
  stays other value apart found same =
      let one : tag ≡ other = leaves.sound.apart tag other seat value leaves.seated found (sym same) in
      true≢false (sym (same_refl other) ∙ subst (λ name. bytes_eq name other ≡ false) one apart)

  -- and over the parts where a free place was used
  pub sound_left : IsSound new after
  sound_left = record {
    unique = leaves.unique;
    occupied = λ other value found.
        let back = found_before other value found in
        ap is_some (leaves.others value.place (stays other value back.0 back.1))
        ∙ leaves.sound.occupied other value back.1;
    apart = λ first second here far found beside same.
        leaves.sound.apart first second here far (found_before first here found).1
        (found_before second far beside).1 same;
    few = let count = leaves.count in let few = leaves.sound.few in omega (arith, count, few);
  }

  -- the tag has no row, and each other tag the one that it had
  pub look_left : (other : List ℕ) → look other (rows_of new after)
      ≡ (if bytes_eq tag other then None else look other (rows_of old parts))
  look_left other =
      rw (look_rows_of new after sound_left other, look_rows_of old parts leaves.sound other, leaves.taken other)
      (go (bytes_eq tag other) (lookup (bytes_eq other) old) refl refl)
    where
      go : (same : Bool) (found : Option Seat) → bytes_eq tag other ≡ same → lookup (bytes_eq other) old ≡ found
          → option_and_then (row_at after) (cond same None found)
          ≡ (if same then None else option_and_then (row_at parts) found)
      go true found is at = refl
      go false None is at = refl
      go false (Some value) is at = rw (leaves.others value.place (stays other value is at)) refl

  -- and there is one row less
  pub length_left : length (rows_of new after) + 1 ≡ length (rows_of old parts)
  length_left = ap (λ n. n + 1) (length_rows_of new after sound_left) ∙ leaves.count
      ∙ sym (length_rows_of old parts leaves.sound)
