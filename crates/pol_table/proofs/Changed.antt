-- A row that is changed in its place.
use Rattle.std.proofs.Common.{◌≡◌, ℕ, suc, Bool, true, false, List, [], ◌∷◌, length, map, refl, ap}
use Rattle.std.specs.Prelude.{if◌then◌else◌}
use Rattle.std.specs.Map.{lookup}
use Rattle.std.specs.Option.{option_map}
use Rattle.std.specs.Str.{bytes_eq}
use Rattle.mtp_codes.proofs.Names.{same_true}

module _ {R : Type 0} (tag : List ℕ) (change : R → R) where
  -- the rows, that of the tag changed
  abbrev changed : List (List ℕ × R) → List (List ℕ × R)
  changed rows = map (λ row. if bytes_eq tag row.0 then (row.0, change row.1) else row) rows

  -- there are as many rows as before
  pub length_changed : (rows : List (List ℕ × R)) → length (changed rows) ≡ length rows
  length_changed [] = refl
  length_changed (row ∷ rows) = ap suc (length_changed rows)

  -- the tag has the changed row, and every other tag the row that it had
  pub look_changed : (rows : List (List ℕ × R)) (other : List ℕ)
      → lookup (bytes_eq other) (changed rows)
      ≡ option_map (λ row. if bytes_eq tag other then change row else row) (lookup (bytes_eq other) rows)
  look_changed [] other = refl
  look_changed (row ∷ rows) other =
      go (bytes_eq other row.0) refl (bytes_eq tag row.0) refl (look_changed rows other)
    where
      go : (found : Bool) → bytes_eq other row.0 ≡ found → (same : Bool) → bytes_eq tag row.0 ≡ same
          → lookup (bytes_eq other) (changed rows)
          ≡ option_map (λ row. if bytes_eq tag other then change row else row) (lookup (bytes_eq other) rows)
          → lookup (bytes_eq other) (changed (row ∷ rows))
          ≡ option_map (λ row. if bytes_eq tag other then change row else row) (lookup (bytes_eq other) (row ∷ rows))
      go true found true same rest = let one = same_true other row.0 found in rw (same, found, one, same) refl
      go true found false same rest = let one = same_true other row.0 found in rw (same, found, one, same) refl
      go false found true same rest = rw (same, found) rest
      go false found false same rest = rw (same, found) rest
