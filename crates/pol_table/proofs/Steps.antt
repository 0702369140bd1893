-- A loop that writes each value of a list of entries in its turn.
use Rattle.std.proofs.Common.{◌≡◌, ℕ, zero, suc, ◌≤◌, List, [], ◌∷◌, ◌++◌, map, length, take, drop, slice_get, Some, unwrap_or, refl, sym, ap, ◌+◌, add-one, arith}
use Rattle.indexmap.specs.IndexMap.{set_value_at}

module _ {K X : Type 0} (change : X → X) where
  -- the first values are written
  abbrev pub written : ℕ → List (K × X) → List (K × X)
  written count entries = map (λ entry. (entry.0, change entry.1)) (take count entries) ++ drop count entries

  -- the next entry is written as the change says
  write_next : (entries : List (K × X)) (index : ℕ) (key : K) (value : X)
      → slice_get (written index entries) index ≡ Some (key, value)
      → set_value_at (written index entries) index (change value) ≡ written (suc index) entries
  write_next [] zero key value at = refl
  write_next [] (suc index) key value at = refl
  write_next (entry ∷ entries) zero key value at = ap (λ found.
      (entry.0, change (unwrap_or found entry).1) ∷ entries) (sym at)
  write_next (entry ∷ entries) (suc index) key value at = ap (λ rest. (entry.0, change entry.1) ∷ rest)
      (write_next entries index key value at)

  -- one more value is written
  pub written_next : (entries now : List (K × X)) (index : ℕ) (key : K) (value : X) → now ≡ written index entries
      → slice_get now index ≡ Some (key, value)
      → set_value_at now index (change value) ≡ written (index + 1) entries
  written_next entries now index key value is at = rw (is, add-one index)
      (write_next entries index key value (rw (← is) at))

  -- every value is written
  pub write_all : (entries : List (K × X)) (count : ℕ) → length entries ≤ count
      → written count entries ≡ map (λ entry. (entry.0, change entry.1)) entries
  write_all [] zero past = refl
  write_all [] (suc count) past = refl
  write_all (entry ∷ entries) zero past = absurd (omega arith)
  write_all (entry ∷ entries) (suc count) past = ap (λ rest. (entry.0, change entry.1) ∷ rest)
      (write_all entries count (omega arith))
