-- A loop that forgets one value after another.
use Rattle.std.proofs.Common.{◌≡◌, ℕ, zero, suc, ◌+◌, ◌≤◌, Bool, true, false, cond, List, [], ◌∷◌, length, Option, Some}
use Rattle.std.proofs.Common.{None, refl, ap, add-one, arith}
use Rattle.std.specs.Prelude.{option_map}
use Rattle.std.specs.Map.{lookup}
use Rattle.indexmap.specs.IndexMap.{set_value_at}

-- a key with its value forgotten, before others with theirs forgotten
found_none : {X : Type 0} (test : Bool) (value : Option X) (here there : Option (Option X))
    → here ≡ option_map (λ last. None) there
    → cond test (Some None) here ≡ option_map (λ last. None) (cond test (Some value) there)
found_none true value here there same = refl
found_none false value here there same = same

module _ {K X : Type 0} where
  -- the entries, with the first of their values forgotten
  abbrev pub forgotten : ℕ → List (K × Option X) → List (K × Option X)
  forgotten zero entries = entries
  forgotten (suc count) [] = []
  forgotten (suc count) (entry ∷ entries) = (entry.0, None) ∷ forgotten count entries

  -- to forget values makes no list shorter
  pub length_forgotten : (count : ℕ) (entries : List (K × Option X)) → length (forgotten count entries) ≡ length entries
  length_forgotten zero entries = refl
  length_forgotten (suc count) [] = refl
  length_forgotten (suc count) (entry ∷ entries) = ap suc (length_forgotten count entries)

  -- the next value is forgotten
  next : (entries : List (K × Option X)) (place : ℕ) → set_value_at (forgotten place entries) place None
      ≡ forgotten (suc place) entries
  next [] zero = refl
  next [] (suc place) = refl
  next (entry ∷ entries) zero = refl
  next (entry ∷ entries) (suc place) = ap (λ rest. (entry.0, None) ∷ rest) (next entries place)

  -- one more is forgotten
  pub forgotten_next : (entries now : List (K × Option X)) (place : ℕ) → now ≡ forgotten place entries
      → set_value_at now place None ≡ forgotten (place + 1) entries
  forgotten_next entries now place is = rw (is, add-one place) (next entries place)

  -- once all are forgotten, each name has none
  pub all_forgotten : (test : K → Bool) (entries : List (K × Option X)) (count : ℕ) → length entries ≤ count
      → lookup test (forgotten count entries) ≡ option_map (λ last. None) (lookup test entries)
  all_forgotten test [] zero past = refl
  all_forgotten test [] (suc count) past = refl
  all_forgotten test (entry ∷ entries) zero past = absurd (omega arith)
  all_forgotten test (entry ∷ entries) (suc count) past =
      found_none (test entry.0) entry.1 (lookup test (forgotten count entries)) (lookup test entries)
      (all_forgotten test entries count (omega arith))
