-- Tags as keys: a tag is equal to itself alone, and distinct tags find what stands with them.
use Rattle.std.proofs.Common.{◌≡◌, ℕ, Bool, true, false, List, [], ◌∷◌, Option, Some, None, refl}
use Rattle.std.specs.List.{AllByRecursion, IsDistinct}
use Rattle.std.specs.Map.{lookup, keys_of}
use Rattle.std.specs.Str.{bytes_eq}
use Rattle.mtp_codes.proofs.Names.{same_refl, same_true}

module _ {X : Type 0} where
  -- a tag that none of these equals is not found among them
  not_later : (tag : List ℕ) (entries : List (List ℕ × X))
      → AllByRecursion (λ other. bytes_eq tag other ≡ false) (keys_of entries) → lookup (bytes_eq tag) entries ≡ None
  not_later tag [] apart = refl
  not_later tag (entry ∷ entries) apart = rw apart.0 (not_later tag entries apart.1)

  -- what is none isn't some, whatever was to be shown
  clash : (found : Option X) (value : X) → found ≡ None → found ≡ Some value → (goal : Type 0) → goal
  clash found value none some goal = absurd (cc)

  -- a tag that is found among the later entries is not the first one
  later : (first tag : List ℕ) (value : X) (entries : List (List ℕ × X))
      → AllByRecursion (λ other. bytes_eq first other ≡ false) (keys_of entries)
      → lookup (bytes_eq tag) entries ≡ Some value → bytes_eq tag first ≡ false
  later first tag value entries apart found = go (bytes_eq tag first) refl
    where
      go : (same : Bool) → bytes_eq tag first ≡ same → bytes_eq tag first ≡ false
      go false is = is
      go true is =
          clash (lookup (bytes_eq tag) entries) value (rw (same_true tag first is) (not_later first entries apart))
          found
          (bytes_eq tag first ≡ false)

  -- what holds wherever a tag is found holds of each entry, where the tags are distinct
  pub each_entry : (P : List ℕ → X → Type 0) (entries : List (List ℕ × X)) → IsDistinct bytes_eq (keys_of entries)
      → ((tag : List ℕ) (value : X) → lookup (bytes_eq tag) entries ≡ Some value → P tag value)
      → AllByRecursion (λ entry. P entry.0 entry.1) entries
  unfolding IsDistinct
  each_entry P [] distinct found = tt
  each_entry P (entry ∷ entries) distinct found = (
    found entry.0 entry.1 (rw (same_refl entry.0) refl),
    each_entry P entries distinct.1 (λ tag value at. found tag value
        (rw (later entry.0 tag value entries distinct.0 at) at)),
  )
