-- The candidates of tags, one after the other.
use Rattle.std.proofs.Common.{◌≡◌, ◌+◌, ℕ, zero, suc, Option, Some, None, List, [], ◌∷◌, ◌++◌, drop, refl, sym, ◌∙◌, ap}
use Rattle.std.proofs.Common.{append_assoc, add-one}
use Rattle.std.specs.Prelude.{filter_map, slice_get}
use Rattle.std.specs.List.{cons_option}
use Rattle.pol_match.specs.Fits.{PlainCandidate}

-- the tag at a place, and those behind it
cut_at : (tags : List (List ℕ)) (place : ℕ) (tag : List ℕ) → slice_get tags place ≡ Some tag →
    drop place tags ≡ tag ∷ drop (suc place) tags
cut_at [] place tag at = absurd cc
cut_at (first ∷ tags) zero tag at = let same : first ≡ tag = cc in ap (λ first. first ∷ tags) same
cut_at (first ∷ tags) (suc place) tag at = cut_at tags place tag at

-- where no tag stands there, none is left
pub cut_end : (tags : List (List ℕ)) (place : ℕ) → slice_get tags place ≡ None → drop place tags ≡ []
cut_end [] zero none = refl
cut_end [] (suc place) none = refl
cut_end (first ∷ tags) zero none = absurd cc
cut_end (first ∷ tags) (suc place) none = cut_end tags place none

-- one more tag is looked at, and told where it is a candidate
pub looked_next : (make : List ℕ → Option PlainCandidate) (tags : List (List ℕ)) (place : ℕ) (tag : List ℕ)
    (found : Option PlainCandidate) (before after total : List PlainCandidate) →
    slice_get tags place ≡ Some tag → found ≡ make tag →
    before ++ filter_map make (drop place tags) ≡ total → after ≡ before ++ cons_option found [] →
    after ++ filter_map make (drop (place + 1) tags) ≡ total
looked_next make tags place tag found before after total at is all told =
    rw add-one
    (ap (λ done. done ++ filter_map make (drop (suc place) tags)) told
    ∙ go found
    ∙ ap (λ found. before ++ cons_option found (filter_map make (drop (suc place) tags))) is
    ∙ ap (λ left. before ++ filter_map make left) (sym (cut_at tags place tag at))
    ∙ all)
  where
    go : (found : Option PlainCandidate) →
        (before ++ cons_option found []) ++ filter_map make (drop (suc place) tags)
        ≡ before ++ cons_option found (filter_map make (drop (suc place) tags))
    go found = append_assoc before (cons_option found []) _ ∙ ap (λ later. before ++ later) (one found)
      where
        one : (found : Option PlainCandidate) →
            cons_option found [] ++ filter_map make (drop (suc place) tags)
            ≡ cons_option found (filter_map make (drop (suc place) tags))
        one None = refl
        one (Some candidate) = refl
