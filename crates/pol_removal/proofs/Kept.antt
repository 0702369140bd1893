-- What is kept of a list, turned round, mapped or joined.
use Rattle.std.proofs.Common.{◌≡◌, Bool, true, false, cond, List, [], ◌∷◌, refl, ap, sym, ◌∙◌, Option, Some, None}
use Rattle.std.specs.Prelude.{filter, filter_map}
use Rattle.std.specs.List.{AllByRecursion, cons_option, flat_map}

-- two tests that agree on what is kept
pub filter_agrees : {X : Type 0} (one other keeps : X → Bool) → ((x : X) → keeps x ≡ true → one x ≡ other x)
    → (xs : List X) → filter one (filter keeps xs) ≡ filter other (filter keeps xs)
filter_agrees one other keeps agree [] = refl
filter_agrees {X} one other keeps agree (x ∷ xs) = go (keeps x) refl (filter_agrees one other keeps agree xs)
  where
    go : (kept : Bool) → keeps x ≡ kept → filter one (filter keeps xs) ≡ filter other (filter keeps xs) →
        filter one (cond kept (x ∷ filter keeps xs) (filter keeps xs))
        ≡ filter other (cond kept (x ∷ filter keeps xs) (filter keeps xs))
    go true is rest = rw (agree x is, rest) refl
    go false is rest = rest

-- what is given by the elements that are kept, where each is kept just if what it gives passes a test
pub filter_map_kept : {X Y : Type 0} (gives : X → Option Y) (keeps : X → Bool) (passes : Y → Bool) (xs : List X) →
    AllByRecursion (λ x. (y : Y) → gives x ≡ Some y → keeps x ≡ passes y) xs
    → filter_map gives (filter keeps xs) ≡ filter passes (filter_map gives xs)
filter_map_kept gives keeps passes [] all = refl
filter_map_kept {X} {Y} gives keeps passes (x ∷ xs) all = go (keeps x) (gives x) refl refl
    (filter_map_kept gives keeps passes xs all.1)
  where
    go : (kept : Bool) (given : Option Y) → keeps x ≡ kept → gives x ≡ given
        → filter_map gives (filter keeps xs) ≡ filter passes (filter_map gives xs) →
        filter_map gives (cond kept (x ∷ filter keeps xs) (filter keeps xs))
        ≡ filter passes (cons_option given (filter_map gives xs))
    go true None is gave same = rw gave same
    go false None is gave same = same
    go true (Some y) is gave same = let pass : passes y ≡ true = sym (all.0 y gave) ∙ is in
        rw (gave, pass) (ap (λ ys. y ∷ ys) same)
    go false (Some y) is gave same = let pass : passes y ≡ false = sym (all.0 y gave) ∙ is in rw pass same

-- two functions that agree on what is kept give the same joined
pub flat_map_kept : {X Y : Type 0} (one other : X → List Y) (keeps : X → Bool)
    → ((x : X) → keeps x ≡ true → one x ≡ other x) → (xs : List X) →
    flat_map one (filter keeps xs) ≡ flat_map other (filter keeps xs)
flat_map_kept one other keeps agree [] = refl
flat_map_kept {X} {Y} one other keeps agree (x ∷ xs) = go (keeps x) refl (flat_map_kept one other keeps agree xs)
  where
    go : (kept : Bool) → keeps x ≡ kept → flat_map one (filter keeps xs) ≡ flat_map other (filter keeps xs) →
        flat_map one (cond kept (x ∷ filter keeps xs) (filter keeps xs))
        ≡ flat_map other (cond kept (x ∷ filter keeps xs) (filter keeps xs))
    go true is rest = rw (agree x is, rest)
    go false is rest = rest
