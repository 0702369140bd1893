-- Filters that keep all, lists that are the same, and what is the same in both cases.
use Rattle.std.proofs.Common.{◌≡◌, Bool, true, false, cond, List, [], ◌∷◌, refl, ap}
use Rattle.std.specs.Prelude.{filter}
use Rattle.std.specs.List.{AllByRecursion}

-- a filter that keeps all
pub filter_all : {X : Type 0} (keeps : X → Bool) (xs : List X) → AllByRecursion (λ x. keeps x ≡ true) xs →
    filter keeps xs ≡ xs
filter_all keeps [] all = refl
filter_all keeps (x ∷ xs) all = rw all.0 (ap (λ others. x ∷ others) (filter_all keeps xs all.1))

-- two lists that are the same begin with the same
pub same_head : {X : Type 0} (x y : X) (xs ys : List X) → x ∷ xs ≡ y ∷ ys → x ≡ y
same_head x y xs ys is = cc

-- and go on with the same
pub same_tail : {X : Type 0} (x y : X) (xs ys : List X) → x ∷ xs ≡ y ∷ ys → xs ≡ ys
same_tail x y xs ys is = cc

-- the same in both cases
pub either : {A : Type 0} (x : A) (test : Bool) → cond test x x ≡ x
either x true = refl
either x false = refl
