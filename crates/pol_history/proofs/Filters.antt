-- A filter of what another filter keeps.
use Rattle.std.proofs.Common.{◌≡◌, ◌≤◌, Bool, true, false, cond, List, [], ◌∷◌, ◌++◌, length, reverse, refl, sym, ap}
use Rattle.std.proofs.Common.{◌∙◌, append-nil, arith}
use Rattle.std.specs.Prelude.{◌&&◌, filter}
use Rattle.std.proofs.lemmas.List.{reverse-append}
use Rattle.std.proofs.lemmas.List.Elements.{filter-append}
use Rattle.std.specs.List.{AllByRecursion}

-- a filter that takes less, over an item that may be kept
kept_step : {X : Type 0} (takes : X → Bool) (x : X) (xs : List X) (kept taken : Bool) → takes x ≡ taken
    → (taken ≡ true → kept ≡ true) →
    filter takes (cond kept (x ∷ xs) xs) ≡ cond taken (x ∷ filter takes xs) (filter takes xs)
kept_step takes x xs true taken is keeps = rw is
kept_step takes x xs false true is keeps = let clash : false ≡ true = keeps refl in cc
kept_step takes x xs false false is keeps = refl

-- a filter that keeps all that another takes changes nothing for that other
pub filter_kept : {X : Type 0} (takes keeps : X → Bool) (xs : List X)
    → AllByRecursion (λ x. takes x ≡ true → keeps x ≡ true) xs →
    filter takes (filter keeps xs) ≡ filter takes xs
filter_kept takes keeps [] all = refl
filter_kept takes keeps (x ∷ xs) all = rw (
  kept_step takes x (filter keeps xs) (keeps x)
      (takes x) refl all.0,
  filter_kept takes keeps xs all.1,
)

-- a filter gives no more than there is
pub length_filter : {X : Type 0} (keeps : X → Bool) (xs : List X) → length (filter keeps xs) ≤ length xs
length_filter keeps [] = omega arith
length_filter {X} keeps (x ∷ xs) = go (keeps x) (length_filter keeps xs)
  where
    go : (kept : Bool) → length (filter keeps xs) ≤ length xs
        → length (cond kept (x ∷ filter keeps xs) (filter keeps xs)) ≤ length (x ∷ xs)
    go true shorter = omega arith
    go false shorter = omega arith

-- what holds of everything holds of each element
pub all_of : {X : Type 0} (P : X → Type 0) → ((x : X) → P x) → (xs : List X) → AllByRecursion P xs
all_of P each [] = tt
all_of P each (x ∷ xs) = (each x, all_of P each xs)

-- two filters in turn over one item, in either order
filters_step : {X : Type 0} (first second : X → Bool) (x : X) (xs ys : List X) (one two : Bool) → first x ≡ one
    → second x ≡ two → filter first xs ≡ filter second ys →
    filter first (cond two (x ∷ xs) xs) ≡ filter second (cond one (x ∷ ys) ys)
filters_step first second x xs ys true true is also same = rw (is, also, same)
filters_step first second x xs ys true false is also same = rw (also, same)
filters_step first second x xs ys false true is also same = rw (is, same)
filters_step first second x xs ys false false is also same = same

-- two filters can change places
pub filter_filter : {X : Type 0} (first second : X → Bool) (xs : List X)
    → filter first (filter second xs) ≡ filter second (filter first xs)
filter_filter first second [] = refl
filter_filter first second (x ∷ xs) =
    filters_step first second x (filter second xs) (filter first xs) (first x) (second x) refl refl
    (filter_filter first second xs)

-- two tests one after the other are one test
pub filter_both : {X : Type 0} (first second : X → Bool) (xs : List X)
    → filter (λ x. first x && second x) xs ≡ filter first (filter second xs)
filter_both first second [] = refl
filter_both {X} first second (x ∷ xs) = go (first x) (second x) refl (filter_both first second xs)
  where
    go : (one two : Bool) → first x ≡ one → filter (λ x. first x && second x) xs ≡ filter first (filter second xs) →
        cond (one && two) (x ∷ filter (λ x. first x && second x) xs) (filter (λ x. first x && second x) xs)
        ≡ filter first (cond two (x ∷ filter second xs) (filter second xs))
    go true true is rest = rw (is, rest) refl
    go true false is rest = rest
    go false true is rest = rw (is, rest) refl
    go false false is rest = rest

-- what is kept of a list that is turned round
pub filter_reverse : {X : Type 0} (keeps : X → Bool) (xs : List X)
    → reverse (filter keeps xs) ≡ filter keeps (reverse xs)
filter_reverse keeps [] = refl
filter_reverse {X} keeps (x ∷ xs) =
    sym (ap (filter keeps) (reverse-append (x ∷ []) xs) ∙ filter-append keeps (reverse xs) (x ∷ [])
    ∙ go (keeps x) (filter_reverse keeps xs))
  where
    go : (kept : Bool) → reverse (filter keeps xs) ≡ filter keeps (reverse xs) →
        filter keeps (reverse xs) ++ cond kept (x ∷ []) [] ≡ reverse (cond kept (x ∷ filter keeps xs) (filter keeps xs))
    go true same = ap (λ ys. ys ++ x ∷ []) (sym same) ∙ sym (reverse-append (x ∷ []) (filter keeps xs))
    go false same = append-nil (filter keeps (reverse xs)) ∙ sym same
