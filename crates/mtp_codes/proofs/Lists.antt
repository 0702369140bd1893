-- Lists: what holds of all their items, what none of them passes, and how many are made of them.
use Rattle.std.proofs.Common.{◌≡◌, ◌≤◌, ◌∙◌, suc, List, [], ◌∷◌, ◌++◌, length, reverse, Bool, false, Option, None, Some, append_assoc, refl, sym, ap, subst, arith}
use Rattle.std.proofs.lemmas.List.{reverse-append}
use Rattle.std.specs.List.{AllByRecursion, cons_option, filter_map, list_any}

-- what holds of all items of two lists holds of all of them together
pub all_append : {A : Type 0} (P : A → Type 0) (xs ys : List A) → AllByRecursion P xs → AllByRecursion P ys
    → AllByRecursion P (xs ++ ys)
all_append P [] ys first second = second
all_append P (x ∷ xs) ys first second = (first.0, all_append P xs ys first.1 second)

-- what holds of all in one order holds of all in the other
pub all_reverse : {A : Type 0} (P : A → Type 0) (xs : List A) → AllByRecursion P xs → AllByRecursion P (reverse xs)
all_reverse P [] all = tt
all_reverse P (x ∷ xs) all =
    subst (AllByRecursion P) (sym (reverse-append (x ∷ []) xs))
    (all_append P (reverse xs) (x ∷ []) (all_reverse P xs all.1) (all.0, tt))

-- the first of a list that is turned round before others stands next to the others
pub reverse_next : {A : Type 0} (front : List A) (x : A) (rest : List A)
    → reverse (x ∷ front) ++ rest ≡ reverse front ++ x ∷ rest
reverse_next front x rest =
    ap (λ turned. turned ++ rest) (reverse-append (x ∷ []) front) ∙ append_assoc (reverse front) (x ∷ []) rest

-- where no item passes a test, none of the list does
pub none_any : {A : Type 0} (test : A → Bool) (xs : List A) → ((x : A) → test x ≡ false) → list_any test xs ≡ false
none_any test [] none = refl
none_any test (x ∷ xs) none = rw (none x) (none_any test xs none)

-- what is made of some of a list's items is no more than they are
pub length_filter_map : {A B : Type 0} (make : A → Option B) (xs : List A) → length (filter_map make xs) ≤ length xs
length_filter_map make [] = omega arith
length_filter_map {A} {B} make (x ∷ xs) = go (make x) (length_filter_map make xs)
  where
    go : (made : Option B) → length (filter_map make xs) ≤ length xs →
        length (cons_option made (filter_map make xs)) ≤ suc (length xs)
    go None few = omega (arith, few)
    go (Some y) few = omega (arith, few)
