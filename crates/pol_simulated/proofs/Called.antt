-- Lists whose items have names, no two the same: one item is replaced by another of its name.
use Rattle.std.proofs.Common.{◌≡◌, ℕ, suc, zero, Bool, true, false, cond, List, [], ◌∷◌, Option, Some, refl, ap, sym}
use Rattle.std.proofs.Common.{◌∙◌}
use Rattle.std.specs.Prelude.{◌||◌, find, map, slice_get, slice_set}
use Rattle.std.specs.List.{list_any}
use Rattle.std.specs.Str.{bytes_eq}
use Rattle.std.proofs.lemmas.Option.{same_Some}
use Rattle.std.proofs.lemmas.Bool.{or_parts}
use Rattle.mtp_codes.proofs.Names.{same_true, same_refl}
use Rattle.mtp_codes.specs.Repeats.{repeats_by}
use Rattle.mtp_sim.proofs.Edges.{none_at}
use Rattle.mtp_sim.specs.declared.service.SimService.{SimService}

-- the name of a service
abbrev pub service_name : SimService → List ℕ
service_name service = service.name

-- where the element at a place is replaced by one of its name, that one is found in its place
pub called_set : {A : Type 0} (name_of : A → List ℕ) (xs : List A) (place : ℕ) (old new : A) (name : List ℕ)
    → repeats_by (λ one other. bytes_eq (name_of one) (name_of other)) xs ≡ false → slice_get xs place ≡ Some old
    → name_of new ≡ name_of old
    → find (λ each. bytes_eq (name_of each) name) (slice_set xs place new)
    ≡ cond (bytes_eq (name_of old) name) (Some new) (find (λ each. bytes_eq (name_of each) name) xs)
called_set name_of [] place old new name unlike at named = cc
called_set {A} name_of (first ∷ others) zero old new name unlike at named =
    let same : first ≡ old = same_Some first old at in
    let names : name_of new ≡ name_of first = named ∙ ap name_of (sym same) in
    go (bytes_eq (name_of new) name) (bytes_eq (name_of old) name) (bytes_eq (name_of first) name)
    (ap (λ n. bytes_eq n name) names)
    (ap (λ each. bytes_eq (name_of each) name) (sym same))
  where
    rest : Option A
    rest = find (λ each. bytes_eq (name_of each) name) others

    go : (a b c : Bool) → a ≡ c → b ≡ c → cond a (Some new) rest ≡ cond b (Some new) (cond c (Some first) rest)
    go a b true e f = rw (e, f) refl
    go a b false e f = rw (e, f) refl
called_set {A} name_of (first ∷ others) (suc place) old new name unlike at named =
    let parts = or_parts (list_any (λ other. bytes_eq (name_of first) (name_of other)) others)
    (repeats_by (λ one other. bytes_eq (name_of one) (name_of other)) others) unlike in
    let other : bytes_eq (name_of first) (name_of old) ≡ false =
    none_at (λ other. bytes_eq (name_of first) (name_of other)) others place old parts.0 at in
    rw (called_set name_of others place old new name parts.1 at named)
    (go (bytes_eq (name_of first) name) (bytes_eq (name_of old) name) refl refl other)
  where
    rest : Option A
    rest = find (λ each. bytes_eq (name_of each) name) others

    go : (b c : Bool) → bytes_eq (name_of first) name ≡ b → bytes_eq (name_of old) name ≡ c
        → bytes_eq (name_of first) (name_of old) ≡ false
        → cond b (Some first) (cond c (Some new) rest) ≡ cond c (Some new) (cond b (Some first) rest)
    go true true one two apart =
        let same : name_of first ≡ name_of old =
        same_true (name_of first) name one ∙ sym (same_true (name_of old) name two)
        in
        let clash : false ≡ true = sym apart ∙ ap (λ n. bytes_eq n (name_of old)) same ∙ same_refl (name_of old) in cc
    go true false one two apart = refl
    go false true one two apart = refl
    go false false one two apart = refl

-- an item that is put where it stands leaves the list
set_same : {A : Type 0} (xs : List A) (i : ℕ) (x : A) → slice_get xs i ≡ Some x → slice_set xs i x ≡ xs
set_same [] i x at = cc
set_same (first ∷ others) zero x at = ap (λ each. each ∷ others) (sym (same_Some first x at))
set_same (first ∷ others) (suc i) x at = ap (λ xs. first ∷ xs) (set_same others i x at)

-- the element at a place is the one that is found by its name
pub called_at : {A : Type 0} (name_of : A → List ℕ) (xs : List A) (i : ℕ) (x : A) (name : List ℕ)
    → repeats_by (λ one other. bytes_eq (name_of one) (name_of other)) xs ≡ false → slice_get xs i ≡ Some x
    → bytes_eq (name_of x) name ≡ true
    → find (λ each. bytes_eq (name_of each) name) xs ≡ Some x
called_at name_of xs i x name unlike at named =
    ap (find (λ each. bytes_eq (name_of each) name)) (sym (set_same xs i x at))
    ∙ called_set name_of xs i x x name unlike at refl ∙ ap
    (λ b. cond b (Some x) (find (λ each. bytes_eq (name_of each) name) xs)) named

-- an item that passes a test as the one in its place did leaves whether some item does
any_set : {A : Type 0} (test : A → Bool) (xs : List A) (place : ℕ) (old new : A)
    → slice_get xs place ≡ Some old → test new ≡ test old → list_any test (slice_set xs place new) ≡ list_any test xs
any_set test [] place old new at same = cc
any_set test (first ∷ others) zero old new at same =
    ap (λ b. b || list_any test others) (same ∙ ap test (sym (same_Some first old at)))
any_set test (first ∷ others) (suc place) old new at same =
    ap (λ b. test first || b) (any_set test others place old new at same)

-- elements of different names stay so where one is replaced by one of its name
pub repeats_set : {A : Type 0} (name_of : A → List ℕ) (xs : List A) (place : ℕ) (old new : A)
    → slice_get xs place ≡ Some old → name_of new ≡ name_of old
    → repeats_by (λ one other. bytes_eq (name_of one) (name_of other)) (slice_set xs place new) ≡ repeats_by
    (λ one other. bytes_eq (name_of one) (name_of other)) xs
repeats_set name_of [] place old new at same = cc
repeats_set name_of (first ∷ others) zero old new at same =
    ap (λ n. list_any (λ other. bytes_eq n (name_of other)) others || repeats_by
    (λ one other. bytes_eq (name_of one) (name_of other)) others)
    (same ∙ ap name_of (sym (same_Some first old at)))
repeats_set name_of (first ∷ others) (suc place) old new at same =
    rw (
      any_set (λ other. bytes_eq (name_of first) (name_of other)) others place old new at
          (ap (bytes_eq (name_of first)) same),
      repeats_set name_of others place old new at same,
    ) refl

-- an item that has the image of the one in its place leaves the images
pub map_set : {A B : Type 0} (image : A → B) (xs : List A) (place : ℕ) (old new : A)
    → slice_get xs place ≡ Some old → image new ≡ image old → map image (slice_set xs place new) ≡ map image xs
map_set image [] place old new at same = cc
map_set image (first ∷ others) zero old new at same =
    ap (λ each. each ∷ map image others) (same ∙ ap image (sym (same_Some first old at)))
map_set image (first ∷ others) (suc place) old new at same =
    ap (λ each. image first ∷ each) (map_set image others place old new at same)
