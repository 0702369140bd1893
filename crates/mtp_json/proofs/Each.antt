-- ReadResult items one after the other, as a loop does.
use Rattle.std.proofs.Common.{◌≡◌, ℕ, suc, ◌+◌, ◌≤◌, ◌<◌, List, [], ◌∷◌, ◌++◌, length, get_or, drop, map, Result, Ok, Err, refl, sym, ap, ◌∙◌, append_assoc, arith, Vec, Global}
use Rattle.std.specs.Prelude.{IfOk}
use Rattle.std.proofs.lemmas.List.{append-nil, drop_all, map_push}
use Rattle.std.proofs.Math.Seq.{drop-cons}
use Rattle.serde_json.specs.Data.{Data, item}
use Rattle.serde_json.specs.View.{view, items_view}
use Rattle.serde_json.specs.declared.value.Value.{Value}
use Rattle.mtp_json.specs.declared.fault.JsonRefusal.{JsonRefusal}
use Rattle.mtp_json.specs.declared.fault.JsonRefusal.TheVariants.{Fault, Memory}
use Rattle.mtp_json.specs.declared.path.PathPart.{PathPart}
use Rattle.mtp_json.specs.declared.path.PathPart.TheVariants.{Place}
use Rattle.mtp_json.specs.Form.{each}
use Rattle.mtp_json.specs.ReadsAs.{IsFaultOrMemory, ReadsAs, ReadsUnder}
use Rattle.mtp_json.specs.ReadResult.{ReadResult, ◌>>=◌, at}

-- what was read before, in front of what is still read
abbrev pub with_front : {A : Type 0} → List A → ReadResult (List A) → ReadResult (List A)
with_front front read = read >>= λ rest. Ok (front ++ rest)

-- one more value in front
pub regroup : {A : Type 0} (front : List A) (x : A) (read : ReadResult (List A))
    → with_front front (read >>= λ rest. Ok (x ∷ rest)) ≡ with_front (front ++ x ∷ []) read
regroup front x (Ok rest) = ap (λ ys. Ok ys) (sym (append_assoc front (x ∷ []) rest))
regroup front x (Err fault) = refl

-- what a reader gave, one step further out
pub gives_below : {X Y : Type 0} (see : X → Y) (part : PathPart) (read result : Result X JsonRefusal)
    (form : ReadResult Y)
    → ReadsAs see read form → ReadsUnder part read result → ReadsAs see result (at part form)
gives_below see part (Ok x) (Ok y) form gives below = let same : x ≡ y = cc in rw (gives, same) refl
gives_below see part (Err e) (Ok y) form gives below = absurd cc
gives_below see part (Ok x) (Err e) form gives below = absurd below
gives_below see part (Err Memory) (Err Memory) form gives below = tt
gives_below see part (Err Memory) (Err (Fault fault)) form gives below = absurd cc
gives_below see part (Err (Fault fault)) (Err Memory) form gives below = tt
gives_below see part (Err (Fault fault)) (Err (Fault outer)) form gives below = rw (gives, below) refl

-- a list that was read one step further in is as long
pub length_below : {X : Type 0} (part : PathPart) (read result : Result (Vec X Global) JsonRefusal) (size : ℕ)
    → ReadsUnder part read result → IfOk read (λ found. length found.items ≡ size)
    → IfOk result (λ found. length found.items ≡ size)
length_below part (Ok x) (Ok y) size below sized = let same : x ≡ y = cc in rw (← same) sized
length_below part (Err e) (Ok y) size below sized = absurd cc
length_below part read (Err e) size below sized = tt

-- the items from the i-th on, of which there is one
items_view_drop : (values : List Value) (i : ℕ) (value : Value) → i < length values → value ≡ get_or values i value
    → items_view (drop i values) ≡ item (view value) (items_view (drop (i + 1) values))
items_view_drop values i value inside is =
    let split : drop i values ≡ get_or values i value ∷ drop (suc i) values = drop-cons values i value inside in
    let next : i + 1 ≡ suc i = omega arith in
    rw (split, ← is, next) refl

-- an item that its form reads stands behind those read before
goes_on : {A : Type 0} (form : Data
    → ReadResult A) (front : List A) (values : List Value) (i : ℕ) (value : Value) (x : A) (total : ReadResult (List A))
    → i < length values → value ≡ get_or values i value
    → at (Place i) (form (view value)) ≡ Ok x → with_front front (each form i (items_view (drop i values))) ≡ total
    → with_front (front ++ x ∷ []) (each form (i + 1) (items_view (drop (i + 1) values))) ≡ total
unfolding each
goes_on form front values i value x total inside is read so_far =
    let next : i + 1 ≡ suc i = omega arith in
    let one : with_front front (each form i (items_view (drop i values)))
    ≡ with_front (front ++ x ∷ []) (each form (suc i) (items_view (drop (i + 1) values))) =
    rw (items_view_drop values i value inside is, read)
    (regroup front x (each form (suc i) (items_view (drop (i + 1) values)))) in
    ap (λ k. with_front (front ++ x ∷ []) (each form k (items_view (drop (i + 1) values)))) next ∙ (sym one ∙ so_far)

-- one that it doesn't read ends the list with its fault
ends : {A : Type 0} (form : Data
    → ReadResult A) (refusal : JsonRefusal) (front : List A) (values : List Value) (i : ℕ) (value : Value)
    (total : ReadResult (List A)) → i < length values → value ≡ get_or values i value
    → IsFaultOrMemory refusal (at (Place i) (form (view value)))
    → with_front front (each form i (items_view (drop i values)))
    ≡ total → IsFaultOrMemory refusal total
unfolding each
ends form Memory front values i value total inside is fails so_far = tt
ends form (Fault fault) front values i value total inside is fails so_far =
    let one : with_front front (each form i (items_view (drop i values))) ≡ Err fault =
    rw (items_view_drop values i value inside is, fails) refl in
    sym so_far ∙ one

-- Three goals of a loop that reads each item in its place, and keeps
-- with_front (map see found) (each form i (items_view (drop i values))) ≡ total.

-- one more item was read
pub reads_next : {X Y : Type 0} (see : X → Y) (form : Data
    → ReadResult Y) (old new : List X) (values : List Value) (i : ℕ) (value : Value) (read : Result X JsonRefusal)
    (x : X)
    (total : ReadResult (List Y)) → i < length values → value ≡ get_or values i value
    → ReadsAs see read (form (view value)) → ReadsUnder (Place i) read (Ok x) → new ≡ old ++ x ∷ []
    → with_front (map see old) (each form i (items_view (drop i values))) ≡ total
    → with_front (map see new) (each form (i + 1) (items_view (drop (i + 1) values))) ≡ total
reads_next see form old new values i value read x total inside is gives below pushed so_far =
    rw (pushed, map_push see old x)
    (goes_on form (map see old) values i value (see x) total inside is
    (gives_below see (Place i) read (Ok x) (form (view value)) gives below) so_far)

-- an item has a fault
pub stops_at : {X Y : Type 0} (see : X → Y) (form : Data
    → ReadResult Y) (front : List Y) (values : List Value) (i : ℕ) (value : Value) (read : Result X JsonRefusal)
    (refusal : JsonRefusal) (total : ReadResult (List Y)) → i < length values → value ≡ get_or values i value
    → ReadsAs see read (form (view value)) → ReadsUnder (Place i) read (Err refusal)
    → with_front front (each form i (items_view (drop i values))) ≡ total → IsFaultOrMemory refusal total
stops_at see form front values i value read refusal total inside is gives below so_far =
    ends form refusal front values i value total inside is
    (gives_below see (Place i) read (Err refusal) (form (view value)) gives below) so_far

-- all items were read
pub is_done : {A : Type 0} (form : Data
    → ReadResult A) (front : List A) (values : List Value) (i : ℕ) (total : ReadResult (List A)) → length values ≤ i
    → with_front front (each form i (items_view (drop i values))) ≡ total → total ≡ Ok front
unfolding each
is_done form front values i total past so_far =
    let none : drop i values ≡ [] = drop_all i values past in
    let one : with_front front (each form i (items_view (drop i values))) ≡ Ok front =
    rw none (ap (λ xs. Ok xs) (append-nil front)) in
    sym so_far ∙ one
