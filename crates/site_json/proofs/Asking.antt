-- Asking a rule of items one after the other, as a loop does.
use Rattle.std.proofs.Common.{◌≡◌, ℕ, suc, ◌+◌, ◌≤◌, ◌<◌, List, [], ◌∷◌, length, get_or, drop, map, Result, Ok, Err}
use Rattle.std.proofs.Common.{refl, sym, ap, ◌∙◌, arith}
use Rattle.std.specs.Prelude.{⊤, ◌||◌}
use Rattle.std.proofs.lemmas.List.{drop_all}
use Rattle.std.proofs.Math.Seq.{drop-cons}
use Rattle.mtp_json.specs.declared.fault.JsonRefusal.{JsonRefusal}
use Rattle.mtp_json.specs.declared.fault.JsonRefusal.TheVariants.{Fault, Memory}
use Rattle.mtp_json.specs.declared.path.PathPart.TheVariants.{Place}
use Rattle.mtp_json.specs.ReadsAs.{IsFaultOrMemory, ReadsAs, ReadsUnder}
use Rattle.mtp_json.specs.ReadResult.{ReadResult, at}
use Rattle.mtp_json.proofs.Each.{gives_below}
use Rattle.site_json.specs.Ruled.{each_ruled}

-- the items from the i-th on, of which there is one
front : {X Y : Type 0} (plain : X → Y) (items : List X) (i : ℕ) (item : X) → i < length items
    → item ≡ get_or items i item
    → map plain (drop i items) ≡ plain item ∷ map plain (drop (i + 1) items)
front plain items i item within is =
    let split : drop i items ≡ get_or items i item ∷ drop (suc i) items = drop-cons items i item within in
    let next : i + 1 ≡ suc i = omega arith in
    rw (split, ← is, next) refl

-- Three goals of a loop that asks the rule of each item in its place, and keeps that what is left to ask is the whole.

-- one more item keeps the rule
pub asks_next : {X Y : Type 0} (plain : X → Y) (rule : Y
    → ReadResult ⊤) (items : List X) (i : ℕ) (item : X) (asked : Result ⊤ JsonRefusal)
    (total : ReadResult ⊤) → i < length items → item ≡ get_or items i item
    → ReadsAs (λ unit. unit) asked (rule (plain item))
    → ReadsUnder (Place i) asked (Ok tt) → each_ruled rule i (map plain (drop i items)) ≡ total
    → each_ruled rule (i + 1) (map plain (drop (i + 1) items)) ≡ total
unfolding each_ruled
asks_next plain rule items i item asked total within is gives below so_far =
    let next : i + 1 ≡ suc i = omega arith in
    let kept : at (Place i) (rule (plain item)) ≡ Ok tt =
    gives_below (λ unit. unit) (Place i) asked (Ok tt) (rule (plain item)) gives below in
    let one : each_ruled rule i (map plain (drop i items)) ≡ each_ruled rule (suc i) (map plain (drop (i + 1) items)) =
    rw (front plain items i item within is, kept) refl in
    ap (λ k. each_ruled rule k (map plain (drop (i + 1) items))) next ∙ (sym one ∙ so_far)

-- an item breaks the rule
pub asks_stop : {X Y : Type 0} (plain : X → Y) (rule : Y
    → ReadResult ⊤) (items : List X) (i : ℕ) (item : X) (asked : Result ⊤ JsonRefusal)
    (refusal : JsonRefusal) (total : ReadResult ⊤) → i < length items → item ≡ get_or items i item
    → ReadsAs (λ unit. unit) asked (rule (plain item))
    → ReadsUnder (Place i) asked (Err refusal) → each_ruled rule i (map plain (drop i items)) ≡ total
    → IsFaultOrMemory refusal total
unfolding each_ruled
asks_stop plain rule items i item asked Memory total within is gives below so_far = tt
asks_stop plain rule items i item asked (Fault fault) total within is gives below so_far =
    let broken : at (Place i) (rule (plain item)) ≡ Err fault =
    gives_below (λ unit. unit) (Place i) asked (Err (Fault fault)) (rule (plain item)) gives below in
    let one : each_ruled rule i (map plain (drop i items)) ≡ Err fault =
    rw (front plain items i item within is, broken) refl in
    sym so_far ∙ one

-- all items keep the rule
pub asks_done : {X Y : Type 0} (plain : X → Y) (rule : Y → ReadResult ⊤) (items : List X) (i : ℕ) (total : ReadResult ⊤)
    → length items ≤ i
    → each_ruled rule i (map plain (drop i items)) ≡ total → total ≡ Ok tt
unfolding each_ruled
asks_done plain rule items i total past so_far =
    let none : drop i items ≡ [] = drop_all i items past in
    let one : each_ruled rule i (map plain (drop i items)) ≡ Ok tt = rw none refl in
    sym so_far ∙ one
