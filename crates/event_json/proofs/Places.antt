-- The place of a field among others.
use Rattle.std.proofs.Common.{arith, ◌≡◌, ◌≤◌, ℕ, Bool, true, false, not, cond, List, [], ◌∷◌, length, map, take, drop}
use Rattle.std.proofs.Common.{Some, None, nat_lt, refl, ap, sym, ◌∙◌, ◌+◌}
use Rattle.std.specs.Option.{unwrap_or}
use Rattle.std.specs.List.{insert, position, position_or_len}
use Rattle.std.proofs.lemmas.List.{take-map, drop-map, map-append}
use Rattle.std.proofs.lemmas.List.Sums.{prefix_len-le-length}

-- the first place where a test passes is at most the length
pub place_within : {X : Type 0} (p : X → Bool) (items : List X) → position_or_len p items ≤ length items
place_within p items = prefix_len-le-length (λ item. not (p item)) items

-- the first place where a test passes of what items are seen as
pub place_seen : {X Y : Type 0} (p : Y → Bool) (seen : X → Y) (items : List X) →
    position_or_len p (map seen items) ≡ position_or_len (λ item. p (seen item)) items
place_seen p seen [] = refl
place_seen p seen (item ∷ items) = ap (λ n. cond (not (p (seen item))) (1 + n) 0) (place_seen p seen items)

-- the first place where a test passes, or the length
pub place_or_length : {X : Type 0} (p : X → Bool) (items : List X)
    → unwrap_or (position p items) (length items) ≡ position_or_len p items
place_or_length p items = go (nat_lt (position_or_len p items) (length items)) refl
  where
    go : (inside : Bool) → nat_lt (position_or_len p items) (length items) ≡ inside →
        unwrap_or (cond inside (Some (position_or_len p items)) None) (length items) ≡ position_or_len p items
    go true is = refl
    go false is = grind (arith, is, place_within p items)

-- so of items seen as others
pub seen_place : {X Y : Type 0} (p : Y → Bool) (seen : X → Y) (items : List X) →
    unwrap_or (position (λ item. p (seen item)) items) (length items) ≡ position_or_len p (map seen items)
seen_place p seen items = place_or_length (λ item. p (seen item)) items ∙ sym (place_seen p seen items)

-- inserted items, seen as others
pub map_insert : {X Y : Type 0} (seen : X → Y) (items : List X) (i : ℕ) (item : X) →
    map seen (insert items i item) ≡ insert (map seen items) i (seen item)
map_insert seen items i item =
    map-append seen (take i items) (item ∷ drop i items)
    ∙ rw (take-map seen i items, drop-map seen i items) refl
