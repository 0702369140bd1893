-- Parts of a list between two places.
use Rattle.std.proofs.Common.{ℕ, ◌+◌, ◌-◌, ◌≡◌, ◌≤◌, List, [], ◌++◌, length, take, drop, slice_range, length-take, length-drop, arith, ap, ◌∙◌, sym}
use Rattle.std.proofs.Math.Seq.{take-add}
use Rattle.std.proofs.lemmas.Slice.{between_is}
use Rattle.std.proofs.lemmas.List.{drop-drop, take-take}

-- a range is its front and its back
pub range_split : (items : List ℕ) (start middle more : ℕ) → start ≤ middle
    → slice_range items start (middle + more) ≡ slice_range items start middle ++ slice_range items middle
    (middle + more)
range_split items start middle more order =
    let whole : middle + more - start ≡ (middle - start) + more = omega arith in
    let rest : middle + more - middle ≡ more = omega arith in
    let back : start + (middle - start) ≡ middle = omega arith in
    rw (whole, rest, take-add (middle - start) more (drop start items), drop-drop (middle - start) start items, back)

-- lists that agree up to the end of a range have the same range
pub range_same : (items others : List ℕ) (start end : ℕ) → take end items ≡ take end others
    → slice_range items start end ≡ slice_range others start end
range_same items others start end same = between_is items start end
    ∙ (ap (λ front. drop start front) same ∙ sym (between_is others start end))

-- a range that grows at its end, in a list that changed only behind it
pub range_grows : (items others : List ℕ) (start end more : ℕ) → start ≤ end → take end items ≡ take end others
    → slice_range items start (end + more) ≡ slice_range others start end ++ slice_range items end (end + more)
range_grows items others start end more order same = range_split items start end more order
    ∙ ap (λ front. front ++ slice_range items end (end + more)) (range_same items others start end same)

-- how long a range is
pub length_range : (items : List ℕ) (start size : ℕ) → start + size ≤ length items
    → length (slice_range items start (start + size)) ≡ size
length_range items start size fits = simp (length-take, length-drop) (omega arith)

-- a range without its front
pub range_drop : (items : List ℕ) (start end size : ℕ) → slice_range items (start + size) end
    ≡ drop size (slice_range items start end)
range_drop items start end size = between_is items (start + size) end
    ∙ (sym (drop-drop size start (take end items)) ∙ ap (λ front. drop size front) (sym (between_is items start end)))

-- the front of a range
pub range_front : (items : List ℕ) (start end size : ℕ) → start + size ≤ end
    → slice_range items start (start + size) ≡ take size (slice_range items start end)
range_front items start end size fits =
    let long : start + size - start ≡ size = omega arith in
    let order : size ≤ end - start = omega arith in
    rw (long, take-take size (end - start) (drop start items) order)

-- a range from a place to itself is empty
pub range_none : (items : List ℕ) (start end : ℕ) → start ≡ end → slice_range items start end ≡ []
range_none items start end same = let none : end - start ≡ 0 = omega arith in rw none
