-- One call more on a disk: what it undoes, and what a crash may leave after it.
use Rattle.std.proofs.Common.{◌≡◌, inl, inr, ⊎_elim, ℕ, ◌+◌, ◌-◌, ◌≤◌, min, List, [], ◌∷◌, ◌++◌, length, take, drop, map, reverse, refl, sym, ◌∙◌, ap, subst, arith, append_assoc, append-nil, length-drop, take-append-drop}
use Rattle.std.proofs.lemmas.Bool.{cases_lt}
use Rattle.std.proofs.lemmas.List.{map-append, reverse-append, take_all, drop-drop}
use Rattle.pol_disk.specs.declared.memory.Call.{Call}
use Rattle.pol_disk.specs.Answers.{over}
use Rattle.pol_disk.specs.Calls.{deed_of, deeds_of}
use Rattle.pol_disk.specs.Disks.{Torn, Holds, Elapses, Follows, spliced}
use Rattle.pol_disk.specs.Remains.{Range, MayRemain}
use Rattle.pol_disk.specs.Records.{Deed, wrote, undone, kept_of, ranges_of, IsLeft, LeftSince}
use Rattle.pol_disk.proofs.Splices.{take-spliced, drop-spliced}
use Rattle.pol_disk.proofs.Remaining.{remains_written, remains_more, before_write}

-- a call more is a newest one
pub deeds-push : (calls : List Call) (call : Call) → deeds_of (calls ++ call ∷ []) ≡ deed_of call ∷ deeds_of calls
deeds-push calls call =
    ap (λ (l : List Deed). reverse l) (map-append deed_of calls (call ∷ []))
    ∙ reverse-append (map deed_of calls) (deed_of call ∷ [])

-- no bytes
empty : (l : List ℕ) → length l ≡ 0 → l ≡ []
empty [] none = refl
empty (x ∷ xs) none = absurd (omega (arith, none))

-- what stands in a range, and all behind it
over_back : (at size : ℕ) (bytes : List ℕ) → at ≤ length bytes →
    over at size bytes ++ drop (at + size) bytes ≡ drop at bytes
over_back at size bytes le = ⊎_elim
    (λ fits.
    let count : min size (length bytes - at) ≡ size = omega (arith, fits) in
    ap (λ (n : ℕ). take n (drop at bytes) ++ drop (at + size) bytes) count
    ∙ ap (λ (l : List ℕ). take size (drop at bytes) ++ l) (sym (drop-drop size at bytes))
    ∙ take-append-drop size (drop at bytes))
    (λ past.
    let count : min size (length bytes - at) ≡ length bytes - at = omega (arith, past) in
    let none : length (drop (at + size) bytes) ≡ 0 = omega (arith, length-drop (at + size) bytes, past) in
    ap (λ (n : ℕ). take n (drop at bytes) ++ drop (at + size) bytes) count
    ∙ ap (λ (l : List ℕ). l ++ drop (at + size) bytes)
    (take_all (length bytes - at) (drop at bytes) (omega (arith, length-drop at bytes)))
    ∙ ap (λ (l : List ℕ). drop at bytes ++ l) (empty (drop (at + size) bytes) none)
    ∙ append-nil (drop at bytes))
    (cases_lt size (length bytes - at))

-- what stands in a range, put back, gives the same bytes
pub undone_same : (at size : ℕ) (bytes : List ℕ) → at ≤ length bytes →
    undone bytes (wrote at size (over at size bytes)) ≡ bytes
undone_same at size bytes le =
    append_assoc (take at bytes) (over at size bytes) (drop (at + size) bytes)
    ∙ ap (λ (l : List ℕ). take at bytes ++ l) (over_back at size bytes le)
    ∙ take-append-drop at bytes

-- what stood in the range gives the old bytes back
pub undone-spliced : (at : ℕ) (piece bytes : List ℕ) → at ≤ length bytes →
    undone (spliced at piece bytes) (wrote at (length piece) (over at (length piece) bytes)) ≡ bytes
undone-spliced at piece bytes le =
    let over_is : List ℕ = over at (length piece) bytes in
    ap (λ (l : List ℕ). l ++ over_is ++ drop (at + length piece) (spliced at piece bytes))
    (take-spliced at piece bytes le)
    ∙ ap (λ (l : List ℕ). take at bytes ++ over_is ++ l) (drop-spliced at piece bytes le)
    ∙ undone_same at (length piece) bytes le

-- no call
pub elapses_same : (bytes : List ℕ) (deeds : List Deed) →
    Elapses (length deeds) (length deeds) (LeftSince bytes deeds) (LeftSince bytes deeds) (IsLeft bytes deeds)
elapses_same bytes deeds =
    record { later = omega arith; nothing_else = λ t image le left. inl left; keeps = λ t image le left. left }

-- a call whose undoing gives the old bytes
pub elapses_push : (old new : List ℕ) (deeds : List Deed) (deed : Deed) → undone new deed ≡ old
    → Elapses (length deeds) (length (deed ∷ deeds)) (LeftSince old deeds) (LeftSince new (deed ∷ deeds))
    (IsLeft new (deed ∷ deeds))
elapses_push old new deeds deed undoes = record {
  later = omega arith;
  nothing_else =
      λ t image le left. ⊎_elim (λ now. inr now.1)
      (λ was. inl (subst (λ (l : List ℕ). LeftSince l deeds t image) undoes was)) left;
  keeps = λ t image le left. inr (subst (λ (l : List ℕ). LeftSince l deeds t image) (sym undoes) left);
}

-- a write: what reads give is still one of the images, and each image comes by the write from one before
pub left_written : (at : ℕ) (piece over old new : List ℕ) (deeds : List Deed) → at ≤ length old →
    Holds at piece old new → undone new (wrote at (length piece) over) ≡ old → IsLeft old deeds old
    → IsLeft new (wrote at (length piece) over ∷ deeds) new
left_written at piece over old new deeds le holds undoes left =
    subst (λ (l : List ℕ). MayRemain (kept_of l deeds) (record { at = at; size = length piece } ∷ ranges_of deeds) new)
    (sym undoes)
    (remains_written (kept_of old deeds) (ranges_of deeds) at piece old new left le holds)

-- each image after a write comes by the write from one before it
pub follows_write : (at : ℕ) (piece over old new : List ℕ) (deeds : List Deed) → at ≤ length old →
    undone new (wrote at (length piece) over) ≡ old → IsLeft old deeds old
    → Follows (Torn at (length piece)) (IsLeft old deeds) (IsLeft new (wrote at (length piece) over ∷ deeds))
follows_write at piece over old new deeds le undoes left image remains =
    let range : Range = record { at = at; size = length piece } in
    before_write (kept_of old deeds) (ranges_of deeds) range image
    (subst (λ (l : List ℕ). MayRemain (kept_of l deeds) (range ∷ ranges_of deeds) image) undoes remains)
    (omega (arith, le, left.no_longer))

-- a write that may have been made in part, and of which reads tell nothing: what they give is still one of the images
pub left_tried : (at size : ℕ) (over bytes : List ℕ) (deeds : List Deed) → undone bytes (wrote at size over) ≡ bytes →
    IsLeft bytes deeds bytes → IsLeft bytes (wrote at size over ∷ deeds) bytes
left_tried at size over bytes deeds undoes left =
    subst (λ (l : List ℕ). MayRemain (kept_of l deeds) (record { at = at; size = size } ∷ ranges_of deeds) bytes)
    (sym undoes)
    (remains_more (kept_of bytes deeds) (ranges_of deeds) (record { at = at; size = size }) bytes left)
