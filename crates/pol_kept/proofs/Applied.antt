-- One item is admitted and committed, where no other one waits.
use Rattle.std.proofs.Common.{◌≡◌, inl, inr, ℕ, ◌+◌, Bool, true, false, List, [], ◌∷◌, ◌++◌, Option, Some, refl, sym, ◌∙◌, ap, subst}
use Rattle.std.proofs.lemmas.List.{append-nil}
use Rattle.std.specs.Prelude.{if◌then◌else◌}
use Rattle.pol_disk.specs.Disks.{LeavesOnly}
use Rattle.pol_disk.proofs.Moments.{wider}
use Rattle.pol_kept.specs.Work.{ChronicleWork, IsLawful}
use Rattle.pol_kept.specs.Keeping.{HasParts, KeepsAll, KeepsMore, KeptState, LeavesGroup, LeavesItems, items_of}
use Rattle.pol_kept.specs.Stands.{StandsFor, StandsWithAllOrNone}

module _ {State Item Answer C D : Type 0} (work : ChronicleWork State Item Answer) (state : C → State)
    (bytes : D → Option (List ℕ)) (images : D → List ℕ → Type 0) (moment : D → ℕ)
    (left_since : D → ℕ → List ℕ → Type 0) (old : KeptState C D) (item : Item) (alone : old.waiting ≡ 0) where
  -- the items of the store
  abbrev items : List Item
  items = items_of work state old

  -- what it answers
  abbrev answer : Answer
  answer = work.answer_of (state old.chronicle) item

  -- no item more is none
  none_more : (image : List ℕ) → StandsWithAllOrNone work items [] image →
      StandsWithAllOrNone work items (item ∷ []) image
  none_more image (inl without) = inl without
  none_more image (inr with) = inl (subst (λ (es : List Item). StandsFor work es image) (append-nil items) with)

  -- where it wasn't admitted
  pub unadmitted : (new : D) → LeavesGroup work state bytes moment left_since old new →
      LeavesItems work state bytes moment left_since old new item
  unadmitted new leaves = λ opened all told.
      wider moment left_since old.disk new (StandsWithAllOrNone work items [])
      (StandsWithAllOrNone work items (item ∷ []))
      (leaves opened all told items [] record { are = sym (append-nil items); many = sym alone }) none_more

  module _ (lawful : IsLawful work) (admitted : KeptState C D)
      (after : state admitted.chronicle ≡ work.after (state old.chronicle) item)
      (waits : admitted.waiting ≡ (if work.keeps answer then old.waiting + 1 else old.waiting))
      (opened : admitted.closed ≡ false) (same : admitted.disk ≡ old.disk) where
    -- how many wait then
    count : (is_new : Bool) → work.keeps answer ≡ is_new → admitted.waiting ≡ (if is_new then 1 else 0)
    count is_new is =
        waits ∙ ap (λ (b : Bool). if b then old.waiting + 1 else old.waiting) is
        ∙ ap (λ (n : ℕ). if is_new then n + 1 else n) alone

    -- where it is kept, it is the last one
    grown : work.keeps answer ≡ true → items_of work state admitted ≡ items ++ item ∷ []
    grown is = ap work.items after ∙ lawful.grows (state old.chronicle) item is

    -- then it waits alone
    one_waits : work.keeps answer ≡ true → HasParts work state admitted items (item ∷ [])
    one_waits is = record { are = grown is; many = sym (count true is) }

    -- where it isn't, none waits
    none_waits : work.keeps answer ≡ false → HasParts work state admitted items []
    none_waits is = record {
      are =
          ap work.items (after ∙ lawful.stays (state old.chronicle) item is) ∙ sym (append-nil items);
      many = sym (count false is);
    }

    -- what a crash leaves until it is committed
    pub leaves_items : (new : D) → LeavesGroup work state bytes moment left_since admitted new →
        LeavesItems work state bytes moment left_since old new item
    leaves_items new leaves = λ was_open all told.
        subst (λ (d : D). LeavesOnly moment left_since d new (StandsWithAllOrNone work items (item ∷ []))) same
        (by_answer (ap bytes same ∙ told) (work.keeps answer) refl)
      where
        by_answer : {all : List ℕ} → bytes admitted.disk ≡ Some all → (is_new : Bool) →
            work.keeps answer ≡ is_new →
            LeavesOnly moment left_since admitted.disk new (StandsWithAllOrNone work items (item ∷ []))
        by_answer told true is = leaves opened _ told items (item ∷ []) (one_waits is)
        by_answer told false is =
            wider moment left_since admitted.disk new (StandsWithAllOrNone work items [])
            (StandsWithAllOrNone work items (item ∷ [])) (leaves opened _ told items [] (none_waits is)) none_more

    -- once it is, each image has it
    pub keeps_more : (new : D) → KeepsAll work state bytes images admitted new → work.keeps answer ≡ true →
        KeepsMore work state bytes images old new item
    keeps_more new all_kept is = λ all told image left.
        subst (λ (es : List Item). StandsFor work es image) (grown is)
        (all_kept all (ap bytes same ∙ told) image left)
