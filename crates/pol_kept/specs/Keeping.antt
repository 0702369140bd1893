-- A chronicle and a disk that keeps its items.
use Rattle.std.specs.Prelude.{◌≡◌, ◌+◌, ◌<◌, ◌≤◌, ◌^◌, ℕ, List, [], ◌∷◌, ◌++◌, length, Bool, true, false, Option, Some, IfSome}
use Rattle.pol_disk.specs.Disks.{LeavesOnly}
use Rattle.pol_texts.specs.Settled.{IsSettled, IsStaged}
use Rattle.pol_kept.specs.Work.{ChronicleWork}
use Rattle.pol_kept.specs.Stands.{AreTextsOf, StandsFor, StandsWithAllOrNone}

-- what contracts see of a store: its chronicle, its disk, whether a call of the disk failed, and how many of the
-- chronicle's items wait to be kept: the last ones
pub record KeptState (C D : Type 0) : Type 0 where
  pub chronicle : C
  pub disk : D
  pub closed : Bool
  pub waiting : ℕ

-- the items are those that are kept, and behind them the group of those that wait, which are so many
pub record AreParts {Item : Type 0} (items : List Item) (waiting : ℕ) (kept group : List Item) : Type 0 where
  pub are : items ≡ kept ++ group
  pub many : length group ≡ waiting

-- what is to be written fits behind the end, and there is something where an item waits
pub record IsFit (end waiting : ℕ) (behind : List ℕ) : Type 0 where
  pub fits : end + length behind < 2 ^ 64
  pub long : waiting ≤ length behind

-- a store that isn't closed keeps the items of its chronicle
abbrev pub Open : Bool → Type 0 → Type 0
Open true kept = Unit {0}
Open false kept = kept

module _ {State Item Answer : Type 0} (work : ChronicleWork State Item Answer) where
  -- the disk has the records of the items and then a closed gate at the end, and a crash leaves nothing else
  pub record KeepsItems (seen : Option (List ℕ)) (images : List ℕ → Type 0) (end : ℕ) (items : List Item)
      : Type 0 where
    pub texts : List (List ℕ)
    pub are : AreTextsOf work [] items texts
    pub settled : IsSettled seen images end texts

  -- the disk keeps all items but the group of the last ones, as many as wait, and these bytes are to be written for it
  pub record KeepsGroup (seen : Option (List ℕ)) (images : List ℕ → Type 0) (end : ℕ) (behind : List ℕ)
      (items : List Item) (waiting : ℕ) : Type 0 where
    pub kept : List Item
    pub group : List Item
    pub parts : AreParts items waiting kept group
    pub keeps : KeepsItems seen images end kept
    pub texts : List (List ℕ)
    pub texts_are : AreTextsOf work kept group texts
    pub staged : IsStaged texts behind

  -- where the disk's bytes are known, the disk keeps all items but the group of those that wait
  abbrev pub Keeps : Option (List ℕ) → (List ℕ → Type 0) → ℕ → List ℕ → List Item → ℕ → Type 0
  Keeps seen images end behind items waiting = IfSome seen (λ all. KeepsGroup seen images end behind items waiting)

  module _ {C D : Type 0} (state : C → State) where
    -- the items of a store
    abbrev pub items_of : KeptState C D → List Item
    items_of store = work.items (state store.chronicle)

    -- the items of a store are those that are kept, and behind them the group of those that wait
    abbrev pub HasParts : KeptState C D → List Item → List Item → Type 0
    HasParts store kept group = AreParts (items_of store) store.waiting kept group

    -- a crash at any moment of a call leaves the items that the store keeps, or these and all that wait
    abbrev pub LeavesGroup : (D → Option (List ℕ)) → (D → ℕ) → (D → ℕ → List ℕ → Type 0) → KeptState C D → D → Type 0
    LeavesGroup bytes moment left_since old new =
        old.closed ≡ false → (all : List ℕ) → bytes old.disk ≡ Some all
        → (kept group : List Item) → HasParts old kept group
        → LeavesOnly moment left_since old.disk new (StandsWithAllOrNone work kept group)

    -- a crash at any moment of a call leaves the items of the store, or these and one more
    abbrev pub LeavesItems : (D → Option (List ℕ)) → (D → ℕ) → (D → ℕ → List ℕ → Type 0) → KeptState C D → D → Item →
        Type 0
    LeavesItems bytes moment left_since old new item =
        old.closed ≡ false → (all : List ℕ) → bytes old.disk ≡ Some all
        → LeavesOnly moment left_since old.disk new (StandsWithAllOrNone work (items_of old) (item ∷ []))

    -- a crash from now on leaves the items of the store and one more
    abbrev pub KeepsMore : (D → Option (List ℕ)) → (D → List ℕ → Type 0) → KeptState C D → D → Item → Type 0
    KeepsMore bytes images old new item =
        (all : List ℕ) → bytes old.disk ≡ Some all
        → (image : List ℕ) → images new image → StandsFor work (items_of old ++ item ∷ []) image

    -- a crash from now on leaves all items of the store's chronicle
    abbrev pub KeepsAll : (D → Option (List ℕ)) → (D → List ℕ → Type 0) → KeptState C D → D → Type 0
    KeepsAll bytes images old new =
        (all : List ℕ) → bytes old.disk ≡ Some all
        → (image : List ℕ) → images new image → StandsFor work (items_of old) image
