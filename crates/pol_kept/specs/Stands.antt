-- Which items an image stands for.
use Rattle.std.specs.Prelude.{◌≢◌, ◌≡◌, ◌⊎◌, ◌≤◌, ℕ, List, [], ◌∷◌, ◌++◌, length}
use Rattle.pol_texts.specs.Stands.{Stands, BeginsWith, AreRecords}
use Rattle.pol_kept.specs.Work.{ChronicleWork}

module _ {State Item Answer : Type 0} (work : ChronicleWork State Item Answer) where
  -- behind the items before them, the texts are those of these items, in order
  abbrev pub AreTextsOf : List Item → List Item → List (List ℕ) → Type 0
  AreTextsOf before [] [] = Unit {0}
  AreTextsOf before [] (text ∷ texts) = ⊥
  AreTextsOf before (item ∷ items) [] = ⊥
  AreTextsOf before (item ∷ items) (text ∷ texts) =
      work.IsTextOf before item text × AreTextsOf (before ++ item ∷ []) items texts

  -- behind the items before them, the image stands for these items
  pub record StandsBehind (before items : List Item) (image : List ℕ) : Type 0 where
    pub texts : List (List ℕ)
    pub are : AreTextsOf before items texts
    pub stands : Stands image texts

  -- the image stands for these items
  abbrev pub StandsFor : List Item → List ℕ → Type 0
  StandsFor items image = StandsBehind [] items image

  -- the text is that of the first of these items, and the image behind it stands for the others
  abbrev pub HasFirst : List Item → List ℕ → List ℕ → List Item → Type 0
  HasFirst before text behind [] = ⊥
  HasFirst before text behind (item ∷ items) =
      work.IsTextOf before item text × StandsBehind (before ++ item ∷ []) items behind

  -- the image stands for the items, with all of a group behind them or with none of it
  abbrev pub StandsWithAllOrNone : List Item → List Item → List ℕ → Type 0
  StandsWithAllOrNone items group image = StandsFor items image ⊎ StandsFor (items ++ group) image

  -- behind records of the items before, these bytes begin neither with a closed gate nor with a record
  pub record IsBroken (before : List Item) (bytes : List ℕ) : Type 0 where
    pub no_gate : (behind : List ℕ) → bytes ≢ 0 ∷ behind
    pub no_record : (text behind : List ℕ) (item : Item) → BeginsWith text bytes behind →
        work.IsTextOf before item text → work.most ≤ length before

  -- the image begins with records of these items, and they end at this place
  pub record BeginsWithItems (place : ℕ) (image : List ℕ) (items : List Item) : Type 0 where
    pub texts : List (List ℕ)
    pub are : AreTextsOf [] items texts
    pub records : List ℕ
    pub behind : List ℕ
    pub is : image ≡ records ++ behind
    pub are_records : AreRecords records texts
    pub place_is : place ≡ length records

  -- the image begins with records of items, and what comes behind them, at this place, is neither a closed gate nor a
  -- record
  pub record BreaksAt (place : ℕ) (image : List ℕ) : Type 0 where
    pub items : List Item
    pub begins : BeginsWithItems place image items
    pub broken : IsBroken items begins.behind

  -- the image stands for no list of items, of at most so many as are kept
  abbrev pub StandsForNone : List ℕ → Type 0
  StandsForNone image = (items : List Item) → length items ≤ work.most → StandsFor items image → ⊥
