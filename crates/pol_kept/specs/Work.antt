-- What a chronicle answers to each item, and as which texts its items are kept.
use Rattle.std.specs.Prelude.{◌≡◌, ◌<◌, ℕ, List, [], ◌∷◌, ◌++◌, length, Bool, true, false}

-- By what a chronicle knows: the items that were kept so far, in order; what it answers to one more, and what it knows
-- then; whether one that is answered so is kept; which texts are those of an item behind others; and how many items are
-- kept at most.
pub record ChronicleWork (State Item Answer : Type 0) : Type 1 where
  pub items : State → List Item
  pub answer_of : State → Item → Answer
  pub after : State → Item → State
  pub keeps : Answer → Bool
  pub IsTextOf : List Item → Item → List ℕ → Type 0
  pub most : ℕ

-- An item that is kept is the last one then, and one that isn't changes nothing; one that has a text behind the others
-- is kept while there is room; and behind the same items a text is that of one item.
pub record IsLawful {State Item Answer : Type 0} (work : ChronicleWork State Item Answer) : Type 0 where
  pub grows : (state : State) (item : Item) → work.keeps (work.answer_of state item) ≡ true →
      work.items (work.after state item) ≡ work.items state ++ item ∷ []
  pub stays : (state : State) (item : Item) → work.keeps (work.answer_of state item) ≡ false →
      work.after state item ≡ state
  pub has_room : (state : State) (item : Item) (text : List ℕ) → work.IsTextOf (work.items state) item text →
      length (work.items state) < work.most → work.keeps (work.answer_of state item) ≡ true
  pub one_item : (before : List Item) (one other : Item) (text : List ℕ) → work.IsTextOf before one text →
      work.IsTextOf before other text → one ≡ other

-- where an item that happens now is kept, the text is that of the item
abbrev pub IsTextIfKept : {State Item Answer : Type 0} → ChronicleWork State Item Answer → State → Item → List ℕ →
    Type 0
IsTextIfKept work state item text =
    work.keeps (work.answer_of state item) ≡ true → work.IsTextOf (work.items state) item text
