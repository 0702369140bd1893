-- Which words are complete and partial runs, by cutting the words. A course is a chart as words see it: its leaves are
-- tests of entries, so that nothing here speaks of names, conditions or readings.
use Rattle.std.specs.Prelude.{ℕ, ◌≡◌, ◌<◌, zero, suc, List, [], ◌∷◌, ◌++◌, map, Bool, true, false, ◌||◌, Option, Some, is_some, ◌⊎◌}
use Rattle.std.specs.List.{filter}
use Rattle.chart_core.specs.Entries.{Stage, begin, finish, reset, end}

-- a chart over entries of any kind
pub data Course (E : Type 0) : Type 0 where
  -- nothing is left to do
  nothing : Course E
  -- a step: its number, whether it has a finish, and what an entry does to it
  step : ℕ → Bool → (E → Option Stage) → Course E
  -- one course and then another
  chain : Course E → Course E → Course E
  -- two courses side by side
  beside : Course E → Course E → Course E
  -- a selection: its number, the number of its arms, whether an entry is of it, which arm it chooses rightly, the arms
  select : ℕ → ℕ → (E → Bool) → (E → Option ℕ) → (ℕ → Course E) → Course E
  -- a loop: its number, the number behind its last node, its body, and whether an entry is of it, turns it rightly, and
  -- leaves it rightly
  repeat : ℕ → ℕ → Course E → (E → Bool) → (E → Bool) → (E → Bool) → Course E

-- some number below this one passes the test
abbrev pub any_below : ℕ → (ℕ → Bool) → Bool
any_below zero test = false
any_below (suc number) test = test number || any_below number test

-- the entry is of some node of the course
abbrev pub is_of : {E : Type 0} → Course E → E → Bool
is_of nothing entry = false
is_of (step number finishes stage) entry = is_some (stage entry)
is_of (chain first rest) entry = is_of first entry || is_of rest entry
is_of (beside one other) entry = is_of one entry || is_of other entry
is_of (select number count own chooses bodies) entry = own entry || any_below count (λ arm. is_of (bodies arm) entry)
is_of (repeat number after body own turns leaves) entry = own entry || is_of body entry

-- every entry passes the test
abbrev pub All : {E : Type 0} → (E → Bool) → List E → Type 0
All test [] = Unit {0}
All test (entry ∷ word) = (test entry ≡ true) × All test word

-- a run of a step: begin, reset, end, or, where it has a finish, also begin, finish, reset, end
abbrev pub StepRun : Bool → List (Option Stage) → Type 0
StepRun finishes stages =
    (stages ≡ Some begin ∷ Some reset ∷ Some end ∷ [])
    ⊎ ((finishes ≡ true) × (stages ≡ Some begin ∷ Some finish ∷ Some reset ∷ Some end ∷ []))

-- rounds of a loop's body, each followed by a turn, and then something last
pub data Rounds {E : Type 0} (Body : List E → Type 0) (turns : E → Bool)
    (Last : List E → Type 0) : List E → Type 0 where
  last : {word : List E} → Last word → Rounds Body turns Last word
  round :
      {word : List E} (front : List E) (entry : E) (back : List E)
      → word ≡ front ++ (entry ∷ back) → Body front → turns entry ≡ true → Rounds Body turns Last back
      → Rounds Body turns Last word

-- a run of the body and then a leave
abbrev pub Closing : {E : Type 0} → (List E → Type 0) → (E → Bool) → List E → Type 0
Closing {E} Body leaves word = (front : List E) × (entry : E) × (word ≡ front ++ (entry ∷ [])) × Body front
    × (leaves entry ≡ true)

-- The word is a complete run. Of two courses side by side: every entry is of one of them, and for each of them the
-- sub-list of its entries is a complete run of it.
abbrev pub Complete : {E : Type 0} → Course E → List E → Type 0
Complete nothing word = word ≡ []
Complete (step number finishes stage) word = StepRun finishes (map stage word)
Complete {E} (chain first rest) word =
    (front : List E) × (back : List E) × (word ≡ front ++ back) × Complete first front × Complete rest back
Complete (beside one other) word =
    All (λ entry. is_of one entry || is_of other entry) word × Complete one (filter (is_of one) word)
    × Complete other (filter (is_of other) word)
Complete {E} (select number count own chooses bodies) word =
    (arm : ℕ) × (entry : E) × (back : List E) × (word ≡ entry ∷ back) × (arm < count) × (chooses entry ≡ Some arm)
    × Complete (bodies arm) back
Complete (repeat number after body own turns leaves) word = Rounds (Complete body) turns
    (Closing (Complete body) leaves) word

-- The word is a partial run: of a step a prefix of a complete run; of one course and then another a partial run of the
-- first, or a complete run of it and then a partial run of the rest; of two side by side a partial run of each; of a
-- selection nothing, or the choice and then a partial run of its arm; of a loop complete rounds, and then a partial
-- run of the body, or a complete run and the leave.
abbrev pub Partial : {E : Type 0} → Course E → List E → Type 0
Partial nothing word = word ≡ []
Partial (step number finishes stage) word = (others : List (Option Stage)) × StepRun finishes (map stage word ++ others)
Partial {E} (chain first rest) word =
    Partial first word ⊎ ((front : List E) × (back : List E) × (word ≡ front ++ back) × Complete first front
    × Partial rest back)
Partial (beside one other) word =
    All (λ entry. is_of one entry || is_of other entry) word × Partial one (filter (is_of one) word)
    × Partial other (filter (is_of other) word)
Partial {E} (select number count own chooses bodies) word =
    (word ≡ [])
    ⊎ ((arm : ℕ) × (entry : E) × (back : List E) × (word ≡ entry ∷ back) × (arm < count) × (chooses entry ≡ Some arm)
    × Partial (bodies arm) back)
Partial (repeat number after body own turns leaves) word =
    Rounds (Complete body) turns (λ back. Partial body back ⊎ Closing (Complete body) leaves back) word
