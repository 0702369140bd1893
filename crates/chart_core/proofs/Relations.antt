-- Which entries may come next, and what the marks are after them.
use Rattle.std.specs.Prelude.{ℕ, ◌≡◌, ◌≢◌, ◌<◌, Bool, true, Option, Some, ◌⊎◌}
use Rattle.chart_core.specs.Entries.{Stage, begin, finish, reset, end}
use Rattle.chart_core.specs.Courses.{Course, nothing, step, chain, beside, select, repeat, is_of}
use Rattle.chart_core.specs.declared.progress.Progress.{Progress}
use Rattle.chart_core.specs.declared.progress.Progress.TheVariants.{Untouched, Begun, Finished, WasReset, Ended, Chosen, Left}
use Rattle.chart_core.specs.Progress.{Marks, Has, Done}

-- g is f but for the place n, where it is m
abbrev pub Puts : ℕ → Progress → Marks → Marks → Type 0
Puts number progress marks later = (later number ≡ progress)
    × ((place : ℕ) → place ≢ number → later place ≡ marks place)

-- g is f with the places above n and below after Untouched again
abbrev pub Clears : ℕ → ℕ → Marks → Marks → Type 0
Clears number after marks later =
    ((place : ℕ) → number < place → place < after → later place ≡ Untouched)
    × ((place : ℕ) → (number < place → place < after → ⊥) → later place ≡ marks place)

-- the next point of a step after this stage
pub data Next (finishes : Bool) : Progress → Option Stage → Progress → Type 0 where
  to_begun : Next finishes Untouched (Some begin) Begun
  to_finished : finishes ≡ true → Next finishes Begun (Some finish) Finished
  reset_begun : Next finishes Begun (Some reset) WasReset
  reset_finished : Next finishes Finished (Some reset) WasReset
  to_ended : Next finishes WasReset (Some end) Ended

-- from f the entry leads to g
abbrev pub Moves : {E : Type 0} → Course E → Marks → E → Marks → Type 0
Moves nothing marks entry later = ⊥
Moves (step number finishes stage) marks entry later = (progress : Progress)
    × Next finishes (marks number) (stage entry) progress × Puts number progress marks later
Moves (chain one other) marks entry later = Moves one marks entry later
    ⊎ (Done one marks × Moves other marks entry later)
Moves (beside one other) marks entry later = Moves one marks entry later ⊎ Moves other marks entry later
Moves (select number count own chooses bodies) marks entry later =
    ((marks number ≡ Untouched)
    × ((arm : ℕ) × (arm < count) × (chooses entry ≡ Some arm) × Puts number (Chosen arm) marks later))
    ⊎ ((arm : ℕ) × (marks number ≡ Chosen arm) × (arm < count) × Moves (bodies arm) marks entry later)
Moves (repeat number after body own turns leaves) marks entry later =
    (marks number ≡ Untouched)
    × (Moves body marks entry later
    ⊎ ((Done body marks × (turns entry ≡ true) × Clears number after marks later)
    ⊎ (Done body marks × (leaves entry ≡ true) × Puts number Left marks later)))

-- the entry may come next
abbrev pub Awaits : {E : Type 0} → Course E → Marks → E → Type 0
Awaits nothing marks entry = ⊥
Awaits (step number finishes stage) marks entry = (progress : Progress)
    × Next finishes (marks number) (stage entry) progress
Awaits (chain one other) marks entry = Awaits one marks entry ⊎ (Done one marks × Awaits other marks entry)
Awaits (beside one other) marks entry = Awaits one marks entry ⊎ Awaits other marks entry
Awaits (select number count own chooses bodies) marks entry =
    ((marks number ≡ Untouched) × ((arm : ℕ) × (arm < count) × (chooses entry ≡ Some arm)))
    ⊎ ((arm : ℕ) × (marks number ≡ Chosen arm) × (arm < count) × Awaits (bodies arm) marks entry)
Awaits (repeat number after body own turns leaves) marks entry =
    (marks number ≡ Untouched)
    × (Awaits body marks entry
    ⊎ ((Done body marks × (turns entry ≡ true))
    ⊎ (Done body marks × (leaves entry ≡ true))))

-- No entry is of two leaves, and no two nodes have one number.
abbrev pub Apart : {E : Type 0} → Course E → Course E → Type 0
Apart {E} one other = ((entry : E) → is_of one entry ≡ true → is_of other entry ≡ true → ⊥)
    × ((place : ℕ) → Has one place → Has other place → ⊥)

-- no two parts of the course share an entry or a number, and a decision is one of its own node
abbrev pub Sound : {E : Type 0} → Course E → Type 0
Sound nothing = Unit {0}
Sound (step number finishes stage) = Unit {0}
Sound (chain one other) = Sound one × Sound other × Apart one other
Sound (beside one other) = Sound one × Sound other × Apart one other
Sound {E} (select number count own chooses bodies) =
    ((arm : ℕ) → Sound (bodies arm))
    × ((arm : ℕ) → Has (bodies arm) number → ⊥)
    × ((arm : ℕ) (entry : E) → chooses entry ≡ Some arm → arm < count)
    × ((arm : ℕ) (entry : E) → is_of (bodies arm) entry ≡ true → arm < count)
    × ((arm : ℕ) (entry : E) → chooses entry ≡ Some arm → own entry ≡ true)
Sound {E} (repeat number after body own turns leaves) =
    Sound body
    × (number < after)
    × ((place : ℕ) → Has body place → (number < place) × (place < after))
    × ((entry : E) → is_of body entry ≡ true → turns entry ≡ true → ⊥)
    × ((entry : E) → is_of body entry ≡ true → leaves entry ≡ true → ⊥)
    × ((entry : E) → turns entry ≡ true → leaves entry ≡ true → ⊥)
    × ((entry : E) → turns entry ≡ true → own entry ≡ true)
    × ((entry : E) → leaves entry ≡ true → own entry ≡ true)
