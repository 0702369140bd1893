-- How far each node has come, by its number, and for which words these marks stand.
use Rattle.std.specs.Prelude.{ℕ, ◌≡◌, ◌<◌, ◌≤◌, Bool, true, ◌||◌, get_or, List, [], ◌∷◌, ◌++◌, map, Option, Some, ◌⊎◌}
use Rattle.std.specs.List.{filter}
use Rattle.chart_core.specs.Entries.{Stage, begin, finish, reset, end}
use Rattle.chart_core.specs.Courses.{Course, nothing, step, chain, beside, select, repeat, is_of, All, Rounds, Closing, Complete}
use Rattle.chart_core.specs.declared.progress.Progress.{Progress}
use Rattle.chart_core.specs.declared.progress.Progress.TheVariants.{Untouched, Begun, Finished, WasReset, Ended, Chosen, Left}

-- how far each node has come
abbrev pub Marks : Type 0
Marks = ℕ → Progress

-- the marks in this list; behind the end of the list all is untouched
abbrev pub marks_of : List Progress → Marks
marks_of list place = get_or list place Untouched

-- the course keeps something at this number
abbrev pub Has : {E : Type 0} → Course E → ℕ → Type 0
Has nothing place = ⊥
Has (step number finishes stage) place = place ≡ number
Has (chain first rest) place = Has first place ⊎ Has rest place
Has (beside one other) place = Has one place ⊎ Has other place
Has (select number count own chooses bodies) place = (place ≡ number) ⊎ ((arm : ℕ) × Has (bodies arm) place)
Has (repeat number after body own turns leaves) place = (number ≤ place) × (place < after)

-- nothing was done of the course
abbrev pub Fresh : {E : Type 0} → Course E → Marks → Type 0
Fresh course marks = (place : ℕ) → Has course place → marks place ≡ Untouched

-- the course is done
abbrev pub Done : {E : Type 0} → Course E → Marks → Type 0
Done nothing marks = Unit {0}
Done (step number finishes stage) marks = marks number ≡ Ended
Done (chain first rest) marks = Done first marks × Done rest marks
Done (beside one other) marks = Done one marks × Done other marks
Done (select number count own chooses bodies) marks = (arm : ℕ) × (marks number ≡ Chosen arm) × Done (bodies arm) marks
Done (repeat number after body own turns leaves) marks = marks number ≡ Left

-- the stages that a step has had, by how far it has come
pub data Had (finishes : Bool) : Progress → List (Option Stage) → Type 0 where
  had_nothing : Had finishes Untouched []
  had_begin : Had finishes Begun (Some begin ∷ [])
  had_finish : finishes ≡ true → Had finishes Finished (Some begin ∷ Some finish ∷ [])
  had_reset : Had finishes WasReset (Some begin ∷ Some reset ∷ [])
  had_both : finishes ≡ true → Had finishes WasReset (Some begin ∷ Some finish ∷ Some reset ∷ [])
  had_end : Had finishes Ended (Some begin ∷ Some reset ∷ Some end ∷ [])
  had_all : finishes ≡ true → Had finishes Ended (Some begin ∷ Some finish ∷ Some reset ∷ Some end ∷ [])

-- The marks stand for the word: of one course and then another the first alone has begun, or it is done and the rest
-- has had the back of the word; of a loop the marks of its body are those of its last round.
abbrev pub Stands : {E : Type 0} → Course E → Marks → List E → Type 0
Stands nothing marks word = word ≡ []
Stands (step number finishes stage) marks word = Had finishes (marks number) (map stage word)
Stands {E} (chain first rest) marks word =
    (Stands first marks word × Fresh rest marks)
    ⊎ ((front : List E) × (back : List E) × (word ≡ front ++ back) × Done first marks × Stands first marks front
    × Stands rest marks back)
Stands (beside one other) marks word =
    All (λ entry. is_of one entry || is_of other entry) word
    × Stands one marks (filter (is_of one) word) × Stands other marks (filter (is_of other) word)
Stands {E} (select number count own chooses bodies) marks word =
    ((marks number ≡ Untouched) × (word ≡ []) × ((arm : ℕ) → Fresh (bodies arm) marks))
    ⊎ ((arm : ℕ) × (entry : E) × (back : List E) × (word ≡ entry ∷ back) × (arm < count) × (chooses entry ≡ Some arm)
    × (marks number ≡ Chosen arm) × Stands (bodies arm) marks back)
Stands (repeat number after body own turns leaves) marks word =
    ((marks number ≡ Untouched) × Rounds (Complete body) turns (Stands body marks) word)
    ⊎ ((marks number ≡ Left) × Rounds (Complete body) turns (Closing (Complete body) leaves) word)
