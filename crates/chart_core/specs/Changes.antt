-- What one more entry changes of the marks.
use Rattle.std.specs.Prelude.{ℕ, ◌<◌, ◌≤◌, ◌==◌, List, [], ◌∷◌, Bool, true, false, ◌&&◌, nat_lt, Option, Some, None, if◌then◌else◌}
use Rattle.chart_core.specs.Entries.{Stage, begin, finish, reset, end}
use Rattle.chart_core.specs.Courses.{Course, nothing, step, chain, beside, select, repeat}
use Rattle.chart_core.specs.Progress.{Marks}
use Rattle.chart_core.specs.declared.progress.Progress.{Progress}
use Rattle.chart_core.specs.declared.progress.Progress.TheVariants.{Untouched, Begun, Finished, WasReset, Ended, Chosen, Left}
use Rattle.chart_core.specs.declared.progress.Change.{Change}
use Rattle.chart_core.specs.declared.progress.Change.TheVariants.{Put, Clear}

-- a step has ended
abbrev pub is_ended : Progress → Bool
is_ended Untouched = false
is_ended Begun = false
is_ended Finished = false
is_ended WasReset = false
is_ended Ended = true
is_ended (Chosen arm) = false
is_ended Left = false

-- a loop was left
abbrev pub is_left : Progress → Bool
is_left Untouched = false
is_left Begun = false
is_left Finished = false
is_left WasReset = false
is_left Ended = false
is_left (Chosen arm) = false
is_left Left = true

-- an arm is chosen that passes the test
abbrev pub has_chosen : (ℕ → Bool) → Progress → Bool
has_chosen test Untouched = false
has_chosen test Begun = false
has_chosen test Finished = false
has_chosen test WasReset = false
has_chosen test Ended = false
has_chosen test (Chosen arm) = test arm
has_chosen test Left = false

-- the course is done
abbrev pub is_done : {E : Type 0} → Course E → Marks → Bool
is_done nothing marks = true
is_done (step n finishes stage) marks = is_ended (marks n)
is_done (chain first rest) marks = is_done first marks && is_done rest marks
is_done (beside one other) marks = is_done one marks && is_done other marks
is_done (select n count own chooses bodies) marks = has_chosen (λ arm. is_done (bodies arm) marks) (marks n)
is_done (repeat n after body own turns leaves) marks = is_left (marks n)

-- how far a step has come after this stage, where it may come next
abbrev pub next_progress : Bool → Progress → Option Stage → Option Progress
next_progress finishes progress None = None
next_progress finishes Untouched (Some begin) = Some Begun
next_progress finishes Begun (Some finish) = if finishes then Some Finished else None
next_progress finishes Begun (Some reset) = Some WasReset
next_progress finishes Finished (Some reset) = Some WasReset
next_progress finishes WasReset (Some end) = Some Ended
next_progress finishes progress (Some stage) = None

-- a mark on the node with the number n, where there is one to put there
abbrev pub put_at : ℕ → Option Progress → Option Change
put_at n None = None
put_at n (Some progress) = Some (Put n progress)

-- the mark of a choice on the selection with the number n, where it chooses an arm
abbrev pub choose_at : ℕ → Option ℕ → Option Change
choose_at n None = None
choose_at n (Some arm) = Some (Put n (Chosen arm))

-- the first of two changes, where there is one
abbrev pub either_change : Option Change → Option Change → Option Change
either_change None other = other
either_change (Some change) other = Some change

-- the change of a selection: that of its choice while nothing is chosen, then that of the chosen arm
abbrev pub change_in_arm : Option Change → (ℕ → Option Change) → Progress → Option Change
change_in_arm choice arm Untouched = choice
change_in_arm choice arm Begun = None
change_in_arm choice arm Finished = None
change_in_arm choice arm WasReset = None
change_in_arm choice arm Ended = None
change_in_arm choice arm (Chosen place) = arm place
change_in_arm choice arm Left = None

-- the change of a loop, until the loop is left
abbrev pub while_untouched : Option Change → Progress → Option Change
while_untouched change Untouched = change
while_untouched change Begun = None
while_untouched change Finished = None
while_untouched change WasReset = None
while_untouched change Ended = None
while_untouched change (Chosen arm) = None
while_untouched change Left = None

-- what the entry changes, where it may come next
abbrev pub change_by : {E : Type 0} → Course E → Marks → E → Option Change
change_by nothing marks e = None
change_by (step n finishes stage) marks e = put_at n (next_progress finishes (marks n) (stage e))
change_by (chain first rest) marks e = if is_done first marks then change_by rest marks e else change_by first marks e
change_by (beside one other) marks e = either_change (change_by one marks e) (change_by other marks e)
change_by (select n count own chooses bodies) marks e =
    change_in_arm (choose_at n (chooses e)) (λ arm. change_by (bodies arm) marks e) (marks n)
change_by (repeat n after body own turns leaves) marks e =
    while_untouched
    (if is_done body marks
    then (if turns e then Some (Clear n after) else (if leaves e then Some (Put n Left) else None))
    else change_by body marks e)
    (marks n)

-- the marks after a change
abbrev pub changed : Change → Marks → Marks
changed (Put place to) marks i = if i == place then to else marks i
changed (Clear above below) marks i = if nat_lt above i && nat_lt i below then Untouched else marks i

-- the marks after a change, where there is one
abbrev pub moved : Marks → Option Change → Marks
moved marks None = marks
moved marks (Some change) = changed change marks

-- the marks after each entry of a word in order; an entry that may not come next changes nothing
abbrev pub marks_along : {E : Type 0} → Course E → Marks → List E → Marks
marks_along course marks [] = marks
marks_along course marks (e ∷ later) = marks_along course (moved marks (change_by course marks e)) later

-- the change touches numbers below n alone
abbrev pub FitsIn : ℕ → Change → Type 0
FitsIn n (Put place to) = place < n
FitsIn n (Clear above below) = (above < below) × (below ≤ n)
