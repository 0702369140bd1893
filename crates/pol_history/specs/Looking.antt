-- A history, and looking back in it. A history lists the newest entry first.
use Rattle.std.specs.Prelude.{ℕ, Bool, true, false, ◌&&◌, List, [], ◌∷◌, filter, Option, None, if◌then◌else◌}
use Rattle.std.specs.Option.{option_or}
use Rattle.std.specs.Str.{bytes_eq}
pub use Rattle.pol_events.specs.Accepted.{is_accepted}
use Rattle.pol_events.specs.Events.{PlainEntry}
pub use Rattle.pol_events.specs.Subjects.{Subject, of_module, of_batch, of_recipe, subject}

-- the events with their answers, the newest first
abbrev pub History : Type 0
History = List PlainEntry

-- the subject is this module
abbrev pub is_module : List ℕ → Subject → Bool
is_module tag (of_module other) = bytes_eq other tag
is_module tag (of_batch batch) = false
is_module tag (of_recipe name) = false

-- the subject is this batch
abbrev pub is_batch : List ℕ → Subject → Bool
is_batch batch (of_module tag) = false
is_batch batch (of_batch other) = bytes_eq other batch
is_batch batch (of_recipe name) = false

-- the subject is a recipe
abbrev pub is_recipe : Subject → Bool
is_recipe (of_module tag) = false
is_recipe (of_batch batch) = false
is_recipe (of_recipe name) = true

-- the entry is an accepted event of the module
abbrev pub is_accepted_of : List ℕ → PlainEntry → Bool
is_accepted_of tag entry = is_module tag (subject entry.event) && is_accepted entry.answer

-- the entry is an accepted event of the batch
abbrev pub is_accepted_of_batch : List ℕ → PlainEntry → Bool
is_accepted_of_batch batch entry = is_batch batch (subject entry.event) && is_accepted entry.answer

-- the entry is an accepted recipe
abbrev pub is_accepted_recipe : PlainEntry → Bool
is_accepted_recipe entry = is_recipe (subject entry.event) && is_accepted entry.answer

-- the accepted events of a module: its past
abbrev pub past : List ℕ → History → History
past tag history = filter (is_accepted_of tag) history

-- the accepted events of a batch: its past
abbrev pub past_of_batch : List ℕ → History → History
past_of_batch batch history = filter (is_accepted_of_batch batch) history

-- the accepted recipes
abbrev pub recipes : History → History
recipes history = filter is_accepted_recipe history

-- what is said by the newest entry that says anything
abbrev pub last_of : {A : Type 0} → (PlainEntry → Option A) → History → Option A
last_of says [] = None
last_of says (entry ∷ older) = option_or (says entry) (last_of says older)

-- the entries since the newest one that passes the test, that one included
abbrev pub since : (PlainEntry → Bool) → History → History
since test [] = []
since test (entry ∷ older) = if test entry then entry ∷ [] else entry ∷ since test older

-- the entries after the newest one that passes the test
abbrev pub after_last : (PlainEntry → Bool) → History → History
after_last test [] = []
after_last test (entry ∷ older) = if test entry then [] else entry ∷ after_last test older
