-- Modules that are noted by name as read, on the way forward over a history.
use Rattle.std.specs.Prelude.{ℕ, ◌≡◌, Bool, false, List}
use Rattle.std.specs.Map.{lookup}
use Rattle.std.specs.Option.{option_map_or}
use Rattle.std.specs.Str.{bytes_eq}
use Rattle.pol_history.specs.Looking.{History, Subject, of_module, of_batch, of_recipe}
use Rattle.pol_compaction.specs.Reading.{is_read}
use Rattle.pol_compaction.specs.Flags.{lasting_in}

-- the name is noted
abbrev pub is_noted : List (List ℕ × Bool) → List ℕ → Bool
is_noted named name = option_map_or (λ noted. noted) (lookup (bytes_eq name) named) false

-- the subject is a module that is noted
abbrev pub is_subject_noted : List (List ℕ × Bool) → Subject → Bool
is_subject_noted named (of_module tag) = is_noted named tag
is_subject_noted named (of_batch batch) = false
is_subject_noted named (of_recipe name) = false

-- just the modules are noted that one of these entries, the newest first, read since they were moved last
abbrev pub AreRead : History → List (List ℕ × Bool) → History → Type 0
AreRead whole named older = (tag : List ℕ) → is_noted named tag ≡ is_read whole tag (lasting_in whole older)
