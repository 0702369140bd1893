-- Lists of those entries of a history that concern a name.
use Rattle.std.specs.Prelude.{◌≡◌, ◌∷◌, ◌++◌, ◌&&◌, ℕ, Bool, false, List, [], map, reverse, Option, Some, None}
use Rattle.std.specs.Prelude.{if◌then◌else◌}
use Rattle.std.specs.Borrow.{Bor}
use Rattle.std.specs.List.{list_all}
use Rattle.std.specs.Map.{lookup}
use Rattle.std.specs.Option.{option_map_or}
use Rattle.std.specs.Str.{bytes_eq}
use Rattle.std.specs.declared.vec.Vec.{Vec}
use Rattle.pol_events.specs.Events.{plain_entry}
use Rattle.pol_events.specs.Orderly.{is_orderly}
use Rattle.pol_events.specs.declared.event.Entry.{Entry}
use Rattle.pol_history.specs.Looking.{History}

-- the items under a name: none, where it has no list
abbrev pub items_under : {T Z : Type 0} → List (List ℕ × Vec T Z) → List ℕ → List T
items_under named name = option_map_or (λ items. items.items) (lookup (bytes_eq name) named) []

-- the name is this one
abbrev pub is_this : List ℕ → Option (List ℕ) → Bool
is_this name None = false
is_this name (Some other) = bytes_eq other name

-- listed entries as a history
abbrev pub listed : List (Bor Entry) → History
listed entries = reverse (map (λ entry. plain_entry entry.now) entries)

-- the events are as a line says them
abbrev pub all_orderly : History → Bool
all_orderly entries = list_all (λ entry. is_orderly entry.event) entries

-- an item was put at the end of the list of the name, if there is one and the item is kept; the other lists stay
abbrev pub Grows : {T Z : Type 0} → List (List ℕ × Vec T Z) → List (List ℕ × Vec T Z) → Option (List ℕ) → Bool → T →
    Type 0
Grows old new whom kept item =
    (name : List ℕ) → items_under new name
    ≡ items_under old name ++ (if is_this name whom && kept then item ∷ [] else [])
