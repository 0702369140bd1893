-- The lines of a finder: each is one JSON object and a line feed.
use Rattle.std.specs.Prelude.{ℕ, List, map, true, codes}
use Rattle.serde_json.specs.Data.{Data, array, boolean, number, object, string, unsigned, member, no_members}
use Rattle.serde_json.specs.View.{items_of}
use Rattle.pol_events.specs.Bound.{PlainAllocation}
use Rattle.event_json.specs.Written.{watch_member, written_binds}
use Rattle.pol_record.specs.Texts.{line_text}

-- names as a list of texts
abbrev pub names_data : List (List ℕ) → Data
names_data names = array (items_of (map string names))

-- a recipe that can be bound, with these binds
unfoldable pub bind_object : Data → List ℕ → Data
bind_object binds recipe =
    object (member (codes "bind") binds (member (codes "recipe") (string recipe) no_members))

-- a recipe that can be started, with what is held and, where anything is, what is watched
unfoldable pub offer_object : PlainAllocation → List ℕ → Data
offer_object binds recipe =
    object
    (member (codes "bind") (written_binds binds.held)
    (member (codes "recipe") (string recipe) (watch_member binds.watched)))

-- a recipe that can't be bound, with these roles and these tags
unfoldable pub short_object : List ℕ → Data → Data → Data
short_object recipe roles tags = object
    (member (codes "recipe") (string recipe)
    (member (codes "short") roles
    (member (codes "tags") tags no_members)))

-- the end, with the number of lines at fault
unfoldable pub bad_object : ℕ → Data
bad_object bad =
    object (member (codes "bad") (number (unsigned bad)) (member (codes "end") (boolean true) no_members))

-- the last line, with the number of lines at fault
abbrev pub bad_text : ℕ → List ℕ
bad_text bad = line_text (bad_object bad)
