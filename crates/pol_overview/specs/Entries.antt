-- The entries of a history as they are shown: each with its answer, its event, and who asked for it.
use Rattle.std.specs.Prelude.{ℕ, ◌-◌, nat_lt, List, [], ◌∷◌, ◌++◌, map, take, drop, codes, Option, Some, None}
use Rattle.std.specs.Option.{unwrap_or}
use Rattle.serde_json.specs.Data.{Data, string, object, Members, member, no_members}
use Rattle.serde_json.specs.View.{items_of}
use Rattle.serde_json.specs.Written.{compact_text, items_text}
use Rattle.pol_events.specs.Events.{PlainEntry}
use Rattle.event_json.specs.Written.{written_event}
use Rattle.pol_record.specs.Texts.{answer_data, line_text, under_key}
use Rattle.pol_overview.specs.declared.entries.TheConstants.{MOST_TOLD}
use Rattle.pol_overview.specs.Lists.{each_data}

-- an entry, and who asked for its event, where somebody was named
pub record NamedEntry : Type 0 where
  pub entry : PlainEntry
  pub person : Option (List ℕ)

-- entries with who asked for their events, in order
abbrev pub all_named : List (Option (List ℕ)) → List PlainEntry → List NamedEntry
all_named [] entries = []
all_named (person ∷ persons) [] = []
all_named (person ∷ persons) (entry ∷ entries) =
    record { entry = entry; person = person } ∷ all_named persons entries

-- members, and who asked in front of them where somebody was named
abbrev pub by_member : Option (List ℕ) → Members → Members
by_member None others = others
by_member (Some person) others = member (codes "by") (string person) others

-- an answer, who asked, and the event
unfoldable pub told_object : Data → Option (List ℕ) → Data → Data
told_object answer person event =
    object (member (codes "answer") answer (by_member person (member (codes "event") event no_members)))

-- an entry as it is shown
abbrev pub entry_data : NamedEntry → Data
entry_data told = told_object (answer_data told.entry.answer) told.person (written_event told.entry.event)

-- the entries from a place on, at most so many; where no number is given, at most `MOST_TOLD`
abbrev pub cut_of : ℕ → Option ℕ → List NamedEntry → List NamedEntry
cut_of from most entries = take (unwrap_or most MOST_TOLD) (drop from entries)

-- the line of these entries
abbrev pub entries_text : List NamedEntry → List ℕ
entries_text entries = line_text (under_key (codes "entries") (each_data entry_data entries))

-- ---- piece by piece

-- the text of who asked, with the comma and the key before it, where somebody was named
abbrev pub person_text : Option (List ℕ) → List ℕ
person_text None = []
person_text (Some person) = codes ",\"by\":" ++ compact_text (string person)

-- the text of the entries from a place up to another, in a list that begins at the first place, with the bracket at its
-- end
abbrev pub text_between : ℕ → ℕ → ℕ → List NamedEntry → List ℕ
text_between first place end entries =
    items_text (nat_lt first place) (items_of (map entry_data (take (end - place) (drop place entries))))
