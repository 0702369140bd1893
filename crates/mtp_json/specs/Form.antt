-- How the form of an object is read: its fields in order, then its other keys, then its own rules.
use Rattle.std.specs.Prelude.{ℕ, suc, ◌&&◌, ◌==◌, List, [], ◌∷◌, Bool, true, false, Option, Some, None, Ok, Err, if◌then◌else◌, ⊤}
use Rattle.std.specs.List.{list_any, slice_split}
use Rattle.std.specs.Str.{bytes_eq}
use Rattle.serde_json.specs.Data.{Data, Items, no_items, item, Members, no_members, member}
use Rattle.serde_json.specs.Find.{get, as_object}
use Rattle.mtp_json.specs.declared.fault.FaultKind.{FaultKind}
use Rattle.mtp_json.specs.declared.fault.FaultKind.TheVariants.{Missing, WrongKind, Unknown}
use Rattle.mtp_json.specs.Leaf.{anything, items_in}
use Rattle.mtp_json.specs.ReadResult.{Finding, ReadResult, ◌>>=◌, here, under, in_place}

-- ---- one field

-- a value by its form; Missing where its key is absent
abbrev pub present : {A : Type 0} → (Data → Finding A) → Option Data → Finding A
present form None = Err Missing
present form (Some value) = form value

-- the value at a key that must be there
abbrev pub field : {A : Type 0} → List ℕ → (Data → Finding A) → Data → Finding A
field key form value = present form (get key value)

-- the value at a key that must be there, with the key as the path of a fault
abbrev pub required : {A : Type 0} → List ℕ → (Data → Finding A) → Data → ReadResult A
required key form value = under key (here (field key form value))

-- what was found, as a value that is there
abbrev pub some_found : {A : Type 0} → Finding A → Finding (Option A)
some_found (Ok value) = Ok (Some value)
some_found (Err kind) = Err kind

-- a value by its form, if its key is there
abbrev pub if_present : {A : Type 0} → (Data → Finding A) → Option Data → Finding (Option A)
if_present form None = Ok None
if_present form (Some value) = some_found (form value)

-- the value at a key, if the key is there
abbrev pub optional : {A : Type 0} → List ℕ → (Data → Finding A) → Data → ReadResult (Option A)
optional key form value = under key (here (if_present form (get key value)))

-- a value by its form, or `absent` where its key is absent
abbrev pub present_or : {A : Type 0} → A → (Data → Finding A) → Option Data → Finding A
present_or absent form None = Ok absent
present_or absent form (Some value) = form value

-- the value at a key, or `absent` where the key is absent
abbrev pub required_or : {A : Type 0} → List ℕ → A → (Data → Finding A) → Data → ReadResult A
required_or key absent form value = under key (here (present_or absent form (get key value)))

-- ---- a field that has a form of its own

-- the value at a key that must be there, by a form
abbrev pub nested : {A : Type 0} → List ℕ → (Data → ReadResult A) → Data → ReadResult A
nested key form value =
    required key anything value >>= λ inner.
    under key (form inner)

-- a value by a form of its own, if its key is there
abbrev pub nested_if_present : {A : Type 0} → (Data → ReadResult A) → Option Data → ReadResult (Option A)
nested_if_present form None = Ok None
nested_if_present form (Some value) = form value >>= λ found. Ok (Some found)

-- the value at a key by a form, if the key is there
abbrev pub nested_if_there : {A : Type 0} → List ℕ → (Data → ReadResult A) → Data → ReadResult (Option A)
nested_if_there key form value = under key (nested_if_present form (get key value))

-- ---- lists

-- each item by the form, from first to last, the first at this place
unfoldable pub each : {A : Type 0} → (Data → ReadResult A) → ℕ → Items → ReadResult (List A)
each form place no_items = Ok []
each form place (item value rest) =
    in_place place (form value) >>= λ first.
    each form (suc place) rest >>= λ others.
    Ok (first ∷ others)

-- a list of low to high items at a key that must be there, each by the form
abbrev pub list : {A : Type 0} → List ℕ → ℕ → ℕ → (Data → ReadResult A) → Data → ReadResult (List A)
list key low high form value =
    required key (items_in low high) value >>= λ values.
    under key (each form 0 values)

-- each item of a list that is there, and none of one that is absent
abbrev pub each_or_none : {A : Type 0} → List ℕ → (Data → ReadResult A) → Option Items → ReadResult (List A)
each_or_none key form None = Ok []
each_or_none key form (Some values) = under key (each form 0 values)

-- a list of low to high items at a key that may be absent, and then the list is empty
abbrev pub list_or_none : {A : Type 0} → List ℕ → ℕ → ℕ → (Data → ReadResult A) → Data → ReadResult (List A)
list_or_none key low high form value =
    optional key (items_in low high) value >>= λ values.
    each_or_none key form values

-- each item of a list, if the list is there
abbrev pub each_if_there : {A : Type 0} → List ℕ → (Data → ReadResult A) → Option Items → ReadResult (Option (List A))
each_if_there key form None = Ok None
each_if_there key form (Some values) =
    under key (each form 0 values) >>= λ found.
    Ok (Some found)

-- a list of low to high items at a key that may be absent, and then there is no list
abbrev pub list_if_there : {A : Type 0} → List ℕ → ℕ → ℕ → (Data → ReadResult A) → Data → ReadResult (Option (List A))
list_if_there key low high form value =
    optional key (items_in low high) value >>= λ values.
    each_if_there key form values

-- ---- the object as a whole

-- done where the members of an object were found; else WrongKind
abbrev pub some_object : Option Members → ReadResult ⊤
some_object None = here (Err WrongKind)
some_object (Some _) = Ok tt

-- the value is an object
abbrev pub object_here : Data → ReadResult ⊤
object_here value = some_object (as_object value)

-- the words of a text with one space between neighbours
abbrev pub words : List ℕ → List (List ℕ)
words keys = slice_split (λ byte. byte == 32) keys

-- the key is one of these words
abbrev pub is_listed : List ℕ → List ℕ → Bool
is_listed keys key = list_any (λ word. bytes_eq word key) (words keys)

-- each key of the members is one of these words
abbrev pub all_listed : List ℕ → Members → Bool
all_listed keys no_members = true
all_listed keys (member key value rest) = is_listed keys key && all_listed keys rest

-- members that were found, or none, against the keys that are allowed
abbrev pub listed_members : List ℕ → Option Members → Finding ⊤
listed_members keys None = Err WrongKind
listed_members keys (Some members) = if all_listed keys members then Ok tt else Err Unknown

-- an object with no key but these, which are given in one text
abbrev pub only_keys : List ℕ → Data → Finding ⊤
only_keys keys value = listed_members keys (as_object value)

-- an object with no key but these, as a step of reading
abbrev pub nothing_but : List ℕ → Data → ReadResult ⊤
nothing_but keys value = here (only_keys keys value)

-- ---- a form's own rules

-- a fault of this kind where the rule is broken
abbrev pub refused_if : Bool → FaultKind → ReadResult ⊤
refused_if true kind = here (Err kind)
refused_if false kind = Ok tt
