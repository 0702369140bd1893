-- What is at the keys of a value from which a key was taken out.
use Rattle.std.proofs.Common.{◌≡◌, ◌&&◌, ℕ, List, [], ◌∷◌, ◌++◌, Bool, true, false}
use Rattle.std.proofs.Common.{true≢false, Option, Some, None, Ok, Err}
use Rattle.std.proofs.Common.{option_map}
use Rattle.std.proofs.Common.{Ordering, Less, Equal, Greater, String, Global, string_bytes, is_eq, refl, sym, ap, ◌∙◌}
use Rattle.std.specs.Prelude.{◌||◌, codes, if◌then◌else◌}
use Rattle.std.proofs.lemmas.Bool.{and_parts}
use Rattle.std.proofs.lemmas.Map.Text.{is_eq-slice_cmp}
use Rattle.std.proofs.lemmas.Slice.Eq.{bytes_eq-Decides}
use Rattle.std.specs.BTreeMap.{is_at}
use Rattle.std.specs.Cmp.Lexicographic.{slice_cmp}
use Rattle.std.specs.List.{list_any}
use Rattle.std.specs.Map.{lookup, remove_entry}
use Rattle.std.specs.Ordering.{nat_cmp, match_ordering}
use Rattle.std.specs.Str.{bytes_eq}
use Rattle.serde_json.specs.Data.{Data, null, boolean, number, string, array, object, Members, no_members, member}
use Rattle.serde_json.specs.Find.{get, get_member}
use Rattle.serde_json.specs.View.{view, members_view}
use Rattle.serde_json.proofs.Views.{Entry, view-lookup}
use Rattle.mtp_json.specs.declared.fault.FaultKind.TheVariants.{Unknown}
use Rattle.mtp_json.specs.Form.{all_listed, is_listed, nothing_but, object_here, present, required, words}
use Rattle.mtp_json.specs.ReadResult.{Finding, here, under}
use Rattle.named_lines.specs.Without.{without, without_member}

-- ---- keys that are compared

-- keys that compare to an order are one key exactly where the order says so
equal_by : (order : Ordering) (key name : List ℕ) → slice_cmp nat_cmp key name ≡ order
    → bytes_eq key name ≡ is_eq order
equal_by order key name is = sym (is_eq-slice_cmp key name) ∙ ap is_eq is

-- ---- a key that isn't there

-- a member of another key stays
absent_at : (order : Ordering) (key name : List ℕ) (value : Data) (others : Members)
    → slice_cmp nat_cmp key name ≡ order
    → match_ordering order (get_member key others) (Some value) (get_member key others) ≡ None
    → (get_member key others ≡ None → without_member key others ≡ others)
    → without_member key (member name value others) ≡ member name value others
absent_at Less key name value others is none later = rw (equal_by Less key name is, later none) refl
absent_at Equal key name value others is none later = absurd cc
absent_at Greater key name value others is none later = rw (equal_by Greater key name is, later none) refl

-- members without this key stay as they are
pub absent_member : (key : List ℕ) (members : Members) → get_member key members ≡ None
    → without_member key members ≡ members
absent_member key no_members none = refl
absent_member key (member name value others) none =
    absent_at (slice_cmp nat_cmp key name) key name value others refl none (absent_member key others)

-- a value without this key stays as it is
pub absent_key : (key : List ℕ) (value : Data) → get key value ≡ None → without key value ≡ value
absent_key key null none = refl
absent_key key (boolean bit) none = refl
absent_key key (number held) none = refl
absent_key key (string bytes) none = refl
absent_key key (array values) none = refl
absent_key key (object found) none = ap object (absent_member key found none)

-- ---- another key

-- what doesn't compare as equal is looked for further on
passed : (order : Ordering) (rest found : Option Data) → is_eq order ≡ false
    → match_ordering order rest found rest ≡ rest
passed Less rest found other = refl
passed Equal rest found other = absurd cc
passed Greater rest found other = refl

-- a member of another key has its value, whether or not the one in front of it is taken out
other_at : (taken : Bool) (key out name : List ℕ) (value : Data) (others : Members) → bytes_eq out name ≡ taken
    → bytes_eq key out ≡ false → get_member key (without_member out others) ≡ get_member key others
    → get_member key (if taken then without_member out others else member name value (without_member out others))
    ≡ get_member key (member name value others)
other_at true key out name value others is differs later =
    let same : out ≡ name = (bytes_eq-Decides out name).0 is in
    let apart : is_eq (slice_cmp nat_cmp key name) ≡ false =
    is_eq-slice_cmp key name ∙ ap (bytes_eq key) (sym same) ∙ differs in
    later ∙ sym (passed (slice_cmp nat_cmp key name) (get_member key others) (Some value) apart)
other_at false key out name value others is differs later =
    ap (λ rest. match_ordering (slice_cmp nat_cmp key name) rest (Some value) rest) later

-- another member has the value that it had
other_member : (key out : List ℕ) (members : Members) → bytes_eq key out ≡ false
    → get_member key (without_member out members) ≡ get_member key members
other_member key out no_members differs = refl
other_member key out (member name value others) differs =
    other_at (bytes_eq out name) key out name value others refl differs (other_member key out others differs)

-- another key has the value that it had
other_key : (key out : List ℕ) (value : Data) → bytes_eq key out ≡ false → get key (without out value) ≡ get key value
other_key key out null differs = refl
other_key key out (boolean bit) differs = refl
other_key key out (number held) differs = refl
other_key key out (string bytes) differs = refl
other_key key out (array values) differs = refl
other_key key out (object found) differs = other_member key out found differs

-- another field is read as it was
pub other_field : {A : Type 0} (key out : List ℕ) (form : Data → Finding A) (value : Data) → bytes_eq key out ≡ false
    → required key form (without out value) ≡ required key form value
other_field key out form value differs =
    ap (λ found. under key (here (present form found))) (other_key key out value differs)

-- an object stays one
pub still_object : (out : List ℕ) (value : Data) → object_here (without out value) ≡ object_here value
still_object out null = refl
still_object out (boolean bit) = refl
still_object out (number held) = refl
still_object out (string bytes) = refl
still_object out (array values) = refl
still_object out (object found) = refl

-- ---- keys that may be there

-- a key that may not be there is no member's
unlisted_at : (order : Ordering) (keys key name : List ℕ) (value : Data) (rest : Option Data)
    → slice_cmp nat_cmp key name ≡ order → is_listed keys key ≡ false → is_listed keys name ≡ true → rest ≡ None
    → match_ordering order rest (Some value) rest ≡ None
unlisted_at Less keys key name value rest is out here none = none
unlisted_at Equal keys key name value rest is out here none =
    let same : key ≡ name = (bytes_eq-Decides key name).0 (equal_by Equal key name is) in
    absurd (true≢false (sym here ∙ ap (is_listed keys) (sym same) ∙ out))
unlisted_at Greater keys key name value rest is out here none = none

-- members whose keys may all be there have no other
unlisted_member : (keys key : List ℕ) (members : Members) → is_listed keys key ≡ false
    → all_listed keys members ≡ true → get_member key members ≡ None
unlisted_member keys key no_members out listed = refl
unlisted_member keys key (member name value others) out listed =
    let parts = and_parts (is_listed keys name) (all_listed keys others) listed in
    unlisted_at (slice_cmp nat_cmp key name) keys key name value (get_member key others) refl out parts.0
    (unlisted_member keys key others out parts.1)

-- of the keys of the members, each may be there or not
unlisted_found : (listed : Bool) (keys key : List ℕ) (found : Members) → all_listed keys found ≡ listed
    → is_listed keys key ≡ false → nothing_but keys (object found) ≡ Ok tt → get_member key found ≡ None
unlisted_found true keys key found is out only = unlisted_member keys key found out is
unlisted_found false keys key found is out only = absurd cc

-- an object with no key but these has no other
pub unlisted_key : (keys key : List ℕ) (value : Data) → is_listed keys key ≡ false → nothing_but keys value ≡ Ok tt
    → get key value ≡ None
unlisted_key keys key null out only = refl
unlisted_key keys key (boolean bit) out only = refl
unlisted_key keys key (number held) out only = refl
unlisted_key keys key (string bytes) out only = refl
unlisted_key keys key (array values) out only = refl
unlisted_key keys key (object found) out only =
    unlisted_found (all_listed keys found) keys key found refl out only

-- ---- a command of the desk

-- a word that fails a test is no matter among others
skipped : (test : List ℕ → Bool) (front back : List (List ℕ)) (out : List ℕ) → test out ≡ false
    → list_any test (front ++ out ∷ back) ≡ list_any test (front ++ back)
skipped test [] back out fails = rw fails refl
skipped test (word ∷ front) back out fails = ap (λ found. test word || found) (skipped test front back out fails)

-- the keys of a command of the desk that names its person: those in front of `by`
abbrev front_words : List (List ℕ)
front_words = codes "ev" ∷ codes "at" ∷ []

-- those behind it
abbrev back_words : List (List ℕ)
back_words = codes "tag" ∷ codes "service" ∷ codes "CommandOp" ∷ []

-- they are these words
named_words : words (codes "ev at by tag service CommandOp") ≡ front_words ++ codes "by" ∷ back_words
named_words = refl

-- and without `by` those of one in a journal
plain_words : words (codes "ev at tag service CommandOp") ≡ front_words ++ back_words
plain_words = refl

-- whether this is the name's word
abbrev is_word : List ℕ → List ℕ → Bool
is_word name word = bytes_eq word name

-- another name than `by` may occur in both
other_listed : (name : List ℕ) → is_word name (codes "by") ≡ false
    → is_listed (codes "ev at by tag service CommandOp") name ≡ is_listed (codes "ev at tag service CommandOp") name
other_listed name other =
    ap (list_any (is_word name)) named_words ∙ skipped (is_word name) front_words back_words (codes "by") other
    ∙ ap (list_any (is_word name)) (sym plain_words)

-- `by` may occur in the first
by_listed : (name : List ℕ) → codes "by" ≡ name → is_listed (codes "ev at by tag service CommandOp") name ≡ true
by_listed name same = ap (is_listed (codes "ev at by tag service CommandOp")) (sym same)

-- a key may occur in a command of the desk that names its person, or is `by`
desk_listed_at : (taken : Bool) (name : List ℕ) (value : Data) (others : Members) → bytes_eq (codes "by") name ≡ taken
    → all_listed (codes "ev at by tag service CommandOp") others
    ≡ all_listed (codes "ev at tag service CommandOp") (without_member (codes "by") others)
    → (is_listed (codes "ev at by tag service CommandOp") name
    && all_listed (codes "ev at by tag service CommandOp") others)
    ≡ all_listed (codes "ev at tag service CommandOp")
    (if taken then without_member (codes "by") others else member name value (without_member (codes "by") others))
desk_listed_at true name value others is later =
    ap (λ listed. listed && all_listed (codes "ev at by tag service CommandOp") others)
    (by_listed name ((bytes_eq-Decides (codes "by") name).0 is)) ∙ later
desk_listed_at false name value others is later =
    ap (λ listed. listed && all_listed (codes "ev at by tag service CommandOp") others) (other_listed name is)
    ∙ ap (λ rest. is_listed (codes "ev at tag service CommandOp") name && rest) later

-- the keys of a command of the desk are those of one that names its person, and `by`
desk_listed : (members : Members) → all_listed (codes "ev at by tag service CommandOp") members
    ≡ all_listed (codes "ev at tag service CommandOp") (without_member (codes "by") members)
desk_listed no_members = refl
desk_listed (member name value others) =
    desk_listed_at (bytes_eq (codes "by") name) name value others refl (desk_listed others)

-- so they are read alike
pub desk_keys : (value : Data) → nothing_but (codes "ev at tag service CommandOp") (without (codes "by") value)
    ≡ nothing_but (codes "ev at by tag service CommandOp") value
desk_keys null = refl
desk_keys (boolean bit) = refl
desk_keys (number held) = refl
desk_keys (string bytes) = refl
desk_keys (array values) = refl
desk_keys (object found) =
    ap (λ listed. here (if listed then Ok tt else Err Unknown)) (sym (desk_listed found))

-- ---- a map

-- whether an entry's key has this text
abbrev has_text : List ℕ → String Global → Bool
has_text key = is_at (λ name. slice_cmp nat_cmp key (string_bytes name))

-- where one entry of a key was taken out, what is left without this key is the same
taken_at : (found : Bool) (key : List ℕ) (entry : Entry) (entries : List Entry) → has_text key entry.0 ≡ found
    → without_member key (members_view (remove_entry (has_text key) entries))
    ≡ without_member key (members_view entries)
    → without_member key (members_view (if found then entries else entry ∷ remove_entry (has_text key) entries))
    ≡ without_member key (members_view (entry ∷ entries))
taken_at true key entry entries is later =
    let same : bytes_eq key (string_bytes entry.0) ≡ true = sym (is_eq-slice_cmp key (string_bytes entry.0)) ∙ is in
    rw same refl
taken_at false key entry entries is later = rw later refl

-- the same of all entries
taken : (key : List ℕ) (entries : List Entry)
    → without_member key (members_view (remove_entry (has_text key) entries))
    ≡ without_member key (members_view entries)
taken key [] = refl
taken key (entry ∷ entries) = taken_at (has_text key entry.0) key entry entries refl (taken key entries)

-- a map of whose entries one of a key was taken out, and that has no other, has the members without this key
pub taken_out : (key : List ℕ) (old new : List Entry) → new ≡ remove_entry (has_text key) old
    → lookup (has_text key) new ≡ None → members_view new ≡ without_member key (members_view old)
taken_out key old new is none =
    let absent : get_member key (members_view new) ≡ None = sym (view-lookup key new) ∙ ap (option_map view) none in
    sym (absent_member key (members_view new) absent)
    ∙ ap (λ entries. without_member key (members_view entries)) is ∙ taken key old
