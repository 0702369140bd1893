-- What is known of a value that was read without a fault, by what each step of its form gives.
use Rattle.std.proofs.Common.{◌≡◌, ℕ, suc, pos, negsuc, ℤ, Bool, true, false, List, ◌∷◌, length, Ok, Err, Option, Some, None, refl, ap}
use Rattle.std.specs.Prelude.{IfOk, IfSome, nat_le, if◌then◌else◌, Result}
use Rattle.std.proofs.lemmas.Result.{IfOk-weaker}
use Rattle.std.specs.List.{list_all}
use Rattle.serde_json.specs.Data.{Data, Items, no_items, item}
use Rattle.serde_json.specs.Events.{items_len}
use Rattle.serde_json.specs.Find.{get, as_array, as_str}
use Rattle.mtp_codes.specs.Numbers.{is_between}
use Rattle.mtp_json.specs.declared.fault.FaultKind.{FaultKind}
use Rattle.mtp_json.specs.declared.fault.FaultKind.TheVariants.{OutOfRange}
use Rattle.mtp_json.specs.declared.fault.JsonRefusal.{JsonRefusal}
use Rattle.mtp_json.specs.declared.path.PathPart.{PathPart}
use Rattle.mtp_json.specs.declared.path.PathPart.TheVariants.{Key, Place}
use Rattle.mtp_json.specs.Form.{present, if_present, some_found, nested_if_present, required, optional, nested, nested_if_there, each, each_or_none, refused_if}
use Rattle.mtp_json.specs.ReadsAs.{ReadsUnder, ReadsAs}
use Rattle.mtp_json.specs.Leaf.{anything, count, count_in, items_in, sized, text_in, text_to, whole_number}
use Rattle.mtp_json.specs.ReadResult.{Finding, ReadResult, ◌>>=◌, at, here, in_place, under}
use Rattle.chart_json.specs.Form.{items_from, sized_from}

-- whatever is read before, what is read next has the property
pub any_before : {A B : Type 0} (P : B → Type 0) (read : ReadResult A) (next : A → ReadResult B)
    → ((x : A) → IfOk (next x) P) → IfOk (read >>= next) P
any_before P (Ok x) next has = has x
any_before P (Err fault) next has = tt

-- what is known of what is read before serves for what is read next
pub told_before : {A B : Type 0} (Q : A → Type 0) (P : B → Type 0) (read : ReadResult A) (next : A → ReadResult B)
    → IfOk read Q → ((x : A) → Q x → IfOk (next x) P) → IfOk (read >>= next) P
told_before Q P (Ok x) next told has = has x told
told_before Q P (Err fault) next told has = tt

-- a fault's path is no matter
pub told_at : {A : Type 0} (P : A → Type 0) (part : PathPart) (read : ReadResult A) → IfOk read P
    → IfOk (at part read) P
told_at P part (Ok x) told = told
told_at P part (Err fault) told = tt

-- what is told of a value read holds of it at its place
pub told_here : {A : Type 0} (P : A → Type 0) (found : Finding A) → IfOk found P → IfOk (here found) P
told_here P (Ok x) told = told
told_here P (Err kind) told = tt

-- a value that is given where a test holds
pub told_if : {A : Type 0} (P : A → Type 0) (test : Bool) (x : A) (kind : FaultKind) → (test ≡ true → P x)
    → IfOk (if test then Ok x else Err kind) P
told_if P true x kind has = has refl
told_if P false x kind has = tt

-- one reading or another
pub either : {A : Type 0} (P : A → Type 0) (test : Bool) (one other : ReadResult A) → IfOk one P → IfOk other P
    → IfOk (if test then one else other) P
either P true one other told_one told_other = told_one
either P false one other told_one told_other = told_other

-- of a value nothing is asked
pub any_value : {A : Type 0} (read : ReadResult A) → IfOk read (λ _. true ≡ true)
any_value (Ok x) = refl
any_value (Err fault) = tt

-- a rule that was asked without a fault is kept
pub kept : (broken : Bool) (kind : FaultKind) → IfOk (refused_if broken kind) (λ _. broken ≡ false)
kept true kind = tt
kept false kind = refl

-- of a value at a key that must be there
told_present : {A : Type 0} (P : A → Type 0) (form : Data → Finding A) → ((value : Data) → IfOk (form value) P)
    → (found : Option Data) → IfOk (present form found) P
told_present P form told None = tt
told_present P form told (Some value) = told value

-- the value at a key that must be there
pub told_need : {A : Type 0} (P : A → Type 0) (key : List ℕ) (form : Data → Finding A)
    → ((value : Data) → IfOk (form value) P) → (value : Data) → IfOk (required key form value) P
told_need P key form told value =
    told_at P (Key key) (here (present form (get key value)))
    (told_here P (present form (get key value)) (told_present P form told (get key value)))

-- the value at a key that must be there, by a form of its own
pub told_inside : {A : Type 0} (P : A → Type 0) (key : List ℕ) (form : Data → ReadResult A)
    → ((value : Data) → IfOk (form value) P) → (value : Data) → IfOk (nested key form value) P
told_inside P key form told value =
    any_before P (required key anything value) (λ inner. under key (form inner))
    (λ inner. told_at P (Key key) (form inner) (told inner))

-- of a value at a key that may be missing
told_by_form : {A : Type 0} (P : Option A → Type 0) (form : Data → ReadResult A) → P None
    → ((value : Data) → IfOk (form value) (λ x. P (Some x))) → (found : Option Data)
    → IfOk (nested_if_present form found) P
told_by_form P form absent told None = absent
told_by_form P form absent told (Some value) = told_before (λ x. P (Some x)) P (form value) (λ x. Ok (Some x))
    (told value) (λ x has. has)

-- the same where the key may be absent
pub told_inside_if_there : {A : Type 0} (P : Option A → Type 0) (key : List ℕ) (form : Data → ReadResult A) → P None
    → ((value : Data) → IfOk (form value) (λ x. P (Some x))) → (value : Data) → IfOk (nested_if_there key form value) P
told_inside_if_there P key form absent told value = told_at P (Key key) (nested_if_present form (get key value))
    (told_by_form P form absent told (get key value))

-- a number from low to high
told_count_in : (low high : ℕ) (found : Option ℤ) → IfOk (count_in low high found) (λ n. is_between low high n ≡ true)
told_count_in low high None = tt
told_count_in low high (Some (pos n)) = told_if (λ n. is_between low high n ≡ true)
    (is_between low high n) n OutOfRange (λ is_within. is_within)
told_count_in low high (Some (negsuc n)) = tt

-- a count that is read is within its bounds
pub told_count : (low high : ℕ) (value : Data) → IfOk (count low high value) (λ n. is_between low high n ≡ true)
told_count low high value = told_count_in low high (whole_number value)

-- a text of at most so many bytes
told_text_in : (limit : ℕ) (found : Option (List ℕ)) → IfOk (text_in limit found)
    (λ bytes. nat_le (length bytes) limit ≡ true)
told_text_in limit None = tt
told_text_in limit (Some bytes) = told_if (λ bytes. nat_le (length bytes) limit ≡ true)
    (nat_le (length bytes) limit) bytes OutOfRange (λ is_within. is_within)

-- a text that is read is no longer than it may be
pub told_text : (limit : ℕ) (value : Data) → IfOk (text_to limit value) (λ bytes. nat_le (length bytes) limit ≡ true)
told_text limit value = told_text_in limit (as_str value)

-- ---- lists

-- a list that was found has such a size
abbrev pub HasSize : (ℕ → Bool) → Items → Type 0
HasSize size values = size (items_len values) ≡ true

-- items that pass the test of their number have such a number
told_sized : (low high : ℕ) (found : Option Items) → IfOk (sized low high found) (HasSize (is_between low high))
told_sized low high None = tt
told_sized low high (Some values) = told_if (HasSize (is_between low high))
    (is_between low high (items_len values)) values OutOfRange (λ is_within. is_within)

-- so a list that is read has
pub told_items : (low high : ℕ) (value : Data) → IfOk (items_in low high value) (HasSize (is_between low high))
told_items low high value = told_sized low high (as_array value)

-- and the same where only a least number is asked for
told_sized_from : (low : ℕ) (found : Option Items) → IfOk (sized_from low found) (HasSize (nat_le low))
told_sized_from low None = tt
told_sized_from low (Some values) = told_if (HasSize (nat_le low)) (nat_le low (items_len values)) values OutOfRange
    (λ is_within. is_within)

-- so a list that is read has at least so many
pub told_items_from : (low : ℕ) (value : Data) → IfOk (items_from low value) (HasSize (nat_le low))
told_items_from low value = told_sized_from low (as_array value)

-- as many items as values, and each passes the test
abbrev AreRead : {A : Type 0} → (A → Bool) → Items → List A → Type 0
AreRead test values found = (length found ≡ items_len values) × (list_all test found ≡ true)

-- each item that is read passes a test that its form promises
told_each : {A : Type 0} (test : A → Bool) (form : Data → ReadResult A)
    → ((value : Data) → IfOk (form value) (λ x. test x ≡ true)) → (place : ℕ) (values : Items)
    → IfOk (each form place values) (AreRead test values)
unfolding each
told_each test form told place no_items = (refl, refl)
told_each test form told place (item value rest) =
    told_before (λ x. test x ≡ true) (AreRead test (item value rest)) (in_place place (form value))
    (λ first. each form (suc place) rest >>= λ others. Ok (first ∷ others))
    (told_at (λ x. test x ≡ true) (Place place) (form value) (told value))
    (λ first passes.
    told_before (AreRead test rest) (AreRead test (item value rest)) (each form (suc place) rest)
    (λ others. Ok (first ∷ others)) (told_each test form told (suc place) rest)
    (λ others are. (ap suc are.0, rw (passes, are.1) refl)))

-- the list has such a size, and each item passes the test
abbrev pub IsListOf : {A : Type 0} → (ℕ → Bool) → (A → Bool) → List A → Type 0
IsListOf size test found = (size (length found) ≡ true) × (list_all test found ≡ true)

-- items that were read one by one from a list of such a size
pub told_all : {A : Type 0} (size : ℕ → Bool) (test : A → Bool) (form : Data → ReadResult A)
    → ((value : Data) → IfOk (form value) (λ x. test x ≡ true)) → (values : Items) → HasSize size values
    → IfOk (each form 0 values) (IsListOf size test)
told_all size test form told values sized =
    IfOk-weaker (each form 0 values) (AreRead test values) (IsListOf size test) (λ found are. (rw are.0 sized, are.1))
    (told_each test form told 0 values)

-- the same at a key
pub told_list : {A : Type 0} (size : ℕ → Bool) (test : A → Bool) (key : List ℕ) (leaf : Data
    → Finding Items) (form : Data → ReadResult A) → ((value : Data) → IfOk (leaf value) (HasSize size))
    → ((value : Data) → IfOk (form value) (λ x. test x ≡ true)) → (value : Data)
    → IfOk (required key leaf value >>= λ values. under key (each form 0 values)) (IsListOf size test)
told_list size test key leaf form told_leaf told value =
    told_before (HasSize size) (IsListOf size test) (required key leaf value) (λ values. under key (each form 0 values))
    (told_need (HasSize size) key leaf told_leaf value)
    (λ values sized. told_at (IsListOf size test) (Key key) (each form 0 values)
    (told_all size test form told values sized))

-- what holds of a value found holds of it as one that may be missing
told_some : {A : Type 0} (P : A → Type 0) (found : Finding A) → IfOk found P → IfOk (some_found found) (λ x. IfSome x P)
told_some P (Ok x) told = told
told_some P (Err kind) told = tt

-- of a leaf at a key that may be missing
told_if_present : {A : Type 0} (P : A → Type 0) (leaf : Data → Finding A) → ((value : Data) → IfOk (leaf value) P)
    → (found : Option Data) → IfOk (if_present leaf found) (λ values. IfSome values P)
told_if_present P leaf told None = tt
told_if_present P leaf told (Some value) = told_some P (leaf value) (told value)

-- of each item of a list at a key that may be missing
told_each_or_none : {A : Type 0} (size : ℕ → Bool) (test : A → Bool) (key : List ℕ) (form : Data → ReadResult A)
    → size 0 ≡ true → ((value : Data) → IfOk (form value) (λ x. test x ≡ true))
    → (values : Option Items) → IfSome values (HasSize size) → IfOk (each_or_none key form values) (IsListOf size test)
told_each_or_none size test key form absent told None sized = (absent, refl)
told_each_or_none size test key form absent told (Some values) sized =
    told_at (IsListOf size test) (Key key) (each form 0 values) (told_all size test form told values sized)

-- the same where the key may be absent, if the empty list will do
pub told_list_or_none : {A : Type 0} (size : ℕ → Bool) (test : A → Bool) (key : List ℕ) (leaf : Data
    → Finding Items) (form : Data → ReadResult A) → size 0 ≡ true → ((value : Data) → IfOk (leaf value) (HasSize size))
    → ((value : Data) → IfOk (form value) (λ x. test x ≡ true)) → (value : Data)
    → IfOk (optional key leaf value >>= λ values. each_or_none key form values) (IsListOf size test)
told_list_or_none size test key leaf form absent told_leaf told value =
    told_before (λ values. IfSome values (HasSize size)) (IsListOf size test) (optional key leaf value)
    (λ values. each_or_none key form values)
    (told_at (λ values. IfSome values (HasSize size)) (Key key) (here (if_present leaf (get key value)))
    (told_here (λ values. IfSome values (HasSize size)) (if_present leaf (get key value))
    (told_if_present (HasSize size) leaf told_leaf (get key value))))
    (λ values sized. told_each_or_none size test key form absent told values sized)

-- what the code gives has what its form tells
pub told_of : {X Y : Type 0} (see : X → Y) (P : Y → Type 0) (result : Result X JsonRefusal) (read : ReadResult Y)
    → ReadsAs see result read → IfOk read P → IfOk result (λ x. P (see x))
told_of see P (Ok x) read gives told = rw gives at told
told_of see P (Err refusal) read gives told = tt

-- one step further out it has the same
pub told_below : {X : Type 0} (P : X → Type 0) (part : PathPart) (read result : Result X JsonRefusal)
    → ReadsUnder part read result → IfOk read P → IfOk result P
told_below P part (Ok x) (Ok y) below told = let same : x ≡ y = cc in rw (← same) told
told_below P part (Err e) (Ok y) below told = absurd cc
told_below P part read (Err e) below told = tt
