-- The members of an object, one by one, as binds.
use Rattle.std.proofs.Common.{◌≡◌, ℕ, Bool, true, false, List, [], ◌∷◌, ◌++◌, map, length, String, Global, BTreeMap}
use Rattle.std.proofs.Common.{Option, Some, None, Err, Ok, refl, sym, ap, ◌∙◌, ◌&&◌, string_bytes, if◌then◌else◌, arith}
use Rattle.std.proofs.lemmas.List.{append-nil}
use Rattle.std.proofs.lemmas.Bool.Decides.{nat_tests}
use Rattle.std.specs.Prelude.{IfOk, is_some, nat_le, suc}
use Rattle.std.specs.BTreeMap.{values as map_values}
use Rattle.std.specs.List.{list_all}
use Rattle.std.specs.List.Sorted.{IsStrictlySortedBy}
use Rattle.std.specs.Map.{keys_of, values_of}
use Rattle.std.specs.String.{string_cmp}
use Rattle.serde_json.specs.Data.{Data, Members, no_members, member}
use Rattle.serde_json.specs.Events.{members_len}
use Rattle.serde_json.specs.Find.{as_object, as_str}
use Rattle.serde_json.specs.View.{view, members_view}
use Rattle.serde_json.specs.declared.value.Value.{Value}
use Rattle.serde_json.proofs.Views.{Entry, members_len-members_view}
use Rattle.mtp_codes.specs.Names.{is_name}
use Rattle.mtp_codes.specs.declared.limits.TheConstants.{MOST_BINDS}
use Rattle.mtp_json.specs.ReadsAs.{IsFaultOrMemory}
use Rattle.mtp_json.specs.Leaf.{name}
use Rattle.mtp_json.specs.ReadResult.{ReadResult, ◌>>=◌, here}
use Rattle.mtp_json.specs.declared.fault.FaultKind.TheVariants.{WrongKind, OutOfRange}
use Rattle.mtp_json.specs.declared.fault.JsonRefusal.{JsonRefusal}
use Rattle.mtp_json.specs.declared.fault.JsonRefusal.TheVariants.{Fault, Memory}
use Rattle.mtp_json.proofs.Each.{with_front, regroup}
use Rattle.chart_json.proofs.Told.{any_before, told_before}
use Rattle.pol_events.specs.ByRole.{by_role}
use Rattle.pol_events.specs.Orderly.{rise}
use Rattle.pol_events.proofs.Rising.{by_role_rises, by_role_few}
use Rattle.pol_events.specs.declared.event.Bind.{Bind}
use Rattle.event_json.specs.Binds.{are_texts, few, few_texts, bind_of, each_bind, binds_of}

-- members are texts where each value is one
texts_of : (entries : List (String Global × Value)) → are_texts (members_view entries)
    ≡ list_all (λ value. is_some (as_str (view value))) (values_of entries)
texts_of [] = refl
texts_of (entry ∷ entries) = ap (λ b. is_some (as_str (view entry.1)) && b) (texts_of entries)

-- whether every value is a text is asked of the values
pub texts_by_values : (object : BTreeMap (String Global) Value)
    → are_texts (members_view object.entries) ≡ list_all (λ value. is_some (as_str (view value))) (map_values object)
texts_by_values object = texts_of object.entries

-- there are as many members as entries
pub as_many : (entries : List Entry) → members_len (members_view entries) ≡ length entries
as_many entries = members_len-members_view entries

-- Three goals of a loop that reads each member as a bind, and keeps
-- with_front binds (each_bind (members_view left)) ≡ total.

-- one more member was read
pub reads_next : (front new : List Bind) (left rest : List Entry) (entry : Entry) (bind : Bind)
    (total : ReadResult (List Bind)) → left ≡ entry ∷ rest
    → bind_of (string_bytes entry.0) (view entry.1) ≡ Ok bind → new ≡ front ++ bind ∷ []
    → with_front front (each_bind (members_view left)) ≡ total → with_front new (each_bind (members_view rest)) ≡ total
unfolding each_bind
reads_next front new left rest entry bind total is read pushed so_far =
    let one : with_front front (each_bind (members_view left))
    ≡ with_front (front ++ bind ∷ []) (each_bind (members_view rest)) =
    rw (is, read) (regroup front bind (each_bind (members_view rest))) in
    rw pushed (sym one ∙ so_far)

-- a member has a fault
pub stops_at : (refusal : JsonRefusal) (front : List Bind) (left rest : List Entry) (entry : Entry)
    (total : ReadResult (List Bind)) → left ≡ entry ∷ rest
    → IsFaultOrMemory refusal (bind_of (string_bytes entry.0) (view entry.1))
    → with_front front (each_bind (members_view left)) ≡ total → IsFaultOrMemory refusal total
unfolding each_bind
stops_at Memory front left rest entry total is fails so_far = tt
stops_at (Fault fault) front left rest entry total is fails so_far = sym so_far ∙ rw (is, fails) refl

-- all members were read
pub is_done : (front : List Bind) (left : List Entry) (total : ReadResult (List Bind)) → left ≡ []
    → with_front front (each_bind (members_view left)) ≡ total → total ≡ Ok front
unfolding each_bind
is_done front left total is so_far = sym so_far ∙ rw is (ap (λ binds. Ok binds) (append-nil front))

-- the role of the bind is the key
abbrev HasRole : List ℕ → Bind → Type 0
HasRole key bind = bind.role ≡ key

-- a bind that is read has its member's key as its role
named_by : (is_named : Bool) (key : List ℕ) (value : Data)
    → IfOk (here (if is_named then Ok key else Err OutOfRange) >>= λ role. here (name value)
    >>= λ tag. Ok (record { role = role; tag = tag })) (HasRole key)
named_by true key value = any_before (HasRole key) (here (name value)) _ (λ tag. refl)
named_by false key value = tt

-- the roles of the binds are the keys
abbrev AreKeys : List Entry → List Bind → Type 0
AreKeys entries binds = map (λ bind. bind.role) binds ≡ map (λ entry. string_bytes entry.0) entries

-- binds that are read have the keys as their roles
keys_read : (entries : List Entry) → IfOk (each_bind (members_view entries)) (AreKeys entries)
unfolding each_bind
keys_read [] = refl
keys_read (entry ∷ entries) =
    told_before (HasRole (string_bytes entry.0)) (AreKeys (entry ∷ entries))
    (bind_of (string_bytes entry.0) (view entry.1)) _
    (named_by (is_name (string_bytes entry.0)) (string_bytes entry.0) (view entry.1)) (λ bind role.
    told_before (AreKeys entries) (AreKeys (entry ∷ entries)) (each_bind (members_view entries)) _ (keys_read entries)
    (λ binds keys. rw (role, keys) refl))

-- keys that rise make roles that rise
keys_rise : (entries : List Entry) (binds : List Bind) → AreKeys entries binds
    → IsStrictlySortedBy string_cmp (keys_of entries) → rise binds ≡ true
unfolding IsStrictlySortedBy
keys_rise entries [] same sorted = refl
keys_rise entries (bind ∷ []) same sorted = refl
keys_rise [] (bind ∷ next ∷ binds) same sorted = absurd cc
keys_rise (entry ∷ []) (bind ∷ next ∷ binds) same sorted = absurd cc
keys_rise (entry ∷ other ∷ entries) (bind ∷ next ∷ binds) same sorted =
    let first : bind.role ≡ string_bytes entry.0 = cc in
    let second : next.role ≡ string_bytes other.0 = cc in
    let rest : AreKeys (other ∷ entries) (next ∷ binds) = cc in
    rw (first, second, sorted.0.0, keys_rise (other ∷ entries) (next ∷ binds) rest sorted.1) refl

-- binds that were read of members whose keys ascend rise
pub read_binds_rise : (entries : List Entry) (binds : List Bind) → IsStrictlySortedBy string_cmp (keys_of entries)
    → each_bind (members_view entries) ≡ Ok binds → rise binds ≡ true
read_binds_rise entries binds sorted read = let keys : AreKeys entries binds = rw read at (keys_read entries) in
    keys_rise entries binds keys sorted

-- there are as many binds as members
abbrev AreAsMany : Members → List Bind → Type 0
AreAsMany members binds = length binds ≡ members_len members

-- as many binds are read as there are members
length_read : (members : Members) → IfOk (each_bind members) (AreAsMany members)
unfolding each_bind
length_read no_members = refl
length_read (member key value members) =
    any_before (AreAsMany (member key value members)) (bind_of key value) _ (λ bind.
    told_before (AreAsMany members) (AreAsMany (member key value members)) (each_bind members) _ (length_read members)
    (λ binds same. ap suc same))

-- there are at most 64 members
abbrev AreFew : Members → Type 0
AreFew members = nat_le (members_len members) MOST_BINDS ≡ true

-- members that pass the test of their number are few
few_by : (are_few : Bool) (members : Members) → nat_le (members_len members) MOST_BINDS ≡ are_few
    → IfOk (here (if are_few then Ok members else Err OutOfRange)) AreFew
few_by true found is = is
few_by false found is = tt

-- whether or not all of them are texts
few_of : (are_all : Bool) (members : Members) → IfOk (here (if are_all then few members else Err WrongKind)) AreFew
few_of true found = few_by (nat_le (members_len found) MOST_BINDS) found refl
few_of false found = tt

-- and whether or not there are any
few_found : (found : Option Members) → IfOk (here (few_texts found)) AreFew
few_found None = tt
few_found (Some found) = few_of (are_texts found) found

-- the binds are at most 64, and rise
abbrev pub AreOrderly : List Bind → Type 0
AreOrderly binds = (nat_le (length binds) MOST_BINDS && rise binds) ≡ true

-- so few binds as are read are in order once they are sorted by role
in_order : (members : Members) (binds : List Bind) → AreFew members → AreAsMany members binds
    → AreOrderly (by_role binds)
in_order found binds few same =
    let fewer : nat_le (length (by_role binds)) 64 ≡ true = grind (arith, nat_tests, by_role_few binds) in
    rw (by_role_rises binds, fewer) refl

-- the binds that a start says are orderly
pub binds_orderly : (value : Data) → IfOk (binds_of value) AreOrderly
unfolding binds_of
binds_orderly value =
    told_before AreFew AreOrderly (here (few_texts (as_object value))) _ (few_found (as_object value)) (λ members few.
    told_before (AreAsMany members) AreOrderly (each_bind members) _ (length_read members)
    (λ binds same. in_order members binds few same))
