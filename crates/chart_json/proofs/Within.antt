-- What lies in a value nests less deep than the value; so what a form says goes by what lies in the value alone.
use Rattle.std.proofs.Common.{◌≡◌, ◌<◌, ◌≤◌, ℕ, zero, suc, max, Bool, true, false, List, [], ◌∷◌, length, get_or, Ok, Err, Option, Some, None, refl, ap, ◌∙◌, arith, codes}
use Rattle.std.specs.Prelude.{if◌then◌else◌, nat_le}
use Rattle.std.specs.Cmp.Lexicographic.{slice_cmp}
use Rattle.std.specs.Ordering.{nat_cmp, match_ordering}
use Rattle.std.specs.declared.cmp.Ordering.{Ordering}
use Rattle.std.specs.declared.cmp.Ordering.TheVariants.{Less, Equal, Greater}
use Rattle.serde_json.specs.Data.{Data, null, boolean, number, string, array, object, Items, no_items, item, Members, no_members, member, depth, items_depth, members_depth}
use Rattle.serde_json.specs.Events.{items_len}
use Rattle.serde_json.specs.Find.{get, get_member, as_array}
use Rattle.serde_json.specs.View.{items_view, view}
use Rattle.serde_json.specs.declared.value.Value.{Value}
use Rattle.mtp_codes.specs.Numbers.{is_between}
use Rattle.mtp_json.specs.declared.fault.FaultKind.TheVariants.{OutOfRange}
use Rattle.mtp_json.specs.Form.{each, nested, list, required, nothing_but, object_here, present}
use Rattle.mtp_json.specs.Leaf.{anything, items_in, sized}
use Rattle.mtp_json.specs.ReadResult.{Finding, ReadResult, ◌>>=◌, here, in_place, under}
use Rattle.chart_core.specs.declared.limits.TheConstants.{MOST_ARMS, MOST_JOINED}
use Rattle.chart_core.specs.Formulas.{Formula}
use Rattle.chart_core.specs.Trees.{Tree}
use Rattle.chart_json.specs.Form.{all_form, any_form, not_form, condition_by_key, condition_within, condition_of, formula_of, items_from, sized_from, seq_form, par_form, arm_of, sel_form, loop_form, node_by_key, tree_within, tree_of}

-- ---- depths

-- a member of an object nests no deeper than its members
members_below : (key : List ℕ) (members : Members) (inner : Data) → get_member key members ≡ Some inner →
    depth inner ≤ members_depth members
members_below key no_members inner found = cc
members_below key (member other first others) inner found = by_order (slice_cmp nat_cmp key other) found
    (members_below key others inner)
  where
    by_order : (order : Ordering) → match_ordering order (get_member key others) (Some first) (get_member key others)
        ≡ Some inner →
        (get_member key others ≡ Some inner → depth inner ≤ members_depth others) →
        depth inner ≤ max (depth first) (members_depth others)
    by_order Less found below = omega (arith, below found)
    by_order Equal found below = let same : first ≡ inner = cc in omega (arith, ap depth same)
    by_order Greater found below = omega (arith, below found)

-- so it nests less deep than the object
pub value_below : (key : List ℕ) (value inner : Data) → get key value ≡ Some inner → depth inner < depth value
value_below key (object members) inner found = omega (arith, members_below key members inner found)
value_below key null inner found = cc
value_below key (boolean bit) inner found = cc
value_below key (number held) inner found = cc
value_below key (string text) inner found = cc
value_below key (array values) inner found = cc

-- what a size finds in a list is the list
abbrev FindsItems : (Data → Finding Items) → Type 0
FindsItems sizes = (value : Data) (items : Items) → sizes value ≡ Ok items → as_array value ≡ Some items

-- a list with bounds is one of the value's own
in_finds : (low high : ℕ) → FindsItems (items_in low high)
in_finds low high value items found = go (as_array value) found
  where
    sized_is : (list : Items) (fits : Bool) → (if fits then Ok list else Err OutOfRange) ≡ Ok items → list ≡ items
    sized_is list true found = cc
    sized_is list false found = cc

    go : (list : Option Items) → sized low high list ≡ Ok items → list ≡ Some items
    go None found = cc
    go (Some list) found = ap Some (sized_is list (is_between low high (items_len list)) found)

-- and so is one with a least number
from_finds : (low : ℕ) → FindsItems (items_from low)
from_finds low value items found = go (as_array value) found
  where
    sized_is : (list : Items) (fits : Bool) → (if fits then Ok list else Err OutOfRange) ≡ Ok items → list ≡ items
    sized_is list true found = cc
    sized_is list false found = cc

    go : (list : Option Items) → sized_from low list ≡ Ok items → list ≡ Some items
    go None found = cc
    go (Some list) found = ap Some (sized_is list (nat_le low (items_len list)) found)

-- the items of a list nest less deep than the list
array_below : (value : Data) (items : Items) → as_array value ≡ Some items → items_depth items < depth value
array_below (array values) items found = let same : values ≡ items = cc in omega (arith, ap items_depth same)
array_below null items found = cc
array_below (boolean bit) items found = cc
array_below (number held) items found = cc
array_below (string text) items found = cc
array_below (object entries) items found = cc

-- an item of a list nests no deeper than the items
pub item_below : (values : List Value) (i : ℕ) (value : Value) → i < length values → value ≡ get_or values i value →
    depth (view value) ≤ items_depth (items_view values)
item_below [] i value nested is = absurd (omega arith)
item_below (first ∷ values) zero value nested is = omega (arith, ap (λ value. depth (view value)) is)
item_below (first ∷ values) (suc i) value nested is = omega (arith, item_below values i value (omega arith) is)

-- the value that is needed at a key
pub needed_below : (key : List ℕ) (value inner : Data) → required key anything value ≡ Ok inner
    → depth inner < depth value
needed_below key value inner found = go (get key value) refl found
  where
    go : (there : Option Data) → get key value ≡ there → under key (here (present anything there)) ≡ Ok inner →
        depth inner < depth value
    go None is found = cc
    go (Some other) is found = let same : other ≡ inner = cc in value_below key value inner (is ∙ ap Some same)

-- the list that is needed at a key
found_below : (sizes : Data → Finding Items) → FindsItems sizes → (key : List ℕ) (value : Data) (items : Items) →
    required key sizes value ≡ Ok items →
    suc (items_depth items) < depth value
found_below sizes finds key value items found = go (get key value) refl found
  where
    inside_of : (inner : Data) (read : Finding Items) → sizes inner ≡ read → under key (here read) ≡ Ok items →
        as_array inner ≡ Some items
    inside_of inner (Ok list) is found = let same : list ≡ items = cc in finds inner items (is ∙ ap Ok same)
    inside_of inner (Err kind) is found = cc

    go : (there : Option Data) → get key value ≡ there → under key (here (present sizes there)) ≡ Ok items →
        suc (items_depth items) < depth value
    go None is found = cc
    go (Some inner) is found =
        omega (
          arith,
          value_below key value inner is,
          array_below inner items
              (inside_of inner (sizes inner) refl found),
        )

-- the items of a list at a key lie below the object
pub list_below : (low high : ℕ) (key : List ℕ) (value : Data) (items : Items) →
    required key (items_in low high) value ≡ Ok items →
    suc (items_depth items) < depth value
list_below low high = found_below (items_in low high) (in_finds low high)

-- and so do those of a list with a least number
pub list_from_below : (low : ℕ) (key : List ℕ) (value : Data) (items : Items) →
    required key (items_from low) value ≡ Ok items →
    suc (items_depth items) < depth value
list_from_below low = found_below (items_from low) (from_finds low)

-- ---- forms that agree on what lies in a value

-- two forms agree on all that nests less deep
abbrev Agree : {A : Type 0} → (Data → ReadResult A) → (Data → ReadResult A) → ℕ → Type 0
Agree one other levels = (value : Data) → depth value < levels → one value ≡ other value

-- two readers that agree down to a depth read the same items
each_agree : {A : Type 0} (one other : Data → ReadResult A) (place : ℕ) (items : Items) →
    Agree one other (suc (items_depth items)) →
    each one place items ≡ each other place items
unfolding each
each_agree one other place no_items agree = refl
each_agree {A} one other place (item value rest) agree =
    let first = agree value (omega arith) in
    let others = each_agree one other (suc place) rest (λ value less. agree value (omega arith)) in
    ap (λ read. in_place place read >>= λ first. each one (suc place) rest >>= λ others. Ok (first ∷ others)) first
    ∙ ap (λ read. in_place place (other value) >>= λ first. read >>= λ others. Ok (first ∷ others)) others

-- the value at a key
inside_agree : {A : Type 0} (key : List ℕ) (one other : Data → ReadResult A) (value : Data) →
    Agree one other (depth value) →
    nested key one value ≡ nested key other value
inside_agree key one other value agree = go (get key value) refl
  where
    go : (there : Option Data) → get key value ≡ there →
        (under key (here (present anything there)) >>= λ inner. under key (one inner))
        ≡ (under key (here (present anything there)) >>= λ inner. under key (other inner))
    go None is = refl
    go (Some inner) is = ap (under key) (agree inner (value_below key value inner is))

-- the items of a list at a key
items_agree : {A : Type 0} (key : List ℕ) (sizes : Data → Finding Items) → FindsItems sizes →
    (one other : Data → ReadResult A) (value : Data) →
    Agree one other (depth value) →
    (required key sizes value >>= λ values. under key (each one 0 values))
    ≡ (required key sizes value >>= λ values. under key (each other 0 values))
items_agree key sizes finds one other value agree = go (required key sizes value) refl
  where
    go : (read : ReadResult Items) → required key sizes value ≡ read →
        (read >>= λ values. under key (each one 0 values)) ≡ (read >>= λ values. under key (each other 0 values))
    go (Err fault) is = refl
    go (Ok items) is =
        let below = found_below sizes finds key value items is in
        ap (under key) (each_agree one other 0 items (λ value less. agree value (omega arith)))

-- ---- conditions

-- and the same condition, whichever the key tells
key_agree : (one other : Data → ReadResult Formula) (value : Data) → Agree one other (depth value) →
    condition_by_key one value ≡ condition_by_key other value
unfolding condition_by_key all_form any_form not_form
key_agree one other value agree =
    rw (
      items_agree (codes "all") (items_in 1 MOST_JOINED) (in_finds 1 MOST_JOINED) one other value agree,
      items_agree (codes "any") (items_in 1 MOST_JOINED) (in_finds 1 MOST_JOINED) one other value agree,
      inside_agree (codes "not") one other value agree,
    ) refl

-- a reading that goes deep enough reads all
within_agree : (levels more : ℕ) (value : Data) → depth value < levels → depth value < more →
    condition_within levels value ≡ condition_within more value
unfolding condition_within
within_agree zero more value less fewer = absurd (omega arith)
within_agree (suc levels) zero value less fewer = absurd (omega arith)
within_agree (suc levels) (suc more) value less fewer =
    ap (λ read. object_here value >>= λ _. read)
    (key_agree (condition_within levels) (condition_within more) value
    (λ inner below. within_agree levels more inner (omega arith) (omega arith)))

-- a condition is an object that is one by its keys
pub formula_steps : (value : Data) → formula_of value ≡ (object_here value >>= λ _. condition_by_key formula_of value)
unfolding formula_of condition_within
formula_steps value =
    ap (λ read. object_here value >>= λ _. read)
    (key_agree (condition_within (depth value)) formula_of value
    (λ inner below. within_agree (depth value) (suc (depth inner)) inner below (omega arith)))

-- ---- nodes

-- the same arm
arm_agree : (one other : Data → ReadResult Tree) (value : Data) → Agree one other (depth value) →
    arm_of one value ≡ arm_of other value
unfolding arm_of
arm_agree one other value agree =
    ap (λ read. object_here value >>= λ _. nested (codes "when") condition_of value >>= λ when. read >>= λ body.
    nothing_but (codes "when then") value >>= λ _. Ok (record { when = when; body = body }))
    (inside_agree (codes "then") one other value agree)

-- and the same node
node_agree : (one other : Data → ReadResult Tree) (value : Data) → Agree one other (depth value) →
    node_by_key one value ≡ node_by_key other value
unfolding node_by_key seq_form par_form sel_form loop_form
node_agree one other value agree =
    rw (
      items_agree (codes "seq") (items_from 1) (from_finds 1) one other value agree,
      items_agree (codes "par") (items_from 2) (from_finds 2) one other value agree,
      items_agree (codes "sel") (items_in 1 MOST_ARMS) (in_finds 1 MOST_ARMS) (arm_of one) (arm_of other) value
          (λ inner below. arm_agree one other inner (λ body less. agree body (omega arith))),
      inside_agree (codes "loop") one other value agree,
    ) refl

-- so more levels than a value has don't change what is read
tree_agree : (levels more : ℕ) (value : Data) → depth value < levels → depth value < more →
    tree_within levels value ≡ tree_within more value
unfolding tree_within
tree_agree zero more value less fewer = absurd (omega arith)
tree_agree (suc levels) zero value less fewer = absurd (omega arith)
tree_agree (suc levels) (suc more) value less fewer =
    ap (λ read. object_here value >>= λ _. read)
    (node_agree (tree_within levels) (tree_within more) value
    (λ inner below. tree_agree levels more inner (omega arith) (omega arith)))

-- a node is an object that is one by its keys
pub tree_steps : (value : Data) → tree_of value ≡ (object_here value >>= λ _. node_by_key tree_of value)
unfolding tree_of tree_within
tree_steps value =
    ap (λ read. object_here value >>= λ _. read)
    (node_agree (tree_within (depth value)) tree_of value
    (λ inner below. tree_agree (depth value) (suc (depth inner)) inner below (omega arith)))
