-- The form of a recipe's roles and of its chart: what they say, or the first fault in reading order.
use Rattle.std.specs.Prelude.{ℕ, zero, suc, ◌&&◌, nat_le, ℤ, List, length, Bool, not, codes, Option, Some, None, is_some, Ok, Err, if◌then◌else◌}
use Rattle.std.specs.List.{list_all}
use Rattle.std.specs.Str.{bytes_eq}
use Rattle.serde_json.specs.Data.{Data, null, boolean, number, string, array, object, depth, Items}
use Rattle.serde_json.specs.Events.{items_len}
use Rattle.serde_json.specs.Find.{get, as_array, as_integer}
use Rattle.mtp_codes.specs.declared.value.Reading.{Reading as Compared}
use Rattle.mtp_codes.specs.declared.value.Reading.TheVariants.{Whole, Bit}
use Rattle.mtp_codes.specs.declared.value.Setting.{Setting}
use Rattle.mtp_codes.specs.Numbers.{greatest_i64, is_between, least_i64}
use Rattle.mtp_json.specs.Form.{each, required, nested, nested_if_there, list, list_or_none, object_here, nothing_but, refused_if}
use Rattle.mtp_codes.specs.Repeats.{repeats_by}
use Rattle.mtp_json.specs.Leaf.{count, items_in, name, scalar, text_to, truth, whole_in, word}
use Rattle.mtp_json.specs.ReadResult.{Finding, ReadResult, ◌>>=◌, here, under}
use Rattle.mtp_json.specs.declared.fault.FaultKind.TheVariants.{Missing, WrongKind, OutOfRange, Repeated, Unsound}
use Rattle.chart_core.specs.declared.limits.TheConstants.{MOST_ROLES, LONGEST_WANTED, MOST_SETTINGS, MOST_ARMS, MOST_JOINED, MOST_TESTS, DEEPEST_CONDITION}
use Rattle.chart_core.specs.Formulas.{Formula, constant, all_of, any_of, not_of, test, formulas_of}
use Rattle.chart_core.specs.Form.{may_compare, test_count, nesting}
use Rattle.chart_core.specs.Trees.{PlainStep, Tree, PlainArm, leaf, seq, par, choice, loop, trees_of, arms_of}
use Rattle.chart_core.specs.Roles.{PlainRole, PlainChart}
use Rattle.chart_json.specs.Requirement.{requirement_of}
use Rattle.chart_json.specs.Words.{op_words}

-- ---- roles

-- a role: its name, the type of module that may play it, and in which versions
unfoldable pub role_of : Data → ReadResult PlainRole
role_of value =
    object_here value >>= λ _.
    required (codes "role") name value >>= λ role.
    required (codes "type") name value >>= λ type_name.
    required (codes "version") (text_to LONGEST_WANTED) value >>= λ wants.
    under (codes "version") (here (requirement_of wants)) >>= λ _.
    nothing_but (codes "role type version") value >>= λ _.
    Ok (record { role = role; type_name = type_name; wants = wants })

-- the roles of a chart: a list of 1 to 64
unfoldable pub roles_of : Data → ReadResult (List PlainRole)
roles_of value =
    here (items_in 1 MOST_ROLES value) >>= λ values.
    each role_of 0 values

-- 1 to 64 roles, each with a text of at most 64 bytes
abbrev pub are_roles_sized : List PlainRole → Bool
are_roles_sized roles = is_between 1 MOST_ROLES (length roles)
    && list_all (λ role. nat_le (length role.wants) LONGEST_WANTED) roles

-- ---- conditions

-- a whole number as what a test compares with
abbrev pub whole_compared : Finding ℤ → Finding Compared
whole_compared (Ok z) = Ok (Whole z)
whole_compared (Err kind) = Err kind

-- what a test compares with: a whole number of 64 bits or a truth value
abbrev pub compared : Data → Finding Compared
compared null = Err WrongKind
compared (boolean bit) = Ok (Bit bit)
compared (number held) = whole_compared (whole_in least_i64 greatest_i64 (as_integer held))
compared (string _) = Err WrongKind
compared (array _) = Err WrongKind
compared (object _) = Err WrongKind

-- a condition that is always true or never
unfoldable pub const_form : Data → ReadResult Formula
const_form value =
    required (codes "const") truth value >>= λ holds.
    nothing_but (codes "const") value >>= λ _.
    Ok (constant holds)

-- a condition that is true where each of some conditions is
unfoldable pub all_form : (Data → ReadResult Formula) → Data → ReadResult Formula
all_form inner value =
    list (codes "all") 1 MOST_JOINED inner value >>= λ conditions.
    nothing_but (codes "all") value >>= λ _.
    Ok (all_of (formulas_of conditions))

-- a condition that is true where one of some conditions is
unfoldable pub any_form : (Data → ReadResult Formula) → Data → ReadResult Formula
any_form inner value =
    list (codes "any") 1 MOST_JOINED inner value >>= λ conditions.
    nothing_but (codes "any") value >>= λ _.
    Ok (any_of (formulas_of conditions))

-- a condition that is true where another one isn't
unfoldable pub not_form : (Data → ReadResult Formula) → Data → ReadResult Formula
not_form inner value =
    nested (codes "not") inner value >>= λ condition.
    nothing_but (codes "not") value >>= λ _.
    Ok (not_of condition)

-- a test of a variable of a role; a truth value has no order
unfoldable pub test_form : Data → ReadResult Formula
test_form value =
    required (codes "test") name value >>= λ variable.
    required (codes "role") name value >>= λ role.
    required (codes "op") (word op_words) value >>= λ op.
    required (codes "value") compared value >>= λ against.
    nothing_but (codes "test role op value") value >>= λ _.
    refused_if (not (may_compare op against)) Unsound >>= λ _.
    Ok (test role variable op against)

-- the object has the key
abbrev pub has : List ℕ → Data → Bool
has key value = is_some (get key value)

-- a condition by the first key of a kind of condition that is there; the conditions in it have a form of their own
unfoldable pub condition_by_key : (Data → ReadResult Formula) → Data → ReadResult Formula
condition_by_key inner value =
    if has (codes "const") value then const_form value
    else if has (codes "all") value then all_form inner value
    else if has (codes "any") value then any_form inner value
    else if has (codes "not") value then not_form inner value
    else if has (codes "test") value then test_form value
    else under (codes "const") (here (Err Missing))

-- a condition that nests at most this deep
unfoldable pub condition_within : ℕ → Data → ReadResult Formula
condition_within zero value = here (Err OutOfRange)
condition_within (suc levels) value =
    object_here value >>= λ _.
    condition_by_key (condition_within levels) value

-- a condition of any size: it nests no deeper than the value that says it
unfoldable pub formula_of : Data → ReadResult Formula
formula_of value = condition_within (suc (depth value)) value

-- the condition has at most 16 tests and is nested at most 8 deep
abbrev pub is_small : Formula → Bool
is_small condition = nat_le (test_count condition) MOST_TESTS && nat_le (nesting condition) DEEPEST_CONDITION

-- a whole condition; its size is asked when all of it has been read
unfoldable pub condition_of : Data → ReadResult Formula
condition_of value =
    formula_of value >>= λ condition.
    refused_if (not (is_small condition)) OutOfRange >>= λ _.
    Ok condition

-- ---- nodes

-- two settings of one parameter
abbrev pub same_setting : Setting → Setting → Bool
same_setting setting other = bytes_eq setting.name other.name

-- a parameter of a procedure with the value that a step gives it
unfoldable pub setting_of : Data → ReadResult Setting
setting_of value =
    object_here value >>= λ _.
    required (codes "name") name value >>= λ named.
    required (codes "value") scalar value >>= λ given.
    nothing_but (codes "name value") value >>= λ _.
    Ok (record { name = named; value = given })

-- a step: a procedure of a service of the module that plays the role, what it sets, and on which condition it finishes
unfoldable pub step_of : Data → ReadResult PlainStep
step_of value =
    required (codes "step") name value >>= λ named.
    required (codes "role") name value >>= λ role.
    required (codes "service") name value >>= λ service.
    required (codes "procedure") (count 1 65535) value >>= λ procedure.
    list_or_none (codes "settings") 0 MOST_SETTINGS setting_of value >>= λ settings.
    nested_if_there (codes "finish") condition_of value >>= λ finish.
    nothing_but (codes "step role service procedure settings finish") value >>= λ _.
    under (codes "settings") (refused_if (repeats_by same_setting settings) Repeated) >>= λ _.
    Ok (record {
      name = named;
      role = role;
      service = service;
      procedure = procedure;
      settings =
          settings;
      finish = finish;
    })

-- a list that was found, or none, against its least size
abbrev pub sized_from : ℕ → Option Items → Finding Items
sized_from low None = Err WrongKind
sized_from low (Some values) = if nat_le low (items_len values) then Ok values else Err OutOfRange

-- a list of at least this many items
abbrev pub items_from : ℕ → Data → Finding Items
items_from low value = sized_from low (as_array value)

-- a list of at least this many items at a key that must be there, each by the form
abbrev pub list_from : {A : Type 0} → List ℕ → ℕ → (Data → ReadResult A) → Data → ReadResult (List A)
list_from key low form value =
    required key (items_from low) value >>= λ values.
    under key (each form 0 values)

-- a step as a node
unfoldable pub step_form : Data → ReadResult Tree
step_form value =
    step_of value >>= λ step.
    Ok (leaf step)

-- nodes in sequence: at least one
unfoldable pub seq_form : (Data → ReadResult Tree) → Data → ReadResult Tree
seq_form inner value =
    list_from (codes "seq") 1 inner value >>= λ nodes.
    nothing_but (codes "seq") value >>= λ _.
    Ok (seq (trees_of nodes))

-- nodes in parallel: at least two
unfoldable pub par_form : (Data → ReadResult Tree) → Data → ReadResult Tree
par_form inner value =
    list_from (codes "par") 2 inner value >>= λ nodes.
    nothing_but (codes "par") value >>= λ _.
    Ok (par (trees_of nodes))

-- an arm of a selection: its condition and its node
unfoldable pub arm_of : (Data → ReadResult Tree) → Data → ReadResult PlainArm
arm_of inner value =
    object_here value >>= λ _.
    nested (codes "when") condition_of value >>= λ when.
    nested (codes "then") inner value >>= λ body.
    nothing_but (codes "when then") value >>= λ _.
    Ok (record { when = when; body = body })

-- a selection: 1 to 16 arms
unfoldable pub sel_form : (Data → ReadResult Tree) → Data → ReadResult Tree
sel_form inner value =
    list (codes "sel") 1 MOST_ARMS (arm_of inner) value >>= λ arms.
    nothing_but (codes "sel") value >>= λ _.
    Ok (choice (arms_of arms))

-- a loop: its node, and the condition that ends it
unfoldable pub loop_form : (Data → ReadResult Tree) → Data → ReadResult Tree
loop_form inner value =
    nested (codes "loop") inner value >>= λ body.
    nested (codes "until") condition_of value >>= λ until.
    nothing_but (codes "loop until") value >>= λ _.
    Ok (loop body until)

-- a node by the first key of a kind of node that is there; the nodes in it have a form of their own
unfoldable pub node_by_key : (Data → ReadResult Tree) → Data → ReadResult Tree
node_by_key inner value =
    if has (codes "step") value then step_form value
    else if has (codes "seq") value then seq_form inner value
    else if has (codes "par") value then par_form inner value
    else if has (codes "sel") value then sel_form inner value
    else if has (codes "loop") value then loop_form inner value
    else under (codes "step") (here (Err Missing))

-- a node in which nodes lie at most this deep
unfoldable pub tree_within : ℕ → Data → ReadResult Tree
tree_within zero value = here (Err OutOfRange)
tree_within (suc levels) value =
    object_here value >>= λ _.
    node_by_key (tree_within levels) value

-- a node and all that is in it: no node lies deeper than the value that says it
unfoldable pub tree_of : Data → ReadResult Tree
tree_of value = tree_within (suc (depth value)) value

-- ---- charts

-- two roles of one name
abbrev pub same_role : PlainRole → PlainRole → Bool
same_role role other = bytes_eq role.role other.role

-- a chart of these roles and nodes: no role is named twice
unfoldable pub chart_from : List PlainRole → Tree → ReadResult PlainChart
chart_from roles root =
    under (codes "roles") (refused_if (repeats_by same_role roles) Repeated) >>= λ _.
    Ok (record { roles = roles; root = root })

-- a chart by the values at the keys `roles` and `chart`
unfoldable pub chart_of : Data → Data → ReadResult PlainChart
chart_of roles chart =
    under (codes "roles") (roles_of roles) >>= λ found.
    under (codes "chart") (tree_of chart) >>= λ root.
    chart_from found root
