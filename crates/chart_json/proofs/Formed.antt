-- What is read is formed: its lists are as long as they may be, its tests may compare, its settings are distinct.
use Rattle.std.proofs.Common.{◌≡◌, ◌&&◌, ◌||◌, ℕ, zero, suc, Bool, true, false, not, List, [], ◌∷◌, length, map, Ok, Option, refl, sym, ap, codes}
use Rattle.std.specs.Prelude.{IfOk, nat_le}
use Rattle.std.proofs.Math.Bool.{and_assoc}
use Rattle.std.specs.Bool.{Decides, one_answer}
use Rattle.std.specs.List.{list_all, list_any}
use Rattle.std.specs.Str.{bytes_eq}
use Rattle.std.proofs.lemmas.Bool.{and_parts}
use Rattle.std.proofs.lemmas.Result.{IfOk-weaker}
use Rattle.std.proofs.lemmas.Slice.Eq.{bytes_eq-Decides}
use Rattle.serde_json.specs.Data.{Data, depth}
use Rattle.mtp_codes.specs.declared.value.Reading.{Reading as Compared}
use Rattle.mtp_codes.specs.declared.value.Setting.{Setting}
use Rattle.mtp_codes.specs.Numbers.{is_between}
use Rattle.mtp_codes.specs.Names.{is_among}
use Rattle.mtp_json.specs.declared.fault.FaultKind.TheVariants.{OutOfRange, Repeated, Unsound}
use Rattle.mtp_json.specs.declared.path.PathPart.TheVariants.{Key}
use Rattle.mtp_json.specs.Form.{each, nested, nested_if_there, list, list_or_none, required, nothing_but, object_here, refused_if}
use Rattle.mtp_codes.specs.Repeats.{repeats_by}
use Rattle.mtp_json.specs.Leaf.{count, text_to, items_in}
use Rattle.mtp_json.specs.ReadResult.{ReadResult, ◌>>=◌, here, under}
use Rattle.chart_core.specs.declared.limits.TheConstants.{MOST_ROLES, LONGEST_WANTED, MOST_SETTINGS, MOST_ARMS, MOST_JOINED}
use Rattle.chart_core.specs.Form.{are_distinct, formula_count, has_parts_formed, have_parts_formed, may_compare, is_formula_formed, is_finish_formed, is_step_formed, tree_count, is_tree_formed, are_trees_formed, are_arms_formed}
use Rattle.chart_core.specs.declared.condition.Op.{Op}
use Rattle.chart_core.specs.Formulas.{Formula, all_of, any_of, not_of, formulas_of, test}
use Rattle.chart_core.specs.Roles.{PlainRole, is_chart_form}
use Rattle.chart_core.specs.Trees.{PlainStep, Tree, PlainArm, leaf, seq, par, choice, loop, trees_of, arms_of, arm_count}
use Rattle.chart_json.specs.Form.{role_of, roles_of, are_roles_sized, same_role, const_form, all_form, any_form, not_form, test_form, condition_by_key, condition_within, formula_of, is_small, condition_of, same_setting, setting_of, step_of, items_from, list_from, step_form, seq_form, par_form, arm_of, sel_form, loop_form, node_by_key, tree_within, tree_of}
use Rattle.chart_json.specs.Requirement.{requirement_of}
use Rattle.chart_json.proofs.Told.{HasSize, any_before, any_value, told_before, told_at, told_here, either, kept, told_need, told_inside, told_inside_if_there, told_count, told_text, told_items, told_items_from, IsListOf, told_all, told_list, told_list_or_none}

-- ---- conditions

-- some conditions are as many as their list
count_formulas : (each : List Formula) → formula_count (formulas_of each) ≡ length each
count_formulas [] = refl
count_formulas (one ∷ each) = ap suc (count_formulas each)

-- they are in form where each of the list is
parts_of_all : (each : List Formula) → have_parts_formed (formulas_of each) ≡ list_all has_parts_formed each
parts_of_all [] = refl
parts_of_all (one ∷ each) = ap (λ rest. has_parts_formed one && rest) (parts_of_all each)

-- the parts of a condition are formed
abbrev HasParts : Formula → Type 0
HasParts condition = has_parts_formed condition ≡ true

-- what is not false is true
not_false : (b : Bool) → not b ≡ false → b ≡ true
not_false true e = refl
not_false false e = cc

-- a truth value that is read is a condition in form
const_parts : (value : Data) → IfOk (const_form value) HasParts
unfolding const_form
const_parts value = search any_before

-- so is one of conditions that must all hold, where those below it are
all_parts : (inner : Data → ReadResult Formula) → ((value : Data) → IfOk (inner value) HasParts) → (value : Data)
    → IfOk (all_form inner value) HasParts
unfolding all_form
all_parts inner told value =
    told_before (IsListOf (is_between 1 MOST_JOINED) has_parts_formed) HasParts
    (list (codes "all") 1 MOST_JOINED inner value)
    (λ each. nothing_but (codes "all") value >>= λ _. Ok (all_of (formulas_of each)))
    (told_list (is_between 1 MOST_JOINED) has_parts_formed (codes "all") (items_in 1 MOST_JOINED) inner
    (told_items 1 MOST_JOINED) told value)
    (λ each are. any_before HasParts (nothing_but (codes "all") value) (λ _. Ok (all_of (formulas_of each)))
    (λ _. rw (count_formulas each, are.0, parts_of_all each, are.1) refl))

-- one of conditions of which any may hold
any_parts : (inner : Data → ReadResult Formula) → ((value : Data) → IfOk (inner value) HasParts) → (value : Data)
    → IfOk (any_form inner value) HasParts
unfolding any_form
any_parts inner told value =
    told_before (IsListOf (is_between 1 MOST_JOINED) has_parts_formed) HasParts
    (list (codes "any") 1 MOST_JOINED inner value)
    (λ each. nothing_but (codes "any") value >>= λ _. Ok (any_of (formulas_of each)))
    (told_list (is_between 1 MOST_JOINED) has_parts_formed (codes "any") (items_in 1 MOST_JOINED) inner
    (told_items 1 MOST_JOINED) told value)
    (λ each are. any_before HasParts (nothing_but (codes "any") value) (λ _. Ok (any_of (formulas_of each)))
    (λ _. rw (count_formulas each, are.0, parts_of_all each, are.1) refl))

-- one that must not hold
not_parts : (inner : Data → ReadResult Formula) → ((value : Data) → IfOk (inner value) HasParts) → (value : Data)
    → IfOk (not_form inner value) HasParts
unfolding not_form
not_parts inner told value =
    told_before HasParts HasParts (nested (codes "not") inner value)
    (λ condition. nothing_but (codes "not") value >>= λ _. Ok (not_of condition))
    (told_inside HasParts (codes "not") inner told value)
    (λ condition formed. any_before HasParts (nothing_but (codes "not") value)
    (λ _. Ok (not_of condition)) (λ _. formed))

-- a test that was asked may compare
tested : (variable role : List ℕ) (op : Op) (against : Compared)
    → IfOk (refused_if (not (may_compare op against)) Unsound >>= λ _. Ok (test variable role op against)) HasParts
tested variable role op against =
    told_before (λ _. not (may_compare op against) ≡ false) HasParts (refused_if (not (may_compare op against)) Unsound)
    (λ _. Ok (test variable role op against)) (kept (not (may_compare op against)) Unsound)
    (λ _ may. not_false (may_compare op against) may)

-- a test of a variable
test_parts : (value : Data) → IfOk (test_form value) HasParts
unfolding test_form
test_parts value = search (any_before, tested) depth 12

-- and so whichever of these the key tells
by_key_parts : (inner : Data → ReadResult Formula) → ((value : Data) → IfOk (inner value) HasParts) → (value : Data)
    → IfOk (condition_by_key inner value) HasParts
unfolding condition_by_key
by_key_parts inner told value =
    search (
      either,
      const_parts value,
      all_parts inner told value,
      any_parts inner told value,
      not_parts inner told
          value,
      test_parts value,
    ) depth 12

-- so a condition read within any number of levels is in form
within_parts : (levels : ℕ) (value : Data) → IfOk (condition_within levels value) HasParts
unfolding condition_within
within_parts zero value = tt
within_parts (suc levels) value = search (
  any_before,
  by_key_parts (condition_within levels)
      (within_parts levels) value,
)

-- and so is each condition that is read
formula_parts : (value : Data) → IfOk (formula_of value) HasParts
unfolding formula_of
formula_parts value = within_parts (suc (depth value)) value

-- the condition is formed
abbrev pub IsFormed : Formula → Type 0
IsFormed condition = is_formula_formed condition ≡ true

-- a condition that is read is formed
pub condition_formed : (value : Data) → IfOk (condition_of value) IsFormed
unfolding condition_of
condition_formed value =
    told_before HasParts IsFormed (formula_of value)
    (λ condition. refused_if (not (is_small condition)) OutOfRange >>= λ _. Ok condition)
    (formula_parts value)
    (λ condition formed.
    told_before (λ _. not (is_small condition) ≡ false) IsFormed (refused_if (not (is_small condition)) OutOfRange)
    (λ _. Ok condition) (kept (not (is_small condition)) OutOfRange)
    (λ _ small. rw (formed, not_false (is_small condition) small) refl))

-- ---- steps

-- bytes are the same either way
same_either_way : (one other : List ℕ) → bytes_eq other one ≡ bytes_eq one other
same_either_way one other =
    let same = bytes_eq-Decides other one in
    let turned : Decides (bytes_eq one other) (other ≡ one) =
    (λ e. sym ((bytes_eq-Decides one other).0 e), λ e. (bytes_eq-Decides one other).1 (sym e)) in
    one_answer (bytes_eq other one) (bytes_eq one other) same turned

-- a key is among those of a list where one of the list has it
among_told : {A : Type 0} (key : A → List ℕ) (x : A) (xs : List A)
    → is_among (map key xs) (key x) ≡ list_any (λ other. bytes_eq (key x) (key other)) xs
among_told key x [] = refl
among_told key x (y ∷ xs) = rw (same_either_way (key x) (key y), among_told key x xs) refl

-- neither of two is not the one and not the other
neither : (a b : Bool) → not (a || b) ≡ not a && not b
neither true b = refl
neither false b = refl

-- keys are distinct where none is repeated
pub distinct_told : {A : Type 0} (key : A → List ℕ) (xs : List A)
    → are_distinct (map key xs) ≡ not (repeats_by (λ x other. bytes_eq (key x) (key other)) xs)
distinct_told key [] = refl
distinct_told key (x ∷ xs) =
    rw (
      among_told key x xs,
      distinct_told key xs,
      neither (list_any (λ other. bytes_eq (key x) (key other)) xs)
          (repeats_by (λ x other. bytes_eq (key x) (key other)) xs),
    ) refl

-- a number from 1 on is at least 1
from_one : (n : ℕ) → is_between 1 65535 n ≡ true → nat_le 1 n ≡ true
from_one n is_within = (and_parts (nat_le 1 n) (nat_le n 65535) is_within).0

-- the step is formed
abbrev IsStep : PlainStep → Type 0
IsStep step = is_step_formed step ≡ true

-- what is asked when a step's fields have been read
abbrev ruled_step : List ℕ → List ℕ → List ℕ → ℕ → List Setting → Option Formula → Data → ReadResult PlainStep
ruled_step named role service procedure settings finish value =
    nothing_but (codes "step role service procedure settings finish") value >>= λ _.
    under (codes "settings") (refused_if (repeats_by same_setting settings) Repeated) >>= λ _.
    Ok (record {
      name = named;
      role = role;
      service = service;
      procedure = procedure;
      settings =
          settings;
      finish = finish;
    })

-- a step that passes the rules for its fields is in form
ruled : (named role service : List ℕ) (procedure : ℕ) (settings : List Setting) (finish : Option Formula) (value : Data)
    → nat_le 1 procedure ≡ true → nat_le (length settings) MOST_SETTINGS ≡ true → is_finish_formed finish ≡ true
    → IfOk (ruled_step named role service procedure settings finish value) IsStep
ruled named role service procedure settings finish value numbered few formed =
    any_before IsStep (nothing_but (codes "step role service procedure settings finish") value)
    (λ _. under (codes "settings") (refused_if (repeats_by same_setting settings) Repeated)
    >>= λ _. Ok (record {
      name = named;
      role = role;
      service = service;
      procedure = procedure;
      settings = settings;
      finish = finish;
    }))
    (λ _.
    told_before (λ _. repeats_by same_setting settings ≡ false) IsStep
    (under (codes "settings") (refused_if (repeats_by same_setting settings) Repeated))
    (λ _. Ok (record {
      name = named;
      role = role;
      service = service;
      procedure = procedure;
      settings =
          settings;
      finish = finish;
    }))
    (told_at (λ _. repeats_by same_setting settings ≡ false) (Key (codes "settings"))
    (refused_if (repeats_by same_setting settings) Repeated) (kept (repeats_by same_setting settings) Repeated))
    (λ _ unlike. rw (numbered, few, distinct_told (λ setting. setting.name) settings, unlike, formed) refl))

-- the fields from the procedure on
rest_of_step : (named role service : List ℕ) (value : Data)
    → IfOk (required (codes "procedure") (count 1 65535) value >>= λ procedure.
    list_or_none (codes "settings") 0 MOST_SETTINGS setting_of value >>= λ settings.
    nested_if_there (codes "finish") condition_of value >>= λ finish.
    ruled_step named role service procedure settings finish value) IsStep
rest_of_step named role service value =
    told_before (λ procedure. is_between 1 65535 procedure ≡ true) IsStep
    (required (codes "procedure") (count 1 65535) value)
    (λ procedure. list_or_none (codes "settings") 0 MOST_SETTINGS setting_of value
    >>= λ settings. nested_if_there (codes "finish") condition_of value
    >>= λ finish. ruled_step named role service procedure settings finish value)
    (told_need (λ procedure. is_between 1 65535 procedure ≡ true) (codes "procedure") (count 1 65535)
    (told_count 1 65535) value)
    (λ procedure numbered.
    told_before (IsListOf (is_between 0 MOST_SETTINGS) (λ _. true)) IsStep
    (list_or_none (codes "settings") 0 MOST_SETTINGS setting_of value)
    (λ settings. nested_if_there (codes "finish") condition_of value >>= λ finish. ruled_step named role service
    procedure settings finish value)
    (told_list_or_none (is_between 0 MOST_SETTINGS) (λ _. true) (codes "settings") (items_in 0 MOST_SETTINGS)
    setting_of refl
    (told_items 0 MOST_SETTINGS) (λ value. any_value (setting_of value)) value)
    (λ settings few.
    told_before (λ finish. is_finish_formed finish ≡ true) IsStep (nested_if_there (codes "finish") condition_of value)
    (λ finish. ruled_step named role service procedure settings finish value)
    (told_inside_if_there (λ finish. is_finish_formed finish ≡ true)
    (codes "finish") condition_of refl condition_formed value)
    (λ finish formed. ruled named role service procedure settings finish value (from_one procedure numbered)
    (and_parts (nat_le 0 (length settings)) (nat_le (length settings) MOST_SETTINGS) few.0).1 formed)))

-- so each step that is read is in form
step_formed : (value : Data) → IfOk (step_of value) IsStep
unfolding step_of
step_formed value = search (any_before, rest_of_step) depth 12

-- ---- nodes

-- the node is formed, with all that is in it
abbrev IsNode : Tree → Type 0
IsNode node = is_tree_formed node ≡ true

-- some nodes are as many as their list
count_trees : (nodes : List Tree) → tree_count (trees_of nodes) ≡ length nodes
count_trees [] = refl
count_trees (node ∷ nodes) = ap suc (count_trees nodes)

-- they are in form where each of the list is
trees_all : (nodes : List Tree) → are_trees_formed (trees_of nodes) ≡ list_all is_tree_formed nodes
trees_all [] = refl
trees_all (node ∷ nodes) = ap (λ rest. is_tree_formed node && rest) (trees_all nodes)

-- some arms are as many as their list
count_arms : (arms : List PlainArm) → arm_count (arms_of arms) ≡ length arms
count_arms [] = refl
count_arms (arm ∷ arms) = ap suc (count_arms arms)

-- the arm's node and its condition are formed
abbrev is_arm_formed : PlainArm → Bool
is_arm_formed arm = is_tree_formed arm.body && is_formula_formed arm.when

-- they are in form where each of the list is
arms_all : (arms : List PlainArm) → are_arms_formed (arms_of arms) ≡ list_all is_arm_formed arms
arms_all [] = refl
arms_all (arm ∷ arms) =
    rw (arms_all arms) (sym (and_assoc (is_tree_formed arm.body) (is_formula_formed arm.when)
    (list_all is_arm_formed arms)))

-- a step that is read is a node in form
leaf_formed : (value : Data) → IfOk (step_form value) IsNode
unfolding step_form
leaf_formed value = told_before IsStep IsNode (step_of value) (λ step. Ok (leaf step)) (step_formed value)
    (λ step formed. formed)

-- so is a sequence, where the nodes below it are
seq_formed : (inner : Data → ReadResult Tree) → ((value : Data) → IfOk (inner value) IsNode) → (value : Data)
    → IfOk (seq_form inner value) IsNode
unfolding seq_form
seq_formed inner told value =
    told_before (IsListOf (nat_le 1) is_tree_formed) IsNode (list_from (codes "seq") 1 inner value)
    (λ nodes. nothing_but (codes "seq") value >>= λ _. Ok (seq (trees_of nodes)))
    (told_list (nat_le 1) is_tree_formed (codes "seq") (items_from 1) inner (told_items_from 1) told value)
    (λ nodes are. any_before IsNode (nothing_but (codes "seq") value) (λ _. Ok (seq (trees_of nodes)))
    (λ _. rw (count_trees nodes, are.0, trees_all nodes, are.1) refl))

-- parallel branches
par_formed : (inner : Data → ReadResult Tree) → ((value : Data) → IfOk (inner value) IsNode) → (value : Data)
    → IfOk (par_form inner value) IsNode
unfolding par_form
par_formed inner told value =
    told_before (IsListOf (nat_le 2) is_tree_formed) IsNode (list_from (codes "par") 2 inner value)
    (λ nodes. nothing_but (codes "par") value >>= λ _. Ok (par (trees_of nodes)))
    (told_list (nat_le 2) is_tree_formed (codes "par") (items_from 2) inner (told_items_from 2) told value)
    (λ nodes are. any_before IsNode (nothing_but (codes "par") value) (λ _. Ok (par (trees_of nodes)))
    (λ _. rw (count_trees nodes, are.0, trees_all nodes, are.1) refl))

-- the arm is formed
abbrev IsArm : PlainArm → Type 0
IsArm arm = is_arm_formed arm ≡ true

-- an arm
arm_formed : (inner : Data → ReadResult Tree) → ((value : Data) → IfOk (inner value) IsNode) → (value : Data)
    → IfOk (arm_of inner value) IsArm
unfolding arm_of
arm_formed inner told value =
    any_before IsArm (object_here value)
    (λ _. nested (codes "when") condition_of value >>= λ when. nested (codes "then") inner value
    >>= λ body. nothing_but (codes "when then") value >>= λ _. Ok (record { when = when; body = body }))
    (λ _.
    told_before IsFormed IsArm (nested (codes "when") condition_of value)
    (λ when. nested (codes "then") inner value >>= λ body. nothing_but (codes "when then") value
    >>= λ _. Ok (record { when = when; body = body }))
    (told_inside IsFormed (codes "when") condition_of condition_formed value)
    (λ when when_formed.
    told_before IsNode IsArm (nested (codes "then") inner value)
    (λ body. nothing_but (codes "when then") value >>= λ _. Ok (record { when = when; body = body }))
    (told_inside IsNode (codes "then") inner told value)
    (λ body body_formed. any_before IsArm (nothing_but (codes "when then") value)
    (λ _. Ok (record { when = when; body = body })) (λ _. rw (body_formed, when_formed) refl))))

-- a selection
sel_formed : (inner : Data → ReadResult Tree) → ((value : Data) → IfOk (inner value) IsNode) → (value : Data)
    → IfOk (sel_form inner value) IsNode
unfolding sel_form
sel_formed inner told value =
    told_before (IsListOf (is_between 1 MOST_ARMS) is_arm_formed) IsNode
    (list (codes "sel") 1 MOST_ARMS (arm_of inner) value)
    (λ arms. nothing_but (codes "sel") value >>= λ _. Ok (choice (arms_of arms)))
    (told_list (is_between 1 MOST_ARMS) is_arm_formed (codes "sel") (items_in 1 MOST_ARMS) (arm_of inner)
    (told_items 1 MOST_ARMS)
    (arm_formed inner told) value)
    (λ arms are. any_before IsNode (nothing_but (codes "sel") value) (λ _. Ok (choice (arms_of arms)))
    (λ _. rw (count_arms arms, are.0, arms_all arms, are.1) refl))

-- a loop
loop_formed : (inner : Data → ReadResult Tree) → ((value : Data) → IfOk (inner value) IsNode) → (value : Data)
    → IfOk (loop_form inner value) IsNode
unfolding loop_form
loop_formed inner told value =
    told_before IsNode IsNode (nested (codes "loop") inner value)
    (λ body. nested (codes "until") condition_of value >>= λ until. nothing_but (codes "loop until") value
    >>= λ _. Ok (loop body until))
    (told_inside IsNode (codes "loop") inner told value)
    (λ body body_formed.
    told_before IsFormed IsNode (nested (codes "until") condition_of value)
    (λ until. nothing_but (codes "loop until") value >>= λ _. Ok (loop body until))
    (told_inside IsFormed (codes "until") condition_of condition_formed value)
    (λ until until_formed. any_before IsNode (nothing_but (codes "loop until") value) (λ _. Ok (loop body until))
    (λ _. rw (body_formed, until_formed) refl)))

-- and so whichever of these the key tells
node_by_key_formed : (inner : Data → ReadResult Tree) → ((value : Data) → IfOk (inner value) IsNode) → (value : Data)
    → IfOk (node_by_key inner value) IsNode
unfolding node_by_key
node_by_key_formed inner told value =
    search (
      either,
      leaf_formed value,
      seq_formed inner told value,
      par_formed inner told value,
      sel_formed inner told
          value,
      loop_formed inner told value,
    ) depth 12

-- so a node read within any number of levels is in form
within_formed : (levels : ℕ) (value : Data) → IfOk (tree_within levels value) IsNode
unfolding tree_within
within_formed zero value = tt
within_formed (suc levels) value = search (
  any_before,
  node_by_key_formed (tree_within levels)
      (within_formed levels) value,
)

-- a node that is read is formed, with all that is in it
pub tree_formed : (value : Data) → IfOk (tree_of value) (λ node. is_tree_formed node ≡ true)
unfolding tree_of
tree_formed value = within_formed (suc (depth value)) value

-- ---- roles

-- the role's text has at most 64 bytes
abbrev is_role_short : PlainRole → Bool
is_role_short role = nat_le (length role.wants) LONGEST_WANTED

-- the same as a fact
abbrev IsShort : PlainRole → Type 0
IsShort role = is_role_short role ≡ true

-- a role with the version that it wants has one of at most the longest
wants_short : (role type_name : List ℕ) (value : Data)
    → IfOk (required (codes "version") (text_to LONGEST_WANTED) value >>= λ wants.
    under (codes "version") (here (requirement_of wants)) >>= λ _.
    nothing_but (codes "role type version") value >>= λ _.
    Ok (record { role = role; type_name = type_name; wants = wants })) IsShort
wants_short role type_name value =
    told_before (λ wants. nat_le (length wants) LONGEST_WANTED ≡ true) IsShort
    (required (codes "version") (text_to LONGEST_WANTED) value)
    (λ wants. under (codes "version") (here (requirement_of wants))
    >>= λ _. nothing_but (codes "role type version") value
    >>= λ _. Ok (record { role = role; type_name = type_name; wants = wants }))
    (told_need (λ wants. nat_le (length wants) LONGEST_WANTED ≡ true) (codes "version") (text_to LONGEST_WANTED)
    (told_text LONGEST_WANTED) value)
    (λ wants short. search (any_before, short))

-- so each role that is read has
role_short : (value : Data) → IfOk (role_of value) IsShort
unfolding role_of
role_short value = search (any_before, wants_short) depth 12

-- roles that are read are sized
pub roles_sized : (value : Data) → IfOk (roles_of value) (λ roles. are_roles_sized roles ≡ true)
unfolding roles_of
roles_sized value =
    told_before (HasSize (is_between 1 MOST_ROLES)) (λ roles. are_roles_sized roles ≡ true)
    (here (items_in 1 MOST_ROLES value))
    (λ values. each role_of 0 values)
    (told_here (HasSize (is_between 1 MOST_ROLES)) (items_in 1 MOST_ROLES value) (told_items 1 MOST_ROLES value))
    (λ values sized.
    IfOk-weaker (each role_of 0 values) (IsListOf (is_between 1 MOST_ROLES) is_role_short)
    (λ roles. are_roles_sized roles ≡ true) (λ roles are. rw (are.0, are.1) refl)
    (told_all (is_between 1 MOST_ROLES) is_role_short role_of role_short values sized))

-- sized roles of which none is named twice, and a formed node, are a chart's form
pub chart_formed : (roles : List PlainRole) (root : Tree) → are_roles_sized roles ≡ true → is_tree_formed root ≡ true
    → repeats_by same_role roles ≡ false → is_chart_form (record { roles = roles; root = root }) ≡ true
chart_formed roles root sized formed unlike =
    let parts = and_parts (is_between 1 MOST_ROLES (length roles)) (list_all is_role_short roles) sized in
    rw (parts.0, distinct_told (λ role. role.role) roles, unlike, parts.1, formed) refl
