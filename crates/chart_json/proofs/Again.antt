-- What is written is read back.
use Rattle.std.proofs.Common.{◌≡◌, ◌≤◌, ◌&&◌, ℕ, zero, suc, Bool, true, false, List, [], ◌∷◌, length, map, Ok, Err, Result, Option, Some, None, refl, sym, ap, ◌∙◌, arith, true≢false, codes}
use Rattle.std.specs.Prelude.{nat_le, is_ok}
use Rattle.std.specs.List.{list_all}
use Rattle.std.proofs.lemmas.Bool.{and_parts, not-true}
use Rattle.std.proofs.lemmas.Bool.Decides.{nat_tests}
use Rattle.serde_json.specs.Data.{string, object, depth, items_depth}
use Rattle.serde_json.specs.Events.{items_len}
use Rattle.mtp_codes.specs.Names.{is_name}
use Rattle.mtp_codes.specs.declared.value.Reading.{Reading as Compared}
use Rattle.mtp_codes.specs.declared.value.Reading.TheVariants.{Whole, Bit}
use Rattle.mtp_codes.specs.declared.value.Setting.{Setting}
use Rattle.mtp_codes.specs.Numbers.{is_between}
use Rattle.mtp_json.specs.Form.{each, object_here}
use Rattle.mtp_codes.specs.Repeats.{repeats_by}
use Rattle.mtp_json.specs.Leaf.{word}
use Rattle.mtp_json.specs.Written.{is_scalar}
use Rattle.mtp_json.proofs.Again.{whole_again, each_again, len_again, scalar_again}
use Rattle.chart_core.specs.declared.limits.TheConstants.{MOST_ROLES, LONGEST_WANTED, MOST_SETTINGS, MOST_ARMS, MOST_JOINED, MOST_TESTS, DEEPEST_CONDITION}
use Rattle.chart_core.specs.Form.{are_distinct, formula_count, has_parts_formed, have_parts_formed, may_compare, test_count, nesting, nestings, is_formula_formed, is_finish_formed, is_step_formed, tree_count, is_tree_formed, are_trees_formed, are_arms_formed}
use Rattle.chart_core.specs.Formulas.{Formula, Formulas, constant, all_of, any_of, not_of, test, no_formulas, more_formulas, formulas_of}
use Rattle.chart_core.specs.Roles.{PlainChart, PlainRole, are_roles_formed, is_chart_form, role_names}
use Rattle.chart_core.specs.Trees.{PlainStep, Tree, Trees, Arms, PlainArm, leaf, seq, par, choice, loop, no_trees, more_trees, no_arms, more_arms, trees_of, arms_of, arm_count}
use Rattle.chart_core.specs.declared.condition.Op.{Op}
use Rattle.chart_core.specs.declared.condition.Op.TheVariants.{Lt, Le, Eq, Ne, Ge, Gt}
use Rattle.chart_json.specs.Form.{role_of, roles_of, are_roles_sized, same_role, compared, const_form, all_form, any_form, not_form, test_form, condition_by_key, condition_within, formula_of, condition_of, same_setting, setting_of, step_of, step_form, seq_form, par_form, arm_of, sel_form, loop_form, has, node_by_key, tree_within, tree_of, chart_from, chart_of}
use Rattle.chart_json.specs.Levels.{levels, all_levels, arm_levels}
use Rattle.chart_json.specs.Requirement.{requirement_of}
use Rattle.chart_json.specs.Sound.{is_role_sound, is_compared_sound, is_formula_sound, are_formulas_sound, is_setting_sound, is_finish_sound, is_step_sound, is_tree_sound, are_trees_sound, are_arms_sound, is_sound}
use Rattle.chart_json.specs.Words.{op_words, op_word}
use Rattle.chart_json.specs.Written.{written_role, written_roles, written_compared, written_formula, written_formulas, written_setting, finish_first, step_keys, written_settings, written_step, written_tree, written_trees, written_arms}
use Rattle.chart_json.proofs.Formed.{distinct_told}

-- ---- conditions

-- an operator's word is read back
op_again : (op : Op) → word op_words (string (op_word op)) ≡ Ok op
op_again Lt = refl
op_again Le = refl
op_again Eq = refl
op_again Ne = refl
op_again Ge = refl
op_again Gt = refl

-- and so is what a value is compared with
compared_again : (value : Compared) → is_compared_sound value ≡ true → compared (written_compared value) ≡ Ok value
compared_again (Whole z) sound = rw (whole_again z, sound) refl
compared_again (Bit bit) sound = refl

-- as many conditions are written as there are
formulas_len : (each : Formulas) → items_len (written_formulas each) ≡ formula_count each
unfolding written_formulas
formulas_len no_formulas = refl
formulas_len (more_formulas one each) = ap suc (formulas_len each)

-- conditions one by one
listed : Formulas → List Formula
listed no_formulas = []
listed (more_formulas one each) = one ∷ listed each

-- conditions that are listed are the same again
listed_again : (each : Formulas) → formulas_of (listed each) ≡ each
unfolding listed
listed_again no_formulas = refl
listed_again (more_formulas one each) = ap (more_formulas one) (listed_again each)

-- a test of a variable is read back from what is written of it
test_again : (depth : ℕ) (role variable : List ℕ) (op : Op) (value : Compared) → may_compare op value ≡ true
    → is_formula_sound (test role variable op value) ≡ true
    → condition_within (suc depth) (written_formula (test role variable op value)) ≡ Ok (test role variable op value)
unfolding condition_within condition_by_key test_form written_formula
test_again depth role variable op value may sound =
    let named = and_parts (is_name role) (is_name variable && is_compared_sound value) sound in
    let rest = and_parts (is_name variable) (is_compared_sound value) named.1 in
    rw (rest.0, named.0, op_again op, compared_again value rest.1, may) refl

mutual
  unfolding condition_within condition_by_key const_form all_form any_form not_form written_formula
      written_formulas listed each

  -- so is a condition, where as many levels are read as it has
  within_again : (condition : Formula) (depth : ℕ) → has_parts_formed condition ≡ true
      → is_formula_sound condition ≡ true → nesting condition ≤ depth
      → condition_within depth (written_formula condition) ≡ Ok condition
  within_again (constant holds) zero formed sound deep = absurd (omega arith)
  within_again (all_of each) zero formed sound deep = absurd (omega arith)
  within_again (any_of each) zero formed sound deep = absurd (omega arith)
  within_again (not_of inner) zero formed sound deep = absurd (omega arith)
  within_again (test role variable op value) zero formed sound deep = absurd (omega arith)
  within_again (constant holds) (suc depth) formed sound deep = refl
  within_again (all_of each) (suc depth) formed sound deep =
      let parts = and_parts (is_between 1 MOST_JOINED (formula_count each)) (have_parts_formed each) formed in
      rw (formulas_len each, parts.0, all_again each depth 0 parts.1 sound (omega arith), listed_again each) refl
  within_again (any_of each) (suc depth) formed sound deep =
      let parts = and_parts (is_between 1 MOST_JOINED (formula_count each)) (have_parts_formed each) formed in
      rw (formulas_len each, parts.0, all_again each depth 0 parts.1 sound (omega arith), listed_again each) refl
  within_again (not_of inner) (suc depth) formed sound deep =
      rw (within_again inner depth formed sound (omega arith)) refl
  within_again (test role variable op value) (suc depth) formed sound deep =
      test_again depth role variable op value formed sound

  -- and so is each of some conditions
  all_again : (conditions : Formulas) (depth place : ℕ) → have_parts_formed conditions ≡ true
      → are_formulas_sound conditions ≡ true → nestings conditions ≤ depth
      → each (condition_within depth) place (written_formulas conditions) ≡ Ok (listed conditions)
  all_again no_formulas depth place formed sound deep = refl
  all_again (more_formulas one others) depth place formed sound deep =
      let parts = and_parts (has_parts_formed one) (have_parts_formed others) formed in
      let sounds = and_parts (is_formula_sound one) (are_formulas_sound others) sound in
      rw (
        within_again one depth parts.0 sounds.0 (omega arith),
        all_again others depth (suc place) parts.1 sounds.1
            (omega arith),
      ) refl

mutual
  unfolding written_formula written_formulas

  -- a written condition nests as deep as the condition, at least
  formula_levels : (condition : Formula) → nesting condition ≤ suc (depth (written_formula condition))
  formula_levels (constant holds) = omega arith
  formula_levels (all_of each) = omega (arith, formulas_levels each)
  formula_levels (any_of each) = omega (arith, formulas_levels each)
  formula_levels (not_of inner) = omega (arith, formula_levels inner)
  formula_levels (test role variable op value) = omega arith

  -- some conditions have no more levels than what is written of them
  formulas_levels : (conditions : Formulas) → nestings conditions ≤ suc (items_depth (written_formulas conditions))
  formulas_levels no_formulas = omega arith
  formulas_levels (more_formulas one others) = omega (arith, formula_levels one, formulas_levels others)

-- a condition of any size that is written is read back
formula_again : (condition : Formula) → has_parts_formed condition ≡ true → is_formula_sound condition ≡ true
    → formula_of (written_formula condition) ≡ Ok condition
unfolding formula_of
formula_again condition formed sound =
    within_again condition (suc (depth (written_formula condition))) formed sound (formula_levels condition)

-- a condition that is written is read back
pub condition_again : (condition : Formula) → is_formula_formed condition ≡ true → is_formula_sound condition ≡ true
    → condition_of (written_formula condition) ≡ Ok condition
unfolding condition_of
condition_again condition formed sound =
    let parts = and_parts (has_parts_formed condition) (nat_le (test_count condition) MOST_TESTS && nat_le
    (nesting condition) DEEPEST_CONDITION) formed in
    let small = and_parts (nat_le (test_count condition) MOST_TESTS)
    (nat_le (nesting condition) DEEPEST_CONDITION) parts.1 in
    rw (formula_again condition parts.0 sound, small.0, small.1) refl

-- ---- steps

-- a setting is read back
setting_again : (setting : Setting) → is_setting_sound setting ≡ true
    → setting_of (written_setting setting) ≡ Ok setting
unfolding setting_of written_setting
setting_again setting sound =
    let parts = and_parts (is_name setting.name) (is_scalar setting.value) sound in
    rw (parts.0, scalar_again setting.value parts.1) refl

-- what is known of a step's fields but its finish
record AreFields (step : PlainStep) : Type 0 where
  pub named : is_name step.name ≡ true
  pub role : is_name step.role ≡ true
  pub service : is_name step.service ≡ true
  pub procedure : is_between 1 65535 step.procedure ≡ true
  pub few : is_between 0 MOST_SETTINGS (length step.settings) ≡ true
  pub settings : list_all is_setting_sound step.settings ≡ true
  pub unlike : repeats_by same_setting step.settings ≡ false

-- so are the fields of a step, with the condition of its finish
fields_again : (step : PlainStep) (finish : Option Formula) → AreFields step → is_finish_formed finish ≡ true
    → is_finish_sound finish ≡ true
    → step_of (object (finish_first finish
    (step_keys step.name step.procedure step.role step.service (written_settings step.settings))))
    ≡ Ok (record step { finish = finish })
unfolding step_of
fields_again step None are formed sound =
    rw (
      are.named,
      are.role,
      are.service,
      are.procedure,
      len_again written_setting step.settings,
      are.few,
      each_again
          setting_of written_setting is_setting_sound setting_again 0 step.settings are.settings,
      are.unlike,
    ) refl
fields_again step (Some finish) are formed sound =
    rw (
      are.named,
      are.role,
      are.service,
      are.procedure,
      len_again written_setting step.settings,
      are.few,
      each_again
          setting_of written_setting is_setting_sound setting_again 0 step.settings are.settings,
      condition_again finish
          formed sound,
      are.unlike,
    ) refl

-- a step may have any number of settings up to the most
some_settings : (n : ℕ) → nat_le n MOST_SETTINGS ≡ true → is_between 0 MOST_SETTINGS n ≡ true
some_settings n few = rw few (grind (arith, nat_tests))

-- a step that is written is read back
step_again : (step : PlainStep) → is_step_formed step ≡ true → is_step_sound step ≡ true
    → step_of (written_step step) ≡ Ok step
unfolding written_step
step_again step formed sound =
    let a = and_parts (nat_le 1 step.procedure)
    (nat_le (length step.settings) MOST_SETTINGS
    && (are_distinct (map (λ setting. setting.name) step.settings) && is_finish_formed step.finish)) formed in
    let b = and_parts (nat_le (length step.settings) MOST_SETTINGS) (are_distinct
    (map (λ setting. setting.name) step.settings) && is_finish_formed step.finish) a.1 in
    let c = and_parts (are_distinct (map (λ setting. setting.name) step.settings)) (is_finish_formed step.finish) b.1 in
    let n = and_parts (is_name step.name)
    (is_name step.role && (is_name step.service
    && (nat_le step.procedure 65535
    && (list_all is_setting_sound step.settings && is_finish_sound step.finish)))) sound in
    let r = and_parts (is_name step.role)
    (is_name step.service
    && (nat_le step.procedure 65535
    && (list_all is_setting_sound step.settings && is_finish_sound step.finish))) n.1 in
    let s = and_parts (is_name step.service) (nat_le step.procedure 65535 &&
    (list_all is_setting_sound step.settings && is_finish_sound step.finish)) r.1 in
    let p = and_parts (nat_le step.procedure 65535) (list_all is_setting_sound step.settings && is_finish_sound
    step.finish) s.1 in
    let e = and_parts (list_all is_setting_sound step.settings) (is_finish_sound step.finish) p.1 in
    fields_again step step.finish
    (record {
      named = n.0;
      role = r.0;
      service = s.0;
      procedure = rw (a.0, p.0) refl;
      few = some_settings (length step.settings) b.0;
      settings = e.0;
      unlike = not-true (repeats_by same_setting step.settings)
          (sym (distinct_told (λ setting. setting.name) step.settings) ∙ c.0);
    })
    c.1 e.1

-- ---- nodes

-- a written step is an object that has a key `step`
step_is_object : (step : PlainStep) → object_here (written_step step) ≡ Ok tt
unfolding written_step
step_is_object step = refl

-- what is written of a step has the key that tells a step, whether or not it has a finish
has_step_by : (step : PlainStep) (finish : Option Formula)
    → has (codes "step") (object
    (finish_first finish (step_keys step.name step.procedure step.role step.service (written_settings step.settings))))
    ≡ true
has_step_by step None = refl
has_step_by step (Some finish) = refl

-- so it is read as a step
has_step : (step : PlainStep) → has (codes "step") (written_step step) ≡ true
unfolding written_step
has_step step = has_step_by step step.finish

-- a step is read back as a node
leaf_again : (depth : ℕ) (step : PlainStep) → is_step_formed step ≡ true → is_step_sound step ≡ true
    → tree_within (suc depth) (written_tree (leaf step)) ≡ Ok (leaf step)
unfolding tree_within node_by_key step_form written_tree
leaf_again depth step formed sound = rw (step_is_object step, has_step step, step_again step formed sound) refl

-- as many nodes are written as there are
trees_len : (each : Trees) → items_len (written_trees each) ≡ tree_count each
unfolding written_trees
trees_len no_trees = refl
trees_len (more_trees one each) = ap suc (trees_len each)

-- and as many arms
arms_len : (each : Arms) → items_len (written_arms each) ≡ arm_count each
unfolding written_arms
arms_len no_arms = refl
arms_len (more_arms when one each) = ap suc (arms_len each)

-- nodes one by one
nodes : Trees → List Tree
nodes no_trees = []
nodes (more_trees one each) = one ∷ nodes each

-- nodes that are listed are the same again
nodes_again : (each : Trees) → trees_of (nodes each) ≡ each
unfolding nodes
nodes_again no_trees = refl
nodes_again (more_trees one each) = ap (more_trees one) (nodes_again each)

-- arms one by one
plans : Arms → List PlainArm
plans no_arms = []
plans (more_arms when one each) = record { when = when; body = one } ∷ plans each

-- and so are arms
plans_again : (each : Arms) → arms_of (plans each) ≡ each
unfolding plans
plans_again no_arms = refl
plans_again (more_arms when one each) = ap (more_arms when one) (plans_again each)

mutual
  unfolding tree_within node_by_key seq_form par_form sel_form loop_form arm_of written_tree written_trees written_arms
      nodes plans each

  -- a node that is written is read back, where none lies deeper than the reading goes
  pub tree_within_again : (node : Tree) (depth : ℕ) → is_tree_formed node ≡ true → is_tree_sound node ≡ true
      → levels node ≤ depth → tree_within depth (written_tree node) ≡ Ok node
  tree_within_again (leaf step) zero formed sound deep = absurd (omega arith)
  tree_within_again (seq each) zero formed sound deep = absurd (omega arith)
  tree_within_again (par each) zero formed sound deep = absurd (omega arith)
  tree_within_again (choice each) zero formed sound deep = absurd (omega arith)
  tree_within_again (loop body until) zero formed sound deep = absurd (omega arith)
  tree_within_again (leaf step) (suc depth) formed sound deep = leaf_again depth step formed sound
  tree_within_again (seq each) (suc depth) formed sound deep =
      let parts = and_parts (nat_le 1 (tree_count each)) (are_trees_formed each) formed in
      rw (trees_len each, parts.0, trees_again each depth 0 parts.1 sound (omega arith), nodes_again each) refl
  tree_within_again (par each) (suc depth) formed sound deep =
      let parts = and_parts (nat_le 2 (tree_count each)) (are_trees_formed each) formed in
      rw (trees_len each, parts.0, trees_again each depth 0 parts.1 sound (omega arith), nodes_again each) refl
  tree_within_again (choice each) (suc depth) formed sound deep =
      let parts = and_parts (is_between 1 MOST_ARMS (arm_count each)) (are_arms_formed each) formed in
      rw (arms_len each, parts.0, arms_again each depth 0 parts.1 sound (omega arith), plans_again each) refl
  tree_within_again (loop body until) (suc depth) formed sound deep =
      let parts = and_parts (is_tree_formed body) (is_formula_formed until) formed in
      let sounds = and_parts (is_tree_sound body) (is_formula_sound until) sound in
      rw (tree_within_again body depth parts.0 sounds.0 (omega arith), condition_again until parts.1 sounds.1) refl

  -- each of some nodes is read back, where as many levels are read as they have
  trees_again : (trees : Trees) (depth place : ℕ) → are_trees_formed trees ≡ true → are_trees_sound trees ≡ true
      → all_levels trees ≤ depth → each (tree_within depth) place (written_trees trees) ≡ Ok (nodes trees)
  trees_again no_trees depth place formed sound deep = refl
  trees_again (more_trees one others) depth place formed sound deep =
      let parts = and_parts (is_tree_formed one) (are_trees_formed others) formed in
      let sounds = and_parts (is_tree_sound one) (are_trees_sound others) sound in
      rw (
        tree_within_again one depth parts.0 sounds.0 (omega arith),
        trees_again others depth
            (suc place) parts.1 sounds.1 (omega arith),
      ) refl

  -- and so is each of some arms
  arms_again : (arms : Arms) (depth place : ℕ) → are_arms_formed arms ≡ true → are_arms_sound arms ≡ true
      → arm_levels arms ≤ depth → each (arm_of (tree_within depth)) place (written_arms arms) ≡ Ok (plans arms)
  arms_again no_arms depth place formed sound deep = refl
  arms_again (more_arms when one others) depth place formed sound deep =
      let parts = and_parts (is_tree_formed one) (is_formula_formed when && are_arms_formed others) formed in
      let rest = and_parts (is_formula_formed when) (are_arms_formed others) parts.1 in
      let sounds = and_parts (is_formula_sound when) (is_tree_sound one && are_arms_sound others) sound in
      let more = and_parts (is_tree_sound one) (are_arms_sound others) sounds.1 in
      rw (
        condition_again when rest.0 sounds.0,
        tree_within_again one depth parts.0 more.0
            (omega arith),
        arms_again others depth (suc place) rest.1 more.1 (omega arith),
      ) refl

mutual
  unfolding written_tree written_trees written_arms

  -- a written node nests as deep as its nodes lie, at least
  tree_levels : (node : Tree) → levels node ≤ suc (depth (written_tree node))
  tree_levels (leaf step) = omega arith
  tree_levels (seq each) = omega (arith, trees_levels each)
  tree_levels (par each) = omega (arith, trees_levels each)
  tree_levels (choice each) = omega (arith, arms_levels each)
  tree_levels (loop body until) = omega (arith, tree_levels body)

  -- some nodes have no more levels than what is written of them
  trees_levels : (nodes : Trees) → all_levels nodes ≤ suc (items_depth (written_trees nodes))
  trees_levels no_trees = omega arith
  trees_levels (more_trees one others) = omega (arith, tree_levels one, trees_levels others)

  -- nor have some arms
  arms_levels : (arms : Arms) → arm_levels arms ≤ suc (items_depth (written_arms arms))
  arms_levels no_arms = omega arith
  arms_levels (more_arms when one others) = omega (arith, tree_levels one, arms_levels others)

-- a node that is written is read back
pub tree_again : (node : Tree) → is_tree_formed node ≡ true → is_tree_sound node ≡ true
    → tree_of (written_tree node) ≡ Ok node
unfolding tree_of
tree_again node formed sound = tree_within_again node (suc (depth (written_tree node))) formed sound (tree_levels node)

-- ---- roles

-- a result that is good has a value
what_is_ok : {A E : Type 0} (result : Result A E) → is_ok result ≡ true → (x : A) × (result ≡ Ok x)
what_is_ok (Ok x) ok = (x, refl)
what_is_ok (Err error) ok = absurd (true≢false (sym ok))

-- the role is sound, and its text has at most 64 bytes
abbrev is_role_written : PlainRole → Bool
is_role_written role = is_role_sound role && nat_le (length role.wants) LONGEST_WANTED

-- a role is read back
role_again : (role : PlainRole) → is_role_written role ≡ true → role_of (written_role role) ≡ Ok role
unfolding role_of written_role
role_again role written =
    let parts = and_parts (is_role_sound role) (nat_le (length role.wants) LONGEST_WANTED) written in
    let named = and_parts (is_name role.role) (is_name role.type_name && is_ok (requirement_of role.wants)) parts.0 in
    let typed = and_parts (is_name role.type_name) (is_ok (requirement_of role.wants)) named.1 in
    let required = what_is_ok (requirement_of role.wants) typed.1 in
    rw (named.0, typed.0, parts.1, required.1) refl

-- roles that are sound and short enough are read back one by one
all_of_both : (roles : List PlainRole) → list_all is_role_sound roles ≡ true
    → list_all (λ role. nat_le (length role.wants) LONGEST_WANTED) roles ≡ true → list_all is_role_written roles ≡ true
all_of_both [] sound short = refl
all_of_both (role ∷ roles) sound short =
    let sounds = and_parts (is_role_sound role) (list_all is_role_sound roles) sound in
    let shorts = and_parts (nat_le (length role.wants) LONGEST_WANTED) (list_all
    (λ role. nat_le (length role.wants) LONGEST_WANTED) roles) short in
    rw (sounds.0, shorts.0, all_of_both roles sounds.1 shorts.1) refl

-- roles that are written are read back
pub roles_again : (roles : List PlainRole) → are_roles_sized roles ≡ true → list_all is_role_sound roles ≡ true
    → roles_of (written_roles roles) ≡ Ok roles
unfolding roles_of written_roles
roles_again roles sized sound =
    let parts = and_parts (is_between 1 MOST_ROLES (length roles)) (list_all
    (λ role. nat_le (length role.wants) LONGEST_WANTED) roles) sized in
    rw (
      len_again written_role roles,
      parts.0,
      each_again role_of written_role is_role_written role_again 0 roles
          (all_of_both roles sound parts.1),
    ) refl

-- ---- charts

-- a chart in form has as many roles as it may have
sized_told : (chart : PlainChart) → is_chart_form chart ≡ true → are_roles_sized chart.roles ≡ true
sized_told chart formed =
    let parts = and_parts (are_roles_formed chart) (is_tree_formed chart.root) formed in
    let sizes = and_parts (is_between 1 MOST_ROLES (length chart.roles))
    (are_distinct (role_names chart) && list_all (λ role. nat_le (length role.wants) LONGEST_WANTED)
    chart.roles) parts.0 in
    let texts = and_parts (are_distinct (role_names chart)) (list_all
    (λ role. nat_le (length role.wants) LONGEST_WANTED) chart.roles) sizes.1 in
    rw (sizes.0, texts.1) refl

-- and no two with one name
unlike_told : (chart : PlainChart) → is_chart_form chart ≡ true → repeats_by same_role chart.roles ≡ false
unlike_told chart formed =
    let parts = and_parts (are_roles_formed chart) (is_tree_formed chart.root) formed in
    let sizes = and_parts (is_between 1 MOST_ROLES (length chart.roles))
    (are_distinct (role_names chart) && list_all (λ role. nat_le (length role.wants) LONGEST_WANTED)
    chart.roles) parts.0 in
    let texts = and_parts (are_distinct (role_names chart)) (list_all
    (λ role. nat_le (length role.wants) LONGEST_WANTED) chart.roles) sizes.1 in
    not-true (repeats_by same_role chart.roles) (sym (distinct_told (λ role. role.role) chart.roles) ∙ texts.0)

-- a chart's own roles and root make the chart
pub chart_from_again : (chart : PlainChart) → is_chart_form chart ≡ true → chart_from chart.roles chart.root ≡ Ok chart
unfolding chart_from
chart_from_again chart formed = rw (unlike_told chart formed) refl

-- the written roles of a chart are read back
pub roles_of_chart_again : (chart : PlainChart) → is_chart_form chart ≡ true → is_sound chart ≡ true
    → roles_of (written_roles chart.roles) ≡ Ok chart.roles
roles_of_chart_again chart formed sound =
    roles_again chart.roles (sized_told chart formed) (and_parts (list_all is_role_sound chart.roles)
    (is_tree_sound chart.root) sound).0

-- the written root of a chart is read back
pub root_again : (chart : PlainChart) → is_chart_form chart ≡ true → is_sound chart ≡ true
    → tree_of (written_tree chart.root) ≡ Ok chart.root
root_again chart formed sound =
    tree_again chart.root (and_parts (are_roles_formed chart) (is_tree_formed chart.root) formed).1
    (and_parts (list_all is_role_sound chart.roles) (is_tree_sound chart.root) sound).1

-- a chart that is written is read back
pub chart_again : (chart : PlainChart) → is_chart_form chart ≡ true → is_sound chart ≡ true
    → chart_of (written_roles chart.roles) (written_tree chart.root) ≡ Ok chart
unfolding chart_of
chart_again chart formed sound =
    rw (roles_of_chart_again chart formed sound, root_again chart formed sound, chart_from_again chart formed) refl
