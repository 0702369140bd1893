-- Conditions by their parts.
use Rattle.std.proofs.Common.{◌≡◌, ℕ, suc, ◌+◌, ◌≤◌, List, [], ◌∷◌, ◌++◌, length, Bool, true, false, Option, Some, None}
use Rattle.std.proofs.Common.{Ok, refl, ◌∙◌, subst, arith, codes}
use Rattle.std.proofs.lemmas.Grind.{common_steps}
use Rattle.std.specs.Prelude.{is_some, nat_le}
use Rattle.std.specs.List.{list_all}
use Rattle.json.specs.Json as json
use Rattle.json.specs.Print.{escape_byte, print_from}
use Rattle.serde_json.specs.Data.{Data, Items, array, boolean, object, member, no_members}
use Rattle.serde_json.specs.Events.{items_len}
use Rattle.serde_json.specs.Find.{get_member}
use Rattle.mtp_codes.specs.Numbers.{is_between}
use Rattle.mtp_codes.specs.declared.value.Reading.{Reading}
use Rattle.mtp_json.specs.Form.{each, field, is_listed, present}
use Rattle.mtp_json.specs.Leaf.{name, word}
use Rattle.mtp_json.specs.ReadResult.{Finding}
use Rattle.chart_core.specs.Form.{may_compare, nesting, nestings, test_count, test_counts}
use Rattle.chart_core.specs.Formulas.{Formula, all_of, any_of, constant, formulas_of, not_of, test}
use Rattle.chart_core.specs.declared.condition.Op.{Op}
use Rattle.chart_core.specs.declared.limits.TheConstants.{MOST_JOINED}
use Rattle.chart_json.specs.Form.{all_form, any_form, compared, condition_by_key, condition_of, const_form, formula_of}
use Rattle.chart_json.specs.Form.{not_form, test_form}
use Rattle.chart_json.specs.Words.{op_words}
use Rattle.chart_json.proofs.Within.{formula_steps}
use Rattle.pol_lines.specs.declared.flat.Member.{Member}
use Rattle.pol_lines.specs.declared.key.Key.TheVariants as key
use Rattle.pol_lines.specs.Begins.{Begins, Reads, ReadsList, last_of}
use Rattle.pol_lines.specs.Flat.{flat_data}
use Rattle.pol_lines.specs.Keys.{key_text}
use Rattle.pol_lines.specs.Objects.{Makes}
use Rattle.pol_lines.proofs.Braces.{one_member}
use Rattle.pol_lines.proofs.Cuts.{flat_field}
use Rattle.pol_lines.proofs.Cutting.{reads_last}

-- ---- sizes

-- one more condition nests no deeper than the limit
pub nestings_push : (limit : ℕ) (conditions : List Formula) (last : Formula)
    → nestings (formulas_of conditions) ≤ limit → nesting last ≤ limit
    → nestings (formulas_of (conditions ++ last ∷ [])) ≤ limit
nestings_push limit [] last before here = omega (arith, here)
nestings_push limit (first ∷ others) last before here =
    omega (arith, before, nestings_push limit others last (omega (arith, before)) here)

-- the tests of one more condition come to those before
test_counts_push : (conditions : List Formula) (last : Formula)
    → test_counts (formulas_of (conditions ++ last ∷ [])) ≡ test_counts (formulas_of conditions) + test_count last
test_counts_push [] last = omega arith
test_counts_push (first ∷ others) last = omega (arith, test_counts_push others last)

-- so with the tests of one more condition there is no more than there was room for
pub tests_push : (conditions : List Formula) (last : Formula) (before between after : ℕ)
    → test_counts (formulas_of conditions) + between ≤ before → test_count last + after ≤ between
    → test_counts (formulas_of (conditions ++ last ∷ [])) + after ≤ before
tests_push conditions last before between after some here = omega (arith, test_counts_push conditions last, some, here)

-- ---- constants

-- what is written of a constant
abbrev pub const_piece : Bool → List ℕ
const_piece true = codes "{\"const\":true}"
const_piece false = codes "{\"const\":false}"

-- it says the constant
const_value : (bit : Bool) → formula_of (object (member (codes "const") (boolean bit) no_members)) ≡ Ok (constant bit)
unfolding condition_by_key const_form
const_value bit = formula_steps (object (member (codes "const") (boolean bit) no_members)) ∙ refl

-- so does the front of a text
pub const_reads : (text rest : List ℕ) (bit : Bool) → text ≡ const_piece bit ++ rest
    → Reads formula_of 1 text (constant bit) (last_of (length rest) text)
unfolding print_from escape_byte
const_reads text rest true is = reads_last formula_of 1 text (constant true) rest (record {
  value = object (member (codes "const") (boolean true) no_members);
  begins = record {
    tree = json.object (json.member (codes "const") (json.boolean true) json.no_members);
    piece = is;
    numbers = (tt, tt);
    shallow = omega arith;
    means = refl;
  };
  gives = const_value true;
})
const_reads text rest false is = reads_last formula_of 1 text (constant false) rest (record {
  value = object (member (codes "const") (boolean false) no_members);
  begins = record {
    tree = json.object (json.member (codes "const") (json.boolean false) json.no_members);
    piece = is;
    numbers = (tt, tt);
    shallow = omega arith;
    means = refl;
  };
  gives = const_value false;
})

-- ---- tests

-- a key at which a form gives something is there
there : {A : Type 0} (form : Data → Finding A) (value : Option Data) (found : A) → present form value ≡ Ok found
    → is_some value ≡ true
there form None found none = absurd cc
there form (Some value) found some = refl

-- a test of these members
pub test_of_parts : (members : List Member) (variable role : List ℕ) (op : Op) (against : Reading)
    → field (codes "test") name (flat_data members) ≡ Ok variable
    → field (codes "role") name (flat_data members) ≡ Ok role
    → field (codes "op") (word op_words) (flat_data members) ≡ Ok op
    → field (codes "value") compared (flat_data members) ≡ Ok against
    → list_all (λ each. is_listed (codes "test role op value") (key_text each.key)) members ≡ true
    → may_compare op against ≡ true
    → Makes formula_of (test role variable op against) members []
unfolding condition_by_key test_form
test_of_parts members variable role op against is_variable is_role is_op is_against listed may found among =
    let e1 = flat_field members [] found name key.Test (Ok variable) among is_variable in
    let e2 = flat_field members [] found name key.Role (Ok role) among is_role in
    let e3 = flat_field members [] found (word op_words) key.Op (Ok op) among is_op in
    let e4 = flat_field members [] found compared key.Value (Ok against) among is_against in
    let e5 = among.listed (codes "test role op value") listed refl in
    let no_const = among.other (codes "const") refl in
    let no_all = among.other (codes "all") refl in
    let no_any = among.other (codes "any") refl in
    let no_not = among.other (codes "not") refl in
    let is_test = there name (get_member (codes "test") found) variable e1 in
    formula_steps (object found) ∙ rw (no_const, no_all, no_any, no_not, is_test, e1, e2, e3, e4, e5, may) refl

-- ---- conditions of conditions

-- a list of conditions of which each has to be true
all_value : (values : Items) (conditions : List Formula) → each formula_of 0 values ≡ Ok conditions
    → is_between 1 MOST_JOINED (items_len values) ≡ true
    → formula_of (object (member (codes "all") (array values) no_members)) ≡ Ok (all_of (formulas_of conditions))
unfolding condition_by_key all_form
all_value values conditions gives sized = formula_steps (object (member (codes "all") (array values) no_members))
    ∙ rw (sized, gives) refl

-- a list of conditions of which one has to be true
any_value : (values : Items) (conditions : List Formula) → each formula_of 0 values ≡ Ok conditions
    → is_between 1 MOST_JOINED (items_len values) ≡ true
    → formula_of (object (member (codes "any") (array values) no_members)) ≡ Ok (any_of (formulas_of conditions))
unfolding condition_by_key any_form
any_value values conditions gives sized = formula_steps (object (member (codes "any") (array values) no_members))
    ∙ rw (sized, gives) refl

-- a condition that has to be false
not_value : (value : Data) (condition : Formula) → formula_of value ≡ Ok condition
    → formula_of (object (member (codes "not") value no_members)) ≡ Ok (not_of condition)
unfolding condition_by_key not_form
not_value value condition gives = formula_steps (object (member (codes "not") value no_members)) ∙ rw gives refl

-- the front of a text behind the key of a list of which each has to be true
pub all_reads : (deep : ℕ) (text inner behind after : List ℕ) (conditions : List Formula)
    → text ≡ codes "{\"all\":" ++ inner → ReadsList formula_of deep inner conditions behind → behind ≡ 125 ∷ after
    → 1 ≤ length conditions → length conditions ≤ MOST_JOINED
    → Reads formula_of (suc deep) text (all_of (formulas_of conditions)) (last_of (length after) text)
all_reads deep text inner behind after conditions piece list closing some few =
    reads_last formula_of (suc deep) text (all_of (formulas_of conditions)) after (record {
      value = object (member (codes "all") (array list.values) no_members);
      begins = one_member deep text (codes "all") inner after (array list.values) refl piece
          (subst (λ s. Begins deep inner (array list.values) s) closing list.begins);
      gives = all_value list.values conditions list.gives (grind (arith, common_steps, list.many, some, few));
    })

-- the same of a list of which one has to be true
pub any_reads : (deep : ℕ) (text inner behind after : List ℕ) (conditions : List Formula)
    → text ≡ codes "{\"any\":" ++ inner → ReadsList formula_of deep inner conditions behind → behind ≡ 125 ∷ after
    → 1 ≤ length conditions → length conditions ≤ MOST_JOINED
    → Reads formula_of (suc deep) text (any_of (formulas_of conditions)) (last_of (length after) text)
any_reads deep text inner behind after conditions piece list closing some few =
    reads_last formula_of (suc deep) text (any_of (formulas_of conditions)) after (record {
      value = object (member (codes "any") (array list.values) no_members);
      begins = one_member deep text (codes "any") inner after (array list.values) refl piece
          (subst (λ s. Begins deep inner (array list.values) s) closing list.begins);
      gives = any_value list.values conditions list.gives (grind (arith, common_steps, list.many, some, few));
    })

-- the front of a text behind the key of a condition that has to be false
pub not_reads : (deep : ℕ) (text inner behind after : List ℕ) (condition : Formula)
    → text ≡ codes "{\"not\":" ++ inner → Reads formula_of deep inner condition behind → behind ≡ 125 ∷ after
    → Reads formula_of (suc deep) text (not_of condition) (last_of (length after) text)
not_reads deep text inner behind after condition piece reads closing =
    reads_last formula_of (suc deep) text (not_of condition) after (record {
      value = object (member (codes "not") reads.value no_members);
      begins = one_member deep text (codes "not") inner after reads.value refl piece
          (subst (λ s. Begins deep inner reads.value s) closing reads.begins);
      gives = not_value reads.value condition reads.gives;
    })

-- ---- whole conditions

-- a small condition is a whole one
small_value : (value : Data) (condition : Formula) → formula_of value ≡ Ok condition → nesting condition ≤ 8
    → test_count condition ≤ 16 → condition_of value ≡ Ok condition
unfolding condition_of
small_value value condition gives nested few =
    let shallow : nat_le (nesting condition) 8 ≡ true = grind (arith, common_steps, nested) in
    let tests : nat_le (test_count condition) 16 ≡ true = grind (arith, common_steps, few) in
    rw (gives, shallow, tests) refl

-- so is the one at the front of a text
pub condition_reads : (deep : ℕ) (text rest : List ℕ) (condition : Formula)
    → Reads formula_of deep text condition rest → nesting condition ≤ 8 → test_count condition ≤ 16
    → Reads condition_of deep text condition rest
condition_reads deep text rest condition reads nested few = record {
  value = reads.value;
  begins = reads.begins;
  gives = small_value reads.value condition reads.gives nested few;
}
