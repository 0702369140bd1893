-- Nodes by their parts.
use Rattle.std.proofs.Common.{◌≡◌, ℕ, suc, ◌≤◌, ◌<◌, List, ◌∷◌, ◌++◌, length, true, Option, Some, None, Ok, refl, ◌∙◌}
use Rattle.std.proofs.Common.{subst, arith, codes}
use Rattle.std.specs.Prelude.{is_some, nat_le}
use Rattle.std.proofs.lemmas.Grind.{common_steps}
use Rattle.serde_json.specs.Data.{Data, Items, null, boolean, number, string, array, object, Members, member}
use Rattle.serde_json.specs.Data.{no_members}
use Rattle.serde_json.specs.Events.{items_len}
use Rattle.serde_json.specs.Find.{get_member}
use Rattle.mtp_codes.specs.Numbers.{is_between}
use Rattle.mtp_json.specs.Form.{each}
use Rattle.mtp_json.specs.ReadResult.{ReadResult, ◌>>=◌}
use Rattle.chart_core.specs.Formulas.{Formula}
use Rattle.chart_core.specs.Trees.{PlainArm, PlainStep, Tree, arms_of, choice, leaf, loop, par, seq, trees_of}
use Rattle.chart_core.specs.declared.limits.TheConstants.{MOST_ARMS}
use Rattle.chart_json.specs.Form.{arm_of, condition_of, loop_form, node_by_key, par_form, sel_form, seq_form, step_form}
use Rattle.chart_json.specs.Form.{step_of, tree_of}
use Rattle.chart_json.proofs.Within.{tree_steps}
use Rattle.pol_lines.specs.Begins.{Begins, Closes, Reads, ReadsList, last_of}
use Rattle.pol_lines.proofs.Braces.{one_member, two_members}
use Rattle.pol_lines.proofs.Cutting.{reads_last}
use Rattle.pol_lines.proofs.Printed.{reads_as}

-- what reads as a step has the key `step`
has_step : (held : Members) (step : PlainStep) → step_of (object held) ≡ Ok step
    → is_some (get_member (codes "step") held) ≡ true
unfolding step_of
has_step held step is = go (get_member (codes "step") held) refl
  where
    go : (found : Option Data) → get_member (codes "step") held ≡ found → is_some found ≡ true
    go None none = let gone = rw none at is in absurd cc
    go (Some value) some = refl

-- so it reads as a node
step_is_node : (value : Data) (step : PlainStep) → step_of value ≡ Ok step → tree_of value ≡ Ok (leaf step)
unfolding step_of node_by_key step_form
step_is_node null step is = absurd cc
step_is_node (boolean bit) step is = absurd cc
step_is_node (number held) step is = absurd cc
step_is_node (string text) step is = absurd cc
step_is_node (array values) step is = absurd cc
step_is_node (object held) step is = tree_steps (object held) ∙ rw (has_step held step is)
    (by_step (step_of (object held)) is)
  where
    by_step : (read : ReadResult PlainStep) → read ≡ Ok step → (read >>= λ found. Ok (leaf found)) ≡ Ok (leaf step)
    by_step read is_step = rw is_step refl

-- so does the front of a text
pub step_node : (deep : ℕ) (text rest : List ℕ) (step : PlainStep) → Reads step_of deep text step rest
    → Reads tree_of deep text (leaf step) rest
step_node deep text rest step reads =
    record { value = reads.value; begins = reads.begins; gives = step_is_node reads.value step reads.gives }

-- nodes in sequence
seq_value : (values : Items) (nodes : List Tree) → each tree_of 0 values ≡ Ok nodes → nat_le 1 (items_len values) ≡ true
    → tree_of (object (member (codes "seq") (array values) no_members)) ≡ Ok (seq (trees_of nodes))
unfolding node_by_key seq_form
seq_value values nodes gives some = tree_steps (object (member (codes "seq") (array values) no_members))
    ∙ rw (some, gives) refl

-- nodes in parallel
par_value : (values : Items) (nodes : List Tree) → each tree_of 0 values ≡ Ok nodes → nat_le 2 (items_len values) ≡ true
    → tree_of (object (member (codes "par") (array values) no_members)) ≡ Ok (par (trees_of nodes))
unfolding node_by_key par_form
par_value values nodes gives some = tree_steps (object (member (codes "par") (array values) no_members))
    ∙ rw (some, gives) refl

-- the front of a text behind the key of a sequence
pub seq_node : (deep : ℕ) (text inner behind after : List ℕ) (nodes : List Tree) → text ≡ codes "{\"seq\":" ++ inner
    → ReadsList tree_of deep inner nodes behind → behind ≡ 125 ∷ after → 0 < length nodes
    → Reads tree_of (suc deep) text (seq (trees_of nodes)) (last_of (length after) text)
seq_node deep text inner behind after nodes piece list closing some =
    reads_last tree_of (suc deep) text (seq (trees_of nodes)) after (record {
      value = object (member (codes "seq") (array list.values) no_members);
      begins = one_member deep text (codes "seq") inner after (array list.values) refl piece
          (subst (λ s. Begins deep inner (array list.values) s) closing list.begins);
      gives = seq_value list.values nodes list.gives (grind (arith, common_steps, list.many, some));
    })

-- the same of nodes in parallel
pub par_node : (deep : ℕ) (text inner behind after : List ℕ) (nodes : List Tree) → text ≡ codes "{\"par\":" ++ inner
    → ReadsList tree_of deep inner nodes behind → behind ≡ 125 ∷ after → 2 ≤ length nodes
    → Reads tree_of (suc deep) text (par (trees_of nodes)) (last_of (length after) text)
par_node deep text inner behind after nodes piece list closing some =
    reads_last tree_of (suc deep) text (par (trees_of nodes)) after (record {
      value = object (member (codes "par") (array list.values) no_members);
      begins = one_member deep text (codes "par") inner after (array list.values) refl piece
          (subst (λ s. Begins deep inner (array list.values) s) closing list.begins);
      gives = par_value list.values nodes list.gives (grind (arith, common_steps, list.many, some));
    })

-- ---- selections

-- an arm
arm_value : (when body : Data) (condition : Formula) (node : Tree) → condition_of when ≡ Ok condition
    → tree_of body ≡ Ok node
    → arm_of tree_of (object (member (codes "then") body (member (codes "when") when no_members)))
    ≡ Ok (record { when = condition; body = node })
unfolding arm_of
arm_value when body condition node is_when is_body = rw (is_when, is_body) refl

-- the front of a text behind the condition and the node of an arm
pub when_first : (deep : ℕ) (text inner between then behind after : List ℕ) (condition : Formula) (node : Tree)
    → text ≡ codes "{\"when\":" ++ inner → Reads condition_of 15 inner condition between
    → between ≡ codes ",\"then\":" ++ then → Reads tree_of deep then node behind → behind ≡ 125 ∷ after → 15 ≤ deep
    → Reads (arm_of tree_of) (suc deep) text (record { when = condition; body = node }) (last_of (length after) text)
when_first deep text inner between then behind after condition node piece when next body closing fits =
    let asked = reads_as condition_of 15 deep inner condition condition between refl fits when in
    reads_last (arm_of tree_of) (suc deep) text (record { when = condition; body = node }) after (record {
      value = object (member (codes "then") body.value (member (codes "when") asked.value no_members));
      begins = two_members deep text (codes "when") inner (34 ∷ (codes "then\":" ++ then)) (codes "then") then after
          asked.value body.value refl refl piece
          (subst (λ s. Begins deep inner asked.value s) next asked.begins) refl
          (subst (λ s. Begins deep then body.value s) closing body.begins);
      gives = arm_value asked.value body.value condition node asked.gives body.gives;
    })

-- the same where the node comes first
pub then_first : (deep count : ℕ) (text inner between : List ℕ) (condition : Formula) (node : Tree)
    → text ≡ codes "{\"then\":" ++ inner → Reads tree_of deep inner node between
    → Closes condition_of 15 (codes ",\"when\":") between condition count → 15 ≤ deep
    → Reads (arm_of tree_of) (suc deep) text (record { when = condition; body = node }) (last_of count text)
then_first deep count text inner between condition node piece body when fits = rw when.counted
    let asked = reads_as condition_of 15 deep when.inner condition condition when.behind refl fits when.reads in
    reads_last (arm_of tree_of) (suc deep) text (record { when = condition; body = node }) when.after (record {
      value = object (member (codes "then") body.value (member (codes "when") asked.value no_members));
      begins = two_members deep text (codes "then") inner (34 ∷ (codes "when\":" ++ when.inner)) (codes "when")
          when.inner when.after body.value asked.value refl refl piece
          (subst (λ s. Begins deep inner body.value s) when.begins body.begins) refl
          (subst (λ s. Begins deep when.inner asked.value s) when.closing asked.begins);
      gives = arm_value asked.value body.value condition node asked.gives body.gives;
    })

-- arms to choose from
sel_value : (values : Items) (arms : List PlainArm) → each (arm_of tree_of) 0 values ≡ Ok arms
    → is_between 1 MOST_ARMS (items_len values) ≡ true
    → tree_of (object (member (codes "sel") (array values) no_members)) ≡ Ok (choice (arms_of arms))
unfolding node_by_key sel_form
sel_value values arms gives sized = tree_steps (object (member (codes "sel") (array values) no_members))
    ∙ rw (sized, gives) refl

-- the front of a text behind the key of a selection
pub sel_node : (deep : ℕ) (text inner behind after : List ℕ) (arms : List PlainArm) → text ≡ codes "{\"sel\":" ++ inner
    → ReadsList (arm_of tree_of) deep inner arms behind → behind ≡ 125 ∷ after
    → 1 ≤ length arms → length arms ≤ MOST_ARMS
    → Reads tree_of (suc deep) text (choice (arms_of arms)) (last_of (length after) text)
sel_node deep text inner behind after arms piece list closing some few =
    reads_last tree_of (suc deep) text (choice (arms_of arms)) after (record {
      value = object (member (codes "sel") (array list.values) no_members);
      begins = one_member deep text (codes "sel") inner after (array list.values) refl piece
          (subst (λ s. Begins deep inner (array list.values) s) closing list.begins);
      gives = sel_value list.values arms list.gives (grind (arith, common_steps, list.many, some, few));
    })

-- ---- loops

-- a node, and the condition that ends it
loop_value : (body until : Data) (node : Tree) (condition : Formula) → tree_of body ≡ Ok node
    → condition_of until ≡ Ok condition
    → tree_of (object (member (codes "loop") body (member (codes "until") until no_members)))
    ≡ Ok (loop node condition)
unfolding node_by_key loop_form
loop_value body until node condition is_body is_until =
    tree_steps (object (member (codes "loop") body (member (codes "until") until no_members)))
    ∙ rw (is_body, is_until) refl

-- the front of a text behind the node and the condition of a loop
pub loop_node : (deep count : ℕ) (text inner between : List ℕ) (node : Tree) (condition : Formula)
    → text ≡ codes "{\"loop\":" ++ inner → Reads tree_of deep inner node between
    → Closes condition_of 15 (codes ",\"until\":") between condition count → 15 ≤ deep
    → Reads tree_of (suc deep) text (loop node condition) (last_of count text)
loop_node deep count text inner between node condition piece body until fits = rw until.counted
    let asked = reads_as condition_of 15 deep until.inner condition condition until.behind refl fits until.reads in
    reads_last tree_of (suc deep) text (loop node condition) until.after (record {
      value = object (member (codes "loop") body.value (member (codes "until") asked.value no_members));
      begins = two_members deep text (codes "loop") inner (34 ∷ (codes "until\":" ++ until.inner)) (codes "until")
          until.inner until.after body.value asked.value refl refl piece
          (subst (λ s. Begins deep inner body.value s) until.begins body.begins) refl
          (subst (λ s. Begins deep until.inner asked.value s) until.closing asked.begins);
      gives = loop_value body.value asked.value node condition body.gives asked.gives;
    })
