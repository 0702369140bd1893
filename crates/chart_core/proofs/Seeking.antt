-- What a search through a tree meets: no nodes, its first node, one branch after another, and its end.
use Rattle.std.specs.Prelude.{ℕ, ◌≡◌, ◌+◌, ◌-◌, ◌<◌, ◌≤◌, Bool, true, false, ◌||◌, nat_lt, List, [], ◌∷◌, ◌++◌, length, take, get_or, suc, refl}
use Rattle.std.proofs.Common.{arith, ap, sym, ◌∙◌}
use Rattle.std.proofs.Math.Bool.{or_assoc, or-false}
use Rattle.std.proofs.Math.Seq.{take-suc}
use Rattle.std.proofs.lemmas.Bool.Decides.{nat_tests}
use Rattle.chart_core.specs.Seeking.{sought}
use Rattle.chart_core.specs.Trees.{Tree, Trees, Arms, leaf, seq, par, choice, loop, no_trees, more_trees, no_arms, more_arms, plain_node, trees, size, sizes, arm_sizes}
use Rattle.chart_core.specs.Valid.{has_name, some_has_name, arm_has_name, uses, some_uses, clashes, clashes_in_turn, clashes_at_once, clashes_in_arms}
use Rattle.chart_core.specs.declared.node.Node.{Node}
use Rattle.chart_core.specs.declared.steps.Sought.TheVariants.{Within, Beyond}

-- Of no nodes none is a step with a name.
mutual
  pub none_named : (each : Tree) (name : List ℕ) → has_name each 0 name ≡ false
  none_named (leaf step) name = refl
  none_named (seq each) name = none_of_trees_named each name
  none_named (par each) name = none_of_trees_named each name
  none_named (choice each) name = none_of_arms_named each name
  none_named (loop body until) name = none_named body name

  none_of_trees_named : (each : Trees) (name : List ℕ) → some_has_name each 0 name ≡ false
  none_of_trees_named no_trees name = refl
  none_of_trees_named (more_trees each others) name =
      let gone : 0 - size each ≡ 0 = omega arith in
      rw (gone, none_named each name, none_of_trees_named others name) refl

  none_of_arms_named : (each : Arms) (name : List ℕ) → arm_has_name each 0 name ≡ false
  none_of_arms_named no_arms name = refl
  none_of_arms_named (more_arms when each others) name =
      let gone : 0 - size each ≡ 0 = omega arith in
      rw (gone, none_named each name, none_of_arms_named others name) refl

-- a tree has a node
some_nodes : (each : Tree) → 0 < size each
some_nodes (leaf step) = omega arith
some_nodes (seq each) = omega arith
some_nodes (par each) = omega arith
some_nodes (choice each) = omega arith
some_nodes (loop body until) = omega arith

-- so its first node is within it
first_within : (each : Tree) → nat_lt 0 (size each) ≡ true
first_within each = grind (arith, nat_tests, some_nodes each)

-- No branch comes before a tree's first node.
mutual
  first_apart : (each : Tree) (role service : List ℕ) → clashes each 0 role service ≡ false
  first_apart (leaf step) role service = refl
  first_apart (seq each) role service = first_apart_in_turn each role service
  first_apart (par each) role service = first_apart_at_once each role service
  first_apart (choice each) role service = first_apart_in_arms each role service
  first_apart (loop body until) role service = first_apart body role service

  first_apart_in_turn : (each : Trees) (role service : List ℕ) → clashes_in_turn each 0 role service ≡ false
  first_apart_in_turn no_trees role service = refl
  first_apart_in_turn (more_trees each others) role service =
      rw (first_within each, first_apart each role service) refl

  first_apart_at_once : (each : Trees) (role service : List ℕ) → clashes_at_once each 0 role service ≡ false
  first_apart_at_once no_trees role service = refl
  first_apart_at_once (more_trees each others) role service =
      rw (first_within each, first_apart each role service) refl

  first_apart_in_arms : (each : Arms) (role service : List ℕ) → clashes_in_arms each 0 role service ≡ false
  first_apart_in_arms no_arms role service = refl
  first_apart_in_arms (more_arms when each others) role service =
      rw (first_within each, first_apart each role service) refl

-- the first node is found in the tree, and does not clash
pub sought_first : (each : Tree) (role service : List ℕ)
    → sought 0 (size each) (clashes each 0 role service) ≡ Within false
sought_first each role service = rw (first_within each, first_apart each role service) refl

-- a place behind so many nodes is not among them
not_within : (place nodes : ℕ) → nodes ≤ place → nat_lt place nodes ≡ false
not_within place nodes behind = grind (arith, nat_tests)

-- a place that is behind one branch of a parallel is sought among those behind it
pub past_branch :
    (each : Tree) (others : Trees) (place left : ℕ) (role service : List ℕ) (earlier : Bool)
    → sought place (size each) (clashes each place role service) ≡ Beyond left
    → sought left (sizes others) ((earlier || uses each role service) || clashes_at_once others left role service)
    ≡ sought place (sizes (more_trees each others))
    (earlier || clashes_at_once (more_trees each others) place role service)
past_branch each others place left role service earlier same =
    rw (or_assoc earlier (uses each role service) (clashes_at_once others left role service))
    (grind (arith, nat_tests, same))

-- trees and one more use a service of a role where they do or it does
last_used : (front : List Node) (last : Node) (role service : List ℕ)
    → some_uses (trees (front ++ last ∷ [])) role service
    ≡ (some_uses (trees front) role service || uses (plain_node last) role service)
last_used [] last role service = or-false (uses (plain_node last) role service)
last_used (kid ∷ front) last role service =
    ap (λ used. uses (plain_node kid) role service || used) (last_used front last role service)
    ∙ sym (or_assoc (uses (plain_node kid) role service) (some_uses (trees front) role service)
    (uses (plain_node last) role service))

-- so do the branches as far as one, and it
pub used_so_far :
    (kids : List Node) (place : ℕ) (kid : Node) (role service : List ℕ) → place < length kids
    → kid ≡ get_or kids place kid
    → some_uses (trees (take (place + 1) kids)) role service
    ≡ (some_uses (trees (take place kids)) role service || uses (plain_node kid) role service)
used_so_far kids place kid role service inside same =
    let next : place + 1 ≡ suc place = omega arith in
    ap (λ front. some_uses (trees front) role service)
    (ap (λ count. take count kids) next ∙ take-suc kids place kid inside
    ∙ ap (λ last. take place kids ++ last ∷ []) (sym same))
    ∙ last_used (take place kids) kid role service

-- a place behind trees in turn does not clash
pub behind_in_turn : (each : Trees) (place : ℕ) (role service : List ℕ) → sizes each ≤ place
    → clashes_in_turn each place role service ≡ false
behind_in_turn no_trees place role service behind = refl
behind_in_turn (more_trees each others) place role service behind =
    rw (not_within place (size each) (omega (arith, behind)))
    (behind_in_turn others (place - size each) role service (omega (arith, behind)))

-- behind trees at once it does where one of them has a step of the role and service
pub behind_at_once : (each : Trees) (place : ℕ) (role service : List ℕ) → sizes each ≤ place
    → clashes_at_once each place role service ≡ some_uses each role service
behind_at_once no_trees place role service behind = refl
behind_at_once (more_trees each others) place role service behind =
    rw (not_within place (size each) (omega (arith, behind)))
    (ap (λ used. uses each role service || used)
    (behind_at_once others (place - size each) role service (omega (arith, behind))))

-- behind arms it does not
pub behind_in_arms : (each : Arms) (place : ℕ) (role service : List ℕ) → arm_sizes each ≤ place
    → clashes_in_arms each place role service ≡ false
behind_in_arms no_arms place role service behind = refl
behind_in_arms (more_arms when each others) place role service behind =
    rw (not_within place (size each) (omega (arith, behind)))
    (behind_in_arms others (place - size each) role service (omega (arith, behind)))
