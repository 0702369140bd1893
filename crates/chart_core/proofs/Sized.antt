-- The sizes of the nodes of a tree, wherever they are in a list.
use Rattle.std.specs.Prelude.{ℕ, ◌≡◌, ◌+◌, List, [], ◌∷◌, ◌++◌, length, refl}
use Rattle.std.proofs.Common.{◌∙◌, ap, sym, subst, arith, append_assoc}
use Rattle.std.proofs.lemmas.List.{length-append, append-nil}
use Rattle.std.proofs.Math.Seq.{get_or-append_seam}
use Rattle.chart_core.specs.Trees.{Tree, Trees, Arms, leaf, seq, par, choice, loop, no_trees, more_trees, no_arms, more_arms, size, sizes, arm_sizes}
use Rattle.chart_core.specs.Sizes.{sizes_of, sizes_in, all_sizes_in, arm_sizes_in, SizesWithin, SizesAmong, SizesInArms, HasSizes}

-- ---- as many sizes as nodes

-- A tree, some trees and some arms have as many sizes as nodes.
mutual
  pub count_sizes : (each : Tree) → length (sizes_in each) ≡ size each
  count_sizes (leaf step) = refl
  count_sizes (seq each) = omega (arith, count_all each)
  count_sizes (par each) = omega (arith, count_all each)
  count_sizes (choice each) = omega (arith, count_in_arms each)
  count_sizes (loop body until) = omega (arith, count_sizes body)

  count_all : (each : Trees) → length (all_sizes_in each) ≡ sizes each
  count_all no_trees = refl
  count_all (more_trees each others) =
      length-append (sizes_in each) (all_sizes_in others) ∙ rw (count_sizes each, count_all others) refl

  count_in_arms : (each : Arms) → length (arm_sizes_in each) ≡ arm_sizes each
  count_in_arms no_arms = refl
  count_in_arms (more_arms when each others) =
      length-append (sizes_in each) (arm_sizes_in others) ∙ rw (count_sizes each, count_in_arms others) refl

-- ---- each at its number

-- the sizes of a tree begin with its own
first_size : (each : Tree) → (rest : List ℕ) × (sizes_in each ≡ size each ∷ rest)
first_size (leaf step) = ([], refl)
first_size (seq each) = (all_sizes_in each, refl)
first_size (par each) = (all_sizes_in each, refl)
first_size (choice each) = (arm_sizes_in each, refl)
first_size (loop body until) = (sizes_in body, refl)

-- the size of a tree comes before those of its nodes
own_size : (each : Tree) (front back : List ℕ)
    → sizes_of (front ++ (sizes_in each ++ back)) (length front) ≡ size each
own_size each front back =
    let first = first_size each in
    subst (λ list. sizes_of (front ++ (list ++ back)) (length front) ≡ size each) (sym first.1)
    (get_or-append_seam front (size each) (first.0 ++ back) 0)

-- what holds of a place and a list, with the size of a tree counted to the front
below : (P : ℕ → List ℕ → Type 0) (front : List ℕ) (own : ℕ) (back : List ℕ)
    → P (length (front ++ (own ∷ []))) ((front ++ (own ∷ [])) ++ back)
    → P (length front + 1) (front ++ (own ∷ back))
below P front own back holds =
    subst (P (length front + 1)) (append_assoc front (own ∷ []) back)
    (subst (λ n. P n ((front ++ (own ∷ [])) ++ back)) (length-append front (own ∷ [])) holds)

-- the same with all sizes of a tree, of several trees or arms
behind : (P : ℕ → List ℕ → Type 0) (each : Tree) (front back rest : List ℕ)
    → P (length (front ++ sizes_in each)) ((front ++ sizes_in each) ++ (back ++ rest))
    → P (length front + size each) (front ++ ((sizes_in each ++ back) ++ rest))
behind P each front back rest holds =
    let count : length (front ++ sizes_in each) ≡ length front + size each
    = length-append front (sizes_in each) ∙ ap (λ n. length front + n) (count_sizes each) in
    let list : (front ++ sizes_in each) ++ (back ++ rest) ≡ front ++ ((sizes_in each ++ back) ++ rest)
    = append_assoc front (sizes_in each) (back ++ rest)
    ∙ ap (λ list. front ++ list) (sym (append_assoc (sizes_in each) back rest)) in
    subst (P (length front + size each)) list
    (subst (λ n. P n ((front ++ sizes_in each) ++ (back ++ rest))) count holds)

-- the first of several
first_of : (each : Tree) (front back rest : List ℕ)
    → SizesWithin each (length front) (sizes_of (front ++ (sizes_in each ++ (back ++ rest))))
    → HasSizes each (length front) (sizes_of (front ++ ((sizes_in each ++ back) ++ rest)))
first_of each front back rest within =
    subst (λ list. HasSizes each (length front) (sizes_of (front ++ list)))
    (sym (append_assoc (sizes_in each) back rest)) (own_size each front (back ++ rest), within)

-- In a list that has the sizes of a tree, of some trees or of some arms between others, each of their nodes has its own
-- at its number.
mutual
  nodes_within : (each : Tree) (front back : List ℕ)
      → SizesWithin each (length front) (sizes_of (front ++ (sizes_in each ++ back)))
  nodes_within (leaf step) front back = tt
  nodes_within (seq each) front back =
      below (λ n list. SizesAmong each n (sizes_of list)) front (1 + sizes each) (all_sizes_in each ++ back)
      (nodes_among each (front ++ ((1 + sizes each) ∷ [])) back)
  nodes_within (par each) front back =
      below (λ n list. SizesAmong each n (sizes_of list)) front (1 + sizes each) (all_sizes_in each ++ back)
      (nodes_among each (front ++ ((1 + sizes each) ∷ [])) back)
  nodes_within (choice each) front back =
      below (λ n list. SizesInArms each n (sizes_of list)) front (1 + arm_sizes each) (arm_sizes_in each ++ back)
      (nodes_in_arms each (front ++ ((1 + arm_sizes each) ∷ [])) back)
  nodes_within (loop body until) front back =
      let more = front ++ ((1 + size body) ∷ []) in
      below (λ n list. HasSizes body n (sizes_of list)) front (1 + size body) (sizes_in body ++ back)
      (own_size body more back, nodes_within body more back)

  nodes_among : (each : Trees) (front back : List ℕ)
      → SizesAmong each (length front) (sizes_of (front ++ (all_sizes_in each ++ back)))
  nodes_among no_trees front back = tt
  nodes_among (more_trees each others) front back =
      let first = first_of each front (all_sizes_in others) back
      (nodes_within each front (all_sizes_in others ++ back)) in (
        first.0,
        first.1,
        behind (λ n list. SizesAmong others n (sizes_of list)) each front (all_sizes_in others) back
            (nodes_among others (front ++ sizes_in each) back),
      )

  nodes_in_arms : (each : Arms) (front back : List ℕ)
      → SizesInArms each (length front) (sizes_of (front ++ (arm_sizes_in each ++ back)))
  nodes_in_arms no_arms front back = tt
  nodes_in_arms (more_arms when each others) front back =
      let first = first_of each front (arm_sizes_in others) back
      (nodes_within each front (arm_sizes_in others ++ back)) in (
        first.0,
        first.1,
        behind (λ n list. SizesInArms others n (sizes_of list)) each front (arm_sizes_in others) back
            (nodes_in_arms others (front ++ sizes_in each) back),
      )

-- in the sizes of a tree each node has its own at its number
pub has_sizes : (each : Tree) → HasSizes each 0 (sizes_of (sizes_in each))
has_sizes each =
    subst (λ list. HasSizes each 0 (sizes_of list)) (append-nil (sizes_in each))
    (own_size each [] [], nodes_within each [] [])
