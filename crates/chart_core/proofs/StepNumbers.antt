-- The number of a step by its name: the walk finds it, and in a valid chart it is that of each step with the name.
use Rattle.std.proofs.Common.{◌≡◌, ◌≢◌, ℕ, zero, suc, ◌+◌, ◌<◌, ◌≤◌, Bool, true, false, cond, List, [], ◌∷◌, ◌++◌, Option, Some, None, refl, ap, sym, ◌∙◌, subst, inl, inr, arith}
use Rattle.std.specs.Prelude.{find, option_map}
use Rattle.std.specs.List.{Contains}
use Rattle.std.specs.Option.{option_or}
use Rattle.std.proofs.lemmas.List.Folds.{find-append}
use Rattle.std.proofs.lemmas.Slice.Eq.{bytes_eq-Decides}
use Rattle.mtp_codes.specs.Faults.{when}
use Rattle.mtp_codes.specs.Names.{same_name}
use Rattle.chart_core.specs.Numbers.{number_named, number_in, number_among, number_in_arms}
use Rattle.chart_core.specs.Roles.{PlainChart}
use Rattle.chart_core.specs.Trees.{Placed, Tree, Trees, Arms, leaf, seq, par, choice, loop, no_trees, more_trees, no_arms, more_arms, size, steps, all_steps, arm_steps}
use Rattle.chart_core.specs.Valid.{IsValid}
use Rattle.chart_core.proofs.Lawful.{member_cases, names_tell_steps}
use Rattle.chart_core.proofs.Validity.{Rise, steps_rise}

-- the number in two lists of steps: that of the first list, where it has the name
named_append : (name : List ℕ) (front back : List Placed) →
    number_named name (front ++ back) ≡ option_or (number_named name front) (number_named name back)
named_append name front back =
    ap (option_map (λ placed. placed.number)) (find-append (λ placed. same_name placed.step.name name) front back)
    ∙ go (find (λ placed. same_name placed.step.name name) front)
  where
    go : (found : Option Placed) →
        option_map (λ placed. placed.number)
        (option_or found (find (λ placed. same_name placed.step.name name) back))
        ≡ option_or (option_map (λ placed. placed.number) found) (number_named name back)
    go None = refl
    go (Some placed) = refl

-- The number that a walk over the tree finds is that of the first of its steps with the name; so too over kids and
-- arms.
mutual
  pub numbers_are : (name : List ℕ) (each : Tree) (number : ℕ) →
      number_in name each number ≡ number_named name (steps each number)
  numbers_are name (leaf step) number = go (same_name step.name name)
    where
      go : (same : Bool) → when same number
          ≡ option_map (λ (placed : Placed). placed.number)
          (cond same (Some (record { number = number; step = step })) None)
      go true = refl
      go false = refl
  numbers_are name (seq each) number = all_numbers_are name each (number + 1)
  numbers_are name (par each) number = all_numbers_are name each (number + 1)
  numbers_are name (choice each) number = arm_numbers_are name each (number + 1)
  numbers_are name (loop body until) number = numbers_are name body (number + 1)

  all_numbers_are : (name : List ℕ) (each : Trees) (number : ℕ) →
      number_among name each number ≡ number_named name (all_steps each number)
  all_numbers_are name no_trees number = refl
  all_numbers_are name (more_trees each others) number =
      rw (numbers_are name each number, all_numbers_are name others (number + size each))
      (sym (named_append name (steps each number) (all_steps others (number + size each))))

  arm_numbers_are : (name : List ℕ) (each : Arms) (number : ℕ) →
      number_in_arms name each number ≡ number_named name (arm_steps each number)
  arm_numbers_are name no_arms number = refl
  arm_numbers_are name (more_arms when each others) number =
      rw (numbers_are name each number, arm_numbers_are name others (number + size each))
      (sym (named_append name (steps each number) (arm_steps others (number + size each))))

-- the first of a list is a member of it
member_first : {X : Type 0} (x : X) (xs : List X) → Contains (x ∷ xs) x
member_first x xs = (zero, omega arith, refl)

-- and so is each member of the rest
member_later : {X : Type 0} (y x : X) (xs : List X) → Contains xs x → Contains (y ∷ xs) x
member_later y x xs (k, l, e) = (suc k, omega arith, e)

-- where the numbers of steps rise from low to below high, each of them lies there
pub rise_member : (low high : ℕ) (each : List Placed) (placed : Placed) → Rise low high each → Contains each placed →
    (low ≤ placed.number) × (placed.number < high)
rise_member low high [] placed rise (k, l, e) = absurd (omega arith)
rise_member low high (first ∷ each) placed (at_least, below, rise) inside =
    elim (member_cases first placed each inside) [
      | inl same ↦ (
        subst (λ placed. low ≤ placed.number) same at_least,
        subst (λ placed. placed.number < high) same below,
      )
      | inr later ↦ let r = rise_member (first.number + 1) high each placed rise later in (omega arith, r.1)
    ]

-- where the numbers of steps rise, two of them with one number are one step
one_numbered : (low high : ℕ) (each : List Placed) (one other : Placed) → Rise low high each → Contains each one →
    Contains each other → one.number ≡ other.number → one ≡ other
one_numbered low high [] one other rise (k, l, e) there same = absurd (omega arith)
one_numbered low high (first ∷ each) one other (at_least, below, rise) here there same =
    elim (member_cases first one each here) [
      | inl first_is ↦ elim (member_cases first other each there) [
        | inl first_too ↦ sym first_is ∙ first_too
        | inr behind ↦
            (let r = rise_member (first.number + 1) high each other rise behind in
            let at : first.number ≡ one.number = ap (λ placed. placed.number) first_is in absurd (omega arith))
      ]
      | inr behind ↦ elim (member_cases first other each there) [
        | inl first_too ↦
            (let r = rise_member (first.number + 1) high each one rise behind in
            let at : first.number ≡ other.number = ap (λ placed. placed.number) first_too in absurd (omega arith))
        | inr behind_too ↦ one_numbered (first.number + 1) high each one other rise behind behind_too same
      ]
    ]

-- a step with this name and this number is among these
pub record IsNamed (name : List ℕ) (number : ℕ) (each : List Placed) : Type 0 where
  pub placed : Placed
  pub inside : Contains each placed
  pub named : placed.step.name ≡ name
  pub numbered : placed.number ≡ number

-- the number that is found is that of a step with the name
named_found : (name : List ℕ) (number : ℕ) (each : List Placed) → number_named name each ≡ Some number →
    IsNamed name number each
named_found name number [] found = cc
named_found name number (first ∷ each) found =
    go (same_name first.step.name name) refl found (named_found name number each)
  where
    go : (same : Bool) → same_name first.step.name name ≡ same →
        option_map (λ (placed : Placed). placed.number)
        (cond same (Some first) (find (λ placed. same_name placed.step.name name) each)) ≡ Some number →
        (number_named name each ≡ Some number → IsNamed name number each) → IsNamed name number (first ∷ each)
    go true same found rest =
        record {
          placed = first;
          inside = member_first first each;
          named = (bytes_eq-Decides first.step.name name).0 same;
          numbered = cc;
        }
    go false same found rest =
        let later = rest found in
        record {
          placed = later.placed;
          inside = member_later first later.placed each later.inside;
          named = later.named;
          numbered = later.numbered;
        }

-- where no number is found, no step of the list has the name
none_named : (name : List ℕ) (each : List Placed) (placed : Placed) → number_named name each ≡ None →
    Contains each placed → placed.step.name ≡ name → ⊥
none_named name [] placed none (k, l, e) same = omega arith
none_named name (first ∷ each) placed none inside named =
    go (same_name first.step.name name) refl none (none_named name each placed)
  where
    go : (same : Bool) → same_name first.step.name name ≡ same →
        option_map (λ (placed : Placed). placed.number)
        (cond same (Some first) (find (λ placed. same_name placed.step.name name) each)) ≡ None →
        (number_named name each ≡ None → Contains each placed → placed.step.name ≡ name → ⊥) → ⊥
    go true same none rest = cc
    go false same none rest =
        elim (member_cases first placed each inside) [
          | inl first_is ↦
              (let clash : true ≡ false =
              sym ((bytes_eq-Decides first.step.name name).1 (ap (λ placed. placed.step.name) first_is ∙ named))
              ∙ same in cc)
          | inr behind ↦ rest none behind named
        ]

-- In a valid chart the step with the name has the number, and no other step has it.
pub number_tells : (chart : PlainChart) (name : List ℕ) (number : ℕ) (placed : Placed) → IsValid chart →
    number_named name (steps chart.root 0) ≡ Some number → Contains (steps chart.root 0) placed →
    ((same_name name placed.step.name ≡ true → placed.number ≡ number)
    × (same_name name placed.step.name ≡ false → placed.number ≢ number))
number_tells chart name number placed valid found inside =
    let is = named_found name number (steps chart.root 0) found in (
      λ same.
          ap (λ placed. placed.number)
          (sym (names_tell_steps chart is.placed placed valid is.inside inside
          (is.named ∙ (bytes_eq-Decides name placed.step.name).0 same)))
          ∙ is.numbered,
      λ apart numbered.
          let one = one_numbered 0 (0 + size chart.root) (steps chart.root 0) is.placed placed
          (steps_rise chart.root 0) is.inside inside (is.numbered ∙ sym numbered) in
          let clash : true ≡ false =
          sym ((bytes_eq-Decides name placed.step.name).1
          (sym is.named ∙ ap (λ placed. placed.step.name) one)) ∙ apart in
          cc,
    )

-- The number that is found is below the count of the chart's nodes.
pub number_small : (chart : PlainChart) (name : List ℕ) (number : ℕ) →
    number_named name (steps chart.root 0) ≡ Some number → number < size chart.root
number_small chart name number found =
    let is = named_found name number (steps chart.root 0) found in
    let below = (rise_member 0 (0 + size chart.root) (steps chart.root 0) is.placed (steps_rise chart.root 0)
    is.inside).1 in
    let at = is.numbered in
    omega arith

-- Where no number is found, no step of the chart has the name.
pub nothing_named : (chart : PlainChart) (name : List ℕ) (placed : Placed) →
    number_named name (steps chart.root 0) ≡ None → Contains (steps chart.root 0) placed →
    same_name name placed.step.name ≡ false
nothing_named chart name placed none inside = go (same_name name placed.step.name) refl
  where
    go : (same : Bool) → same_name name placed.step.name ≡ same → same_name name placed.step.name ≡ false
    go true same =
        absurd (none_named name (steps chart.root 0) placed none inside
        (sym ((bytes_eq-Decides name placed.step.name).0 same)))
    go false same = same
