-- The laws of valid charts.
use Rattle.std.specs.Prelude.{◌≡◌, zero, suc, List, [], ◌∷◌, map, ◌⊎◌, refl}
use Rattle.std.specs.List.{Contains}
use Rattle.std.proofs.Common.{sym, ◌∙◌, ap, subst, inl, inr, arith}
use Rattle.chart_core.specs.Trees.{Placed, steps}
use Rattle.chart_core.specs.Runs.{course_of}
use Rattle.chart_core.specs.Names.{In, Distinct}
use Rattle.chart_core.specs.Laws.{NamesTellSteps, StepsHaveRoles, NothingIsPartial}
use Rattle.chart_core.specs.declared.progress.Progress.TheVariants.{Untouched}
use Rattle.chart_core.proofs.Link.{fresh_stands, stands_partial}
use Rattle.chart_core.proofs.Validity.{Each, name_of, names_are, valid_distinct, valid_roles}
use Rattle.chart_core.proofs.Logs.{chart_sound}

-- a member of a list is its first or one of the others
pub member_cases : {A : Type 0} (first member : A) (others : List A) → Contains (first ∷ others) member
    → (first ≡ member) ⊎ Contains others member
member_cases first member others (zero, inside, same) = inl same
member_cases first member others (suc place, inside, same) = inr (place, omega arith, same)

-- what holds of each holds of a member
pub each_member : {A : Type 0} (Fact : A → Type 0) (items : List A) (member : A) → Each Fact items
    → Contains items member → Fact member
each_member Fact [] member fact (place, inside, same) = absurd (omega arith)
each_member Fact (first ∷ others) member (fact, rest) among = elim (member_cases first member others among)
    [ inl same ↦ subst Fact same fact | inr behind ↦ each_member Fact others member rest behind ]

-- a step's name is one of the steps' names
name_in : (placed : List Placed) (step : Placed) → Contains placed step → In (name_of step) (map name_of placed)
name_in [] step (place, inside, same) = absurd (omega arith)
name_in (first ∷ placed) step among =
    elim (member_cases first step placed among) [
      | inl same ↦ inl (ap name_of (sym same))
      | inr behind ↦
          inr (name_in placed step behind)
    ]

-- of steps with distinct names, one has a name
one_named : (placed : List Placed) (one other : Placed) → Distinct (map name_of placed) → Contains placed one
    → Contains placed other
    → name_of one ≡ name_of other → one ≡ other
one_named [] one other distinct (place, inside, first_is) there same = absurd (omega arith)
one_named (first ∷ placed) one other (new, distinct) here there same =
    elim (member_cases first one placed here) [
      | inl first_is ↦ elim (member_cases first other placed there) [
        | inl first_too ↦ sym first_is ∙ first_too
        | inr behind_too ↦
            absurd (new (subst (λ name. In name (map name_of placed)) (sym same ∙ ap name_of (sym first_is))
            (name_in placed other behind_too)))
      ]
      | inr behind ↦ elim (member_cases first other placed there) [
        | inl first_too ↦
            absurd (new
            (subst (λ name. In name (map name_of placed)) (same ∙ ap name_of (sym first_too))
            (name_in placed one behind)))
        | inr behind_too ↦ one_named placed one other distinct behind behind_too same
      ]
    ]

-- In a valid chart the name identifies the step.
pub names_tell_steps : NamesTellSteps
names_tell_steps chart one other valid here there same =
    one_named (steps chart.root 0) one other (subst Distinct (names_are chart.root 0)
    (valid_distinct chart valid)) here there same

-- In a valid chart each step has a role of the chart.
pub roles_of_steps : StepsHaveRoles
roles_of_steps chart placed valid here = each_member _ (steps chart.root 0) placed (valid_roles chart valid) here

-- Nothing is a partial run of a valid chart.
pub nothing_partial : NothingIsPartial
nothing_partial chart valid =
    let sound = chart_sound chart valid in
    stands_partial (course_of chart) (λ place. Untouched) [] sound
    (fresh_stands (course_of chart) (λ place. Untouched) sound (λ place has. refl))
