-- The flags of the steps once one is set, by the number of the step with a name.
use Rattle.std.proofs.Common.{◌≡◌, ℕ, ◌<◌, Bool, true, false, cond, List, length, set, Some, refl, ap, ◌∙◌, arith}
use Rattle.std.specs.List.{Contains}
use Rattle.std.proofs.lemmas.List.{get_or-set_same, get_or-set_other}
use Rattle.mtp_codes.specs.Names.{same_name}
use Rattle.chart_core.specs.Numbers.{number_named}
use Rattle.chart_core.specs.Roles.{PlainChart}
use Rattle.chart_core.specs.Trees.{Placed, size, steps}
use Rattle.chart_core.specs.Valid.{IsValid}
use Rattle.chart_core.proofs.StepNumbers.{number_small, number_tells}
use Rattle.chart_cursor.specs.Holding.{flag_at}

-- the flag of the step with the name is set, and no other
pub flag_set : (chart : PlainChart) (name : List ℕ) (number : ℕ) (flags : List Bool) (flag : Bool) (placed : Placed) →
    IsValid chart → length flags ≡ size chart.root → number_named name (steps chart.root 0) ≡ Some number →
    Contains (steps chart.root 0) placed →
    flag_at (set flags number flag) placed.number
    ≡ cond (same_name name placed.step.name) flag (flag_at flags placed.number)
flag_set chart name number flags flag placed valid room found inside = go (same_name name placed.step.name) refl
  where
    below : number < length flags
    below = let small = number_small chart name number found in omega arith

    go : (same : Bool) → same_name name placed.step.name ≡ same →
        flag_at (set flags number flag) placed.number ≡ cond same flag (flag_at flags placed.number)
    go true same =
        let at = (number_tells chart name number placed valid found inside).0 same in
        ap (flag_at (set flags number flag)) at ∙ get_or-set_same flags number flag false below
    go false same =
        get_or-set_other flags number placed.number flag false
        ((number_tells chart name number placed valid found inside).1 same)
