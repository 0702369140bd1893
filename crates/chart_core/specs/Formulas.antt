-- Conditions as plain data, and on which readings they are true.
use Rattle.std.specs.Prelude.{ℕ, ℤ, List, [], ◌∷◌, map, Bool, true, false, not, ◌&&◌, ◌||◌, Option, Some, None, int_lt, int_le}
use Rattle.std.specs.Ordering.{int_eq}
use Rattle.std.specs.Bool.{beq}
use Rattle.mtp_codes.specs.declared.value.Reading.{Reading}
use Rattle.mtp_codes.specs.declared.value.Reading.TheVariants.{Whole, Bit}
use Rattle.chart_core.specs.declared.condition.Op.{Op}
use Rattle.chart_core.specs.declared.condition.Op.TheVariants.{Lt, Le, Eq, Ne, Ge, Gt}
use Rattle.chart_core.specs.declared.condition.Condition.{Condition}
use Rattle.chart_core.specs.declared.condition.Condition.TheOpen.{Condition-F}
use Rattle.chart_core.specs.declared.condition.Condition.TheFolds.{fold-Condition}

-- a condition as plain data; a test has its role and its variable first
mutual
  pub data Formula : Type 0 where
    constant : Bool → Formula
    all_of : Formulas → Formula
    any_of : Formulas → Formula
    not_of : Formula → Formula
    test : List ℕ → List ℕ → Op → Reading → Formula

  pub data Formulas : Type 0 where
    no_formulas : Formulas
    more_formulas : Formula → Formulas → Formulas

-- plain conditions in a list, as a condition holds them
abbrev pub formulas_of : List Formula → Formulas
formulas_of [] = no_formulas
formulas_of (each ∷ others) = more_formulas each (formulas_of others)

-- a condition as plain data, where the conditions within it are plain already
abbrev pub formula_step : Condition-F Formula → Formula
formula_step (Condition-F.Const value) = constant value
formula_step (Condition-F.All each) = all_of (formulas_of each.items)
formula_step (Condition-F.Any each) = any_of (formulas_of each.items)
formula_step (Condition-F.Not inner) = not_of inner.value
formula_step (Condition-F.Test role variable op value) = test role variable op value

-- a condition as plain data
abbrev pub plain_condition : Condition → Formula
plain_condition = fold-Condition Formula formula_step

-- a list of conditions as plain data
abbrev pub formulas : List Condition → Formulas
formulas conditions = formulas_of (map plain_condition conditions)

-- two whole numbers compare as the operator says
abbrev pub compares_whole : Op → ℤ → ℤ → Bool
compares_whole Lt left right = int_lt left right
compares_whole Le left right = int_le left right
compares_whole Eq left right = int_eq left right
compares_whole Ne left right = not (int_eq left right)
compares_whole Ge left right = int_le right left
compares_whole Gt left right = int_lt right left

-- two truth values compare as the operator says; truth values have no order
abbrev pub compares_bits : Op → Bool → Bool → Bool
compares_bits Lt left right = false
compares_bits Le left right = false
compares_bits Eq left right = beq left right
compares_bits Ne left right = not (beq left right)
compares_bits Ge left right = false
compares_bits Gt left right = false

-- the reading and the value are of one kind and compare as the operator says
abbrev pub compares : Op → Reading → Reading → Bool
compares op (Whole left) (Whole right) = compares_whole op left right
compares op (Whole left) (Bit right) = false
compares op (Bit left) (Whole right) = false
compares op (Bit left) (Bit right) = compares_bits op left right

-- there is a reading, and it and the value are of one kind and compare as the operator says
abbrev pub compares_read : Op → Option Reading → Reading → Bool
compares_read op None value = false
compares_read op (Some reading) value = compares op reading value

-- what is known of each variable of each role
abbrev pub Known : Type 0
Known = List ℕ → List ℕ → Option Reading

-- the condition is true on these readings
abbrev mutual
  pub holds : Formula → Known → Bool
  holds (constant value) known = value
  holds (all_of each) known = all_hold each known
  holds (any_of each) known = some_holds each known
  holds (not_of inner) known = not (holds inner known)
  holds (test role variable op value) known = compares_read op (known role variable) value

  -- each of the conditions is true on these readings
  pub all_hold : Formulas → Known → Bool
  all_hold no_formulas known = true
  all_hold (more_formulas each others) known = holds each known && all_hold others known

  -- one of the conditions is true on these readings
  pub some_holds : Formulas → Known → Bool
  some_holds no_formulas known = false
  some_holds (more_formulas each others) known = holds each known || some_holds others known
