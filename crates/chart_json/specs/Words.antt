-- Operators of tests by their words.
use Rattle.std.specs.Prelude.{ℕ, List, [], ◌∷◌, codes}
use Rattle.chart_core.specs.declared.condition.Op.{Op}
use Rattle.chart_core.specs.declared.condition.Op.TheVariants.{Lt, Le, Eq, Ne, Ge, Gt}

-- each operator beside its word
abbrev pub op_words : List (List ℕ × Op)
op_words =
    (codes "lt", Lt) ∷ (codes "le", Le) ∷ (codes "eq", Eq) ∷ (codes "ne", Ne) ∷ (codes "ge", Ge) ∷ (codes "gt", Gt) ∷ []

-- the word of an operator
abbrev pub op_word : Op → List ℕ
op_word Lt = codes "lt"
op_word Le = codes "le"
op_word Eq = codes "eq"
op_word Ne = codes "ne"
op_word Ge = codes "ge"
op_word Gt = codes "gt"
