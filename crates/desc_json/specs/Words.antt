-- The kinds of parameters and variables by their names.
use Rattle.std.specs.Prelude.{ℕ, List, [], ◌∷◌, codes}
use Rattle.mtp_assembly.specs.declared.variable.ViewKind.{ViewKind}
use Rattle.mtp_assembly.specs.declared.variable.ViewKind.TheVariants as variable
use Rattle.desc_json.specs.declared.words.ParamWord.{ParamWord}
use Rattle.desc_json.specs.declared.words.ParamWord.TheVariants as param

-- the kinds of parameters, each with its name
abbrev pub param_words : List (List ℕ × ParamWord)
param_words =
    (codes "AnaServParam", param.Ana) ∷ (codes "DIntServParam", param.DInt)
    ∷ (codes "BinServParam", param.Bin) ∷ (codes "StringServParam", param.Text) ∷ []

-- the kinds of variables, each with its name
abbrev pub variable_words : List (List ℕ × ViewKind)
variable_words =
    (codes "AnaView", variable.Ana) ∷ (codes "DIntView", variable.DInt)
    ∷ (codes "BinView", variable.Bin) ∷ (codes "StringView", variable.Text) ∷ []
