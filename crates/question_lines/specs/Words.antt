-- The words of `ask`.
use Rattle.std.specs.Prelude.{ℕ, List, [], ◌∷◌, codes}
use Rattle.question_lines.specs.declared.kind.AskKind.{AskKind}
use Rattle.question_lines.specs.declared.kind.AskKind.TheVariants.{Would, Plant, Bindings, Entries}

-- each word, with the kind of question that it names
abbrev pub ask_words : List (List ℕ × AskKind)
ask_words =
    (codes "would", Would) ∷ (codes "plant", Plant) ∷ (codes "bindings", Bindings) ∷ (codes "entries", Entries) ∷ []
