-- What a log says last, once it has one more entry at its end.
use Rattle.std.proofs.Common.{◌≡◌, List, [], ◌∷◌, ◌++◌, Option, Some, None, refl, ap, ◌∙◌}
use Rattle.chart_core.specs.Active.{or_earlier, last_of}

-- the later of a thing and nothing is that thing
says_last : {A : Type 0} (said : Option A) → or_earlier None said ≡ or_earlier said None
says_last None = refl
says_last (Some x) = refl

-- the later of three, whichever two come first
earlier_apart : {A : Type 0} (one other third : Option A) → or_earlier (or_earlier one other) third
    ≡ or_earlier one (or_earlier other third)
earlier_apart None other third = refl
earlier_apart (Some x) other third = refl

-- what the last entry says goes before what the others say
pub last_pushed : {A B : Type 0} (says : A → Option B) (log : List A) (entry : A)
    → last_of says (log ++ entry ∷ []) ≡ or_earlier (says entry) (last_of says log)
last_pushed says [] entry = says_last (says entry)
last_pushed says (first ∷ log) entry =
    ap (λ found. or_earlier found (says first)) (last_pushed says log entry)
    ∙ earlier_apart (says entry) (last_of says log) (says first)
