-- The last of three rules.
use Rattle.std.proofs.Common.{◌≡◌, Option, Some, None, [], ◌∷◌, Ok, refl}
use Rattle.std.specs.Prelude.{⊤, Result}
use Rattle.mtp_codes.specs.Faults.{first_of, done_unless}

-- the first of one rule and no others is that rule
last_of_rules : {A : Type 0} (rule : Option A) → first_of (rule ∷ []) ≡ rule
last_of_rules None = refl
last_of_rules (Some rule) = refl

-- where the first two of three rules don't hold, the answer is by the third
pub third_of_rules : {A : Type 0} (answer : Result ⊤ A) (first second third : Option A) → Ok tt ≡ done_unless first →
    second ≡ None → answer ≡ done_unless third → answer ≡ done_unless (first_of (first ∷ second ∷ third ∷ []))
third_of_rules answer None None third free lacking is = rw (last_of_rules third) is
third_of_rules answer None (Some rule) third free lacking is = absurd (cc)
third_of_rules answer (Some rule) second third free lacking is = absurd (cc)
