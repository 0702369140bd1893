-- The line of a denial, token by token.
use Rattle.std.proofs.Common.{◌≡◌, ℕ, true, codes, refl, List, [], ◌∷◌, ◌++◌, append_assoc, Option, Some, None}
use Rattle.json.specs.Token as token
use Rattle.json.specs.Token.{Token}
use Rattle.pol_record.specs.Objects.{data_tokens}
use Rattle.pol_guard.specs.Denials.{denial_object, rule_member, rule_tokens}

-- a bracket, the key and its value, those of the rule and a bracket are the tokens of a denial
pub denial_tokens : (old : List Token) (rule : Option (List ℕ)) →
    (((old ++ token.begin_object ∷ []) ++ token.key (codes "denied") ∷ token.boolean true ∷ []) ++ rule_tokens rule)
    ++ token.end_object
    ∷ []
    ≡ old ++ data_tokens (denial_object (rule_member rule))
unfolding denial_object
denial_tokens old None = simp append_assoc refl
denial_tokens old (Some rule) = simp append_assoc refl
