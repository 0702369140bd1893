-- Tokens of the lines of a plant that is operated.
use Rattle.std.proofs.Common.{◌≡◌, ◌<◌, ℕ, true, codes, refl, List, [], ◌∷◌, ◌++◌, append_assoc, map, length}
use Rattle.std.proofs.Common.{arith, length-append}
use Rattle.std.specs.Prelude.{decimal}
use Rattle.json.specs.Token as token
use Rattle.json.specs.Token.{Token}
use Rattle.json.specs.Tree.{items_tokens}
use Rattle.serde_json.specs.Data.{Data}
use Rattle.serde_json.specs.View.{items_of}
use Rattle.serde_json.specs.Written.{items_outline}
use Rattle.mtp_codes.specs.declared.value.Setting.{Setting}
use Rattle.chart_json.specs.Written.{written_setting}
use Rattle.mtp_json.specs.Written.{scalar_data}
use Rattle.pol_events.specs.declared.answer.Rule.{Rule}
use Rattle.pol_record.specs.Objects.{data_tokens}
use Rattle.pol_operate.specs.Texts.{did_object, end_object, kept_object, near_tokens}

-- the tokens of the last settings of an array, and its bracket
abbrev pub settings_tokens : List Setting → List Token
settings_tokens settings = items_tokens (items_outline (items_of (map written_setting settings)))

-- a bracket, the name, the value and a bracket behind other tokens are the tokens of a setting
pub setting_tokens : (old : List Token) (setting : Setting) →
    ((((old ++ token.begin_object ∷ []) ++ token.key (codes "name") ∷ token.string setting.name ∷ [])
    ++ token.key (codes "value") ∷ [])
    ++ data_tokens (scalar_data setting.value))
    ++ token.end_object
    ∷ []
    ≡ old ++ data_tokens (written_setting setting)
unfolding written_setting
setting_tokens old setting = simp append_assoc refl

-- a bracket, what was done, its settings and a bracket behind other tokens are the tokens of a start
pub start_tokens : (old : List Token) (entry settings : Data) →
    (((((old ++ token.begin_object ∷ []) ++ token.key (codes "did") ∷ []) ++ data_tokens entry)
    ++ token.key (codes "settings") ∷ [])
    ++ data_tokens settings)
    ++ token.end_object
    ∷ []
    ≡ old ++ data_tokens (did_object entry settings)
unfolding did_object
start_tokens old entry settings = simp append_assoc refl

-- a bracket, the number, the rules, the sum and a bracket behind other tokens are the tokens of what is kept
pub kept_tokens : (old : List Token) (count : ℕ) (near : List Rule) (sum : List ℕ) →
    (((((old ++ token.begin_object ∷ []) ++ token.key (codes "kept") ∷ []) ++ token.number (decimal count) ∷ [])
    ++ near_tokens near)
    ++ token.key (codes "sum") ∷ token.string sum ∷ [])
    ++ token.end_object
    ∷ []
    ≡ old ++ data_tokens (kept_object count near sum)
unfolding kept_object
kept_tokens old count [] sum = simp append_assoc refl
kept_tokens old count (first ∷ rules) sum = simp append_assoc refl

-- a bracket, the end, the sum and a bracket behind other tokens are the tokens of the end
pub end_tokens : (old : List Token) (sum : List ℕ) →
    ((((old ++ token.begin_object ∷ []) ++ token.key (codes "end") ∷ []) ++ token.boolean true ∷ [])
    ++ token.key (codes "sum") ∷ token.string sum ∷ [])
    ++ token.end_object
    ∷ []
    ≡ old ++ data_tokens (end_object sum)
unfolding end_object
end_tokens old sum = simp append_assoc refl

-- a line isn't empty
pub some_line : (text : List ℕ) → 0 < length (text ++ 10 ∷ [])
some_line text = let feed : List ℕ = 10 ∷ [] in rw (length-append text feed) (omega arith)
