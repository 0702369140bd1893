-- The line of a denial.
use Rattle.std.specs.Prelude.{ℕ, List, [], ◌∷◌, true, codes, Option, Some, None}
use Rattle.json.specs.Token as token
use Rattle.json.specs.Token.{Token}
use Rattle.serde_json.specs.Data.{Data, boolean, string, object, Members, member, no_members}
use Rattle.pol_record.specs.Texts.{line_text}

-- the member that names the rule that denies, where one does
abbrev pub rule_member : Option (List ℕ) → Members
rule_member None = no_members
rule_member (Some rule) = member (codes "policy") (string rule) no_members

-- a denial, with these members after the one that says so
unfoldable pub denial_object : Members → Data
denial_object members = object (member (codes "denied") (boolean true) members)

-- the line of a denial: by this rule, or because no rule allows
abbrev pub denial_text : Option (List ℕ) → List ℕ
denial_text rule = line_text (denial_object (rule_member rule))

-- the tokens of the rule that denies, where one does
abbrev pub rule_tokens : Option (List ℕ) → List Token
rule_tokens None = []
rule_tokens (Some rule) = token.key (codes "policy") ∷ token.string rule ∷ []
