-- Tokens of the lines of a finder.
use Rattle.std.proofs.Common.{◌≡◌, ℕ, List, [], ◌∷◌, ◌++◌, append_assoc, codes, map, refl}
use Rattle.json.specs.Token as token
use Rattle.json.specs.Token.{Token}
use Rattle.json.specs.Tree.{items_tokens}
use Rattle.serde_json.specs.Data.{Data, string}
use Rattle.serde_json.specs.View.{items_of}
use Rattle.serde_json.specs.Written.{items_outline}
use Rattle.pol_record.specs.Objects.{data_tokens}
use Rattle.pol_events.specs.declared.event.Bind.{Bind}
use Rattle.event_json.specs.Written.{written_binds}
use Rattle.pol_record.specs.Texts.{under_key, watch_tokens}
use Rattle.pol_match.specs.Fits.{PlainCandidate}
use Rattle.pol_find.specs.Lines.{bind_object, offer_object, short_object}
use Rattle.pol_find.specs.Recipes.{PlainRecipe}
use Rattle.pol_find.specs.Offers.{offer_of}

-- the tokens of the last names of a list, and its bracket
abbrev pub names_tokens : List (List ℕ) → List Token
names_tokens names = items_tokens (items_outline (items_of (map string names)))

-- the tokens of what the last recipes are offered, and its bracket
abbrev pub offers_tokens : List PlainCandidate → List PlainRecipe → List Token
offers_tokens candidates recipes = items_tokens (items_outline (items_of (map (offer_of candidates) recipes)))

-- a bracket, the binds, the recipe and a bracket behind other tokens are the tokens of a recipe that can be bound
pub bind_tokens : (old : List Token) (recipe : List ℕ) (binds : Data) →
    ((((old ++ token.begin_object ∷ []) ++ token.key (codes "bind") ∷ []) ++ data_tokens binds)
    ++ token.key (codes "recipe")
    ∷ token.string recipe
    ∷ [])
    ++ token.end_object
    ∷ []
    ≡ old ++ data_tokens (bind_object binds recipe)
unfolding bind_object
bind_tokens old recipe binds = simp append_assoc refl

-- the same with what is held, and what is watched behind the recipe where anything is
pub offer_tokens : (old : List Token) (recipe : List ℕ) (held watched : List Bind) →
    (((((old ++ token.begin_object ∷ []) ++ token.key (codes "bind") ∷ []) ++ data_tokens (written_binds held))
    ++ token.key (codes "recipe")
    ∷ token.string recipe
    ∷ [])
    ++ watch_tokens watched)
    ++ token.end_object
    ∷ []
    ≡ old ++ data_tokens (offer_object (record { held = held; watched = watched }) recipe)
unfolding offer_object
offer_tokens old recipe held [] = simp append_assoc refl
offer_tokens old recipe held (bind ∷ binds) = simp append_assoc refl

-- a bracket, the recipe, the roles, the tags and a bracket behind other tokens are the tokens of one that can't
pub short_tokens : (old : List Token) (recipe : List ℕ) (roles tags : Data) →
    ((((old ++ token.begin_object ∷ []) ++ token.key (codes "recipe") ∷ token.string recipe ∷ [])
    ++ token.key (codes "short") ∷ data_tokens roles)
    ++ token.key (codes "tags") ∷ data_tokens tags)
    ++ token.end_object
    ∷ []
    ≡ old ++ data_tokens (short_object recipe roles tags)
unfolding short_object
short_tokens old recipe roles tags = simp append_assoc refl

-- a bracket, the key, what is told of each recipe and a bracket behind other tokens are the tokens of the bindings
pub bindings_tokens : (old : List Token) (each : Data) →
    (((old ++ token.begin_object ∷ []) ++ token.key (codes "bindings") ∷ []) ++ data_tokens each)
    ++ token.end_object
    ∷ []
    ≡ old ++ data_tokens (under_key (codes "bindings") each)
unfolding under_key
bindings_tokens old each = simp append_assoc refl
