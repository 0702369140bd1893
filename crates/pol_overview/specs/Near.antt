-- The limits of a plant that are nearly reached.
use Rattle.std.specs.Prelude.{ℕ, ◌-◌, ◌/◌, Bool, nat_le, List, [], ◌∷◌, ◌++◌, filter, length, if◌then◌else◌}
use Rattle.serde_json.specs.Data.{Data, string}
use Rattle.mtp_codes.specs.declared.limits.TheConstants.{LONGEST_HISTORY, MOST_BATCHES, MOST_RECIPES}
use Rattle.pol_events.specs.declared.answer.Rule.{Rule}
use Rattle.pol_events.specs.declared.answer.Rule.TheVariants.{BatchesFull, HistoryFull, RecipesFull}
use Rattle.event_json.specs.RuleTable.{rule_row}
use Rattle.pol_history.specs.Batches.{is_start}
use Rattle.pol_history.specs.Looking.{History, recipes}
use Rattle.pol_overview.specs.Lists.{each_data}

-- at most a tenth of the limit is left
abbrev pub is_near : ℕ → ℕ → Bool
is_near count limit = nat_le (limit - limit / 10) count

-- the rule that refuses at a limit, where that is near
abbrev pub near_if : Rule → ℕ → ℕ → List Rule
near_if rule count limit = if is_near count limit then rule ∷ [] else []

-- the rules whose limits are near: of entries, of batches that were started, and of recipes
abbrev pub near_limits : History → List Rule
near_limits history =
    near_if HistoryFull (length history) LONGEST_HISTORY
    ++ (near_if BatchesFull (length (filter is_start history)) MOST_BATCHES
    ++ near_if RecipesFull (length (recipes history)) MOST_RECIPES)

-- the name of a rule
abbrev pub rule_data : Rule → Data
rule_data rule = string (rule_row rule).name

-- the names of rules
abbrev pub rules_data : List Rule → Data
rules_data rules = each_data rule_data rules
