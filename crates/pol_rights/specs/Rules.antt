-- The policy of a plant as plain data: what it says to commands of the desk, and its rules of lines.
use Rattle.std.specs.Prelude.{ℕ, Bool, List, Option}
use Rattle.std.specs.Option.{option_map}
use Rattle.event_json.specs.declared.kind.EventKind.{EventKind}
use Rattle.pol_policy.specs.Policies.{PlainPolicy}
use Rattle.pol_rights.specs.declared.line_rule.LineRule.{LineRule}

-- a rule of lines: its name, whether it allows, and its lists, each of which may be absent
pub record PlainLineRule : Type 0 where
  pub name : List ℕ
  pub allow : Bool
  pub who : Option (List (List ℕ))
  pub kinds : Option (List EventKind)

-- the policy of a plant: who may send which commands, and the rules of who may give which lines, if it has them
pub record PlainPlantPolicy : Type 0 where
  pub commands : PlainPolicy
  pub lines : Option (List PlainLineRule)

-- a rule of lines as plain data
abbrev pub plain_line_rule : LineRule → PlainLineRule
plain_line_rule rule =
    record {
      name = rule.name;
      allow = rule.allow;
      who = option_map (λ list. list.items) rule.who;
      kinds = option_map (λ list. list.items) rule.kinds;
    }
