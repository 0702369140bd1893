-- The verdict on a line as a function, which decides what `Giving` defines.
use Rattle.std.specs.Prelude.{ℕ, Bool, ◌&&◌, List, Option, Some, None, is_none}
use Rattle.std.specs.Option.{option_map}
use denote.Enum.Bare.{sameb}
use Rattle.event_json.specs.contracts.kind.EventKind.{the_type}
use Rattle.event_json.specs.declared.kind.EventKind.{EventKind}
use Rattle.pol_policy.specs.Allowing.{lists}
use Rattle.pol_policy.specs.Deciding.{admits_person, verdict_among}
use Rattle.pol_policy.specs.Policies.{PlainGroup}
use Rattle.pol_policy.specs.declared.verdict.Verdict.{Verdict}
use Rattle.pol_rights.specs.Giving.{rules_on}
use Rattle.pol_rights.specs.Rules.{PlainLineRule, PlainPlantPolicy}

-- the two kinds of lines are one
abbrev pub same_kind : EventKind → EventKind → Bool
same_kind = sameb the_type

-- a list of people has whoever gives a line
abbrev pub admits_giver : List PlainGroup → Option (List ℕ) → Option (List (List ℕ)) → Bool
admits_giver groups (Some person) who = admits_person groups person who
admits_giver groups None who = is_none who

-- the rule matches
abbrev pub matches_line : List PlainGroup → Option (List ℕ) → EventKind → PlainLineRule → Bool
matches_line groups by kind rule = admits_giver groups by rule.who && lists same_kind rule.kinds kind

-- the verdict of rules on a line
abbrev pub verdict_by_rules : List PlainGroup → Option (List ℕ) → EventKind → List PlainLineRule → Verdict
verdict_by_rules groups by kind rules =
    verdict_among (λ rule. rule.name) (λ rule. rule.allow) (matches_line groups by kind) rules

-- the verdict on a line, where rules judge it
unfoldable pub verdict_on_line : PlainPlantPolicy → Option (List ℕ) → EventKind → Option Verdict
verdict_on_line policy by kind = option_map (verdict_by_rules policy.commands.groups by kind) (rules_on policy kind)
