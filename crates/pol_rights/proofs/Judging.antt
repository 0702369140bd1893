-- The verdict on a line as a function, against what a verdict is.
use Rattle.std.proofs.Common.{ℕ, ◌≡◌, Bool, true, false, List, Option, Some, None, refl, rules}
use Rattle.std.specs.Bool.{Decides}
use Rattle.std.specs.Option.{option_map}
use Rattle.std.specs.Prelude.{is_none}
use Rattle.std.proofs.lemmas.Bool.{and_from, and_parts}
use denote.Enum.Bare.{same_true, true_same}
use Rattle.event_json.specs.contracts.kind.EventKind.{the_type}
use Rattle.event_json.specs.declared.kind.EventKind.{EventKind}
use Rattle.pol_policy.specs.Allowing.{Admits, lists}
use Rattle.pol_policy.specs.Deciding.{verdict_by}
use Rattle.pol_policy.specs.Policies.{PlainGroup}
use Rattle.pol_policy.proofs.FirstRules.{Decide, IsFirst, decided}
use Rattle.pol_policy.proofs.Judging.{admits_decides}
use Rattle.pol_policy.proofs.Leading.{any_in, in_any, in_some, some_in}
use Rattle.pol_rights.specs.Giving.{AdmitsGiver, IsFirstRule, JudgeLine, MatchesLine, SaysToLine, rules_on}
use Rattle.pol_rights.specs.Rules.{PlainLineRule, PlainPlantPolicy}
use Rattle.pol_rights.specs.Verdicts.{admits_giver, matches_line, same_kind, verdict_by_rules, verdict_on_line}

-- ---- one rule

-- the function decides whether a list is absent
absent_decides : (who : Option (List (List ℕ))) → Decides (is_none who) (who ≡ None)
absent_decides None = (λ e. refl, λ e. refl)
absent_decides (Some names) = (λ e. absurd cc, λ e. absurd cc)

-- the function decides whether a list of people has whoever gives a line
giver_decides : (groups : List PlainGroup) (by : Option (List ℕ)) (who : Option (List (List ℕ)))
    → Decides (admits_giver groups by who) (AdmitsGiver groups by who)
giver_decides groups (Some person) who = admits_decides groups person who
giver_decides groups None who = absent_decides who

-- kinds of one tag are one kind
one_kind : (each kind : EventKind) → same_kind each kind ≡ true → each ≡ kind
one_kind each kind same = same_true the_type (search rules) each kind same

-- the function decides whether a list has a kind
kinds_decide : (kinds : Option (List EventKind)) (kind : EventKind)
    → Decides (lists same_kind kinds kind) (Admits (λ each. each ≡ kind) kinds)
kinds_decide None kind = (λ e. tt, λ e. refl)
kinds_decide (Some kinds) kind = (
  λ among.
      let found = in_any (λ each. same_kind each kind) kinds among in
      some_in (λ each. each ≡ kind) kinds found.0 found.1 (one_kind found.0 kind found.2),
  λ some.
      let found = in_some (λ each. each ≡ kind) kinds some in
      any_in (λ each. same_kind each kind) kinds found.0 found.1 (true_same the_type found.0 kind found.2),
)

-- the function decides whether a rule matches
line_decides : (groups : List PlainGroup) (by : Option (List ℕ)) (kind : EventKind) (rule : PlainLineRule)
    → Decides (matches_line groups by kind rule) (MatchesLine groups by kind rule)
line_decides groups by kind rule = (
  λ e.
      let parts = and_parts (admits_giver groups by rule.who) (lists same_kind rule.kinds kind) e in
      record { who = (giver_decides groups by rule.who).0 parts.0; kinds = (kinds_decide rule.kinds kind).0 parts.1 },
  λ fact.
      and_from (admits_giver groups by rule.who) (lists same_kind rule.kinds kind)
      ((giver_decides groups by rule.who).1 fact.who) ((kinds_decide rule.kinds kind).1 fact.kinds),
)

-- ---- the verdict

-- the first rule of its kind that matches
first_rule : (allow : Bool) (groups : List PlainGroup) (rules : List PlainLineRule) (by : Option (List ℕ))
    (kind : EventKind) (rule : PlainLineRule)
    → IsFirst (λ rule. rule.allow) (matches_line groups by kind) (MatchesLine groups by kind)
    (line_decides groups by kind) allow rules rule
    → IsFirstRule allow groups rules by kind rule.name
first_rule allow groups rules by kind rule is =
    record {
      before = is.before;
      rule = rule;
      after = is.after;
      stands = is.stands;
      named = refl;
      matches = is.matches;
      first = is.first;
    }

-- the verdict by the first rule that denies and the first that allows
judged_by : (groups : List PlainGroup) (rules : List PlainLineRule) (by : Option (List ℕ)) (kind : EventKind)
    (denying allowing : Option PlainLineRule)
    → Decide (λ rule. rule.allow) (matches_line groups by kind) (MatchesLine groups by kind)
    (line_decides groups by kind) rules denying allowing
    → JudgeLine groups rules by kind (verdict_by (option_map (λ rule. rule.name) denying) (option_map
    (λ rule. rule.name) allowing))
judged_by groups rules by kind (Some rule) allowing fact = (fact.0, first_rule false groups rules by kind rule fact.1)
judged_by groups rules by kind None (Some rule) fact = (fact.0, first_rule true groups rules by kind rule fact.1)
judged_by groups rules by kind None None fact = fact

-- the verdict of rules is the one of the definitions
rules_judged : (groups : List PlainGroup) (rules : List PlainLineRule) (by : Option (List ℕ)) (kind : EventKind)
    → JudgeLine groups rules by kind (verdict_by_rules groups by kind rules)
rules_judged groups rules by kind =
    judged_by groups rules by kind _ _
    (decided (λ rule. rule.allow) (matches_line groups by kind) (MatchesLine groups by kind)
    (line_decides groups by kind) rules)

-- what is said to a line, by the rules that judge it
said_by : (policy : PlainPlantPolicy) (by : Option (List ℕ)) (kind : EventKind) (found : Option (List PlainLineRule))
    → rules_on policy kind ≡ found
    → SaysToLine policy by kind (option_map (verdict_by_rules policy.commands.groups by kind) found)
said_by policy by kind None is = is
said_by policy by kind (Some rules) is = (rules, is, rules_judged policy.commands.groups rules by kind)

-- the verdict as a function is the one of the definitions
pub lines_judged : (policy : PlainPlantPolicy) (by : Option (List ℕ)) (kind : EventKind)
    → SaysToLine policy by kind (verdict_on_line policy by kind)
unfolding verdict_on_line
lines_judged policy by kind = said_by policy by kind (rules_on policy kind) refl
