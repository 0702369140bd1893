-- What a policy says to a line that a person gives, or nobody who is named: which rules of lines match, whether it may
-- be given, and which rule decides.
use Rattle.std.specs.Prelude.{ℕ, ◌≡◌, Bool, true, false, List, ◌∷◌, ◌++◌, Option, Some, None, if◌then◌else◌}
use Rattle.std.specs.List.{Any}
use Rattle.event_json.specs.declared.kind.EventKind.{EventKind}
use Rattle.event_json.specs.Guarded.{is_desk_kind}
use Rattle.pol_policy.specs.Allowing.{Admits}
use Rattle.pol_policy.specs.Belonging.{BelongsTo}
use Rattle.pol_policy.specs.Policies.{PlainGroup}
use Rattle.pol_policy.specs.declared.verdict.Verdict.{Verdict}
use Rattle.pol_policy.specs.declared.verdict.Verdict.TheVariants.{Allowed, Denied}
use Rattle.pol_rights.specs.Rules.{PlainLineRule, PlainPlantPolicy}

-- a list of people has a person who belongs to one of its names; where it is absent, everybody is meant, and whoever
-- isn't named too
abbrev pub AdmitsGiver : List PlainGroup → Option (List ℕ) → Option (List (List ℕ)) → Type 0
AdmitsGiver groups (Some person) who = Admits (BelongsTo groups person) who
AdmitsGiver groups None who = who ≡ None

-- a rule of lines matches: its `who` has whoever gives the line, and its `kinds` has the line's kind
pub record MatchesLine (groups : List PlainGroup) (by : Option (List ℕ)) (kind : EventKind) (rule : PlainLineRule)
    : Type 0 where
  pub who : AdmitsGiver groups by rule.who
  pub kinds : Admits (λ each. each ≡ kind) rule.kinds

-- the rule allows, or denies, as is asked, and matches
abbrev pub MatchesAs : Bool → List PlainGroup → Option (List ℕ) → EventKind → PlainLineRule → Type 0
MatchesAs allow groups by kind rule = (rule.allow ≡ allow) × MatchesLine groups by kind rule

-- one of the rules allows, or denies, as is asked, and matches
abbrev pub SomeMatches : Bool → List PlainGroup → List PlainLineRule → Option (List ℕ) → EventKind → Type 0
SomeMatches allow groups rules by kind = Any (MatchesAs allow groups by kind) rules

-- the rules allow a line: one that allows matches, and none that denies
abbrev pub AllowLine : List PlainGroup → List PlainLineRule → Option (List ℕ) → EventKind → Type 0
AllowLine groups rules by kind = SomeMatches true groups rules by kind × (¬ SomeMatches false groups rules by kind)

-- the first of the rules that allows, or denies, and matches has this name
pub record IsFirstRule (allow : Bool) (groups : List PlainGroup) (rules : List PlainLineRule) (by : Option (List ℕ))
    (kind : EventKind) (name : List ℕ) : Type 0 where
  pub before : List PlainLineRule
  pub rule : PlainLineRule
  pub after : List PlainLineRule
  pub stands : rules ≡ before ++ rule ∷ after
  pub named : rule.name ≡ name
  pub matches : MatchesAs allow groups by kind rule
  pub first : ¬ SomeMatches allow groups before by kind

-- the verdict of rules on a line: allowed exactly where they allow it, by the first matching rule that allows; else
-- denied, by the first matching rule that denies, or by none where none matches
abbrev pub JudgeLine : List PlainGroup → List PlainLineRule → Option (List ℕ) → EventKind → Verdict → Type 0
JudgeLine groups rules by kind (Allowed name) =
    AllowLine groups rules by kind × IsFirstRule true groups rules by kind name
JudgeLine groups rules by kind (Denied (Some name)) =
    (¬ AllowLine groups rules by kind) × IsFirstRule false groups rules by kind name
JudgeLine groups rules by kind (Denied None) =
    (¬ AllowLine groups rules by kind) × (¬ SomeMatches false groups rules by kind)

-- the rules that judge lines of a kind: the policy's rules of lines, where it has them; no such rule judges a command
-- of the desk
abbrev pub rules_on : PlainPlantPolicy → EventKind → Option (List PlainLineRule)
rules_on policy kind = if is_desk_kind kind then None else policy.lines

-- what a policy says to a line: the verdict of the rules that judge it, or nothing where none do, and then anybody may
-- give it
abbrev pub SaysToLine : PlainPlantPolicy → Option (List ℕ) → EventKind → Option Verdict → Type 0
SaysToLine policy by kind None = rules_on policy kind ≡ None
SaysToLine policy by kind (Some verdict) =
    (rules : List PlainLineRule) × (rules_on policy kind ≡ Some rules)
    × JudgeLine policy.commands.groups rules by kind verdict
