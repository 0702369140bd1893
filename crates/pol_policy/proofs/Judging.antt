-- The verdict as a function, against what a verdict is.
use Rattle.std.proofs.Common.{ℕ, Bool, true, false, List, Option, Some, None, refl}
use Rattle.std.specs.Bool.{Decides}
use Rattle.std.specs.Option.{option_map}
use Rattle.std.proofs.lemmas.Bool.{and_from, and_parts}
use Rattle.mtp_codes.specs.Names.{same_name}
use Rattle.pol_policy.specs.Allowing.{Admits, IsFirstRule, Judges, Matches, Request, lists}
use Rattle.pol_policy.specs.Belonging.{BelongsTo}
use Rattle.pol_policy.specs.Deciding.{admits_person, matches, verdict_by, verdict_of}
use Rattle.pol_policy.specs.Policies.{PlainGroup, PlainPolicy, PlainRule}
use Rattle.pol_policy.proofs.FirstRules.{Decide, IsFirst, decided}
use Rattle.pol_policy.proofs.Leading.{belongs_decides}

-- ---- one rule

-- an absent list admits everybody, another one whoever belongs to one of its names
pub admits_decides : (groups : List PlainGroup) (person : List ℕ) (who : Option (List (List ℕ)))
    → Decides (admits_person groups person who) (Admits (BelongsTo groups person) who)
admits_decides groups person None = (λ e. tt, λ e. refl)
admits_decides groups person (Some names) = belongs_decides groups names person

-- the function decides whether a rule matches
matches_decides : (groups : List PlainGroup) (request : Request) (rule : PlainRule)
    → Decides (matches groups request rule) (Matches groups request rule)
matches_decides groups request rule = (
  λ e.
      let first = and_parts (admits_person groups request.person rule.who) _ e in
      let second = and_parts (lists same_name rule.tags request.tag) _ first.1 in
      let third = and_parts (lists same_name rule.services request.service) _ second.1 in
      record {
        who = (admits_decides groups request.person rule.who).0 first.0;
        tag = second.0;
        service = third.0;
        command = third.1;
      },
  λ fact.
      and_from (admits_person groups request.person rule.who) _
      ((admits_decides groups request.person rule.who).1 fact.who)
      (and_from (lists same_name rule.tags request.tag) _ fact.tag
      (and_from (lists same_name rule.services request.service) _ fact.service fact.command)),
)

-- ---- the verdict

-- the first rule of its kind that matches
first_rule : (allow : Bool) (policy : PlainPolicy) (request : Request) (rule : PlainRule)
    → IsFirst (λ rule. rule.allow) (matches policy.groups request) (Matches policy.groups request)
    (matches_decides policy.groups request) allow policy.rules rule
    → IsFirstRule allow policy request rule.name
first_rule allow policy request rule is =
    record {
      before = is.before;
      rule = rule;
      after = is.after;
      stands = is.stands;
      named = refl;
      kind = is.matches.0;
      matches = is.matches.1;
      first = is.first;
    }

-- the verdict by the first rule that denies and the first that allows
judged_by : (policy : PlainPolicy) (request : Request) (denying allowing : Option PlainRule)
    → Decide (λ rule. rule.allow) (matches policy.groups request) (Matches policy.groups request)
    (matches_decides policy.groups request) policy.rules denying allowing
    → Judges policy request (verdict_by (option_map (λ rule. rule.name) denying) (option_map
    (λ rule. rule.name) allowing))
judged_by policy request (Some rule) allowing fact = (fact.0, first_rule false policy request rule fact.1)
judged_by policy request None (Some rule) fact = (fact.0, first_rule true policy request rule fact.1)
judged_by policy request None None fact = fact

-- the verdict as a function is the one of the definitions
pub judged : (policy : PlainPolicy) (request : Request) → Judges policy request (verdict_of policy request)
unfolding verdict_of
judged policy request =
    judged_by policy request _ _
    (decided (λ rule. rule.allow) (matches policy.groups request) (Matches policy.groups request)
    (matches_decides policy.groups request) policy.rules)
