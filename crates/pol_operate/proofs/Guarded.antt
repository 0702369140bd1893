-- What a line says is asked for where the policy allows it, and else denied by the rule that denies.
use Rattle.std.proofs.Common.{ℕ, ◌≡◌, ◌⊎◌, inl, inr, true, List, Option, Some, None, Ok, ap, refl, subst}
use Rattle.std.proofs.Common.{◌∙◌, ap₂}
use Rattle.std.specs.Prelude.{is_some}
use Rattle.std.specs.Option.{option_or}
use Rattle.mtp_codes.specs.declared.command.Command.{Command}
use Rattle.event_json.specs.Guarded.{is_desk}
use Rattle.event_json.specs.declared.kind.EventKind.{EventKind}
use Rattle.named_lines.specs.Named.{PlainNamed, named_of}
use Rattle.named_lines.proofs.Said.{desk_named}
use Rattle.pol_events.specs.Events.{PlainEvent, desk}
use Rattle.pol_guard.specs.Lines as guard
use Rattle.pol_policy.specs.Allowing.{Judges, request_of}
use Rattle.pol_policy.specs.Deciding.{verdict_of}
use Rattle.pol_policy.specs.Laws.{VerdictsAreJudged}
use Rattle.pol_policy.specs.declared.verdict.Verdict.{Verdict}
use Rattle.pol_policy.specs.declared.verdict.Verdict.TheVariants.{Allowed, Denied}
use Rattle.pol_rights.specs.Giving.{AllowLine, JudgeLine, SaysToLine, rules_on}
use Rattle.pol_rights.specs.Laws.{LinesAreJudged}
use Rattle.pol_rights.specs.Rules.{PlainLineRule, PlainPlantPolicy}
use Rattle.pol_rights.specs.Verdicts.{verdict_on_line}
use Rattle.pol_ledger.specs.Items.{PlainAsked}
use Rattle.pol_operate.specs.Laws.{DeniesCommand, DeniesLine, IsAllowed, LinesAreGuarded}
use Rattle.pol_operate.specs.Lines.{admitted, asked_by, by_verdict, denied, kind_of, verdict_on}

-- what isn't denied is asked for as the line says it
admitted_same : (said : PlainNamed) (verdict : Option Verdict) (one : PlainAsked) →
    by_verdict said verdict ≡ admitted one → one ≡ asked_by said
admitted_same said None one is = cc
admitted_same said (Some (Denied rule)) one is = cc
admitted_same said (Some (Allowed name)) one is = cc

-- and where there is a verdict, it allows
admitted_allowed : (said : PlainNamed) (verdict : Option Verdict) (one : PlainAsked) →
    by_verdict said verdict ≡ admitted one → (judged : Verdict) → verdict ≡ Some judged →
    (name : List ℕ) × (judged ≡ Allowed name)
admitted_allowed said None one is judged there = cc
admitted_allowed said (Some (Denied rule)) one is judged there = cc
admitted_allowed said (Some (Allowed name)) one is judged there = (name, cc)

-- where it is denied, the verdict is so
denied_verdict : (said : PlainNamed) (verdict : Option Verdict) (rule : Option (List ℕ)) →
    by_verdict said verdict ≡ denied rule → verdict ≡ Some (Denied rule)
denied_verdict said None rule is = cc
denied_verdict said (Some (Allowed name)) rule is = cc
denied_verdict said (Some (Denied other)) rule is = cc

-- who is there
there : (person : Option (List ℕ)) → is_some person ≡ true → (name : List ℕ) × (person ≡ Some name)
there None some = cc
there (Some name) some = (name, refl)

-- the verdict on a command of the desk is that of the rules on commands on what the person asks
command_verdict : (policy : PlainPlantPolicy) (said : PlainNamed) (at : ℕ) (tag service : List ℕ) (command : Command)
    (person : List ℕ) → said.event ≡ desk at tag service command → said.person ≡ Some person →
    verdict_on policy said ≡ Some (verdict_of policy.commands (request_of person tag service command))
command_verdict policy said at tag service command person event_is person_is =
    ap₂ (λ (event : PlainEvent) (by : Option (List ℕ)). verdict_on policy (record { event = event; person = by }))
    event_is person_is

-- where rules of lines judge an event, the rules on commands say nothing to it
none_asked : (policy : PlainPlantPolicy) (event : PlainEvent) (person : Option (List ℕ)) (rules : List PlainLineRule) →
    rules_on policy (kind_of event) ≡ Some rules → guard.verdict_on policy.commands event person ≡ None
none_asked policy (desk at tag service command) person rules are = absurd cc
none_asked policy event person rules are = refl

-- so the verdict on it is that of the rules of lines
line_verdict : (policy : PlainPlantPolicy) (said : PlainNamed) (rules : List PlainLineRule) →
    rules_on policy (kind_of said.event) ≡ Some rules →
    verdict_on policy said ≡ verdict_on_line policy said.person (kind_of said.event)
line_verdict policy said rules are =
    ap (λ (verdict : Option Verdict). option_or verdict (verdict_on_line policy said.person (kind_of said.event)))
    (none_asked policy said.event said.person rules are)

module _ (policy : PlainPlantPolicy) (person : Option (List ℕ)) (kind : EventKind) where
  -- where the verdict of rules of lines allows, they allow the line
  line_allowed : (rules : List PlainLineRule) → rules_on policy kind ≡ Some rules → (verdict : Option Verdict) →
      SaysToLine policy person kind verdict →
      ((judged : Verdict) → verdict ≡ Some judged → (name : List ℕ) × (judged ≡ Allowed name)) →
      AllowLine policy.commands.groups rules person kind
  line_allowed rules are None says allows = cc
  line_allowed rules are (Some judged) says allows =
      let allowed = allows judged refl in
      let same : says.0 ≡ rules = cc in
      subst (λ (rules : List PlainLineRule). AllowLine policy.commands.groups rules person kind) same
      (subst (JudgeLine policy.commands.groups says.0 person kind) allowed.1 says.2).0

  -- where it denies, they deny it by the rule that it names
  line_denied : (rule : Option (List ℕ)) (verdict : Option Verdict) → SaysToLine policy person kind verdict →
      verdict ≡ Some (Denied rule) → (rules : List PlainLineRule) × (rules_on policy kind ≡ Some rules)
      × JudgeLine policy.commands.groups rules person kind (Denied rule)
  line_denied rule None says is = cc
  line_denied rule (Some judged) says is =
      let same : judged ≡ Denied rule = cc in
      (says.0, says.1, subst (JudgeLine policy.commands.groups says.0 person kind) same says.2)

module _ (commands : VerdictsAreJudged) (lines : LinesAreJudged) (policy : PlainPlantPolicy) where
  -- a denial is right
  is_denied : (event : PlainEvent) (person : Option (List ℕ)) (rule : Option (List ℕ)) →
      (is_desk event ≡ true → is_some person ≡ true) →
      verdict_on policy (record { event = event; person = person }) ≡ Some (Denied rule) →
      DeniesCommand policy (record { event = event; person = person }) rule
      ⊎ DeniesLine policy (record { event = event; person = person }) rule
  is_denied (desk at tag service command) None rule named is = absurd (let none = named refl in cc)
  is_denied (desk at tag service command) (Some person) rule named is =
      let request = request_of person tag service command in
      let denies : verdict_of policy.commands request ≡ Denied rule = cc in
      inl record {
        commands = record {
          at = at;
          tag = tag;
          service = service;
          command = command;
          person = person;
          event_is = refl;
          person_is = refl;
        };
        judges = subst (Judges policy.commands request) denies (commands policy.commands request);
      }
  is_denied event person rule named is =
      let denies = line_denied policy person (kind_of event) rule (verdict_on_line policy person (kind_of event))
      (lines policy person (kind_of event)) is in
      inr record { rules = denies.0; are = denies.1; judges = denies.2 }

  -- what isn't denied is allowed
  is_allowed : (line : List ℕ) (said : PlainNamed) (one : PlainAsked) → named_of line ≡ Ok said →
      by_verdict said (verdict_on policy said) ≡ admitted one → IsAllowed policy said
  is_allowed line said one says is = record {
    command = λ at tag service command event_is.
        let person = there said.person (desk_named line said says (ap is_desk event_is)) in
        let request = request_of person.0 tag service command in
        let allowed = admitted_allowed said (verdict_on policy said) one is (verdict_of policy.commands request)
        (command_verdict policy said at tag service command person.0 event_is person.1) in
        (person.0, person.1, (subst (Judges policy.commands request) allowed.1 (commands policy.commands request)).0);
    line = λ rules are.
        line_allowed policy said.person (kind_of said.event) rules are
        (verdict_on_line policy said.person (kind_of said.event)) (lines policy said.person (kind_of said.event))
        (λ judged there. admitted_allowed said (verdict_on policy said) one is judged
        (line_verdict policy said rules are ∙ there));
  }

-- so it is with whatever a line says
pub lines_guarded : VerdictsAreJudged → LinesAreJudged → LinesAreGuarded
lines_guarded commands lines policy line said says = record {
  allowed = λ one is.
      (admitted_same said (verdict_on policy said) one is, is_allowed commands lines policy line said one says is);
  denied = λ rule is.
      is_denied commands lines policy said.event said.person rule (desk_named line said says)
      (denied_verdict said (verdict_on policy said) rule is);
}
