-- What holds of every line behind the policy of an operated plant.
use Rattle.std.specs.Prelude.{ℕ, ◌≡◌, ◌⊎◌, List, Option, Some, Ok}
use Rattle.mtp_codes.specs.declared.command.Command.{Command}
use Rattle.named_lines.specs.Named.{PlainNamed, named_of}
use Rattle.pol_events.specs.Events.{desk}
use Rattle.pol_policy.specs.Allowing.{Allows, Judges, request_of}
use Rattle.pol_policy.specs.declared.verdict.Verdict.TheVariants.{Denied}
use Rattle.pol_rights.specs.Giving.{AllowLine, JudgeLine, rules_on}
use Rattle.pol_rights.specs.Rules.{PlainLineRule, PlainPlantPolicy}
use Rattle.pol_ledger.specs.Items.{PlainAsked}
use Rattle.pol_operate.specs.Lines.{admitted, asked_by, denied, kind_of, operated_saying}

-- a command of the desk, and the person who is named for it
pub record Commands (said : PlainNamed) : Type 0 where
  pub at : ℕ
  pub tag : List ℕ
  pub service : List ℕ
  pub command : Command
  pub person : List ℕ
  pub event_is : said.event ≡ desk at tag service command
  pub person_is : said.person ≡ Some person

-- a policy allows what a line says: a command of the desk is allowed to the person whom the line names, and any other
-- event by the rules of lines, where it has such
pub record IsAllowed (policy : PlainPlantPolicy) (said : PlainNamed) : Type 0 where
  pub command : (at : ℕ) (tag service : List ℕ) (command : Command) → said.event ≡ desk at tag service command →
      (person : List ℕ) × (said.person ≡ Some person)
      × Allows policy.commands (request_of person tag service command)
  pub line : (rules : List PlainLineRule) → rules_on policy (kind_of said.event) ≡ Some rules →
      AllowLine policy.commands.groups rules said.person (kind_of said.event)

-- the rules on commands deny a command of the desk to the person whom the line names, by this rule: the first that
-- matches and denies, or none where none does
pub record DeniesCommand (policy : PlainPlantPolicy) (said : PlainNamed) (rule : Option (List ℕ)) : Type 0 where
  pub commands : Commands said
  pub judges : Judges policy.commands
      (request_of commands.person commands.tag commands.service commands.command) (Denied rule)

-- the rules of lines deny a line, by this rule
pub record DeniesLine (policy : PlainPlantPolicy) (said : PlainNamed) (rule : Option (List ℕ)) : Type 0 where
  pub rules : List PlainLineRule
  pub are : rules_on policy (kind_of said.event) ≡ Some rules
  pub judges : JudgeLine policy.commands.groups rules said.person (kind_of said.event) (Denied rule)

-- What a line says under a policy: it is asked for as the line says it where the policy allows it, and each denial is
-- right and names its rule.
pub record IsGuarded (policy : PlainPlantPolicy) (said : PlainNamed) : Type 0 where
  pub allowed : (one : PlainAsked) → operated_saying (Some policy) said ≡ admitted one →
      (one ≡ asked_by said) × IsAllowed policy said
  pub denied : (rule : Option (List ℕ)) → operated_saying (Some policy) said ≡ denied rule →
      DeniesCommand policy said rule ⊎ DeniesLine policy said rule

-- Under any policy, whatever a line says is asked for only where it is allowed, and each denial is right.
abbrev pub LinesAreGuarded : Type 0
LinesAreGuarded = (policy : PlainPlantPolicy) (line : List ℕ) (said : PlainNamed) → named_of line ≡ Ok said →
    IsGuarded policy said
