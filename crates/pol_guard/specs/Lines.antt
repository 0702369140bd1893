-- What comes of a line of a journal under a policy.
use Rattle.std.specs.Prelude.{ℕ, List, Option, Some, None, Result, Ok, Err}
use Rattle.std.specs.Option.{option_map}
use Rattle.pol_jobs.specs.LineWork.{Line}
use Rattle.pol_policy.specs.Allowing.{Request, request_of}
use Rattle.pol_policy.specs.Deciding.{verdict_of}
use Rattle.pol_policy.specs.Policies.{PlainPolicy}
use Rattle.pol_policy.specs.declared.verdict.Verdict.{Verdict}
use Rattle.pol_policy.specs.declared.verdict.Verdict.TheVariants.{Allowed, Denied}
use Rattle.pol_events.specs.Events.{PlainEvent, desk}
use Rattle.event_json.specs.Guarded.{PlainGuarded, guarded_of}
use Rattle.event_json.specs.declared.fault.LineFault.{LineFault}
use Rattle.event_json.specs.declared.fault.LineFault.TheVariants.{TooLong}

-- what an event asks of a policy: a command of the desk asks that this person may send it, and no other event asks
-- anything
abbrev pub asked_by : PlainEvent → Option (List ℕ) → Option Request
asked_by (desk at tag service command) person = option_map (λ person. request_of person tag service command) person
asked_by _ person = None

-- the verdict of a policy on an event: on what it asks; a command of the desk of which nobody is known to ask is
-- denied, by no rule; and on an event that asks nothing there is none
abbrev pub verdict_on : PlainPolicy → PlainEvent → Option (List ℕ) → Option Verdict
verdict_on policy (desk at tag service command) None = Some (Denied None)
verdict_on policy (desk at tag service command) (Some person) =
    Some (verdict_of policy (request_of person tag service command))
verdict_on policy _ person = None

-- what comes of a line that isn't blank: its fault, a denial, or an event that the plant answers
pub data GuardedLine : Type 0 where
  faulty : (fault : LineFault) → GuardedLine
  denied : (rule : Option (List ℕ)) → GuardedLine
  admitted : (event : PlainEvent) → GuardedLine

-- an event is denied where the verdict on it denies it
abbrev pub by_verdict : PlainEvent → Option Verdict → GuardedLine
by_verdict event None = admitted event
by_verdict event (Some (Allowed rule)) = admitted event
by_verdict event (Some (Denied rule)) = denied rule

-- what comes of what a line says
abbrev pub guarded_saying : PlainPolicy → Result PlainGuarded LineFault → GuardedLine
guarded_saying policy (Err fault) = faulty fault
guarded_saying policy (Ok said) = by_verdict said.event (verdict_on policy said.event said.person)

-- what comes of a line; one that is too long is at fault
abbrev pub guarded_line : PlainPolicy → Line → GuardedLine
guarded_line policy None = faulty TooLong
guarded_line policy (Some text) = guarded_saying policy (guarded_of text)
