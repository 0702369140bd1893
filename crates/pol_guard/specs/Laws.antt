-- What holds of every journal under a policy.
use Rattle.std.specs.Prelude.{ℕ, ◌≡◌, List, map, Option, Some, Ok, Err}
use Rattle.std.specs.Io.KnownBytes.{Keeps}
use Rattle.std.specs.List.{Contains}
use Rattle.mtp_codes.specs.declared.command.Command.{Command}
use Rattle.pol_jobs.specs.Deeds.{RefusesBehind}
use Rattle.pol_jobs.specs.Ends.{IsRefused}
use Rattle.pol_jobs.specs.LineWork.{AcceptsAll, Line}
use Rattle.mtp_json.specs.declared.fault.JsonFault.{JsonFault}
use Rattle.pol_policy.specs.Allowing.{Allows, Judges, Request}
use Rattle.pol_policy.specs.Policies.{PlainPolicy}
use Rattle.pol_policy.specs.declared.verdict.Verdict.TheVariants.{Denied}
use Rattle.pol_events.specs.Events.{PlainEntry, PlainEvent, desk}
use Rattle.event_json.specs.Guarded.{guarded_of}
use Rattle.pol_history.specs.Runs.{IsLegal, IsOrderly, run_of}
use Rattle.pol_removal.specs.Removal.{entries_without}
use Rattle.pol_guard.specs.Guarded.{admitted_under, guarded, history_under, journal_of, policy_of}
use Rattle.pol_guard.specs.Lines.{asked_by, guarded_line, denied}
use Rattle.pol_guard.specs.Work.{guard_work, waiting}

-- the line says this event, which asks this of a policy
pub record Asks (line : Line) (event : PlainEvent) (request : Request) : Type 0 where
  pub text : List ℕ
  pub is_text : line ≡ Some text
  pub person : Option (List ℕ)
  pub says : guarded_of text ≡ Ok (record { event = event; person = person })
  pub asks : asked_by event person ≡ Some request

-- the event is on a line of the journal, and the policy allows what it asks there
pub record IsAllowed (policy : PlainPolicy) (journal : List Line) (event : PlainEvent) : Type 0 where
  pub line : Line
  pub stands : Contains journal line
  pub request : Request
  pub asks : Asks line event request
  pub allows : Allows policy request

-- what the line asks isn't allowed, and the denial names its rule: the first that matches and denies, or none where
-- none does
pub record IsDenied (policy : PlainPolicy) (line : Line) (rule : Option (List ℕ)) : Type 0 where
  pub event : PlainEvent
  pub request : Request
  pub asks : Asks line event request
  pub judges : Judges policy request (Denied rule)

-- What holds of a journal under a policy.
pub record IsGuarded (policy : PlainPolicy) (journal : List Line) : Type 0 where
  -- the history that the journal leaves is legal and its events are orderly, so that all laws of legal histories hold
  -- of it
  pub legal : IsLegal (history_under policy journal)
  pub orderly : IsOrderly (history_under policy journal)
  -- each command of the desk in that history was allowed to the person whom its line names
  pub allowed : (entry : PlainEntry) → Contains (history_under policy journal) entry →
      (at : ℕ) (tag service : List ℕ) (command : Command) → entry.event ≡ desk at tag service command →
      IsAllowed policy journal entry.event
  -- each denial is right, and names its rule
  pub denied : (line : Line) (rule : Option (List ℕ)) → guarded_line policy line ≡ denied rule →
      IsDenied policy line rule
  -- taking out those of the journal's events that concern some modules takes out just their entries
  pub removal : (tags : List (List ℕ)) →
      run_of (map (λ entry. entry.event) (entries_without tags (admitted_under policy journal)))
      ≡ entries_without tags (admitted_under policy journal)

-- Whatever the policy of an input, all that is said of a journal under a policy holds of its journal.
abbrev pub GuardTheorem : List ℕ → Type 0
GuardTheorem bytes = (policy : PlainPolicy) → policy_of bytes ≡ Ok policy → IsGuarded policy (journal_of bytes)

-- An input is refused for the fault of its policy alone, and nothing is written then, whatever the source gives; one
-- that isn't refused has a policy.
pub record RefusalsAreFaults : Type 0 where
  pub refused : (fault : JsonFault) (held held' : Option (List ℕ)) (bytes left : List ℕ) →
      IsRefused guarded fault held held' bytes left → (policy_of bytes ≡ Err fault) × Keeps held held'
  pub unwritten : (fault : JsonFault) (held held' : Option (List ℕ)) →
      RefusesBehind guard_work waiting held held' fault → Keeps held held'
  pub accepted : (bytes : List ℕ) → AcceptsAll guarded bytes → (policy : PlainPolicy) × (policy_of bytes ≡ Ok policy)
