-- What holds of a journal under a policy, from the laws of verdicts and of legal histories.
use Rattle.std.proofs.Common.{◌≡◌, ◌⊎◌, inl, inr, ℕ, Bool, true, false, cond, List, [], ◌∷◌, Option, Some, None, Result}
use Rattle.std.proofs.Common.{Ok, Err, refl, sym, ap, subst, ◌∙◌}
use Rattle.std.specs.Prelude.{is_some}
use Rattle.std.specs.List.{Contains}
use Rattle.mtp_codes.specs.declared.command.Command.{Command}
use Rattle.pol_jobs.specs.LineWork.{Line}
use Rattle.chart_core.proofs.Lawful.{member_cases}
use Rattle.pol_policy.specs.Allowing.{Judges, Request, request_of}
use Rattle.pol_policy.specs.Deciding.{verdict_of}
use Rattle.pol_policy.specs.Laws.{VerdictsAreJudged}
use Rattle.pol_policy.specs.Policies.{PlainPolicy}
use Rattle.pol_policy.specs.declared.verdict.Verdict.{Verdict}
use Rattle.pol_policy.specs.declared.verdict.Verdict.TheVariants.{Allowed, Denied}
use Rattle.pol_events.specs.Events.{PlainEntry, PlainEvent, desk}
use Rattle.pol_events.specs.Orderly.{is_orderly}
use Rattle.pol_events.proofs.Lists.{member_first, member_later, no_member}
use Rattle.event_json.specs.Guarded.{PlainGuarded, guarded_of, is_desk}
use Rattle.event_json.specs.declared.fault.LineFault.{LineFault}
use Rattle.event_json.proofs.Named.{line_said}
use Rattle.pol_history.specs.Looking.{History}
use Rattle.pol_history.specs.Runs.{AreOrderly, entry_of, history_after, is_recorded, recorded}
use Rattle.pol_history.proofs.Legal.{legal_after, orderly_after}
use Rattle.pol_removal.specs.Removal.{RemovalOfEvents}
use Rattle.pol_guard.specs.Guarded.{admitted_in, admitted_under, guarded_lines, history_under, journal_of}
use Rattle.pol_guard.specs.Laws.{GuardTheorem, IsAllowed, IsDenied, IsGuarded}
use Rattle.pol_guard.specs.Lines.{GuardedLine, faulty, denied, admitted, asked_by, by_verdict, guarded_line}
use Rattle.pol_guard.specs.Lines.{guarded_saying, verdict_on}

-- ---- one line

-- the line says this event, and the policy allows what it asks there
record IsAdmitted (policy : PlainPolicy) (line : Line) (event : PlainEvent) : Type 0 where
  text : List ℕ
  is_text : line ≡ Some text
  person : Option (List ℕ)
  says : guarded_of text ≡ Ok (record { event = event; person = person })
  verdict : (request : Request) → asked_by event person ≡ Some request →
      (rule : List ℕ) × (verdict_of policy request ≡ Allowed rule)

-- the verdict on an event that asks something is that on what it asks
asked_verdict : (policy : PlainPolicy) (event : PlainEvent) (person : Option (List ℕ)) (request : Request) →
    asked_by event person ≡ Some request → verdict_on policy event person ≡ Some (verdict_of policy request)
asked_verdict policy (desk at tag service command) None request asks = absurd cc
asked_verdict policy (desk at tag service command) (Some person) request asks =
    let same : request_of person tag service command ≡ request = cc in
    ap (λ request. Some (verdict_of policy request)) same
asked_verdict policy event person request asks = absurd cc

-- an event is admitted as it is
admitted_same : (event other : PlainEvent) (verdict : Option Verdict) → by_verdict event verdict ≡ admitted other →
    event ≡ other
admitted_same event other None is = cc
admitted_same event other (Some (Allowed rule)) is = cc
admitted_same event other (Some (Denied rule)) is = absurd cc

-- and where there is a verdict, it allows
admitted_allowed : (event other : PlainEvent) (verdict : Option Verdict) (on_it : Verdict) → verdict ≡ Some on_it →
    by_verdict event verdict ≡ admitted other → (rule : List ℕ) × (on_it ≡ Allowed rule)
admitted_allowed event other None on_it verdict is = absurd cc
admitted_allowed event other (Some (Allowed rule)) on_it verdict is = (rule, cc)
admitted_allowed event other (Some (Denied rule)) on_it verdict is = absurd cc

-- where one is denied, the verdict on it is so
denied_verdict : (event : PlainEvent) (verdict : Option Verdict) (rule : Option (List ℕ)) →
    by_verdict event verdict ≡ denied rule → verdict ≡ Some (Denied rule)
denied_verdict event None rule is = absurd cc
denied_verdict event (Some (Allowed other)) rule is = absurd cc
denied_verdict event (Some (Denied other)) rule is = cc

module _ (policy : PlainPolicy) (text : List ℕ) where
  -- what a line says that isn't denied
  admitted_event : (event other : PlainEvent) (person : Option (List ℕ)) →
      guarded_of text ≡ Ok (record { event = event; person = person }) →
      by_verdict event (verdict_on policy event person) ≡ admitted other → IsAdmitted policy (Some text) other
  admitted_event event other person says is =
      subst (IsAdmitted policy (Some text)) (admitted_same event other (verdict_on policy event person) is) (record {
        text = text;
        is_text = refl;
        person = person;
        says = says;
        verdict = λ request asks. admitted_allowed event other (verdict_on policy event person)
            (verdict_of policy request) (asked_verdict policy event person request asks) is;
      })

  -- by what it says
  admitted_said : (said : Result PlainGuarded LineFault) (event : PlainEvent) → guarded_of text ≡ said →
      guarded_saying policy said ≡ admitted event → IsAdmitted policy (Some text) event
  admitted_said (Err fault) event says is = absurd cc
  admitted_said (Ok said) event says is = admitted_event said.event event said.person says is

  -- what is denied on a line: a command of the desk that names who gives it
  denied_event : VerdictsAreJudged → (event : PlainEvent) (person : Option (List ℕ)) (rule : Option (List ℕ)) →
      is_some person ≡ is_desk event → guarded_of text ≡ Ok (record { event = event; person = person }) →
      verdict_on policy event person ≡ Some (Denied rule) → IsDenied policy (Some text) rule
  denied_event judged (desk at tag service command) None rule named says verdict = absurd cc
  denied_event judged (desk at tag service command) (Some person) rule named says verdict =
      let request = request_of person tag service command in
      let denies : verdict_of policy request ≡ Denied rule = cc in
      record {
        event = desk at tag service command;
        request = request;
        asks = record { text = text; is_text = refl; person = Some person; says = says; asks = refl };
        judges = subst (Judges policy request) denies (judged policy request);
      }
  denied_event judged event person rule named says verdict = absurd cc

  -- by what it says
  denied_said : VerdictsAreJudged → (said : Result PlainGuarded LineFault) (rule : Option (List ℕ)) →
      guarded_of text ≡ said → guarded_saying policy said ≡ denied rule → IsDenied policy (Some text) rule
  denied_said judged (Err fault) rule says is = absurd cc
  denied_said judged (Ok said) rule says is =
      denied_event judged said.event said.person rule (line_said text said says).named says
      (denied_verdict said.event (verdict_on policy said.event said.person) rule is)

-- an event that isn't denied stands on its line, and the policy allows what it asks there
admitted_line : (policy : PlainPolicy) (line : Line) (event : PlainEvent) →
    guarded_line policy line ≡ admitted event → IsAdmitted policy line event
admitted_line policy None event is = absurd cc
admitted_line policy (Some text) event is = admitted_said policy text (guarded_of text) event refl is

-- a denial is right
denied_line : VerdictsAreJudged → (policy : PlainPolicy) (line : Line) (rule : Option (List ℕ)) →
    guarded_line policy line ≡ denied rule → IsDenied policy line rule
denied_line judged policy None rule is = absurd cc
denied_line judged policy (Some text) rule is = denied_said policy text judged (guarded_of text) rule refl is

-- an event that isn't denied is orderly
admitted_orderly : (policy : PlainPolicy) (line : Line) (event : PlainEvent) →
    guarded_line policy line ≡ admitted event → is_orderly event ≡ true
admitted_orderly policy line event is =
    let told = admitted_line policy line event is in
    (line_said told.text (record { event = event; person = told.person }) told.says).orderly

-- who is there
there : (person : Option (List ℕ)) → is_some person ≡ true → (name : List ℕ) × (person ≡ Some name)
there None some = absurd cc
there (Some name) some = (name, refl)

-- a command of the desk that isn't denied is allowed to the person whom its line names
command_allowed : VerdictsAreJudged → (policy : PlainPolicy) (journal : List Line) (line : Line) →
    Contains journal line → (at : ℕ) (tag service : List ℕ) (command : Command) →
    guarded_line policy line ≡ admitted (desk at tag service command) →
    IsAllowed policy journal (desk at tag service command)
command_allowed judged policy journal line stands at tag service command is =
    let told = admitted_line policy line (desk at tag service command) is in
    let named = (line_said told.text (record { event = desk at tag service command; person = told.person })
    told.says).named in
    let person = there told.person named in
    let request = request_of person.0 tag service command in
    let asks : asked_by (desk at tag service command) told.person ≡ Some request =
    ap (asked_by (desk at tag service command)) person.1 in
    let allowed = told.verdict request asks in
    record {
      line = line;
      stands = stands;
      request = request;
      asks = record {
        text = told.text;
        is_text = told.is_text;
        person = told.person;
        says = told.says;
        asks = asks;
      };
      allows = (subst (Judges policy request) allowed.1 (judged policy request)).0;
    }

-- ---- a journal

-- its events that aren't denied are orderly
journal_orderly : (policy : PlainPolicy) (journal : List Line) → AreOrderly (admitted_under policy journal)
journal_orderly policy [] = tt
journal_orderly policy (line ∷ journal) = by_line (guarded_line policy line) refl (journal_orderly policy journal)
  where
    by_line : (row : GuardedLine) → guarded_line policy line ≡ row → AreOrderly (admitted_under policy journal) →
        AreOrderly (admitted_in (row ∷ guarded_lines policy journal))
    by_line (faulty fault) is rest = rest
    by_line (denied rule) is rest = rest
    by_line (admitted event) is rest = (admitted_orderly policy line event is, rest)

-- a line of a journal that says this event, which isn't denied
record Stands (policy : PlainPolicy) (journal : List Line) (event : PlainEvent) : Type 0 where
  line : Line
  stands : Contains journal line
  is : guarded_line policy line ≡ admitted event

-- it stands behind another line too
stands_later : (policy : PlainPolicy) (first : Line) (journal : List Line) (event : PlainEvent) →
    Stands policy journal event → Stands policy (first ∷ journal) event
stands_later policy first journal event found =
    record { line = found.line; stands = member_later first found.line journal found.stands; is = found.is }

-- each event that isn't denied stands on a line
on_line : (policy : PlainPolicy) (journal : List Line) (event : PlainEvent) →
    Contains (admitted_under policy journal) event → Stands policy journal event
on_line policy [] event inside = no_member event inside
on_line policy (line ∷ journal) event inside =
    by_line (guarded_line policy line) refl inside (on_line policy journal event)
  where
    by_line : (row : GuardedLine) → guarded_line policy line ≡ row →
        Contains (admitted_in (row ∷ guarded_lines policy journal)) event →
        (Contains (admitted_under policy journal) event → Stands policy journal event) →
        Stands policy (line ∷ journal) event
    by_line (faulty fault) is inside rest = stands_later policy line journal event (rest inside)
    by_line (denied rule) is inside rest = stands_later policy line journal event (rest inside)
    by_line (admitted first) is inside rest = elim (member_cases first event (admitted_under policy journal) inside) [
      | inl same ↦ record { line = line; stands = member_first line journal; is = is ∙ ap admitted same }
      | inr later ↦ stands_later policy line journal event (rest later)
    ]

-- the event of an entry after some events is one of them, or the entry was there before
came : (history : History) (events : List PlainEvent) (entry : PlainEntry) →
    Contains (history_after history events) entry → Contains history entry ⊎ Contains events entry.event
came history [] entry inside = inl inside
came history (event ∷ events) entry inside =
    elim (came (recorded (entry_of history event) history) events entry inside) [
      | inl earlier ↦ by_kept (is_recorded (entry_of history event).answer) earlier
      | inr later ↦ inr (member_later event entry.event events later)
    ]
  where
    by_kept : (kept : Bool) → Contains (cond kept (entry_of history event ∷ history) history) entry →
        Contains history entry ⊎ Contains (event ∷ events) entry.event
    by_kept false inside = inl inside
    by_kept true inside = elim (member_cases (entry_of history event) entry history inside) [
      | inl same ↦ inr (subst (Contains (event ∷ events)) (ap (λ each. each.event) same) (member_first event events))
      | inr earlier ↦ inl earlier
    ]

-- so each event of the history stands on a line
came_on_line : (policy : PlainPolicy) (journal : List Line) (entry : PlainEntry) →
    Contains (history_under policy journal) entry → Stands policy journal entry.event
came_on_line policy journal entry inside =
    elim (came [] (admitted_under policy journal) entry inside) [
      | inl before ↦ no_member entry before
      | inr among ↦ on_line policy journal entry.event among
    ]

-- all that holds of a journal under a policy
is_guarded : VerdictsAreJudged → RemovalOfEvents → (policy : PlainPolicy) (journal : List Line) →
    IsGuarded policy journal
is_guarded judged removal policy journal =
    let orderly = journal_orderly policy journal in
    record {
      legal = legal_after [] (admitted_under policy journal) tt;
      orderly = orderly_after [] (admitted_under policy journal) tt orderly;
      allowed = λ entry inside at tag service command is.
          let found = came_on_line policy journal entry inside in
          subst (IsAllowed policy journal) (sym is)
          (command_allowed judged policy journal found.line found.stands at tag service command
          (found.is ∙ ap admitted is));
      denied = denied_line judged policy;
      removal = λ tags. removal tags (admitted_under policy journal) orderly;
    }

-- of each input, whatever its policy
pub guard_theorem : VerdictsAreJudged → RemovalOfEvents → (bytes : List ℕ) → GuardTheorem bytes
guard_theorem judged removal bytes policy said = is_guarded judged removal policy (journal_of bytes)
