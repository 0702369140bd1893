-- Entries that follow a history: what each shows, and what it shows of those to come.
use Rattle.std.proofs.Common.{◌≡◌, ℕ, Bool, true, false, cond, List, [], ◌∷◌, refl, ap, sym, ◌∙◌, Option, Some, None}
use Rattle.std.proofs.Common.{subst}
use Rattle.std.specs.Prelude.{◌&&◌, ◌||◌, option_map}
use Rattle.std.specs.List.{cons_option}
use Rattle.std.specs.Option.{option_or}
use Rattle.std.proofs.lemmas.Bool.{and_parts}
use Rattle.mtp_codes.specs.Names.{is_among}
use Rattle.mtp_codes.proofs.Names.{same_true}
use Rattle.mtp_assembly.specs.declared.control.ServiceControl.{ServiceControl}
use Rattle.pol_events.specs.Events.{PlainEvent, plug, unplug, report, PlainEntry}
use Rattle.pol_events.specs.Orderly.{is_orderly}
use Rattle.pol_events.specs.Refusals.{not_an_edge}
use Rattle.pol_events.specs.Bound.{tags_of, given}
use Rattle.pol_events.specs.declared.answer.Answer.{Answer}
use Rattle.pol_events.specs.declared.answer.Answer.TheVariants.{Refused}
use Rattle.pol_events.proofs.Lists.{among_member, member_image}
use Rattle.pol_history.specs.Looking.{History, subject, is_module, is_accepted, past}
use Rattle.pol_history.specs.Modules.{absent, is_moving, docking_by, reported, control_by}
use Rattle.pol_history.specs.Batches.{Started, start_of, outcome_of}
use Rattle.pol_history.specs.Answers.{rules, otherwise, answer_of}
use Rattle.pol_history.specs.Runs.{is_recorded, IsLegal, IsOrderly}
use Rattle.pol_history.proofs.Accepted.{NoneHolds, accepted_none, accepted_otherwise, paired}
use Rattle.pol_history.proofs.Open.{open_before}
use Rattle.pol_safety.proofs.Covering.{is_absent, all_cover}
use Rattle.pol_safety.proofs.Sides.{Comes, accepted}
use Rattle.pol_safety.proofs.Starts.{start_stays, charted}
use Rattle.pol_compaction.specs.Lasting.{is_desk}
use Rattle.pol_compaction.specs.Reading.{is_replacing, replaces, is_replaced, reads}
use Rattle.pol_compaction.specs.Marks.{Mark, told, read, marks_of}
use Rattle.pol_compaction.proofs.Along.{found_next, found_moved, own_mark, moved_mark, apart_mark, report_says}
use Rattle.pol_compaction.proofs.Marks.{MayTell, AreTold}

-- ---- what follows a history

-- the entry is the next one: it is answered by what was before it, accepted, no operator's command, and in order
pub record IsNext (older : History) (entry : PlainEntry) : Type 0 where
  pub answered : entry.answer ≡ answer_of older entry.event
  pub accepted : is_accepted entry.answer ≡ true
  pub heard : is_desk entry.event ≡ false
  pub formed : is_orderly entry.event ≡ true

-- at the end no batch is closed, and each was started as the whole history says
pub record EndsOpen (whole last : History) : Type 0 where
  pub opens : (batch : List ℕ) → outcome_of last batch ≡ None
  pub starts : (batch : List ℕ) (started : Started) → start_of last batch ≡ Some started →
      start_of whole batch ≡ Some started

-- the entries follow, up to such an end
abbrev pub Follows : History → History → List PlainEntry → Type 0
Follows whole older [] = EndsOpen whole older
Follows whole older (entry ∷ newer) = IsNext older entry × Follows whole (entry ∷ older) newer

-- an accepted answer is recorded
pub accepted_recorded : (answer : Answer) → is_accepted answer ≡ true → is_recorded answer ≡ true
accepted_recorded (Refused rule) is = cc
accepted_recorded _ is = refl

-- with the next entry a history stays legal
pub next_legal : (older : History) (entry : PlainEntry) → IsLegal older → IsNext older entry → IsLegal (entry ∷ older)
next_legal older entry legal next = (next.answered, accepted_recorded entry.answer next.accepted, legal)

-- and in order
pub next_orderly : (older : History) (entry : PlainEntry) → IsOrderly older → IsNext older entry →
    IsOrderly (entry ∷ older)
next_orderly older entry orderly next = (next.formed, orderly)

-- the event is accepted
pub next_accepted : (older : History) (entry : PlainEntry) → IsNext older entry →
    is_accepted (answer_of older entry.event) ≡ true
next_accepted older entry next = ap is_accepted (sym next.answered) ∙ next.accepted

-- so none of its rules holds
pub next_free : (older : History) (entry : PlainEntry) → IsNext older entry → NoneHolds (rules older entry.event)
next_free older entry next = accepted_none older entry.event (next_accepted older entry next)

-- and it is answered by what is answered otherwise
pub next_otherwise : (older : History) (entry : PlainEntry) → IsNext older entry →
    entry.answer ≡ otherwise older entry.event
next_otherwise older entry next =
    next.answered ∙ accepted_otherwise older entry.event (next_accepted older entry next)

-- in the words of the laws of all histories
next_comes : (older : History) (entry : PlainEntry) → IsLegal older → IsOrderly older → IsNext older entry →
    Comes older entry.event
next_comes older entry legal orderly next = record {
  legal = legal;
  orderly = orderly;
  is_formed = next.formed;
  free = next_free older entry next;
  is_accepted = ap is_accepted (sym (next_otherwise older entry next)) ∙ next.accepted;
}

-- a batch that was started stays so
pub start_next : (older : History) (entry : PlainEntry) → IsLegal older → IsOrderly older → IsNext older entry →
    (batch : List ℕ) (started : Started) → start_of older batch ≡ Some started →
    start_of (entry ∷ older) batch ≡ Some started
start_next older entry legal orderly next batch started is =
    subst (λ newest. start_of (newest ∷ older) batch ≡ Some started)
    (ap (paired entry.event) (sym (next_otherwise older entry next)))
    (start_stays older entry.event batch started (next_comes older entry legal orderly next) is)

-- so no batch is closed on the way to such an end, and each was started as the whole history says
pub ends_open : (whole older : History) (newer : List PlainEntry) → IsLegal older → IsOrderly older →
    Follows whole older newer → EndsOpen whole older
ends_open whole older [] legal orderly follows = follows
ends_open whole older (entry ∷ newer) legal orderly (next, follows) =
    let later = ends_open whole (entry ∷ older) newer (next_legal older entry legal next)
    (next_orderly older entry orderly next) follows in
    record {
      opens = λ batch. open_before older entry batch (later.opens batch);
      starts = λ batch started is. later.starts batch started
          (start_next older entry legal orderly next batch started is);
    }

-- ---- pasts

-- an accepted event of the module is in its past
pub own_past : (older : History) (entry : PlainEntry) (tag : List ℕ) → is_module tag (subject entry.event) ≡ true →
    is_accepted entry.answer ≡ true → past tag (entry ∷ older) ≡ entry ∷ past tag older
own_past older entry tag own accepted =
    ap (λ own. cond (own && is_accepted entry.answer) (entry ∷ past tag older) (past tag older)) own
    ∙ ap (λ kept. cond kept (entry ∷ past tag older) (past tag older)) accepted

-- one of another subject doesn't
pub apart_past : (older : History) (entry : PlainEntry) (tag : List ℕ) → is_module tag (subject entry.event) ≡ false →
    past tag (entry ∷ older) ≡ past tag older
apart_past older entry tag apart =
    ap (λ own. cond (own && is_accepted entry.answer) (entry ∷ past tag older) (past tag older)) apart

-- ---- what a service tells

-- before a look, if there is one
told_apart : (reading : Bool) (found : Option ServiceControl) (marks : List (Mark ServiceControl)) →
    AreTold found marks → AreTold found (cons_option (cond reading (Some read) None) marks)
told_apart true found marks are = are
told_apart false found marks are = are

-- before a report, if there is one
told_own : (said found : Option ServiceControl) (marks : List (Mark ServiceControl)) →
    ((control : ServiceControl) → said ≡ Some control → MayTell found control) → AreTold (option_or said found) marks →
    AreTold found (cons_option (option_map told said) marks)
told_own None found marks may are = are
told_own (Some control) found marks may are = (may control refl, are)

-- an accepted report may follow
report_may : (older : History) (tag service : List ℕ) (event : PlainEvent) → is_module tag (subject event) ≡ true →
    NoneHolds (rules older event) → (control : ServiceControl) → reported service event ≡ Some control →
    MayTell (control_by service (past tag older)) control
report_may older tag service (report at other name given) own none control says =
    let same = report_says name service given control says in
    subst (λ (control : ServiceControl). not_an_edge control.state (control_by service (past tag older)) ≡ None) same.1
    (subst (λ name. not_an_edge given.state (control_by name (past tag older)) ≡ None) same.0
    (subst (λ tag. not_an_edge given.state (control_by name (past tag older)) ≡ None) (same_true other tag own)
    none.1.1.1.0))
report_may older tag service _ own none control says = cc

module _ (whole : History) (tag service : List ℕ) where
  -- the marks of what comes
  abbrev marks : List PlainEntry → List (Mark ServiceControl)
  marks newer = marks_of whole tag (reported service) newer

  -- with one more entry in front
  told_before : (older : History) (entry : PlainEntry) (newer : List PlainEntry) → IsNext older entry →
      AreTold (control_by service (past tag (entry ∷ older))) (marks newer) →
      AreTold (control_by service (past tag older)) (marks (entry ∷ newer))
  told_before older entry newer next are = go (is_module tag (subject entry.event)) (is_moving entry.event) refl refl
    where
      found : Option ServiceControl
      found = control_by service (past tag older)

      after : is_module tag (subject entry.event) ≡ true →
          AreTold (control_by service (entry ∷ past tag older)) (marks newer)
      after own = subst (λ past. AreTold (control_by service past) (marks newer))
          (own_past older entry tag own next.accepted) are

      go : (own moving : Bool) → is_module tag (subject entry.event) ≡ own → is_moving entry.event ≡ moving →
          AreTold found (marks (entry ∷ newer))
      go false moving apart is =
          subst (λ mark. AreTold found (cons_option mark (marks newer)))
          (sym (apart_mark whole tag (reported service) entry.event apart))
          (told_apart (reads whole tag entry.event) found (marks newer)
          (subst (λ past. AreTold (control_by service past) (marks newer)) (apart_past older entry tag apart) are))
      go true true own is =
          subst (λ mark. AreTold found (cons_option mark (marks newer)))
          (sym (moved_mark whole tag (reported service) entry.event own is))
          (subst (λ found. AreTold found (marks newer))
          (found_moved (reported service) entry.event entry.answer (past tag older) is) (after own))
      go true false own is =
          subst (λ mark. AreTold found (cons_option mark (marks newer)))
          (sym (own_mark whole tag (reported service) entry.event own is))
          (told_own (reported service entry.event) found (marks newer)
          (report_may older tag service entry.event own (next_free older entry next))
          (subst (λ found. AreTold found (marks newer))
          (found_next (reported service) entry.event entry.answer (past tag older) is) (after own)))

  -- so each report that comes may follow
  pub tells_on : (older : History) (newer : List PlainEntry) → Follows whole older newer →
      AreTold (control_by service (past tag older)) (marks newer)
  tells_on older [] follows = tt
  tells_on older (entry ∷ newer) (next, follows) =
      told_before older entry newer next (tells_on (entry ∷ older) newer follows)

-- ---- a module that is bound

-- a batch was started that binds the module
pub record IsBound (tag : List ℕ) (history : History) : Type 0 where
  pub batch : List ℕ
  pub started : Started
  pub start_is : start_of history batch ≡ Some started
  pub inside : is_among (tags_of (given started.binds)) tag ≡ true

-- while it is open the module is there
bound_there : (history : History) (tag : List ℕ) → IsLegal history → IsOrderly history →
    ((batch : List ℕ) → outcome_of history batch ≡ None) → IsBound tag history →
    docking_by (past tag history) ≡ absent → ⊥
bound_there history tag legal orderly opens bound away =
    let found = charted history legal orderly bound.batch bound.started bound.start_is in
    let (bind, within, same) = member_image (λ bind. bind.tag) (given bound.started.binds) tag
    (among_member (tags_of (given bound.started.binds)) tag bound.inside) in
    (all_cover history legal orderly bound.batch bound.started found.chart bound.start_is found.chart_is
    (opens bound.batch) bind within).is_there (ap (λ name. docking_by (past name history)) same ∙ away)

-- and the next entry leaves it bound
bound_next : (older : History) (entry : PlainEntry) (tag : List ℕ) → IsLegal older → IsOrderly older →
    IsNext older entry → IsBound tag older → IsBound tag (entry ∷ older)
bound_next older entry tag legal orderly next bound = record {
  batch = bound.batch;
  started = bound.started;
  start_is = start_next older entry legal orderly next bound.batch bound.started bound.start_is;
  inside = bound.inside;
}

-- an event that replaces the module finds it away, or leaves it so
replaced_away : (older : History) (tag : List ℕ) (event : PlainEvent) (answer : Answer) →
    is_accepted answer ≡ true → NoneHolds (rules older event) → is_module tag (subject event) ≡ true →
    is_replacing event ≡ true → (docking_by (past tag older) ≡ absent → ⊥) →
    (docking_by (past tag (paired event answer ∷ older)) ≡ absent → ⊥) → ⊥
replaced_away older tag (plug at other description) answer accepted none own is before after =
    before (ap (λ name. docking_by (past name older)) (sym (same_true other tag own))
    ∙ is_absent (docking_by (past other older)) none.0)
replaced_away older tag (unplug at other) answer accepted none own is before after =
    after (ap docking_by (own_past older (paired (unplug at other) answer) tag own accepted))
replaced_away older tag _ answer accepted none own is before after = cc

-- so a module that is bound isn't replaced
pub bound_stays : (whole : History) (tag : List ℕ) (older : History) (newer : List PlainEntry) → IsLegal older →
    IsOrderly older → Follows whole older newer → IsBound tag older → is_replaced tag newer ≡ false
bound_stays whole tag older [] legal orderly follows bound = refl
bound_stays whole tag older (entry ∷ newer) legal orderly (next, follows) bound =
    go (replaces tag entry.event) refl
    (bound_stays whole tag (entry ∷ older) newer next_is_legal next_is_orderly follows bound_then)
  where
    next_is_legal : IsLegal (entry ∷ older)
    next_is_legal = next_legal older entry legal next

    next_is_orderly : IsOrderly (entry ∷ older)
    next_is_orderly = next_orderly older entry orderly next

    bound_then : IsBound tag (entry ∷ older)
    bound_then = bound_next older entry tag legal orderly next bound

    later : EndsOpen whole (entry ∷ older)
    later = ends_open whole (entry ∷ older) newer next_is_legal next_is_orderly follows

    go : (replacing : Bool) → replaces tag entry.event ≡ replacing → is_replaced tag newer ≡ false →
        (replacing || is_replaced tag newer) ≡ false
    go false is rest = rest
    go true is rest =
        let parts = and_parts (is_module tag (subject entry.event)) (is_replacing entry.event) is in
        absurd (replaced_away older tag entry.event entry.answer next.accepted (next_free older entry next) parts.0
        parts.1 (bound_there older tag legal orderly (λ batch. open_before older entry batch (later.opens batch)) bound)
        (bound_there (entry ∷ older) tag next_is_legal next_is_orderly later.opens bound_then))
