-- A service with an unanswered command is owed a report by an open batch.
use Rattle.std.proofs.Common.{◌≡◌, ℕ, Bool, true, false, cond, List, [], ◌∷◌, Option, Some, None, refl, ap, sym, ◌∙◌}
use Rattle.std.proofs.Common.{subst}
use Rattle.std.specs.Prelude.{◌&&◌, if◌then◌else◌}
use Rattle.std.specs.List.{Contains}
use Rattle.std.specs.Str.{bytes_eq}
use Rattle.std.proofs.lemmas.Bool.{and_right}
use Rattle.mtp_codes.proofs.Names.{same_true}
use Rattle.chart_core.specs.Active.{active_steps}
use Rattle.chart_core.specs.Runs.{IsComplete}
use Rattle.chart_core.specs.declared.entry.LogEntry.{LogEntry}
use Rattle.chart_cursor.specs.Commands.{Sent, sent_by}
use Rattle.chart_cursor.specs.Next.{IsNext, ready_after}
use Rattle.chart_cursor.specs.Sights.{Sights}
use Rattle.chart_cursor.proofs.Firsts.{next_follows}
use Rattle.pol_events.specs.Bound.{given}
use Rattle.pol_events.specs.Events.{PlainEvent, start, advance, freeze, thaw, stop_batch, abandon, desk}
use Rattle.pol_events.specs.declared.answer.Answer.{Answer}
use Rattle.pol_events.specs.declared.answer.Answer.TheVariants.{Did, Closed}
use Rattle.chart_core.specs.declared.next.Next.{Next}
use Rattle.chart_core.specs.declared.next.Next.TheVariants as next
use Rattle.chart_core.specs.declared.next.Outcome.{Outcome}
use Rattle.pol_history.specs.Looking.{History, subject, is_batch, is_recipe, past, past_of_batch, recipes, is_accepted}
use Rattle.pol_history.specs.Batches.{Started, start_of, chart_named, outcome_of, log_of}
use Rattle.pol_history.specs.Commands.{sent_command}
use Rattle.pol_history.specs.Following.{sights_by, next_of}
use Rattle.pol_history.specs.Answers.{advanced, otherwise, answer_of}
use Rattle.pol_history.specs.Runs.{IsLegal, IsOrderly, is_recorded}
use Rattle.pol_history.proofs.Accepted.{accepted_none, accepted_otherwise, paired}
use Rattle.pol_safety.proofs.Courses.{all_follow}
use Rattle.pol_safety.proofs.Nexts.{HasNext, has_next, next_at}
use Rattle.pol_safety.proofs.Sides.{accepted, Comes}
use Rattle.pol_safety.proofs.Starts.{may_start, is_open_batch, IsGoodChart, sound, chart_stays}
use Rattle.pol_site.specs.Sites.{PlainSite}
use Rattle.pol_site.specs.Stories.{if_to, is_for}
use Rattle.pol_site.specs.Following.{FollowsSite, IsAllowed, is_stepped}
use Rattle.pol_site.specs.Commanded.{IsCommanded}
use Rattle.pol_stillness.specs.Apart.{IsOwed}
use Rattle.pol_stillness.proofs.Alone.{complete_still}
use Rattle.pol_stillness.proofs.Desks.{desks_refused}
use Rattle.pol_stillness.specs.Plain.{IsPlain}
use Rattle.pol_stillness.specs.Law.{UnansweredAreOwed}
use Rattle.pol_stillness.proofs.Plain.{plants_plain, closed_whole}
use Rattle.pol_events.proofs.Options.{no_both}
use Rattle.pol_events.proofs.Lists.{no_member}
use Rattle.chart_cursor.specs.Logs.{chart_entries}
use Rattle.pol_stillness.proofs.Carried.{StoryCase, sends_now, before, story_case, carry, Owing, quiet_owing}
use Rattle.pol_stillness.proofs.Advanced.{facts, new_owed, stay_owed}

-- ---- an advance

-- a command for a service is one that is sent
for_sent : (tag service : List ℕ) (found : Option Sent) → is_for service (if_to tag found) ≡ true
    → (sent : Sent) × (found ≡ Some sent) × (sent.tag ≡ tag) × (sent.service ≡ service)
for_sent tag service None is = cc
for_sent tag service (Some sent) is = go (bytes_eq sent.tag tag) refl is
  where
    go : (here : Bool) → bytes_eq sent.tag tag ≡ here → is_for service (if here then Some sent else None) ≡ true
        → (other : Sent) × (Some sent ≡ Some other) × (other.tag ≡ tag) × (other.service ≡ service)
    go true here is = (sent, refl, same_true sent.tag tag here, same_true sent.service service is)
    go false here is = cc

-- the batch that is owed does this next
abbrev its_next : (older : History) (other tag service : List ℕ) (owed : IsOwed older tag service) (given : Next)
    → bytes_eq other owed.batch ≡ true → next_of older other ≡ Some given
    → HasNext older owed.batch given
its_next older other tag service owed given same is =
    record {
      started = owed.started;
      start_is = owed.start_is;
      chart = owed.chart;
      chart_is = owed.chart_is;
      next_is = next_at older owed.batch owed.started owed.chart given owed.start_is owed.chart_is
          (ap (next_of older) (sym (same_true other owed.batch same)) ∙ is);
    }

-- an entry of another batch leaves the past of this one
other_past : (older : History) (at : ℕ) (other batch : List ℕ) (answer : Answer) → bytes_eq other batch ≡ false
    → past_of_batch batch (paired (advance at other) answer ∷ older) ≡ past_of_batch batch older
other_past older at other batch answer apart =
    ap (λ b. cond (b && is_accepted answer) (paired (advance at other) answer ∷ past_of_batch batch older)
    (past_of_batch batch older)) apart

-- a batch that is owed a report isn't closed
closes_not : (older : History) (tag service : List ℕ) (owed : IsOwed older tag service) (outcome : Outcome)
    → IsLegal older → IsOrderly older → IsPlain older
    → (has : HasNext older owed.batch (next.Closed outcome)) → has.chart ≡ owed.chart → ⊥
closes_not older tag service owed outcome legal orderly plain has chart_is =
    no_member owed.placed (subst (λ ps. Contains ps owed.placed) none owed.inside)
  where
    log : List LogEntry
    log = chart_entries (log_of older owed.batch)

    sights : Sights
    sights = sights_by (given has.started.binds) (λ tag. past tag older)

    good : IsGoodChart has.chart
    good = sound older legal orderly has.started.recipe has.chart has.chart_is

    complete : IsComplete has.chart log
    complete =
        subst (IsNext has.chart log (ready_after has.chart log sights))
        (closed_whole older owed.batch outcome plain has).0
        (next_follows has.chart log sights good.is_formed good.valid
        (all_follow older legal orderly owed.batch has.started has.chart has.start_is has.chart_is).partial)

    none : active_steps owed.chart log ≡ []
    none = ap (λ c. active_steps c log) (sym chart_is) ∙ complete_still has.chart log good.valid complete

-- after an advance
advance_owing : (older : History) (at : ℕ) (other : List ℕ) (found : Option Next) → next_of older other ≡ found
    → IsLegal (paired (advance at other) (advanced found) ∷ older)
    → IsOrderly older → IsPlain older → outcome_of older other ≡ None → is_stepped (advanced found) ≡ true → Owing older
    → Owing (paired (advance at other) (advanced found) ∷ older)
advance_owing older at other None is legal orderly plain unclosed stepped again tag service un = cc
advance_owing older at other (Some (next.Waiting obstacle)) is legal orderly plain unclosed stepped again tag service un
    = cc
advance_owing older at other (Some (next.Closed outcome)) is legal orderly plain unclosed stepped again tag service un =
    go (story_case tag service (paired (advance at other) (Closed outcome)) older un)
  where
    go : StoryCase tag service (paired (advance at other) (Closed outcome)) older
        → IsOwed (paired (advance at other) (Closed outcome) ∷ older) tag service
    go (sends_now sends) = cc
    go (before old apart leaves) = by (again tag service old) (bytes_eq other (again tag service old).batch) refl
      where
        by : (owed : IsOwed older tag service) → (here : Bool) → bytes_eq other owed.batch ≡ here
            → IsOwed (paired (advance at other) (Closed outcome) ∷ older) tag service
        by owed true here =
            let has = its_next older other tag service owed (next.Closed outcome) here is in
            absurd (closes_not older tag service owed outcome legal.2 orderly plain has refl)
        by owed false here =
            carry older (paired (advance at other) (Closed outcome) ∷ older) tag service owed
            (other_past older at other owed.batch (Closed outcome) here) owed.chart_is refl
advance_owing older at other (Some (next.Did entry)) is legal orderly plain unclosed stepped again tag service un =
    go (story_case tag service (paired (advance at other) (Did entry)) older un)
  where
    now : History
    now = paired (advance at other) (Did entry) ∷ older

    go : StoryCase tag service (paired (advance at other) (Did entry)) older → IsOwed now tag service
    go (sends_now sends) =
        let sent = for_sent tag service (sent_by entry) sends in
        let has = has_next older other (next.Did entry) is in
        let known = facts older other entry legal.2 orderly plain unclosed has in
        subst (λ t. IsOwed now t service) sent.2
        (subst (IsOwed now sent.0.tag) sent.3 (new_owed older at other has.started has.chart entry sent.0 known legal
        sent.1))
    go (before old apart leaves) = by (again tag service old) (bytes_eq other (again tag service old).batch) refl
      where
        by : (owed : IsOwed older tag service) → (here : Bool) → bytes_eq other owed.batch ≡ here
            → IsOwed now tag service
        by owed true here =
            stay_owed older at other tag service owed entry here
            (facts older owed.batch entry legal.2 orderly plain owed.unclosed
            (its_next older other tag service owed (next.Did entry) here is)) apart
        by owed false here = carry older now tag service owed (other_past older at other owed.batch (Did entry) here)
            owed.chart_is refl

-- ---- every event

-- after any accepted event
accepted_owing : (site : PlainSite) (older : History) (event : PlainEvent) → Comes older event
    → IsLegal (accepted older event ∷ older)
    → IsAllowed site older event (otherwise older event) → is_accepted (answer_of older event) ≡ true
    → FollowsSite site older → IsPlain older → Owing older → Owing (accepted older event ∷ older)
accepted_owing site older (advance at other) comes legal allowed answered follows plain again =
    advance_owing older at other (next_of older other) refl legal comes.orderly plain
    (is_open_batch older other comes.free.1.0) allowed.stepped again
accepted_owing site older (start at other name binds) comes legal allowed answered follows plain again =
    quiet_owing older (accepted older (start at other name binds)) refl same (λ recipe chart found. found) again
  where
    same : (batch : List ℕ) (begun : Started) → start_of older batch ≡ Some begun
        → past_of_batch batch (accepted older (start at other name binds) ∷ older) ≡ past_of_batch batch older
    same batch begun was = go (bytes_eq other batch) refl
      where
        go : (here : Bool) → bytes_eq other batch ≡ here
            → cond (here && true) (accepted older (start at other name binds) ∷ past_of_batch batch older)
            (past_of_batch batch older) ≡ past_of_batch batch older
        go true here =
            let may = may_start older other binds (chart_named name (recipes older)) comes.free in
            no_both (start_of older batch) begun (ap (start_of older) (sym (same_true other batch here)) ∙ may.2.fresh)
            was
        go false here = refl
accepted_owing site older (freeze at other hold) comes legal allowed answered follows plain again = absurd allowed
accepted_owing site older (thaw at other) comes legal allowed answered follows plain again = absurd allowed
accepted_owing site older (stop_batch at other) comes legal allowed answered follows plain again = absurd allowed
accepted_owing site older (abandon at other) comes legal allowed answered follows plain again = absurd allowed
accepted_owing site older (desk at tag service given) comes legal allowed answered follows plain again =
    let clash : false ≡ true = sym ((desks_refused site older follows).refused at tag service given) ∙ answered in cc
accepted_owing site older event comes legal allowed answered follows plain again =
    quiet_owing older (accepted older event) refl (λ batch begun was. refl)
    (λ recipe chart found. chart_stays older event recipe chart comes found) again

-- a refusal sends nothing
pub refused_silent : (answer : Answer) → is_accepted answer ≡ false → sent_command answer ≡ None
refused_silent (Did entry) refused = cc
refused_silent _ refused = refl

-- after any history that follows its site
pub owing : (site : PlainSite) (history : History) → IsLegal history → IsOrderly history → FollowsSite site history
    → IsCommanded history → Owing history
owing site [] legal orderly follows commanded = λ tag service un. let clash : true ≡ false = un in cc
owing site (entry ∷ older) legal orderly follows commanded =
    go (is_accepted (answer_of older entry.event)) refl (owing site older legal.2 orderly.1 follows.1 commanded.1)
    (plants_plain site older legal.2 follows.1 commanded.1)
  where
    go : (kept : Bool) → is_accepted (answer_of older entry.event) ≡ kept → Owing older → IsPlain older
        → Owing (entry ∷ older)
    go false refused again plain =
        let no : is_accepted entry.answer ≡ false = ap is_accepted legal.0 ∙ refused in
        quiet_owing older entry (refused_silent entry.answer no)
        (λ batch begun was. ap (λ kept. cond kept (entry ∷ past_of_batch batch older) (past_of_batch batch older))
        (and_right (is_batch batch (subject entry.event)) (is_accepted entry.answer) no))
        (λ name chart found. ap (λ kept. chart_named name (cond kept (entry ∷ recipes older) (recipes older)))
        (and_right (is_recipe (subject entry.event)) (is_accepted entry.answer) no) ∙ found)
        again
    go true answered again plain =
        let same = accepted_otherwise older entry.event answered in
        let answer_is : otherwise older entry.event ≡ entry.answer = sym (legal.0 ∙ same) in
        let comes : Comes older entry.event
        = record {
          legal = legal.2;
          orderly = orderly.1;
          is_formed = orderly.0;
          free = accepted_none older entry.event answered;
          is_accepted = ap is_accepted (sym same) ∙ answered;
        } in
        subst (λ answer. Owing (paired entry.event answer ∷ older)) answer_is
        (accepted_owing site older entry.event comes (sym same, ap is_recorded answer_is ∙ legal.1, legal.2)
        (subst (IsAllowed site older entry.event) (sym answer_is) follows.0)
        answered follows.1 plain again)

-- an unanswered command is owed
pub unanswered_owed : UnansweredAreOwed
unanswered_owed site history legal orderly follows commanded tag service un =
    owing site history legal orderly follows commanded tag service un
