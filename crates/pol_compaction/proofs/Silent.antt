-- Refused events, waits and commands may be left out of a run.
use Rattle.std.proofs.Common.{◌≡◌, ℕ, Bool, true, false, cond, not, List, [], ◌∷◌, map, refl, ap, sym, ◌∙◌, inl, inr}
use Rattle.std.proofs.Common.{None, is_some, arith}
use Rattle.std.specs.Prelude.{filter, ◌||◌}
use Rattle.std.proofs.lemmas.Bool.{and_parts, or_parts}
use Rattle.mtp_codes.specs.Names.{is_among}
use Rattle.mtp_codes.specs.declared.command.Command.{Command}
use Rattle.chart_core.specs.declared.why.Why.{Why}
use Rattle.pol_events.specs.Events.{PlainEvent, advance, desk, PlainEntry}
use Rattle.pol_events.specs.declared.answer.Answer.{Answer}
use Rattle.pol_events.specs.declared.answer.Answer.TheVariants.{Waiting}
use Rattle.pol_history.specs.Looking.{History, Subject, of_module, of_batch, of_recipe, subject, is_accepted, is_module}
use Rattle.pol_history.specs.Looking.{is_batch, is_accepted_of, is_accepted_of_batch, past, past_of_batch}
use Rattle.pol_history.specs.Batches.{start_by, start_of, outcome_by, outcome_of}
use Rattle.pol_history.specs.Answers.{rules, answer_of}
use Rattle.pol_history.specs.Runs.{entry_of, is_recorded, recorded, recorded_all, run_after, history_after}
use Rattle.pol_history.proofs.Accepted.{NoneHolds, accepted_none, paired}
use Rattle.pol_history.proofs.Holders.{holders_after}
use Rattle.pol_history.proofs.Watchers.{watchers_after}
use Rattle.pol_removal.specs.Removal.{is_of}
use Rattle.pol_compaction.specs.Lasting.{is_desk, is_wait}
use Rattle.pol_compaction.specs.Alike.{LooksSame, IsSameModule, RunsSame, BatchesAlike, AnswersAlike}
use Rattle.pol_compaction.specs.Alike.{is_refused_as_full}
use Rattle.pol_compaction.specs.Silent.{is_silent, entries_unless, SilentMayBeLeftOut}
use Rattle.pol_compaction.specs.Compaction.{kept_before}
use Rattle.pol_compaction.proofs.After.{stands_left}
use Rattle.pol_compaction.proofs.Answering.{alike_answered}
use Rattle.pol_compaction.proofs.Empty.{alike_empty}
use Rattle.pol_compaction.proofs.Keeping.{absent_plugs, begun, batch_open, batches_left}
use Rattle.pol_compaction.proofs.Later.{alike_unchanged, unchanged_self, unchanged_refused, alike_kept, full_refused}

-- a command after the whole history alone
looks_desk : (at : ℕ) (tag service : List ℕ) (command : Command) (answer : Answer) (whole less : History) →
    LooksSame whole less → LooksSame (paired (desk at tag service command) answer ∷ whole) less
looks_desk at tag service command answer whole less same = record {
  stands = stands_left (desk at tag service command) answer whole less refl same.stands;
  control = same.control;
  value = same.value;
}

-- a wait after the whole history alone
runs_wait : (at : ℕ) (batch : List ℕ) (why : Why) (whole less : History) → RunsSame whole less →
    RunsSame (paired (advance at batch) (Waiting why) ∷ whole) less
runs_wait at batch why whole less same = record {
  start = same.start;
  outcome = same.outcome;
  log = same.log;
  frozen = same.frozen;
  holding = same.holding;
  asked = same.asked;
}

module _ (gone : List (List ℕ)) (whole less : History) (alike : AnswersAlike gone whole less) where
  -- a command leaves both plants alike
  alike_desk : (at : ℕ) (tag service : List ℕ) (command : Command) (answer : Answer) →
      NoneHolds (rules whole (desk at tag service command)) →
      AnswersAlike gone (paired (desk at tag service command) answer ∷ whole) less
  alike_desk at tag service command answer none = record {
    running = batches_left gone whole less alike.running (desk at tag service command) answer tag refl;
    modules = λ other. module_next other (is_accepted_of other (paired (desk at tag service command) answer)) refl
        (alike.modules other);
    same_tags = alike.same_tags;
  }
    where
      module_next : (other : List ℕ) (own : Bool) →
          is_accepted_of other (paired (desk at tag service command) answer) ≡ own →
          IsSameModule (past other whole) (past other less) →
          IsSameModule (cond own (paired (desk at tag service command) answer ∷ past other whole) (past other whole))
          (past other less)
      module_next other false is same = same
      module_next other true is (inl away) =
          let clash : false ≡ true = absent_plugs whole (desk at tag service command) other
          (and_parts (is_module other (of_module tag)) (is_accepted answer) is).0 none away.0 in cc
      module_next other true is (inr same) =
          inr (looks_desk at tag service command answer (past other whole) (past other less) same)

  -- and so does a wait
  alike_wait : (at : ℕ) (batch : List ℕ) (why : Why) → NoneHolds (rules whole (advance at batch)) →
      AnswersAlike gone (paired (advance at batch) (Waiting why) ∷ whole) less
  alike_wait at batch why none = record {
    running = record {
      batches = λ other out. batch_next other
          (is_accepted_of_batch other (paired (advance at batch) (Waiting why))) (running.batches other out);
      fresh = λ other out. fresh_next other out
          (is_accepted_of_batch other (paired (advance at batch) (Waiting why))) refl;
      started = λ other inside. started_next other
          (is_accepted_of_batch other (paired (advance at batch) (Waiting why))) (running.started other inside);
      closed = λ other inside. closed_next other
          (is_accepted_of_batch other (paired (advance at batch) (Waiting why))) (running.closed other inside);
      same_recipes = running.same_recipes;
      holders = λ tag. running.holders tag
          ∙ sym (holders_after whole (paired (advance at batch) (Waiting why)) batch refl refl refl found tag);
      watchers = λ tag. running.watchers tag
          ∙ sym (watchers_after whole (paired (advance at batch) (Waiting why)) batch refl refl refl found tag);
      fewer_starts = running.fewer_starts;
      fewer = let before = running.fewer in omega arith;
      listed = running.listed;
    };
    modules = alike.modules;
    same_tags = alike.same_tags;
  }
    where
      running : BatchesAlike gone whole less
      running = alike.running

      found : outcome_of whole batch ≡ None
      found = batch_open whole (advance at batch) batch refl refl none

      batch_next : (other : List ℕ) (own : Bool) → RunsSame (past_of_batch other whole) (past_of_batch other less) →
          RunsSame (cond own (paired (advance at batch) (Waiting why) ∷ past_of_batch other whole)
          (past_of_batch other whole)) (past_of_batch other less)
      batch_next other false same = same
      batch_next other true same = runs_wait at batch why (past_of_batch other whole) (past_of_batch other less) same

      fresh_next : (other : List ℕ) → is_among gone other ≡ false → (own : Bool) →
          is_accepted_of_batch other (paired (advance at batch) (Waiting why)) ≡ own →
          start_by (cond own (paired (advance at batch) (Waiting why) ∷ past_of_batch other whole)
          (past_of_batch other whole)) ≡ None →
          (cond own (paired (advance at batch) (Waiting why) ∷ past_of_batch other whole)
          (past_of_batch other whole) ≡ []) × (past_of_batch other less ≡ [])
      fresh_next other out false is unstarted = running.fresh other out unstarted
      fresh_next other out true is unstarted =
          begun whole (advance at batch) other (and_parts (is_batch other (of_batch batch)) true is).0 none unstarted

      started_next : (other : List ℕ) (own : Bool) → is_some (start_of whole other) ≡ true →
          is_some (start_by (cond own (paired (advance at batch) (Waiting why) ∷ past_of_batch other whole)
          (past_of_batch other whole))) ≡ true
      started_next other true is = is
      started_next other false is = is

      closed_next : (other : List ℕ) (own : Bool) → is_some (outcome_of whole other) ≡ true →
          is_some (outcome_by (cond own (paired (advance at batch) (Waiting why) ∷ past_of_batch other whole)
          (past_of_batch other whole))) ≡ true
      closed_next other true is = is
      closed_next other false is = is

  -- so does each of both that is accepted
  alike_quiet : (event : PlainEvent) (answer : Answer) → (is_wait (paired event answer) || is_desk event) ≡ true →
      NoneHolds (rules whole event) → AnswersAlike gone (paired event answer ∷ whole) less
  alike_quiet (desk at tag service command) answer is none = alike_desk at tag service command answer none
  alike_quiet (advance at batch) (Waiting why) is none = alike_wait at batch why none
  alike_quiet _ _ is none = cc

-- each entry that is silent leaves both plants alike
alike_silent : (gone : List (List ℕ)) (whole less : History) → AnswersAlike gone whole less → (event : PlainEvent) →
    is_silent (entry_of whole event) ≡ true → AnswersAlike gone (recorded (entry_of whole event) whole) less
alike_silent gone whole less alike event silent =
    which (is_recorded (answer_of whole event)) (is_accepted (answer_of whole event)) refl silent
  where
    which : (kept accepted : Bool) → is_accepted (answer_of whole event) ≡ accepted →
        (not accepted || (is_wait (entry_of whole event) || is_desk event)) ≡ true →
        AnswersAlike gone (cond kept (entry_of whole event ∷ whole) whole) less
    which false accepted is silent = alike
    which true false is silent = alike_unchanged gone whole less (entry_of whole event ∷ whole) less alike
        (unchanged_refused (entry_of whole event) whole is) (unchanged_self less)
        (let before = alike.running.fewer in omega arith)
    which true true is silent =
        alike_quiet gone whole less alike event (answer_of whole event) silent (accepted_none whole event is)

-- no batch is among none
pub none_gone : (of : Subject) → is_of [] [] of ≡ false
none_gone (of_module tag) = refl
none_gone (of_batch batch) = refl
none_gone (of_recipe name) = refl

-- a refused answer's entry is silent
full_silent : (entry : PlainEntry) → is_refused_as_full entry.answer ≡ true → is_silent entry ≡ true
full_silent entry is = rw (full_refused entry.answer is)

module _ (drops : PlainEntry → Bool) (silent : (entry : PlainEntry) → drops entry ≡ true → is_silent entry ≡ true) where
  -- whether the entry is left out
  abbrev goes : PlainEntry → Bool
  goes entry = drops entry || is_refused_as_full entry.answer

  -- what is left out is silent
  goes_silent : (entry : PlainEntry) → goes entry ≡ true → is_silent entry ≡ true
  goes_silent entry is = which (drops entry) refl is
    where
      which : (dropped : Bool) → drops entry ≡ dropped → (dropped || is_refused_as_full entry.answer) ≡ true →
          is_silent entry ≡ true
      which true found is = silent entry found
      which false found is = full_silent entry is

  -- from two plants that are alike on: what stays runs by itself, and leaves a plant that is alike
  runs_without : (events : List PlainEvent) (whole less : History) → AnswersAlike [] whole less →
      (run_after less (map (λ entry. entry.event) (filter (λ entry. not (goes entry)) (run_after whole events)))
      ≡ filter (λ entry. not (goes entry)) (run_after whole events))
      × AnswersAlike [] (history_after whole events)
      (recorded_all less (filter (λ entry. not (goes entry)) (run_after whole events)))
  runs_without [] whole less alike = (refl, alike)
  runs_without (event ∷ events) whole less alike =
      go (goes (entry_of whole event)) refl
      (λ after alike_then. runs_without events (recorded (entry_of whole event) whole) after alike_then)
    where
      rest : List PlainEntry
      rest = filter (λ entry. not (goes entry)) (run_after (recorded (entry_of whole event) whole) events)

      go : (out : Bool) → goes (entry_of whole event) ≡ out →
          ((after : History) → AnswersAlike [] (recorded (entry_of whole event) whole) after →
          (run_after after (map (λ entry. entry.event) rest) ≡ rest)
          × AnswersAlike [] (history_after (recorded (entry_of whole event) whole) events) (recorded_all after rest)) →
          (run_after less (map (λ entry. entry.event) (kept_before (not out) (entry_of whole event) rest))
          ≡ kept_before (not out) (entry_of whole event) rest)
          × AnswersAlike [] (history_after (recorded (entry_of whole event) whole) events)
          (recorded_all less (kept_before (not out) (entry_of whole event) rest))
      go true is later = later less (alike_silent [] whole less alike event (goes_silent (entry_of whole event) is))
      go false is later =
          let own = (or_parts (drops (entry_of whole event)) (is_refused_as_full (answer_of whole event)) is).1 in
          let after = later (recorded (entry_of whole event) less) (alike_kept [] whole less alike event
          (rw (none_gone (subject event)) own)) in (
            ap (λ entry. entry ∷ run_after (recorded entry less) (map (λ entry. entry.event) rest))
                (ap (paired event) (alike_answered [] whole less alike event (none_gone (subject event)) own))
                ∙ ap (λ entries. entry_of whole event ∷ entries) after.0,
            after.1,
          )

-- any of them may be left out
pub silent_left_out : SilentMayBeLeftOut
silent_left_out drops silent events = (runs_without drops silent events [] [] alike_empty).0

-- and the plant without them is alike
pub silent_alike : (drops : PlainEntry → Bool) →
    ((entry : PlainEntry) → drops entry ≡ true → is_silent entry ≡ true) → (events : List PlainEvent) →
    AnswersAlike [] (history_after [] events) (recorded_all [] (entries_unless drops events))
silent_alike drops silent events = (runs_without drops silent events [] [] alike_empty).1
