-- Whatever comes later, two plants that are alike answer alike.
use Rattle.std.proofs.Common.{◌≡◌, ℕ, ◌≤◌, Bool, true, false, cond, not, List, [], ◌∷◌, length, map, refl, ap, sym, ◌∙◌}
use Rattle.std.proofs.Common.{Option, Some, None, is_some, arith}
use Rattle.std.specs.Prelude.{filter, ◌||◌}
use Rattle.std.proofs.lemmas.Bool.{or_parts}
use Rattle.pol_events.specs.Events.{PlainEvent, start, advance, freeze, thaw, stop_batch, abandon, PlainEntry}
use Rattle.pol_events.specs.declared.answer.Rule.TheVariants.{HistoryFull}
use Rattle.pol_events.specs.declared.answer.Answer.{Answer}
use Rattle.pol_events.specs.declared.answer.Answer.TheVariants.{Refused}
use Rattle.pol_history.specs.Looking.{History, subject, is_accepted, past, past_of_batch, recipes}
use Rattle.pol_history.specs.Modules.{present_tags}
use Rattle.pol_history.specs.Batches.{start_of, outcome_of, chart_named, holder_of, watchers_of, is_start, batches}
use Rattle.pol_history.specs.Answers.{rules, answer_of}
use Rattle.pol_history.specs.Runs.{entry_of, is_recorded, recorded, recorded_all, run_after, history_after}
use Rattle.pol_history.proofs.Accepted.{NoneHolds, accepted_none, accepted_otherwise, paired}
use Rattle.pol_history.proofs.Refused.{refused_nothing, starts_refused}
use Rattle.mtp_codes.specs.Names.{is_among}
use Rattle.pol_removal.specs.Removal.{is_of}
use Rattle.pol_compaction.specs.Alike.{BatchesAlike, AnswersAlike, is_refused_as_full, is_passed, later_entries}
use Rattle.pol_compaction.specs.Alike.{LaterAnswersAlike}
use Rattle.pol_compaction.specs.Compaction.{kept_before}
use Rattle.pol_compaction.proofs.Answering.{alike_answered}
use Rattle.pol_compaction.proofs.Keeping.{start_new, batch_open, alike_after}

-- what a history is found to be stays
pub record Unchanged (before after : History) : Type 0 where
  modules : (tag : List ℕ) → past tag after ≡ past tag before
  batch_pasts : (batch : List ℕ) → past_of_batch batch after ≡ past_of_batch batch before
  same_recipes : recipes after ≡ recipes before
  holders : (tag : List ℕ) → holder_of after tag ≡ holder_of before tag
  watchers : (tag : List ℕ) → watchers_of after tag ≡ watchers_of before tag
  present : present_tags after ≡ present_tags before
  starts : filter is_start after ≡ filter is_start before
  listed : batches after ≡ batches before

-- nothing happened
pub unchanged_self : (history : History) → Unchanged history history
unchanged_self history = record {
  modules = λ tag. refl;
  batch_pasts = λ batch. refl;
  same_recipes = refl;
  holders = λ tag. refl;
  watchers = λ tag. refl;
  present = refl;
  starts = refl;
  listed = refl;
}

-- an event was refused
pub unchanged_refused : (entry : PlainEntry) (history : History) → is_accepted entry.answer ≡ false →
    Unchanged history (entry ∷ history)
unchanged_refused entry history refused =
    let nothing = refused_nothing entry history refused in
    record {
      modules = nothing.modules;
      batch_pasts = nothing.batch_pasts;
      same_recipes = nothing.recipes;
      holders = nothing.holders;
      watchers = nothing.watchers;
      present = nothing.present;
      starts = starts_refused entry history refused;
      listed = nothing.batches;
    }

-- plants that are alike stay so where both stay as they are found to be
pub alike_unchanged : (gone : List (List ℕ)) (whole less after_whole after_less : History) →
    AnswersAlike gone whole less → Unchanged whole after_whole → Unchanged less after_less →
    length after_less ≤ length after_whole →
    AnswersAlike gone after_whole after_less
alike_unchanged gone whole less after_whole after_less alike one other fewer = record {
  running = record {
    batches = λ batch out. rw (one.batch_pasts batch, other.batch_pasts batch) (running.batches batch out);
    fresh = λ batch out. rw (one.batch_pasts batch, other.batch_pasts batch) (running.fresh batch out);
    started = λ batch inside. rw (one.batch_pasts batch) (running.started batch inside);
    closed = λ batch inside. rw (one.batch_pasts batch) (running.closed batch inside);
    same_recipes = other.same_recipes ∙ running.same_recipes ∙ sym one.same_recipes;
    holders = λ tag. other.holders tag ∙ running.holders tag ∙ sym (one.holders tag);
    watchers = λ tag. other.watchers tag ∙ running.watchers tag ∙ sym (one.watchers tag);
    fewer_starts = rw (other.starts, one.starts) running.fewer_starts;
    fewer = fewer;
    listed = other.listed ∙ running.listed
        ∙ sym (ap (filter (λ batch. not (is_among gone batch))) one.listed);
  };
  modules = λ tag. rw (one.modules tag, other.modules tag) (alike.modules tag);
  same_tags = other.present ∙ alike.same_tags ∙ sym one.present;
}
  where
    running : BatchesAlike gone whole less
    running = alike.running

-- an answer that is refused as full is refused
pub full_refused : (answer : Answer) → is_refused_as_full answer ≡ true → is_accepted answer ≡ false
full_refused (Refused rule) is = refl
full_refused _ is = cc

-- and one that isn't is recorded
own_recorded : (answer : Answer) → is_refused_as_full answer ≡ false → is_recorded answer ≡ true
own_recorded (Refused HistoryFull) own = cc
own_recorded _ own = refl

-- nothing can't be something
nothing_there : {A B : Type 0} (found : Option A) → found ≡ None → is_some found ≡ true → B
nothing_there None is there = cc
nothing_there (Some x) is there = cc

-- what a test that passes for a batch shows of an accepted event of it
gone_clash : {A : Type 0} (gone : List (List ℕ)) (whole less : History) → AnswersAlike gone whole less →
    (event : PlainEvent) → is_of [] gone (subject event) ≡ true → NoneHolds (rules whole event) → A
gone_clash gone whole less alike (start at batch name binds) inside none =
    nothing_there (start_of whole batch)
    (start_new whole batch binds (chart_named name (recipes whole)) none) (alike.running.started batch inside)
gone_clash gone whole less alike (advance at batch) inside none =
    nothing_there (outcome_of whole batch) (batch_open whole (advance at batch) batch refl refl none)
    (alike.running.closed batch inside)
gone_clash gone whole less alike (freeze at batch hold) inside none =
    nothing_there (outcome_of whole batch) (batch_open whole (freeze at batch hold) batch refl refl none)
    (alike.running.closed batch inside)
gone_clash gone whole less alike (thaw at batch) inside none =
    nothing_there (outcome_of whole batch) (batch_open whole (thaw at batch) batch refl refl none)
    (alike.running.closed batch inside)
gone_clash gone whole less alike (stop_batch at batch) inside none =
    nothing_there (outcome_of whole batch) (batch_open whole (stop_batch at batch) batch refl refl none)
    (alike.running.closed batch inside)
gone_clash gone whole less alike (abandon at batch) inside none =
    nothing_there (outcome_of whole batch) (batch_open whole (abandon at batch) batch refl refl none)
    (alike.running.closed batch inside)
gone_clash gone whole less alike _ inside none = cc

-- an event of a forgotten batch is refused
gone_refused : (gone : List (List ℕ)) (whole less : History) → AnswersAlike gone whole less → (event : PlainEvent) →
    is_of [] gone (subject event) ≡ true → is_accepted (answer_of whole event) ≡ false
gone_refused gone whole less alike event inside = go (is_accepted (answer_of whole event)) refl
  where
    go : (accepted : Bool) → is_accepted (answer_of whole event) ≡ accepted →
        is_accepted (answer_of whole event) ≡ false
    go false is = is
    go true is = gone_clash gone whole less alike event inside (accepted_none whole event is)

-- and so is all that is passed
passed_refused : (gone : List (List ℕ)) (whole less : History) → AnswersAlike gone whole less → (event : PlainEvent) →
    is_passed gone (entry_of whole event) ≡ true → is_accepted (answer_of whole event) ≡ false
passed_refused gone whole less alike event passed = go (is_of [] gone (subject event)) refl passed
  where
    go : (inside : Bool) → is_of [] gone (subject event) ≡ inside →
        (inside || is_refused_as_full (answer_of whole event)) ≡ true → is_accepted (answer_of whole event) ≡ false
    go true is passed = gone_refused gone whole less alike event is
    go false is passed = full_refused (answer_of whole event) passed

-- after it both plants are alike
pub alike_passed : (gone : List (List ℕ)) (whole less : History) → AnswersAlike gone whole less → (event : PlainEvent) →
    is_passed gone (entry_of whole event) ≡ true → AnswersAlike gone (recorded (entry_of whole event) whole) less
alike_passed gone whole less alike event passed = go (is_recorded (answer_of whole event))
  where
    go : (kept : Bool) → AnswersAlike gone (cond kept (entry_of whole event ∷ whole) whole) less
    go false = alike
    go true = alike_unchanged gone whole less (entry_of whole event ∷ whole) less alike
        (unchanged_refused (entry_of whole event) whole (passed_refused gone whole less alike event passed))
        (unchanged_self less) (let before = alike.running.fewer in omega arith)

-- what isn't passed names no forgotten batch, and isn't refused as full
pub kept_parts : (gone : List (List ℕ)) (entry : PlainEntry) → is_passed gone entry ≡ false →
    (is_of [] gone (subject entry.event) ≡ false) × (is_refused_as_full entry.answer ≡ false)
kept_parts gone entry is = or_parts (is_of [] gone (subject entry.event)) (is_refused_as_full entry.answer) is

-- after an event that isn't passed both plants are alike
pub alike_kept : (gone : List (List ℕ)) (whole less : History) → AnswersAlike gone whole less → (event : PlainEvent) →
    is_passed gone (entry_of whole event) ≡ false →
    AnswersAlike gone (recorded (entry_of whole event) whole) (recorded (entry_of whole event) less)
alike_kept gone whole less alike event kept =
    rw (own_recorded (answer_of whole event) (kept_parts gone (entry_of whole event) kept).1)
    (go (is_accepted (answer_of whole event)) refl)
  where
    go : (accepted : Bool) → is_accepted (answer_of whole event) ≡ accepted →
        AnswersAlike gone (entry_of whole event ∷ whole) (entry_of whole event ∷ less)
    go true is = alike_after gone whole less alike event (answer_of whole event) (accepted_otherwise whole event is) is
        (kept_parts gone (entry_of whole event) kept).0 (accepted_none whole event is)
    go false is = alike_unchanged gone whole less (entry_of whole event ∷ whole) (entry_of whole event ∷ less) alike
        (unchanged_refused (entry_of whole event) whole is) (unchanged_refused (entry_of whole event) less is)
        (let before = alike.running.fewer in omega arith)

-- whatever comes later: what isn't passed is answered alike, and leaves plants that are alike
pub later_runs : (gone : List (List ℕ)) (whole less : History) → AnswersAlike gone whole less →
    (later : List PlainEvent) →
    (run_after less (map (λ entry. entry.event) (later_entries gone (run_after whole later)))
    ≡ later_entries gone (run_after whole later))
    × AnswersAlike gone (history_after whole later)
    (recorded_all less (later_entries gone (run_after whole later)))
later_runs gone whole less alike [] = (refl, alike)
later_runs gone whole less alike (event ∷ events) =
    go (is_passed gone (entry_of whole event)) refl
    (λ after alike_then. later_runs gone (recorded (entry_of whole event) whole) after alike_then events)
  where
    rest : List PlainEntry
    rest = later_entries gone (run_after (recorded (entry_of whole event) whole) events)

    go : (passed : Bool) → is_passed gone (entry_of whole event) ≡ passed →
        ((after : History) → AnswersAlike gone (recorded (entry_of whole event) whole) after →
        (run_after after (map (λ entry. entry.event) rest) ≡ rest)
        × AnswersAlike gone (history_after (recorded (entry_of whole event) whole) events) (recorded_all after rest)) →
        (run_after less (map (λ entry. entry.event) (kept_before (not passed) (entry_of whole event) rest))
        ≡ kept_before (not passed) (entry_of whole event) rest)
        × AnswersAlike gone (history_after (recorded (entry_of whole event) whole) events)
        (recorded_all less (kept_before (not passed) (entry_of whole event) rest))
    go true is later = later less (alike_passed gone whole less alike event is)
    go false is later =
        let parts = kept_parts gone (entry_of whole event) is in
        let after = later (recorded (entry_of whole event) less) (alike_kept gone whole less alike event is) in (
          ap (λ entry. entry ∷ run_after (recorded entry less) (map (λ entry. entry.event) rest))
              (ap (paired event) (alike_answered gone whole less alike event parts.0 parts.1))
              ∙ ap (λ entries. entry_of whole event ∷ entries) after.0,
          after.1,
        )

-- so whatever comes later is answered alike
pub later_alike : LaterAnswersAlike
later_alike gone whole less alike later = (later_runs gone whole less alike later).0
