-- Compacting once more after later events is compacting them all.
use Rattle.std.proofs.Common.{◌≡◌, ℕ, Bool, true, false, cond, not, List, [], ◌∷◌, ◌++◌, map, reverse, refl, ap, sym}
use Rattle.std.proofs.Common.{◌∙◌, inl, Option, Some, None, is_none, subst}
use Rattle.std.specs.Prelude.{◌&&◌, ◌||◌, filter}
use Rattle.std.specs.List.{AllByRecursion}
use Rattle.std.proofs.lemmas.List.Elements.{filter-append}
use Rattle.mtp_codes.specs.Names.{is_among}
use Rattle.chart_core.specs.declared.next.Outcome.{Outcome}
use Rattle.pol_events.specs.Events.{PlainEvent, advance, PlainEntry}
use Rattle.pol_events.specs.Orderly.{is_orderly}
use Rattle.pol_events.specs.Bound.{tags_of}
use Rattle.pol_events.specs.declared.answer.Answer.{Answer}
use Rattle.pol_events.specs.declared.answer.Answer.TheVariants.{Refused}
use Rattle.pol_history.specs.Looking.{History, Subject, of_module, of_batch, of_recipe, subject, is_module, is_accepted}
use Rattle.pol_history.specs.Batches.{Started, start_by, start_of, outcome_of}
use Rattle.pol_history.specs.Rules.{no_batch}
use Rattle.pol_history.specs.Answers.{rules, answer_of}
use Rattle.pol_history.specs.Runs.{entry_of, is_recorded, recorded, recorded_all, run_after, run_of, history_after}
use Rattle.pol_history.specs.Runs.{IsLegal, IsOrderly, AreOrderly}
use Rattle.pol_history.proofs.Accepted.{NoneHolds, accepted_none, accepted_otherwise, paired}
use Rattle.pol_history.proofs.Filters.{filter_kept, all_of}
use Rattle.pol_history.proofs.Legal.{legal_after, orderly_after}
use Rattle.pol_history.proofs.Open.{open_before}
use Rattle.pol_history.proofs.Refused.{refused_nothing}
use Rattle.pol_record.proofs.Appending.{history_after_append}
use Rattle.pol_safety.proofs.Starts.{start_stays}
use Rattle.pol_removal.specs.Removal.{is_of}
use Rattle.pol_removal.proofs.Each.{all_map}
use Rattle.pol_compaction.specs.Lasting.{is_desk, is_wait, closed_batches, is_closed_batch, is_lasting}
use Rattle.pol_compaction.specs.Reading.{started_binds, reads}
use Rattle.pol_compaction.specs.Compaction.{kept_from, compacted, compacted_events}
use Rattle.pol_compaction.specs.Alike.{AnswersAlike, is_refused_as_full, is_passed}
use Rattle.pol_compaction.specs.Alone.{lasting}
use Rattle.pol_compaction.specs.Law.{entries_after, OnceMoreIsAtOnce}
use Rattle.pol_compaction.proofs.Agreeing.{not_some, filtered}
use Rattle.pol_compaction.proofs.Again.{not_parts}
use Rattle.pol_compaction.proofs.Closed.{of_closed}
use Rattle.pol_compaction.proofs.Follows.{EndsOpen, Follows, accepted_recorded, next_legal, next_orderly, next_free}
use Rattle.pol_compaction.proofs.Follows.{ends_open}
use Rattle.pol_compaction.proofs.Later.{later_runs}
use Rattle.pol_compaction.proofs.Law.{lasting_parts, lasting_reversed, all_last, follows, compacted_is, answered_again}
use Rattle.pol_compaction.proofs.Law.{all_alike}
use Rattle.pol_compaction.proofs.More.{IsOld}
use Rattle.pol_compaction.proofs.Once.{once}
use Rattle.pol_compaction.proofs.Settled.{all_stay}

-- ---- lists

-- what holds of all of both lists
all_both : {X : Type 0} (P : X → Type 0) (xs ys : List X) → AllByRecursion P xs → AllByRecursion P ys →
    AllByRecursion P (xs ++ ys)
all_both P [] ys ones others = others
all_both P (x ∷ xs) ys ones others = (ones.0, all_both P xs ys ones.1 others)

-- two tests that agree on all
filter_agree : {X : Type 0} (one other : X → Bool) (xs : List X) → AllByRecursion (λ x. one x ≡ other x) xs →
    filter one xs ≡ filter other xs
filter_agree one other [] all = refl
filter_agree one other (x ∷ xs) all =
    ap (λ kept. cond kept (x ∷ filter one xs) (filter one xs)) all.0
    ∙ ap (λ others. cond (other x) (x ∷ others) others) (filter_agree one other xs all.1)

-- the run of both lists of events
run_both : (history : History) (events others : List PlainEvent) →
    run_after history (events ++ others) ≡ run_after history events ++ run_after (history_after history events) others
run_both history [] others = refl
run_both history (event ∷ events) others = ap (λ entries. entry_of history event ∷ entries)
    (run_both (recorded (entry_of history event) history) events others)

-- ---- batches

-- a batch that is open was open before
open_back : (batch : List ℕ) (entries : List PlainEntry) (history : History) →
    outcome_of (recorded_all history entries) batch ≡ None → outcome_of history batch ≡ None
open_back batch [] history is = is
open_back batch (entry ∷ entries) history is =
    go (is_recorded entry.answer) (open_back batch entries (recorded entry history) is)
  where
    go : (kept : Bool) → outcome_of (cond kept (entry ∷ history) history) batch ≡ None → outcome_of history batch ≡ None
    go true now = open_before history entry batch now
    go false now = now

-- a batch that was started stays so
started_on : (batch : List ℕ) (started : Started) (later : List PlainEvent) (history : History) → IsLegal history →
    IsOrderly history → AreOrderly later → start_of history batch ≡ Some started →
    start_of (history_after history later) batch ≡ Some started
started_on batch started [] history legal orderly later_orderly is = is
started_on batch started (event ∷ later) history legal orderly later_orderly is =
    started_on batch started later (recorded (entry_of history event) history)
    (legal_after history (event ∷ []) legal) (orderly_after history (event ∷ []) orderly (later_orderly.0, tt))
    later_orderly.1 (go (is_recorded (answer_of history event)))
  where
    which : (taken : Bool) → is_accepted (answer_of history event) ≡ taken →
        start_of (entry_of history event ∷ history) batch ≡ Some started
    which false refused =
        ap start_by ((refused_nothing (entry_of history event) history refused).batch_pasts batch) ∙ is
    which true taken =
        let same = accepted_otherwise history event taken in
        subst (λ answer. start_of (paired event answer ∷ history) batch ≡ Some started) (sym same)
        (start_stays history event batch started (record {
          legal = legal;
          orderly = orderly;
          is_formed = later_orderly.0;
          free = accepted_none history event taken;
          is_accepted = ap is_accepted (sym same) ∙ taken;
        }) is)

    go : (kept : Bool) → start_of (cond kept (entry_of history event ∷ history) history) batch ≡ Some started
    go true = which (is_accepted (answer_of history event)) refl
    go false = is

-- a batch that was advanced was started
was_started : (started : Option Started) → no_batch started ≡ None → (found : Started) × (started ≡ Some found)
was_started None none = cc
was_started (Some found) none = (found, refl)

-- an event reads the same where its batch was started the same
reads_by_start : (one other : History) (event : PlainEvent) →
    ((batch : List ℕ) → subject event ≡ of_batch batch → (at : ℕ) → event ≡ advance at batch →
    start_of one batch ≡ start_of other batch) → (tag : List ℕ) → reads one tag event ≡ reads other tag event
reads_by_start one other (advance at batch) same tag =
    ap (λ started. is_among (tags_of (started_binds started)) tag) (same batch refl at refl)
reads_by_start one other _ same tag = refl

-- a module is no batch
module_open : (history : History) (tag : List ℕ) (of : Subject) → is_module tag of ≡ true →
    is_closed_batch history of ≡ false
module_open history tag (of_module other) own = refl
module_open history tag (of_batch batch) own = cc
module_open history tag (of_recipe name) own = refl

-- an entry lasts by the one history as by the other where its batch is closed alike
lasts_alike : (one other : History) (entry : PlainEntry) →
    is_closed_batch one (subject entry.event) ≡ is_closed_batch other (subject entry.event) →
    is_lasting one entry ≡ is_lasting other entry
lasts_alike one other entry same =
    ap (λ closed. is_accepted entry.answer && (not (is_wait entry) && (not (is_desk entry.event) && not closed))) same

-- an accepted answer isn't refused as full
accepted_own : (answer : Answer) → is_accepted answer ≡ true → is_refused_as_full answer ≡ false
accepted_own (Refused rule) is = cc
accepted_own _ is = refl

module _ (events later : List PlainEvent) (orderly : AreOrderly events) (later_orderly : AreOrderly later) where
  -- the whole history, and with the later events
  abbrev whole : History
  whole = history_after [] events

  abbrev last : History
  last = history_after whole later

  -- the short one, and with the later entries that aren't passed
  abbrev before : History
  before = history_after [] (compacted_events whole)

  abbrev others : List PlainEntry
  others = entries_after whole later

  abbrev short : History
  short = history_after before (map (λ (entry : PlainEntry). entry.event) others)

  -- what of the later entries lasts
  abbrev behind : List PlainEntry
  behind = filter (is_lasting last) (run_after whole later)

  -- the closed batches
  abbrev gone : List (List ℕ)
  gone = closed_batches whole

  legal : IsLegal whole
  legal = legal_after [] events tt

  in_order : IsOrderly whole
  in_order = orderly_after [] events tt orderly

  -- what comes later, by what stayed
  runs : (run_after before (map (λ (entry : PlainEntry). entry.event) others) ≡ others)
      × AnswersAlike gone last (recorded_all before others)
  runs = later_runs gone whole before (all_alike events orderly) later

  -- both plants are alike
  alike : AnswersAlike gone last short
  alike = subst (λ entries. AnswersAlike gone last (recorded_all before entries)) (sym runs.0) runs.1

  -- ---- what is closed

  -- what isn't closed at the end wasn't before
  closed_before : (of : Subject) → is_closed_batch last of ≡ false → is_closed_batch whole of ≡ false
  closed_before (of_module tag) is = refl
  closed_before (of_recipe name) is = refl
  closed_before (of_batch batch) is =
      ap (λ outcome. not (is_none outcome)) (open_back batch (run_after whole later) whole
      (not_some (outcome_of last batch) (open' (outcome_of last batch) is)))
    where
      open' : (outcome : Option Outcome) → not (is_none outcome) ≡ false → is_none outcome ≡ true
      open' None is = refl
      open' (Some outcome) is = cc

  -- and isn't forgotten
  kept_open : (of : Subject) → is_closed_batch whole of ≡ false → is_of [] gone of ≡ false
  kept_open of is = of_closed whole legal in_order of ∙ is

  -- what isn't forgotten is closed alike
  closed_alike : (of : Subject) → is_of [] gone of ≡ false → is_closed_batch short of ≡ is_closed_batch last of
  closed_alike (of_module tag) out = refl
  closed_alike (of_recipe name) out = refl
  closed_alike (of_batch batch) out = ap (λ outcome. not (is_none outcome)) (alike.running.batches batch out).outcome

  -- what lasts until the end lasted before
  lasted : (entry : PlainEntry) → is_lasting last entry ≡ true → is_lasting whole entry ≡ true
  lasted entry is =
      let open' = (lasting_parts last entry is).2 in
      lasts_alike whole last entry (closed_before (subject entry.event) open' ∙ sym open') ∙ is

  -- ---- what reads the same

  -- what lasts of later reads the same
  same_later : AllByRecursion
      (λ entry. (tag : List ℕ) → reads short tag entry.event ≡ reads last tag entry.event) behind
  same_later = all_map (λ entry. is_lasting last entry ≡ true)
      (λ entry. (tag : List ℕ) → reads short tag entry.event ≡ reads last tag entry.event)
      (λ entry is. reads_by_start short last entry.event
      (λ batch of at event. (alike.running.batches batch (sym (ap (is_of [] gone) of)
      ∙ kept_open (subject entry.event) (closed_before (subject entry.event) (lasting_parts last entry is).2))).start))
      behind (filtered (is_lasting last) (run_after whole later))

  -- and what lasts of before
  all_old : (older : History) (newer : List PlainEntry) → IsLegal older → IsOrderly older → Follows whole older newer →
      AllByRecursion (λ entry. is_lasting whole entry ≡ true) newer → AllByRecursion (IsOld whole last short) newer
  all_old older [] legal_so in_order_so comes lasts = tt
  all_old older (entry ∷ newer) legal_so in_order_so (next, comes) lasts = (
    record {
      last_reads = λ last_is tag. reads_by_start last whole entry.event
          (λ batch of at event. started batch at event) tag;
      short_reads = λ last_is tag. reads_by_start short whole entry.event
          (λ batch of at event. (alike.running.batches batch (sym (ap (is_of [] gone) of)
          ∙ kept_open (subject entry.event) (lasting_parts whole entry lasts.0).2)).start ∙ started batch at event) tag;
      of_module = λ tag own. lasts_alike last whole entry (module_open last tag (subject entry.event) own
          ∙ sym (module_open whole tag (subject entry.event) own)) ∙ lasts.0;
    },
    all_old (entry ∷ older) newer (next_legal older entry legal_so next) (next_orderly older entry in_order_so next)
        comes lasts.1,
  )
    where
      ends : EndsOpen whole older
      ends = ends_open whole older (entry ∷ newer) legal_so in_order_so (next, comes)

      started : (batch : List ℕ) (at : ℕ) → entry.event ≡ advance at batch → start_of last batch ≡ start_of whole batch
      started batch at event =
          let free : NoneHolds (rules older (advance at batch)) =
          subst (λ event. NoneHolds (rules older event)) event (next_free older entry next) in
          let (found, is) = was_started (start_of older batch) free.0 in
          let known = ends.starts batch found is in
          started_on batch found later whole legal in_order later_orderly known ∙ sym known

  -- ---- the entries that last

  -- of the whole history
  last_entries : reverse (filter (is_lasting last) last) ≡ filter (is_lasting last) (lasting events) ++ behind
  last_entries =
      lasting_reversed (is_lasting last) recorded_too (run_after whole later) whole
      ∙ ap (λ entries. entries ++ behind)
      (lasting_reversed (is_lasting last) recorded_too (run_of events) []
      ∙ sym (filter_kept (is_lasting last) (is_lasting whole) (run_of events)
      (all_of (λ entry. is_lasting last entry ≡ true → is_lasting whole entry ≡ true) lasted (run_of events))))
    where
      recorded_too : (entry : PlainEntry) → is_lasting last entry ≡ true → is_recorded entry.answer ≡ true
      recorded_too entry is = accepted_recorded entry.answer (lasting_parts last entry is).0

  -- of what stayed
  short_kept : filter (is_lasting short) (compacted whole)
      ≡ filter (is_lasting last) (kept_from whole [] (lasting events))
  short_kept =
      ap (filter (is_lasting short)) (compacted_is events orderly)
      ∙ filter_agree (is_lasting short) (is_lasting last) (kept_from whole [] (lasting events))
      (all_stay (λ entry. is_lasting short entry ≡ is_lasting last entry) whole [] (lasting events)
      (all_map (λ entry. is_lasting whole entry ≡ true) (λ entry. is_lasting short entry ≡ is_lasting last entry)
      (λ entry is. lasts_alike short last entry (closed_alike (subject entry.event)
      (kept_open (subject entry.event) (lasting_parts whole entry is).2))) (lasting events) (all_last events orderly)))

  -- of the later ones
  short_later : filter (is_lasting short) others ≡ behind
  short_later =
      filter_agree (is_lasting short) (is_lasting last) others
      (all_map (λ entry. not (is_passed gone entry) ≡ true) (λ entry. is_lasting short entry ≡ is_lasting last entry)
      (λ entry is. lasts_alike short last entry (closed_alike (subject entry.event)
      (unpassed (is_of [] gone (subject entry.event)) (is_refused_as_full entry.answer)
      (not_parts (is_passed gone entry) is)))) others
      (filtered (λ entry. not (is_passed gone entry)) (run_after whole later)))
      ∙ filter_kept (is_lasting last) (λ entry. not (is_passed gone entry)) (run_after whole later)
      (all_of (λ entry. is_lasting last entry ≡ true → not (is_passed gone entry) ≡ true)
      (λ entry is. let parts = lasting_parts last entry is in
      ap (λ of. not (of || is_refused_as_full entry.answer))
      (kept_open (subject entry.event) (closed_before (subject entry.event) parts.2))
      ∙ ap not (accepted_own entry.answer parts.0)) (run_after whole later))
    where
      unpassed : (of full : Bool) → (of || full) ≡ false → of ≡ false
      unpassed true full is = is
      unpassed false full is = refl

  -- of the short history
  short_entries : reverse (filter (is_lasting short) short)
      ≡ filter (is_lasting last) (kept_from whole [] (lasting events)) ++ behind
  short_entries =
      ap (λ entries. reverse (filter (is_lasting short) (recorded_all before entries))) runs.0
      ∙ lasting_reversed (is_lasting short) recorded_too others before
      ∙ ap (λ entries. reverse (filter (is_lasting short) (recorded_all [] entries))
      ++ filter (is_lasting short) others) (answered_again events orderly)
      ∙ ap (λ entries. entries ++ filter (is_lasting short) others)
      (lasting_reversed (is_lasting short) recorded_too (compacted whole) [] ∙ short_kept)
      ∙ ap (λ entries. filter (is_lasting last) (kept_from whole [] (lasting events)) ++ entries) short_later
    where
      recorded_too : (entry : PlainEntry) → is_lasting short entry ≡ true → is_recorded entry.answer ≡ true
      recorded_too entry is = accepted_recorded entry.answer (lasting_parts short entry is).0

  -- what lasts of all events follows
  all_follow : Follows last [] (filter (is_lasting last) (lasting events) ++ behind)
  all_follow =
      subst (Follows last []) both_last
      (subst (λ history. Follows history [] (lasting (events ++ later))) (history_after_append [] events later)
      (follows (events ++ later) (all_both (λ event. is_orderly event ≡ true) events later orderly later_orderly)))
    where
      both_last : lasting (events ++ later) ≡ filter (is_lasting last) (lasting events) ++ behind
      both_last =
          ap (λ history. filter (is_lasting history) (run_of (events ++ later))) (history_after_append [] events later)
          ∙ ap (filter (is_lasting last)) (run_both [] events later)
          ∙ filter-append (is_lasting last) (run_of events) (run_after whole later)
          ∙ ap (λ entries. entries ++ behind)
          (sym (filter_kept (is_lasting last) (is_lasting whole) (run_of events)
          (all_of (λ entry. is_lasting last entry ≡ true → is_lasting whole entry ≡ true) lasted (run_of events))))

  -- so once more is at once
  pub at_once : compacted short ≡ compacted last
  at_once =
      ap (kept_from short []) short_entries
      ∙ once whole last short [] [] [] (lasting events) behind (follows events orderly) all_follow
      (all_old [] (lasting events) tt tt (follows events orderly) (all_last events orderly)) same_later
      (λ tag still. inl refl) (λ tag is. cc) (λ tag. refl)
      ∙ sym (ap (kept_from last []) last_entries)

-- compacting once more after later events is compacting them all
pub once_more : OnceMoreIsAtOnce
once_more events later orderly later_orderly = at_once events later orderly later_orderly
