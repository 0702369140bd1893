-- What a compacted history still says: everything.
use Rattle.std.proofs.Common.{◌≡◌, ℕ, Bool, true, false, cond, not, List, [], ◌∷◌, ◌++◌, map, reverse, refl, ap, sym}
use Rattle.std.proofs.Common.{◌∙◌, inl, Some, None, subst, append_assoc, append-nil}
use Rattle.std.specs.Prelude.{◌&&◌, filter}
use Rattle.std.specs.List.{AllByRecursion}
use Rattle.std.specs.Str.{bytes_eq}
use Rattle.std.proofs.lemmas.Bool.{and_parts, both_ways}
use Rattle.std.proofs.lemmas.List.{reverse-append}
use Rattle.mtp_codes.specs.Names.{is_among}
use Rattle.mtp_codes.proofs.Names.{same_true}
use Rattle.pol_events.specs.Events.{PlainEvent, PlainEntry}
use Rattle.pol_events.specs.Orderly.{is_orderly}
use Rattle.pol_history.specs.Looking.{History, Subject, of_module, of_batch, of_recipe, subject, is_batch, is_accepted}
use Rattle.pol_history.specs.Looking.{past_of_batch}
use Rattle.pol_history.specs.Batches.{log_of, Started, start_by, start_of, outcome_by, outcome_of, batches}
use Rattle.pol_history.specs.Runs.{entry_of, is_recorded, recorded, recorded_all, run_after, run_of, history_after}
use Rattle.pol_history.specs.Runs.{AreOrderly}
use Rattle.pol_history.proofs.Legal.{legal_after, orderly_after}
use Rattle.pol_record.specs.Texts.{started_text, batch_text, batch_lines}
use Rattle.pol_removal.specs.Removal.{is_of}
use Rattle.pol_removal.proofs.Each.{all_kept, all_map}
use Rattle.pol_compaction.specs.Lasting.{is_desk, is_wait, closed_batches, is_closed_batch, is_lasting}
use Rattle.pol_compaction.specs.Compaction.{compacted, compacted_events, kept_from}
use Rattle.pol_compaction.specs.Alike.{RunsSame, BatchesAlike, AnswersAlike}
use Rattle.pol_compaction.specs.Alone.{lasting}
use Rattle.pol_compaction.specs.Forgotten.{events_without_closed}
use Rattle.pol_compaction.specs.Law.{entries_after, KeptIsAnsweredAgain, LaterIsAnsweredAlike, LinesStay}
use Rattle.pol_compaction.proofs.Agreeing.{filtered}
use Rattle.pol_compaction.proofs.Alone.{lasting_alone, lasting_alike}
use Rattle.pol_compaction.proofs.Closed.{unforgotten_open, of_closed}
use Rattle.pol_compaction.proofs.Empty.{batches_empty}
use Rattle.pol_compaction.proofs.Follows.{EndsOpen, Follows, accepted_recorded}
use Rattle.pol_compaction.proofs.Forgotten.{alike_forgotten}
use Rattle.pol_compaction.proofs.Lists.{same_head, same_tail}
use Rattle.pol_compaction.proofs.Through.{alike_through}
use Rattle.pol_compaction.proofs.Again.{Along, not_parts}
use Rattle.pol_compaction.proofs.Later.{later_runs, later_alike}
use Rattle.pol_compaction.proofs.Walk.{walk, recorded_next}

-- ---- what lasts

-- an entry that lasts was accepted, is no command, and is of no closed batch
pub lasting_parts : (whole : History) (entry : PlainEntry) → is_lasting whole entry ≡ true →
    (is_accepted entry.answer ≡ true) × (is_desk entry.event ≡ false)
    × (is_closed_batch whole (subject entry.event) ≡ false)
lasting_parts whole entry is =
    let of = is_closed_batch whole (subject entry.event) in
    let first = and_parts (is_accepted entry.answer)
    (not (is_wait entry) && (not (is_desk entry.event) && not of)) is in
    let second = and_parts (not (is_wait entry)) (not (is_desk entry.event) && not of) first.1 in
    let third = and_parts (not (is_desk entry.event)) (not of) second.1 in
    (first.0, not_parts (is_desk entry.event) third.0, not_parts of third.1)

-- the entries that last of a history, the oldest first, are those of the run
pub lasting_reversed : (test : PlainEntry → Bool) →
    ((entry : PlainEntry) → test entry ≡ true → is_recorded entry.answer ≡ true) → (entries : List PlainEntry)
    (history : History) →
    reverse (filter test (recorded_all history entries)) ≡ reverse (filter test history) ++ filter test entries
lasting_reversed test recorded_too [] history = sym (append-nil (reverse (filter test history)))
lasting_reversed test recorded_too (entry ∷ entries) history =
    lasting_reversed test recorded_too entries (recorded entry history)
    ∙ go (is_recorded entry.answer) (test entry) refl refl
  where
    last : List PlainEntry
    last = filter test history

    rest : List PlainEntry
    rest = filter test entries

    go : (kept passes : Bool) → is_recorded entry.answer ≡ kept → test entry ≡ passes →
        reverse (filter test (cond kept (entry ∷ history) history)) ++ rest
        ≡ reverse last ++ cond passes (entry ∷ rest) rest
    go true true kept is =
        ap (λ passes. reverse (cond passes (entry ∷ last) last) ++ rest) is
        ∙ ap (λ entries. entries ++ rest) (reverse-append (entry ∷ []) last)
        ∙ append_assoc (reverse last) (entry ∷ []) rest
    go true false kept is = ap (λ passes. reverse (cond passes (entry ∷ last) last) ++ rest) is
    go false true kept is = let clash : false ≡ true = sym kept ∙ recorded_too entry is in cc
    go false false kept is = refl

-- an event of another batch
other_batch : (gone : List (List ℕ)) (batch : List ℕ) (of : Subject) → is_among gone batch ≡ true →
    is_of [] gone of ≡ false → is_batch batch of ≡ false
other_batch gone batch (of_module tag) inside out = refl
other_batch gone batch (of_recipe name) inside out = refl
other_batch gone batch (of_batch other) inside out = go (bytes_eq other batch) refl
  where
    go : (same : Bool) → bytes_eq other batch ≡ same → bytes_eq other batch ≡ false
    go false apart = apart
    go true same = absurd (both_ways (is_among gone batch)
        (ap (is_among gone) (sym (same_true other batch same)) ∙ out) inside)

-- where no entry is of a batch, its past stays
gone_past : (gone : List (List ℕ)) (batch : List ℕ) → is_among gone batch ≡ true → (entries : List PlainEntry) →
    AllByRecursion (λ entry. is_of [] gone (subject entry.event) ≡ false) entries → (history : History) →
    past_of_batch batch (recorded_all history entries) ≡ past_of_batch batch history
gone_past gone batch inside [] all history = refl
gone_past gone batch inside (entry ∷ entries) all history =
    gone_past gone batch inside entries all.1 (recorded entry history) ∙ go (is_recorded entry.answer)
  where
    go : (kept : Bool) → past_of_batch batch (cond kept (entry ∷ history) history) ≡ past_of_batch batch history
    go true = ap (λ own. cond (own && is_accepted entry.answer) (entry ∷ past_of_batch batch history)
        (past_of_batch batch history)) (other_batch gone batch (subject entry.event) inside all.0)
    go false = refl

-- the events of a run in order are in order
run_orderly : (history : History) (events : List PlainEvent) → AreOrderly events →
    AllByRecursion (λ entry. is_orderly entry.event ≡ true) (run_after history events)
run_orderly history [] orderly = tt
run_orderly history (event ∷ events) orderly =
    (orderly.0, run_orderly (recorded (entry_of history event) history) events orderly.1)

-- entries that run by themselves follow
follows_run : (whole : History) (entries : List PlainEntry) (older : History) →
    run_after older (map (λ entry. entry.event) entries) ≡ entries →
    AllByRecursion (λ entry. is_lasting whole entry ≡ true) entries →
    AllByRecursion (λ entry. is_orderly entry.event ≡ true) entries → EndsOpen whole (recorded_all older entries) →
    Follows whole older entries
follows_run whole [] older run lasts orderly ends = ends
follows_run whole (entry ∷ entries) older run lasts orderly ends = (
  record { answered = sym (ap (λ entry. entry.answer) first); accepted = parts.0; heard = parts.1; formed = orderly.0 },
  follows_run whole entries (entry ∷ older) rest lasts.1 orderly.1
      (subst (λ before. EndsOpen whole (recorded_all before entries)) (recorded_next older entry parts.0) ends),
)
  where
    parts : (is_accepted entry.answer ≡ true) × (is_desk entry.event ≡ false)
        × (is_closed_batch whole (subject entry.event) ≡ false)
    parts = lasting_parts whole entry lasts.0

    later : History → List PlainEntry
    later before = run_after before (map (λ (entry : PlainEntry). entry.event) entries)

    first : entry_of older entry.event ≡ entry
    first = same_head (entry_of older entry.event) entry (later (recorded (entry_of older entry.event) older)) entries
        run

    rest : later (entry ∷ older) ≡ entries
    rest = ap later (sym (ap (λ newest. recorded newest older) first ∙ recorded_next older entry parts.0))
        ∙ same_tail (entry_of older entry.event) entry (later (recorded (entry_of older entry.event) older)) entries run

-- ---- the law

module _ (events : List PlainEvent) (orderly : AreOrderly events) where
  -- the whole history
  abbrev whole : History
  whole = history_after [] events

  -- its closed batches
  abbrev gone : List (List ℕ)
  gone = closed_batches whole

  -- without their events
  abbrev open_history : History
  open_history = history_after [] (events_without_closed events)

  -- what lasts
  abbrev lasting_history : History
  lasting_history = recorded_all [] (lasting events)

  -- each entry that lasts does so
  pub all_last : AllByRecursion (λ entry. is_lasting whole entry ≡ true) (lasting events)
  all_last = filtered (is_lasting whole) (run_of events)

  -- nothing of a closed batch lasts
  gone_empty : (batch : List ℕ) → is_among gone batch ≡ true → past_of_batch batch lasting_history ≡ []
  gone_empty batch inside = gone_past gone batch inside (lasting events)
      (all_map (λ entry. is_lasting whole entry ≡ true) (λ entry. is_of [] gone (subject entry.event) ≡ false)
      (λ entry is. of_closed whole (legal_after [] events tt) (orderly_after [] events tt orderly)
      (subject entry.event) ∙ (lasting_parts whole entry is).2) (lasting events) all_last) []

  -- in what lasts no batch is closed, and each was started as in the whole history
  ends : EndsOpen whole lasting_history
  ends = record {
    opens = λ batch. opens batch (is_among gone batch) refl;
    starts = λ batch started found. starts batch started found (is_among gone batch) refl;
  }
    where
      one : AnswersAlike gone whole open_history
      one = alike_forgotten events orderly

      two : AnswersAlike [] open_history lasting_history
      two = lasting_alike events orderly

      opens : (batch : List ℕ) (inside : Bool) → is_among gone batch ≡ inside → outcome_of lasting_history batch ≡ None
      opens batch true inside = ap outcome_by (gone_empty batch inside)
      opens batch false out = (two.running.batches batch refl).outcome ∙ (one.running.batches batch out).outcome
          ∙ unforgotten_open whole (legal_after [] events tt) (orderly_after [] events tt orderly) batch out

      starts : (batch : List ℕ) (started : Started) → start_of lasting_history batch ≡ Some started →
          (inside : Bool) → is_among gone batch ≡ inside → start_of whole batch ≡ Some started
      starts batch started found true inside =
          let clash : None ≡ Some started = sym (ap start_by (gone_empty batch inside)) ∙ found in cc
      starts batch started found false out =
          sym (one.running.batches batch out).start ∙ sym (two.running.batches batch refl).start ∙ found

  -- so what lasts follows
  pub follows : Follows whole [] (lasting events)
  follows = follows_run whole (lasting events) [] (lasting_alone events orderly) all_last
      (all_map (λ entry. (is_orderly entry.event ≡ true) × (is_lasting whole entry ≡ true))
      (λ entry. is_orderly entry.event ≡ true) (λ entry both. both.0) (lasting events)
      (all_kept (λ entry. is_orderly entry.event ≡ true) (is_lasting whole) (run_of events)
      (run_orderly [] events orderly))) ends

  -- before the first entry all is along
  along_first : Along whole [] [] (lasting events)
  along_first = record {
    running = batches_empty;
    modules = λ tag. record { replaced = λ is. refl; lasting = λ is. inl (refl, refl) };
    tags = refl;
  }

  -- what stays, run by itself, is answered as it was, and leaves a plant that is alike
  walked : (run_after [] (map (λ (entry : PlainEntry). entry.event) (kept_from whole [] (lasting events)))
      ≡ kept_from whole [] (lasting events))
      × AnswersAlike [] lasting_history (recorded_all [] (kept_from whole [] (lasting events)))
  walked = walk whole [] [] (lasting events) tt tt follows along_first

  -- it is what is compacted
  pub compacted_is : compacted whole ≡ kept_from whole [] (lasting events)
  compacted_is = ap (kept_from whole []) (lasting_reversed (is_lasting whole)
      (λ entry is. accepted_recorded entry.answer (lasting_parts whole entry is).0) (run_of events) [])

  -- so that is answered again
  pub answered_again : run_of (compacted_events whole) ≡ compacted whole
  answered_again =
      subst (λ kept. run_of (map (λ (entry : PlainEntry). entry.event) kept) ≡ kept) (sym compacted_is) walked.0

  -- and leaves a plant that is alike
  compacted_alike : AnswersAlike [] lasting_history (history_after [] (compacted_events whole))
  compacted_alike =
      subst (λ kept. AnswersAlike [] lasting_history (recorded_all [] kept)) (sym (answered_again ∙ compacted_is))
      walked.1

  -- so the plants are alike
  pub all_alike : AnswersAlike gone whole (history_after [] (compacted_events whole))
  all_alike =
      alike_through gone whole open_history (history_after [] (compacted_events whole)) (alike_forgotten events orderly)
      (alike_through [] open_history lasting_history (history_after [] (compacted_events whole))
      (lasting_alike events orderly) compacted_alike)

-- the events that stay are answered as they were
pub kept_again : KeptIsAnsweredAgain
kept_again events orderly = answered_again events orderly

-- and whatever comes later is answered alike
pub later_alike_again : LaterIsAnsweredAlike
later_alike_again events later orderly =
    later_alike (closed_batches (history_after [] events)) (history_after [] events)
    (history_after [] (compacted_events (history_after [] events))) (all_alike events orderly) later

-- ---- the lines of batches

-- the line of a batch is the same where it runs the same
line_same : (all less : History) (batch : List ℕ) → RunsSame (past_of_batch batch all) (past_of_batch batch less) →
    batch_text less batch ≡ batch_text all batch
line_same all less batch same =
    ap (λ start. started_text batch start (log_of less batch) (outcome_of less batch)) same.start
    ∙ ap (λ log. started_text batch (start_of all batch) log (outcome_of less batch)) same.log
    ∙ ap (started_text batch (start_of all batch) (log_of all batch)) same.outcome

-- and so are the lines of some
lines_same : (out : List (List ℕ)) (all less : History) → BatchesAlike out all less → (names : List (List ℕ)) →
    AllByRecursion (λ batch. not (is_among out batch) ≡ true) names → batch_lines less names ≡ batch_lines all names
lines_same out all less alike [] outside = refl
lines_same out all less alike (batch ∷ names) outside =
    ap (λ line. line ++ batch_lines less names)
    (line_same all less batch (alike.batches batch (not_parts (is_among out batch) outside.0)))
    ∙ ap (λ lines. batch_text all batch ++ lines) (lines_same out all less alike names outside.1)

-- after whatever comes later
pub lines_alike : LinesStay
lines_alike events later orderly =
    ap (batch_lines less) alike.running.listed
    ∙ lines_same gone_then whole_then less alike.running others
    (filtered (λ batch. not (is_among gone_then batch)) (batches whole_then))
  where
    before : History
    before = history_after [] events

    gone_then : List (List ℕ)
    gone_then = closed_batches before

    short : History
    short = history_after [] (compacted_events before)

    whole_then : History
    whole_then = history_after before later

    less : History
    less = history_after short (map (λ (entry : PlainEntry). entry.event) (entries_after before later))

    others : List (List ℕ)
    others = filter (λ batch. not (is_among gone_then batch)) (batches whole_then)

    runs : (run_after short (map (λ (entry : PlainEntry). entry.event) (entries_after before later))
        ≡ entries_after before later)
        × AnswersAlike gone_then whole_then (recorded_all short (entries_after before later))
    runs = later_runs gone_then before short (all_alike events orderly) later

    alike : AnswersAlike gone_then whole_then less
    alike = subst (λ entries. AnswersAlike gone_then whole_then (recorded_all short entries)) (sym runs.0) runs.1
