-- The way through the entries that last: those that stay, run by themselves, are answered as they were, and leave a
-- plant that is alike.
use Rattle.std.proofs.Common.{◌≡◌, ℕ, Bool, true, false, cond, not, List, [], ◌∷◌, map, refl, ap, sym, ◌∙◌, inl, inr}
use Rattle.std.proofs.Common.{subst}
use Rattle.std.specs.Prelude.{◌&&◌, ◌||◌, filter}
use Rattle.std.specs.Str.{bytes_eq}
use Rattle.std.proofs.Math.Path.{fun_ext}
use Rattle.mtp_codes.proofs.Names.{same_true, same_refl, apart_back}
use Rattle.pol_events.specs.Events.{PlainEvent, plug, unplug, report, variable, start, advance, exchange_begin}
use Rattle.pol_events.specs.Events.{exchange_end, exchange_cancel, PlainEntry}
use Rattle.pol_events.specs.declared.answer.Answer.{Answer}
use Rattle.pol_history.specs.Looking.{History, subject, is_module, is_accepted, past}
use Rattle.pol_history.specs.Modules.{is_moving, docking_by, control_by, reported, tags_without, present_after}
use Rattle.pol_history.specs.Modules.{present_tags}
use Rattle.pol_history.specs.Runs.{recorded, recorded_all, run_after, IsLegal, IsOrderly}
use Rattle.pol_history.proofs.Accepted.{paired}
use Rattle.pol_history.proofs.Filters.{filter_kept, filter_filter, filter_both, all_of}
use Rattle.pol_compaction.specs.Reading.{is_replacing, replaces, is_replaced, reads, is_read}
use Rattle.pol_compaction.specs.Marks.{marks_of}
use Rattle.pol_compaction.specs.Compaction.{stays_between, kept_before, kept_from}
use Rattle.pol_compaction.specs.Alike.{IsSameModule, BatchesAlike, AnswersAlike}
use Rattle.pol_compaction.proofs.Along.{TellsOn, IsAlong, ModuleAlong, unreplaced, module_apart, own_along}
use Rattle.pol_compaction.proofs.Follows.{IsNext, Follows, accepted_recorded, next_legal, next_orderly, next_free}
use Rattle.pol_compaction.proofs.Follows.{next_otherwise, own_past, apart_past, tells_on}
use Rattle.pol_compaction.proofs.Lists.{filter_all, either}
use Rattle.pol_compaction.proofs.Keeping.{batches_after, batches_left}
use Rattle.pol_compaction.proofs.Again.{Along, kept_answered}
use Rattle.pol_compaction.proofs.Marks.{AreTold}
use Rattle.pol_compaction.proofs.Silent.{none_gone}

-- ---- which tags are there

-- names are the same both ways
same_back : (one other : List ℕ) → bytes_eq one other ≡ bytes_eq other one
same_back one other = go (bytes_eq one other) refl
  where
    go : (same : Bool) → bytes_eq one other ≡ same → bytes_eq one other ≡ bytes_eq other one
    go true is = ap (λ name. bytes_eq one name) (sym (same_true one other is)) ∙ same_refl one
        ∙ sym (ap (λ name. bytes_eq name one) (sym (same_true one other is)) ∙ same_refl one)
    go false apart = apart ∙ sym (apart_back one other apart)

-- a tag stays where it isn't replaced by these
abbrev lasts_in : List PlainEntry → List ℕ → Bool
lasts_in newer tag = not (is_replaced tag newer)

-- without a tag, those that aren't replaced later are those that aren't replaced by its event or later
without_replaced : (tag : List ℕ) (entry : PlainEntry) (newer : List PlainEntry) (tags : List (List ℕ)) →
    ((other : List ℕ) → replaces other entry.event ≡ bytes_eq tag other) →
    filter (lasts_in (entry ∷ newer)) tags ≡ filter (lasts_in newer) (tags_without tag tags)
without_replaced tag entry newer tags is =
    ap (λ test. filter test tags) (fun_ext (λ other.
    ap (λ replaced. not (replaced || is_replaced other newer)) (is other)
    ∙ ap (λ same. not (same || is_replaced other newer)) (same_back tag other)
    ∙ both (bytes_eq other tag) (is_replaced other newer)))
    ∙ filter_both (lasts_in newer) (λ other. not (bytes_eq other tag)) tags
  where
    both : (same replaced : Bool) → not (same || replaced) ≡ (not replaced && not same)
    both true true = refl
    both true false = refl
    both false true = refl
    both false false = refl

-- a tag that was taken out isn't there to be taken out
without_again : (tag : List ℕ) (tags : List (List ℕ)) → tags_without tag (tags_without tag tags) ≡ tags_without tag tags
without_again tag tags = filter_kept (λ other. not (bytes_eq other tag)) (λ other. not (bytes_eq other tag)) tags
    (all_of (λ other. not (bytes_eq other tag) ≡ true → not (bytes_eq other tag) ≡ true) (λ other is. is) tags)

module _ (newer : List PlainEntry) (all kept : List (List ℕ)) where
  -- the tags that are there by what stays are those that last
  abbrev AreThose : List PlainEntry → List (List ℕ) → List (List ℕ) → Type 0
  AreThose entries whole less = less ≡ filter (lasts_in entries) whole

  -- after a plug
  plugged_tags : (tag : List ℕ) (entry : PlainEntry) (stay : Bool) →
      ((other : List ℕ) → replaces other entry.event ≡ bytes_eq tag other) → not (is_replaced tag newer) ≡ stay →
      AreThose (entry ∷ newer) all kept →
      AreThose newer (tag ∷ tags_without tag all) (cond stay (tag ∷ tags_without tag kept) kept)
  plugged_tags tag entry stay is stays those =
      go stay ∙ ap (λ first. cond first (tag ∷ filter (lasts_in newer) (tags_without tag all))
      (filter (lasts_in newer) (tags_without tag all))) (sym stays)
    where
      others : kept ≡ filter (lasts_in newer) (tags_without tag all)
      others = those ∙ without_replaced tag entry newer all is

      without : tags_without tag kept ≡ filter (lasts_in newer) (tags_without tag all)
      without = ap (tags_without tag) others
          ∙ filter_filter (λ other. not (bytes_eq other tag)) (lasts_in newer) (tags_without tag all)
          ∙ ap (filter (lasts_in newer)) (without_again tag all)

      go : (stay : Bool) → cond stay (tag ∷ tags_without tag kept) kept
          ≡ cond stay (tag ∷ filter (lasts_in newer) (tags_without tag all))
          (filter (lasts_in newer) (tags_without tag all))
      go true = ap (λ tags. tag ∷ tags) without
      go false = others

  -- after an event that replaces no module
  same_tags : (entry : PlainEntry) → is_replacing entry.event ≡ false → AreThose (entry ∷ newer) all kept →
      AreThose newer all kept
  same_tags entry still those =
      those ∙ ap (λ test. filter test all) (fun_ext (λ tag. ap not (unreplaced tag entry newer still)))

-- a test beside one that passes
right_true : (test : Bool) → (test && true) ≡ test
right_true true = refl
right_true false = refl

-- ---- one entry

-- what is along stays so where it is the same
along_same : (whole : History) (tag : List ℕ) (newer : List PlainEntry) (was_read read_then : Bool)
    (all all_then kept kept_then : History) → read_then ≡ was_read → all_then ≡ all → kept_then ≡ kept →
    ModuleAlong whole tag was_read all kept newer → ModuleAlong whole tag read_then all_then kept_then newer
along_same whole tag newer was_read read_then all all_then kept kept_then read_is all_is kept_is along =
    subst (λ found. ModuleAlong whole tag found all_then kept_then newer) (sym read_is)
    (subst (λ found. ModuleAlong whole tag was_read found kept_then newer) (sym all_is)
    (subst (λ found. ModuleAlong whole tag was_read all found newer) (sym kept_is) along))

-- an event of a module reads none
pub own_reads_none : (whole : History) (tag : List ℕ) (event : PlainEvent) → is_module tag (subject event) ≡ true →
    reads whole tag event ≡ false
own_reads_none whole tag (start at batch name binds) own = cc
own_reads_none whole tag (advance at batch) own = cc
own_reads_none whole tag _ own = refl

module _ (whole older kept : History) (event : PlainEvent) (answer : Answer) (newer : List PlainEntry)
    (legal : IsLegal older) (orderly : IsOrderly older) (next : IsNext older (paired event answer))
    (follows : Follows whole (paired event answer ∷ older) newer)
    (along : Along whole older kept (paired event answer ∷ newer)) where
  -- the entry
  abbrev entry : PlainEntry
  entry = paired event answer

  -- what stayed, with it where it stays
  abbrev pub kept_then : Bool → History
  kept_then stay = cond stay (entry ∷ kept) kept

  -- ---- modules

  -- the past of its module, by what stays
  own_kept : (tag : List ℕ) (stay : Bool) → is_module tag (subject event) ≡ true →
      past tag (kept_then stay) ≡ cond stay (entry ∷ past tag kept) (past tag kept)
  own_kept tag true own = own_past kept entry tag own next.accepted
  own_kept tag false own = refl

  -- and of another
  apart_kept : (tag : List ℕ) (stay : Bool) → is_module tag (subject event) ≡ false →
      past tag (kept_then stay) ≡ past tag kept
  apart_kept tag true apart = apart_past kept entry tag apart
  apart_kept tag false apart = refl

  -- what a service told may come before what it tells next
  tells_then : (tag : List ℕ) (past_then : History) → past tag (entry ∷ older) ≡ past_then →
      TellsOn whole tag (past tag older) (past tag kept) newer past_then
  tells_then tag past_then is service =
      subst (λ found. AreTold (control_by service found) (marks_of whole tag (reported service) newer)) is
      (tells_on whole tag service (entry ∷ older) newer follows)

  -- each module after the entry
  module_then : (tag : List ℕ) (stay : Bool) → stays_between whole older newer event ≡ stay →
      ModuleAlong whole tag (is_read whole tag (entry ∷ older)) (past tag (entry ∷ older)) (past tag (kept_then stay))
      newer
  module_then tag stay is = go (is_module tag (subject event)) refl
    where
      go : (own : Bool) → is_module tag (subject event) ≡ own →
          ModuleAlong whole tag (is_read whole tag (entry ∷ older)) (past tag (entry ∷ older))
          (past tag (kept_then stay)) newer
      go false apart =
          along_same whole tag newer (reads whole tag event || is_read whole tag older)
          (is_read whole tag (entry ∷ older)) (past tag older) (past tag (entry ∷ older)) (past tag kept)
          (past tag (kept_then stay))
          (ap (λ own. cond (own && is_moving event) false (reads whole tag event || is_read whole tag older)) apart)
          (apart_past older entry tag apart) (apart_kept tag stay apart)
          (module_apart whole tag (past tag older) (past tag kept) newer (is_read whole tag older) entry apart
          (tells_then tag (past tag older) (apart_past older entry tag apart)) (along.modules tag))
      go true own =
          along_same whole tag newer (cond (is_moving event) false (is_read whole tag older))
          (is_read whole tag (entry ∷ older)) (entry ∷ past tag older) (past tag (entry ∷ older))
          (cond stay (entry ∷ past tag kept) (past tag kept)) (past tag (kept_then stay))
          (ap (λ own. cond (own && is_moving event) false (reads whole tag event || is_read whole tag older)) own
          ∙ ap (λ reading. cond (is_moving event) false (reading || is_read whole tag older))
          (own_reads_none whole tag event own))
          (own_past older entry tag own next.accepted) (own_kept tag stay own)
          (own_along whole older tag (past tag kept) newer event answer own next.heard
          (next_free older entry next) stay is
          (tells_then tag (entry ∷ past tag older) (own_past older entry tag own next.accepted)) (along.modules tag))

  -- ---- batches

  -- an event that goes is of a module
  gone_batches : (each : PlainEvent) → stays_between whole older newer each ≡ false →
      BatchesAlike [] (paired each answer ∷ older) kept
  gone_batches (plug at tag description) is =
      batches_left [] older kept along.running (plug at tag description) answer tag refl
  gone_batches (unplug at tag) is = batches_left [] older kept along.running (unplug at tag) answer tag refl
  gone_batches (report at tag service control) is =
      batches_left [] older kept along.running (report at tag service control) answer tag refl
  gone_batches (variable at tag name value) is =
      batches_left [] older kept along.running (variable at tag name value) answer tag refl
  gone_batches (exchange_begin at tag) is =
      batches_left [] older kept along.running (exchange_begin at tag) answer tag refl
  gone_batches (exchange_end at tag ticket description) is =
      batches_left [] older kept along.running (exchange_end at tag ticket description) answer tag refl
  gone_batches (exchange_cancel at tag ticket) is =
      batches_left [] older kept along.running (exchange_cancel at tag ticket) answer tag refl
  gone_batches _ is = cc

  -- the batches after the entry
  batches_then : (stay : Bool) → stays_between whole older newer event ≡ stay →
      BatchesAlike [] (entry ∷ older) (kept_then stay)
  batches_then true is = batches_after [] older kept along.running event answer (next_otherwise older entry next)
      next.accepted (none_gone (subject event)) (next_free older entry next)
  batches_then false is = gone_batches event is

  -- ---- tags

  -- the tags after the entry
  tags_by : (each : PlainEvent) (stay : Bool) → stays_between whole older newer each ≡ stay →
      present_tags kept ≡ filter (lasts_in (paired each answer ∷ newer)) (present_tags older) →
      cond stay (present_after each true (present_tags kept)) (present_tags kept)
      ≡ filter (lasts_in newer) (present_after each true (present_tags older))
  tags_by (plug at tag description) stay is those =
      plugged_tags newer (present_tags older) (present_tags kept) tag (paired (plug at tag description) answer) stay
      (λ other. right_true (bytes_eq tag other)) is those
  tags_by (unplug at tag) true is those = cc
  tags_by (unplug at tag) false is those =
      those ∙ without_replaced tag (paired (unplug at tag) answer) newer (present_tags older)
      (λ other. right_true (bytes_eq tag other))
  tags_by each stay is those = either (present_tags kept) stay
      ∙ same_tags newer (present_tags older) (present_tags kept) (paired each answer) refl those

  -- the plant after the entry
  pub along_then : (stay : Bool) → stays_between whole older newer event ≡ stay →
      Along whole (entry ∷ older) (kept_then stay) newer
  along_then stay is = record {
    running = batches_then stay is;
    modules = λ tag. module_then tag stay is;
    tags = kept_tags stay ∙ tags_by event stay is along.tags
        ∙ ap (λ accepted. filter (lasts_in newer) (present_after event accepted (present_tags older)))
        (sym next.accepted);
  }
    where
      kept_tags : (stay : Bool) → present_tags (kept_then stay)
          ≡ cond stay (present_after event true (present_tags kept)) (present_tags kept)
      kept_tags true = ap (λ accepted. present_after event accepted (present_tags kept)) next.accepted
      kept_tags false = refl

-- ---- all entries

-- at the end the plants are alike
along_end : (whole older kept : History) → Along whole older kept [] → AnswersAlike [] older kept
along_end whole older kept along = record {
  running = along.running;
  modules = λ tag. go tag ((along.modules tag).lasting refl);
  same_tags = along.tags ∙ filter_all (lasts_in []) (present_tags older)
      (all_of (λ tag. lasts_in [] tag ≡ true) (λ tag. refl) (present_tags older));
}
  where
    go : (tag : List ℕ) → IsAlong whole tag (is_read whole tag older) (past tag older) (past tag kept) [] →
        IsSameModule (past tag older) (past tag kept)
    go tag (inl away) = inl (away.0, ap docking_by away.1)
    go tag (inr looks) = inr (record { stands = looks.stands; control = looks.control; value = looks.value })

-- an accepted entry is recorded
pub recorded_next : (history : History) (entry : PlainEntry) → is_accepted entry.answer ≡ true →
    recorded entry history ≡ entry ∷ history
recorded_next history entry accepted =
    ap (λ kept. cond kept (entry ∷ history) history) (accepted_recorded entry.answer accepted)

-- what stays of the entries to come, run after what stayed so far, is answered as it was, and leaves a plant that is
-- alike
pub walk : (whole older kept : History) (newer : List PlainEntry) → IsLegal older → IsOrderly older →
    Follows whole older newer → Along whole older kept newer →
    (run_after kept (map (λ (entry : PlainEntry). entry.event) (kept_from whole older newer))
    ≡ kept_from whole older newer)
    × AnswersAlike [] (recorded_all older newer) (recorded_all kept (kept_from whole older newer))
walk whole older kept [] legal orderly follows along = (refl, along_end whole older kept along)
walk whole older kept (entry ∷ newer) legal orderly (next, follows) along =
    go (stays_between whole older newer entry.event) refl
    (λ after along_after. walk whole (entry ∷ older) after newer (next_legal older entry legal next)
    (next_orderly older entry orderly next) follows along_after)
  where
    rest : List PlainEntry
    rest = kept_from whole (entry ∷ older) newer

    go : (stay : Bool) → stays_between whole older newer entry.event ≡ stay →
        ((after : History) → Along whole (entry ∷ older) after newer →
        (run_after after (map (λ (entry : PlainEntry). entry.event) rest) ≡ rest)
        × AnswersAlike [] (recorded_all (entry ∷ older) newer) (recorded_all after rest)) →
        (run_after kept (map (λ (entry : PlainEntry). entry.event) (kept_before stay entry rest))
        ≡ kept_before stay entry rest)
        × AnswersAlike [] (recorded_all older (entry ∷ newer)) (recorded_all kept (kept_before stay entry rest))
    go stay is later = which stay is
        (later (cond stay (entry ∷ kept) kept)
        (along_then whole older kept entry.event entry.answer newer legal orderly next follows along stay is))
      where
        which : (stay : Bool) → stays_between whole older newer entry.event ≡ stay →
            (run_after (cond stay (entry ∷ kept) kept) (map (λ (entry : PlainEntry). entry.event) rest) ≡ rest)
            × AnswersAlike [] (recorded_all (entry ∷ older) newer)
            (recorded_all (cond stay (entry ∷ kept) kept) rest) →
            (run_after kept (map (λ (entry : PlainEntry). entry.event) (kept_before stay entry rest))
            ≡ kept_before stay entry rest)
            × AnswersAlike [] (recorded_all older (entry ∷ newer)) (recorded_all kept (kept_before stay entry rest))
        which true is then = (
          ap (λ newest. newest ∷ run_after (recorded newest kept) (map (λ (entry : PlainEntry). entry.event) rest))
              (ap (paired entry.event)
              (kept_answered whole older kept entry.event entry.answer newer legal orderly next follows along is))
              ∙ ap (λ before. entry ∷ run_after before (map (λ (entry : PlainEntry). entry.event) rest))
              (recorded_next kept entry next.accepted)
              ∙ ap (λ entries. entry ∷ entries) then.0,
          subst (λ before. AnswersAlike [] (recorded_all before newer) (recorded_all kept (entry ∷ rest)))
              (sym (recorded_next older entry next.accepted))
              (subst (λ before. AnswersAlike [] (recorded_all (entry ∷ older) newer) (recorded_all before rest))
              (sym (recorded_next kept entry next.accepted)) then.1),
        )
        which false is then = (
          then.0,
          subst (λ before. AnswersAlike [] (recorded_all before newer) (recorded_all kept rest))
              (sym (recorded_next older entry next.accepted)) then.1,
        )
