-- A plant without its closed batches is alike.
use Rattle.std.proofs.Common.{◌≡◌, ℕ, Bool, true, false, cond, not, List, [], ◌∷◌, map, refl, ap, sym, ◌∙◌, inl, inr}
use Rattle.std.proofs.Common.{Option, Some, None, is_none, subst}
use Rattle.std.specs.Prelude.{filter}
use Rattle.std.specs.List.{AllByRecursion}
use Rattle.std.specs.Option.{option_or}
use Rattle.mtp_codes.specs.Names.{is_among}
use Rattle.pol_events.specs.Events.{PlainEvent, start, PlainEntry}
use Rattle.pol_events.specs.Bound.{tags_of}
use Rattle.pol_history.specs.Looking.{History, is_accepted, last_of, past, past_of_batch}
use Rattle.pol_history.specs.Modules.{present_tags}
use Rattle.pol_history.specs.Batches.{started_batch, outcome_by, outcome_of, taking, takes, if_open, is_open, holder_of}
use Rattle.pol_history.specs.Batches.{watchers_of}
use Rattle.pol_history.specs.Runs.{entry_of, recorded, recorded_all, run_of, history_after, IsLegal, IsOrderly}
use Rattle.pol_history.specs.Runs.{AreOrderly}
use Rattle.pol_history.proofs.Filters.{all_of}
use Rattle.pol_history.proofs.Open.{open_some}
use Rattle.pol_history.proofs.Legal.{legal_after, orderly_after}
use Rattle.pol_safety.proofs.Starts.{unstarted}
use Rattle.pol_removal.specs.Removal.{stays, entries_of_others}
use Rattle.pol_removal.proofs.Alike.{Alike, HolderAlike, alike_without}
use Rattle.pol_removal.proofs.Batches.{batches_stay}
use Rattle.pol_removal.proofs.Bound.{covered_by_none}
use Rattle.pol_removal.proofs.Induction.{batches_removed, dropped, grown}
use Rattle.pol_removal.proofs.Each.{all_map}
use Rattle.pol_removal.proofs.Owned.{Owned, owned_recorded, takes_parts}
use Rattle.pol_removal.proofs.Present.{present_without}
use Rattle.pol_removal.proofs.Sparing.{Covered, newly_started, start_stays}
use Rattle.pol_compaction.specs.Lasting.{closed_batches}
use Rattle.pol_compaction.specs.Alike.{LooksSame, RunsSame, AnswersAlike}
use Rattle.pol_compaction.specs.Forgotten.{events_without_closed, ClosedMayBeForgotten}
use Rattle.pol_compaction.proofs.Agreeing.{not_some, watchers_are_open}
use Rattle.pol_compaction.proofs.Closed.{is_closed, open_not_closed, closed_started}
use Rattle.pol_compaction.proofs.Later.{later_alike}
use Rattle.pol_compaction.proofs.Lists.{filter_all}

-- pasts that are one look the same
looks_equal : (whole less : History) → less ≡ whole → LooksSame whole less
looks_equal whole less is = record {
  stands = record { docking = rw is; dockings = rw is; begins = rw is; description = rw is };
  control = λ service. rw is;
  value = λ name. rw is;
}

-- and run the same
runs_equal : (whole less : History) → less ≡ whole → RunsSame whole less
runs_equal whole less is = record {
  start = rw is;
  outcome = rw is;
  log = rw is;
  frozen = rw is;
  holding = rw is;
  asked = rw is;
}

-- ---- holders

-- what is found last is found without what is left out, where all that says it is kept
last_of_kept : {A : Type 0} (says : PlainEntry → Option A) (keeps : PlainEntry → Bool) (x : A) (entries : History) →
    AllByRecursion (λ entry. says entry ≡ Some x → keeps entry ≡ true) entries →
    last_of says entries ≡ Some x → last_of says (filter keeps entries) ≡ Some x
last_of_kept says keeps x [] all is = cc
last_of_kept {A} says keeps x (entry ∷ entries) all is =
    go (says entry) (keeps entry) refl refl is (last_of_kept says keeps x entries all.1)
  where
    go : (said : Option A) (kept : Bool) → says entry ≡ said → keeps entry ≡ kept →
        option_or said (last_of says entries) ≡ Some x →
        (last_of says entries ≡ Some x → last_of says (filter keeps entries) ≡ Some x) →
        last_of says (cond kept (entry ∷ filter keeps entries) (filter keeps entries)) ≡ Some x
    go None true says_it kept is older = rw says_it (older is)
    go None false says_it kept is older = older is
    go (Some y) true says_it kept is older = rw says_it is
    go (Some y) false says_it kept is older =
        let clash : false ≡ true = sym kept ∙ all.0 (says_it ∙ is) in cc

-- an event that takes a module starts that batch
taking_starts : (tag : List ℕ) (event : PlainEvent) (batch : List ℕ) → taking tag event ≡ Some batch →
    started_batch event ≡ Some batch
taking_starts tag (start at other name binds) batch is = go (is_among (tags_of binds.held) tag) is
  where
    go : (inside : Bool) → cond inside (Some other) None ≡ Some batch → Some other ≡ Some batch
    go true is = is
    go false is = cc
taking_starts tag _ batch is = cc

-- and so does its entry
takes_start : (tag : List ℕ) (entry : PlainEntry) (batch : List ℕ) → takes tag entry ≡ Some batch →
    newly_started entry ≡ Some batch
takes_start tag entry batch is =
    let parts = takes_parts (is_accepted entry.answer) (taking tag entry.event) batch is in
    rw parts.0 (taking_starts tag entry.event batch parts.1)

module _ (history : History) (legal : IsLegal history) (orderly : IsOrderly history)
    (owned : AllByRecursion (Owned history) history) where
  -- the closed batches
  abbrev forgotten : List (List ℕ)
  forgotten = closed_batches history

  -- the history without them
  abbrev less : History
  less = filter (stays [] forgotten) history

  -- what both have in common
  common : Alike [] forgotten history less
  common = alike_without [] forgotten history (covered_by_none forgotten history) owned

  -- the holder of a module is found without the closed batches
  holder_found : (tag batch : List ℕ) → holder_of history tag ≡ Some batch → holder_of less tag ≡ Some batch
  holder_found tag batch is =
      let (found, open') = open_some history (last_of (takes tag) history) batch is in
      let outside = open_not_closed history batch open' in
      ap (if_open less) (last_of_kept (takes tag) (stays [] forgotten) batch history
      (all_map (Covered [] forgotten) (λ entry. takes tag entry ≡ Some batch → stays [] forgotten entry ≡ true)
      (λ entry covers took. start_stays [] forgotten entry covers batch (takes_start tag entry batch took)
      ∙ ap not outside) history (covered_by_none forgotten history)) found)
      ∙ ap (λ outcome. cond (is_none outcome) (Some batch) None)
      (ap outcome_by (common.batch_pasts batch outside) ∙ open')

  -- so the holders are the same
  holders_same : (tag : List ℕ) → holder_of less tag ≡ holder_of history tag
  holders_same tag = go (holder_of history tag) refl (common.holders tag)
    where
      go : (holder : Option (List ℕ)) → holder_of history tag ≡ holder → HolderAlike forgotten history less tag →
          holder_of less tag ≡ holder_of history tag
      go (Some batch) is alike = holder_found tag batch is ∙ sym is
      go None is (inl none) = none ∙ sym is
      go None is (inr (batch, outside, after, before)) = after ∙ sym before

  -- ---- watchers and tags

  -- so the watchers are the same
  watchers_same : (tag : List ℕ) → watchers_of less tag ≡ watchers_of history tag
  watchers_same tag = common.watchers tag
      ∙ filter_all (λ batch. not (is_among forgotten batch)) (watchers_of history tag)
      (all_map (λ batch. is_open history batch ≡ true) (λ batch. not (is_among forgotten batch) ≡ true)
      (λ batch is. ap not (open_not_closed history batch (not_some (outcome_of history batch) is)))
      (watchers_of history tag) (watchers_are_open history tag))

  -- and the tags that are there
  tags_same : present_tags less ≡ present_tags history
  tags_same = present_without [] forgotten history
      ∙ filter_all (λ tag. not (is_among [] tag)) (present_tags history)
      (all_of (λ tag. not (is_among [] tag) ≡ true) (λ tag. refl) (present_tags history))

  -- a plant without its closed batches is alike
  pub forgotten_alike : AnswersAlike forgotten history less
  forgotten_alike = record {
    running = record {
      batches = λ batch out. runs_equal (past_of_batch batch history) (past_of_batch batch less)
          (common.batch_pasts batch out);
      fresh = λ batch out none. let new = unstarted history legal orderly batch none in
          (new, common.batch_pasts batch out ∙ new);
      started = λ batch inside. closed_started history legal orderly batch (is_closed history batch inside);
      closed = λ batch inside. is_closed history batch inside;
      same_recipes = common.same_recipes;
      holders = holders_same;
      watchers = watchers_same;
      fewer_starts = common.fewer_starts;
      fewer = common.fewer;
      listed = batches_stay [] forgotten history (covered_by_none forgotten history);
    };
    modules = λ tag. inr (looks_equal (past tag history) (past tag less) (common.pasts tag refl));
    same_tags = tags_same;
  }

-- ---- runs

-- what a run owns
owned_after : (history : History) (events : List PlainEvent) → AreOrderly events →
    AllByRecursion (Owned history) history →
    AllByRecursion (Owned (history_after history events)) (history_after history events)
owned_after history [] orderly owned = owned
owned_after history (event ∷ events) orderly owned =
    owned_after (recorded (entry_of history event) history) events orderly.1
    (owned_recorded history event orderly.0 owned)

-- the history of the entries that stay is what stays of the history
recorded_kept : (gone : List (List ℕ)) (entries : List PlainEntry) (history : History) →
    recorded_all (filter (stays [] gone) history) (filter (stays [] gone) entries)
    ≡ filter (stays [] gone) (recorded_all history entries)
recorded_kept gone [] history = refl
recorded_kept gone (entry ∷ entries) history =
    go (stays [] gone entry) refl (recorded_kept gone entries (recorded entry history))
  where
    go : (stay : Bool) → stays [] gone entry ≡ stay →
        recorded_all (filter (stays [] gone) (recorded entry history)) (filter (stays [] gone) entries)
        ≡ filter (stays [] gone) (recorded_all (recorded entry history) entries) →
        recorded_all (filter (stays [] gone) history)
        (cond stay (entry ∷ filter (stays [] gone) entries) (filter (stays [] gone) entries))
        ≡ filter (stays [] gone) (recorded_all (recorded entry history) entries)
    go true is rest = ap (λ before. recorded_all before (filter (stays [] gone) entries))
        (sym (grown [] gone entry history is)) ∙ rest
    go false is rest = ap (λ before. recorded_all before (filter (stays [] gone) entries))
        (sym (dropped [] gone entry history is)) ∙ rest

-- the short history
short_history : (gone : List (List ℕ)) (events : List PlainEvent) → AreOrderly events →
    history_after [] (map (λ entry. entry.event) (entries_of_others gone events))
    ≡ filter (stays [] gone) (history_after [] events)
short_history gone events orderly =
    ap (recorded_all []) (batches_removed gone events orderly) ∙ recorded_kept gone (run_of events) []

-- the plant after the events without those of closed batches is alike
pub alike_forgotten : (events : List PlainEvent) → AreOrderly events →
    AnswersAlike (closed_batches (history_after [] events)) (history_after [] events)
    (history_after [] (events_without_closed events))
alike_forgotten events orderly =
    let whole : History = history_after [] events in
    subst (AnswersAlike (closed_batches whole) whole) (sym (short_history (closed_batches whole) events orderly))
    (forgotten_alike whole (legal_after [] events tt) (orderly_after [] events tt orderly)
    (owned_after [] events orderly tt))

-- so the closed batches may be forgotten
pub closed_forgotten : ClosedMayBeForgotten
closed_forgotten events later orderly =
    later_alike (closed_batches (history_after [] events)) (history_after [] events)
    (history_after [] (events_without_closed events)) (alike_forgotten events orderly) later
