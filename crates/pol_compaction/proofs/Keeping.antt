-- An event that is accepted leaves two plants alike that were so, where both have its entry.
use Rattle.std.proofs.Common.{◌≡◌, ℕ, ◌≤◌, Bool, true, false, cond, List, [], ◌∷◌, ◌++◌, length, refl, ap, sym, ◌∙◌}
use Rattle.std.proofs.Common.{inl, inr, Option, Some, None, is_some, subst, arith}
use Rattle.std.specs.Prelude.{filter, filter_map, reverse, not, ◌&&◌}
use Rattle.std.specs.List.{cons_option}
use Rattle.std.specs.Option.{option_or}
use Rattle.std.specs.Str.{bytes_eq}
use Rattle.std.proofs.Common.{append-nil}
use Rattle.std.proofs.lemmas.List.{reverse-append}
use Rattle.std.proofs.lemmas.List.Elements.{filter-append}
use Rattle.std.proofs.lemmas.Bool.{and_parts}
use Rattle.mtp_codes.specs.Faults.{when}
use Rattle.mtp_codes.specs.Names.{is_among}
use Rattle.mtp_codes.proofs.Names.{same_true}
use Rattle.chart_core.specs.Roles.{PlainChart}
use Rattle.chart_core.specs.declared.next.Outcome.{Outcome}
use Rattle.pol_events.specs.Events.{PlainEvent, plug, unplug, report, variable, start, advance, freeze, thaw}
use Rattle.pol_events.specs.Events.{stop_batch, abandon, desk, exchange_begin, exchange_end, exchange_cancel}
use Rattle.pol_events.specs.Events.{PlainEntry}
use Rattle.pol_events.specs.Bound.{PlainAllocation, tags_of}
use Rattle.pol_events.specs.declared.answer.Rule.TheVariants.{BatchClosed}
use Rattle.pol_events.specs.declared.answer.Answer.{Answer}
use Rattle.pol_history.specs.Looking.{History, Subject, of_module, of_batch, of_recipe, subject, is_accepted, is_module}
use Rattle.pol_history.specs.Looking.{is_batch, is_accepted_of, is_accepted_of_batch, is_accepted_recipe, past}
use Rattle.pol_history.specs.Looking.{past_of_batch, recipes}
use Rattle.pol_history.specs.Modules.{Docking, absent, docked, away, is_plug, docking_by, present_after}
use Rattle.pol_history.specs.Batches.{batches, started_batch, Started, starting, closing, start_by, start_of}
use Rattle.pol_history.specs.Batches.{outcome_by, outcome_of, chart_named, holder_of, watchers_of, is_start}
use Rattle.pol_history.specs.Rules.{no_module, no_batch, batch_known}
use Rattle.pol_history.specs.Answers.{start_rules, rules, otherwise}
use Rattle.pol_history.proofs.Accepted.{NoneHolds, paired}
use Rattle.pol_history.proofs.Holders.{holder_if, module_no_start, holders_same, recipe_holders_same, holders_after}
use Rattle.pol_history.proofs.Holders.{holders_started}
use Rattle.pol_history.proofs.Watchers.{watchers_if, watchers_same, recipe_watchers_same, watchers_after}
use Rattle.pol_history.proofs.Watchers.{watchers_started}
use Rattle.pol_history.proofs.Pasts.{batch_past_same, module_recipes_same}
use Rattle.pol_removal.specs.Removal.{is_of}
use Rattle.pol_removal.proofs.Sparing.{newly_started}
use Rattle.pol_compaction.specs.Alike.{IsSameModule, RunsSame, BatchesAlike, AnswersAlike}
use Rattle.pol_compaction.proofs.After.{looks_after, looks_plugged, runs_after}

-- ---- what an accepted event shows

-- a module that isn't there meets a rule
no_there : {A : Type 0} (tag : List ℕ) (docking : Docking) → docking ≡ absent → no_module tag docking ≡ None → A
no_there tag absent is none = cc
no_there tag (docked count) is none = cc
no_there tag (away ticket) is none = cc

-- so an event of it that is accepted is none but a plug
pub no_other : {A : Type 0} (whole : History) (other tag : List ℕ) → bytes_eq other tag ≡ true →
    no_module other (docking_by (past other whole)) ≡ None → docking_by (past tag whole) ≡ absent → A
no_other whole other tag same none gone =
    no_there other (docking_by (past other whole))
    (subst (λ name. docking_by (past name whole) ≡ absent) (sym (same_true other tag same)) gone) none

-- where the tag isn't there, an accepted event of it is a plug
pub absent_plugs : (whole : History) (event : PlainEvent) (tag : List ℕ) → is_module tag (subject event) ≡ true →
    NoneHolds (rules whole event) → docking_by (past tag whole) ≡ absent → is_plug event ≡ true
absent_plugs whole (plug at other description) tag of none gone = refl
absent_plugs whole (unplug at other) tag of none gone = no_other whole other tag of none.0 gone
absent_plugs whole (report at other service control) tag of none gone = no_other whole other tag of none.0 gone
absent_plugs whole (variable at other name value) tag of none gone = no_other whole other tag of none.0 gone
absent_plugs whole (desk at other service command) tag of none gone = no_other whole other tag of none.0 gone
absent_plugs whole (exchange_begin at other) tag of none gone = no_other whole other tag of none.0 gone
absent_plugs whole (exchange_end at other ticket description) tag of none gone =
    no_other whole other tag of none.0 gone
absent_plugs whole (exchange_cancel at other ticket) tag of none gone = no_other whole other tag of none.0 gone
absent_plugs whole _ tag of none gone = cc

-- a batch that wasn't started meets a rule
no_start : {A : Type 0} (started : Option Started) → started ≡ None → no_batch started ≡ None → A
no_start None is none = cc
no_start (Some started) is none = cc

-- the same of a batch by its name
not_begun : {A : Type 0} (whole : History) (other batch : List ℕ) → bytes_eq other batch ≡ true →
    no_batch (start_by (past_of_batch other whole)) ≡ None → start_by (past_of_batch batch whole) ≡ None → A
not_begun whole other batch same none is =
    no_start (start_by (past_of_batch other whole))
    (subst (λ name. start_by (past_of_batch name whole) ≡ None) (sym (same_true other batch same)) is) none

-- after an accepted event of it a batch is started
pub begun : {A : Type 0} (whole : History) (event : PlainEvent) (batch : List ℕ) →
    is_batch batch (subject event) ≡ true →
    NoneHolds (rules whole event) → option_or (starting event) (start_by (past_of_batch batch whole)) ≡ None → A
begun whole (start at other name binds) batch of none is = cc
begun whole (advance at other) batch of none is = not_begun whole other batch of none.0 is
begun whole (freeze at other hold) batch of none is = not_begun whole other batch of none.0 is
begun whole (thaw at other) batch of none is = not_begun whole other batch of none.0 is
begun whole (stop_batch at other) batch of none is = not_begun whole other batch of none.0 is
begun whole (abandon at other) batch of none is = not_begun whole other batch of none.0 is
begun whole _ batch of none is = cc

-- a batch that isn't closed has no outcome
not_closed : (outcome : Option Outcome) → when (is_some outcome) BatchClosed ≡ None → outcome ≡ None
not_closed None none = refl
not_closed (Some outcome) none = cc

-- an accepted event of a batch, but for its start, finds it open
pub batch_open : (whole : History) (event : PlainEvent) (batch : List ℕ) → subject event ≡ of_batch batch →
    starting event ≡ None → NoneHolds (rules whole event) → outcome_of whole batch ≡ None
batch_open whole (advance at other) batch of no_start none =
    let same : other ≡ batch = cc in
    subst (λ name. outcome_of whole name ≡ None) same (not_closed (outcome_of whole other) none.1.0)
batch_open whole (freeze at other hold) batch of no_start none =
    let same : other ≡ batch = cc in
    subst (λ name. outcome_of whole name ≡ None) same (not_closed (outcome_of whole other) none.1.0)
batch_open whole (thaw at other) batch of no_start none =
    let same : other ≡ batch = cc in
    subst (λ name. outcome_of whole name ≡ None) same (not_closed (outcome_of whole other) none.1.0)
batch_open whole (stop_batch at other) batch of no_start none =
    let same : other ≡ batch = cc in
    subst (λ name. outcome_of whole name ≡ None) same (not_closed (outcome_of whole other) none.1.0)
batch_open whole (abandon at other) batch of no_start none =
    let same : other ≡ batch = cc in
    subst (λ name. outcome_of whole name ≡ None) same (not_closed (outcome_of whole other) none.1.0)
batch_open whole _ batch of no_start none = cc

-- a batch that isn't known has no start
not_known : (started : Option Started) → batch_known started ≡ None → started ≡ None
not_known None none = refl
not_known (Some started) none = cc

-- an accepted start finds its batch unstarted
pub start_new : (whole : History) (batch : List ℕ) (binds : PlainAllocation) (chart : Option PlainChart) →
    NoneHolds (start_rules whole batch binds chart) → start_of whole batch ≡ None
start_new whole batch binds None none = let clash = none.0 in cc
start_new whole batch binds (Some chart) none = not_known (start_of whole batch) none.0

-- ---- the list of batches

-- a batch that an event starts is its subject
starts_own : (event : PlainEvent) (batch : List ℕ) → started_batch event ≡ Some batch → subject event ≡ of_batch batch
starts_own (start at other name binds) batch is = let same : other ≡ batch = cc in ap of_batch same
starts_own _ batch is = cc

-- an event of a module starts none
module_starts_none : (event : PlainEvent) (tag : List ℕ) → subject event ≡ of_module tag → started_batch event ≡ None
module_starts_none (start at batch name binds) tag of = cc
module_starts_none _ tag of = refl

-- a batch that an accepted event starts is the last of them
listed_more : (history : History) (entry : PlainEntry) →
    batches (entry ∷ history) ≡ batches history ++ cons_option (newly_started entry) []
listed_more history entry = go (newly_started entry)
  where
    go : (found : Option (List ℕ)) → reverse (cons_option found (filter_map newly_started history))
        ≡ reverse (filter_map newly_started history) ++ cons_option found []
    go None = sym (append-nil (reverse (filter_map newly_started history)))
    go (Some batch) = reverse-append (batch ∷ []) (filter_map newly_started history)

-- an event that starts none leaves them
pub unlisted : (history : History) (entry : PlainEntry) → started_batch entry.event ≡ None →
    batches (entry ∷ history) ≡ batches history
unlisted history entry none =
    listed_more history entry
    ∙ ap (λ found. batches history ++ cons_option found [])
    (ap (cond (is_accepted entry.answer) (started_batch entry.event)) refl ∙ go (is_accepted entry.answer))
    ∙ append-nil (batches history)
  where
    go : (accepted : Bool) → cond accepted (started_batch entry.event) None ≡ None
    go true = none
    go false = refl

-- and one that starts a batch that isn't forgotten adds it to both
listed_next : (gone : List (List ℕ)) (whole less : History) (entry : PlainEntry) →
    is_of [] gone (subject entry.event) ≡ false →
    batches less ≡ filter (λ batch. not (is_among gone batch)) (batches whole) →
    batches (entry ∷ less) ≡ filter (λ batch. not (is_among gone batch)) (batches (entry ∷ whole))
listed_next gone whole less entry out same =
    listed_more less entry
    ∙ ap (λ names. names ++ cons_option (newly_started entry) []) same
    ∙ sym (ap (filter stays) (listed_more whole entry)
    ∙ filter-append stays (batches whole) (cons_option (newly_started entry) [])
    ∙ ap (λ names. filter stays (batches whole) ++ names) (newest (is_accepted entry.answer) (started_batch entry.event)
    refl))
  where
    stays : List ℕ → Bool
    stays batch = not (is_among gone batch)

    newest : (accepted : Bool) (found : Option (List ℕ)) → started_batch entry.event ≡ found →
        filter stays (cons_option (cond accepted found None) []) ≡ cons_option (cond accepted found None) []
    newest false found is = refl
    newest true None is = refl
    newest true (Some batch) is = ap (λ kept. cond kept (batch ∷ []) [])
        (ap not (sym (ap (is_of [] gone) (starts_own entry.event batch is)) ∙ out))

-- ---- holders and watchers

module _ (gone : List (List ℕ)) (whole less : History) (alike : BatchesAlike gone whole less) where
  -- the outcome of a batch that isn't forgotten is the same
  same_outcome : (batch : List ℕ) → is_among gone batch ≡ false → outcome_of less batch ≡ outcome_of whole batch
  same_outcome batch out = let same = alike.batches batch out in same.outcome

  -- the holders after an event that is no start
  holders_other : (event : PlainEvent) (answer : Answer) → starting event ≡ None → is_accepted answer ≡ true →
      is_of [] gone (subject event) ≡ false → NoneHolds (rules whole event) → (tag : List ℕ) →
      holder_of (paired event answer ∷ less) tag ≡ holder_of (paired event answer ∷ whole) tag
  holders_other event answer no_start accepted out none tag = go (subject event) refl
    where
      go : (of : Subject) → subject event ≡ of →
          holder_of (paired event answer ∷ less) tag ≡ holder_of (paired event answer ∷ whole) tag
      go (of_module other) of =
          holders_same less (paired event answer) other of tag ∙ alike.holders tag
          ∙ sym (holders_same whole (paired event answer) other of tag)
      go (of_recipe name) of =
          recipe_holders_same less (paired event answer) name of tag ∙ alike.holders tag
          ∙ sym (recipe_holders_same whole (paired event answer) name of tag)
      go (of_batch batch) of =
          let is_open = batch_open whole event batch of no_start none in
          let outside : is_among gone batch ≡ false = sym (ap (is_of [] gone) of) ∙ out in
          holders_after less (paired event answer) batch of no_start accepted (same_outcome batch outside ∙ is_open) tag
          ∙ ap (holder_if (closing answer) batch) (alike.holders tag)
          ∙ sym (holders_after whole (paired event answer) batch of no_start accepted is_open tag)

  -- and the watchers
  watchers_other : (event : PlainEvent) (answer : Answer) → starting event ≡ None → is_accepted answer ≡ true →
      is_of [] gone (subject event) ≡ false → NoneHolds (rules whole event) → (tag : List ℕ) →
      watchers_of (paired event answer ∷ less) tag ≡ watchers_of (paired event answer ∷ whole) tag
  watchers_other event answer no_start accepted out none tag = go (subject event) refl
    where
      go : (of : Subject) → subject event ≡ of →
          watchers_of (paired event answer ∷ less) tag ≡ watchers_of (paired event answer ∷ whole) tag
      go (of_module other) of =
          watchers_same less (paired event answer) other of tag ∙ alike.watchers tag
          ∙ sym (watchers_same whole (paired event answer) other of tag)
      go (of_recipe name) of =
          recipe_watchers_same less (paired event answer) name of tag ∙ alike.watchers tag
          ∙ sym (recipe_watchers_same whole (paired event answer) name of tag)
      go (of_batch batch) of =
          let is_open = batch_open whole event batch of no_start none in
          let outside : is_among gone batch ≡ false = sym (ap (is_of [] gone) of) ∙ out in
          watchers_after less (paired event answer) batch of no_start accepted
          (same_outcome batch outside ∙ is_open) tag
          ∙ ap (watchers_if (closing answer) batch) (alike.watchers tag)
          ∙ sym (watchers_after whole (paired event answer) batch of no_start accepted is_open tag)

  -- the holders after any accepted event
  holders_next : (event : PlainEvent) (answer : Answer) → answer ≡ otherwise whole event → is_accepted answer ≡ true →
      is_of [] gone (subject event) ≡ false → NoneHolds (rules whole event) → (tag : List ℕ) →
      holder_of (paired event answer ∷ less) tag ≡ holder_of (paired event answer ∷ whole) tag
  holders_next (start at batch name binds) answer done accepted out none tag =
      let new = alike.fresh batch out (start_new whole batch binds (chart_named name (recipes whole)) none) in
      subst (λ answer. holder_of (paired (start at batch name binds) answer ∷ less) tag
      ≡ holder_of (paired (start at batch name binds) answer ∷ whole) tag) (sym done)
      (holders_started less at batch name binds new.1 tag
      ∙ ap (cond (is_among (tags_of binds.held) tag) (Some batch)) (alike.holders tag)
      ∙ sym (holders_started whole at batch name binds new.0 tag))
  holders_next event answer done accepted out none tag = holders_other event answer refl accepted out none tag

  -- and the watchers
  watchers_next : (event : PlainEvent) (answer : Answer) → answer ≡ otherwise whole event → is_accepted answer ≡ true →
      is_of [] gone (subject event) ≡ false → NoneHolds (rules whole event) → (tag : List ℕ) →
      watchers_of (paired event answer ∷ less) tag ≡ watchers_of (paired event answer ∷ whole) tag
  watchers_next (start at batch name binds) answer done accepted out none tag =
      let new = alike.fresh batch out (start_new whole batch binds (chart_named name (recipes whole)) none) in
      subst (λ answer. watchers_of (paired (start at batch name binds) answer ∷ less) tag
      ≡ watchers_of (paired (start at batch name binds) answer ∷ whole) tag) (sym done)
      (watchers_started less at batch name binds new.1 tag
      ∙ ap (λ found. cond (is_among (tags_of binds.watched) tag) (found ++ batch ∷ []) found) (alike.watchers tag)
      ∙ sym (watchers_started whole at batch name binds new.0 tag))
  watchers_next event answer done accepted out none tag = watchers_other event answer refl accepted out none tag

  -- ---- all of them

  -- an option with something before it
  or_some : {A : Type 0} (found older : Option A) → is_some older ≡ true → is_some (option_or found older) ≡ true
  or_some None older is = is
  or_some (Some x) older is = refl

  -- the batches are alike after an accepted event
  pub batches_after : (event : PlainEvent) (answer : Answer) → answer ≡ otherwise whole event →
      is_accepted answer ≡ true → is_of [] gone (subject event) ≡ false → NoneHolds (rules whole event) →
      BatchesAlike gone (paired event answer ∷ whole) (paired event answer ∷ less)
  batches_after event answer done accepted out none = record {
    batches = λ batch outside. batch_next batch (is_accepted_of_batch batch (paired event answer))
        (alike.batches batch outside);
    fresh = λ batch outside. fresh_next batch outside (is_accepted_of_batch batch (paired event answer)) refl;
    started = λ batch inside. started_next batch (is_accepted_of_batch batch (paired event answer))
        (alike.started batch inside);
    closed = λ batch inside. closed_next batch (is_accepted_of_batch batch (paired event answer))
        (alike.closed batch inside);
    same_recipes = recipes_next (is_accepted_recipe (paired event answer));
    holders = holders_next event answer done accepted out none;
    watchers = watchers_next event answer done accepted out none;
    fewer_starts = starts_next (is_start (paired event answer)) alike.fewer_starts;
    fewer = let before = alike.fewer in omega arith;
    listed = listed_next gone whole less (paired event answer) out alike.listed;
  }
    where
      batch_next : (batch : List ℕ) (own : Bool) → RunsSame (past_of_batch batch whole) (past_of_batch batch less) →
          RunsSame (cond own (paired event answer ∷ past_of_batch batch whole) (past_of_batch batch whole))
          (cond own (paired event answer ∷ past_of_batch batch less) (past_of_batch batch less))
      batch_next batch false same = same
      batch_next batch true same = runs_after event answer (past_of_batch batch whole) (past_of_batch batch less) same

      fresh_next : (batch : List ℕ) → is_among gone batch ≡ false → (own : Bool) →
          is_accepted_of_batch batch (paired event answer) ≡ own →
          start_by (cond own (paired event answer ∷ past_of_batch batch whole) (past_of_batch batch whole)) ≡ None →
          (cond own (paired event answer ∷ past_of_batch batch whole) (past_of_batch batch whole) ≡ [])
          × (cond own (paired event answer ∷ past_of_batch batch less) (past_of_batch batch less) ≡ [])
      fresh_next batch outside false is unstarted = alike.fresh batch outside unstarted
      fresh_next batch outside true is unstarted =
          begun whole event batch (and_parts (is_batch batch (subject event)) (is_accepted answer) is).0 none unstarted

      started_next : (batch : List ℕ) (own : Bool) → is_some (start_of whole batch) ≡ true →
          is_some (start_by (cond own (paired event answer ∷ past_of_batch batch whole) (past_of_batch batch whole)))
          ≡ true
      started_next batch false is = is
      started_next batch true is = or_some (starting event) (start_of whole batch) is

      closed_next : (batch : List ℕ) (own : Bool) → is_some (outcome_of whole batch) ≡ true →
          is_some (outcome_by (cond own (paired event answer ∷ past_of_batch batch whole) (past_of_batch batch whole)))
          ≡ true
      closed_next batch false is = is
      closed_next batch true is = or_some (closing answer) (outcome_of whole batch) is

      recipes_next : (own : Bool) → cond own (paired event answer ∷ recipes less) (recipes less)
          ≡ cond own (paired event answer ∷ recipes whole) (recipes whole)
      recipes_next false = alike.same_recipes
      recipes_next true = ap (λ others. paired event answer ∷ others) alike.same_recipes

      starts_next : (own : Bool) → length (filter is_start less) ≤ length (filter is_start whole) →
          length (cond own (paired event answer ∷ filter is_start less) (filter is_start less))
          ≤ length (cond own (paired event answer ∷ filter is_start whole) (filter is_start whole))
      starts_next false before = before
      starts_next true before = omega arith

module _ (gone : List (List ℕ)) (whole less : History) (alike : AnswersAlike gone whole less) where
  -- both plants are alike after an accepted event
  pub alike_after : (event : PlainEvent) (answer : Answer) → answer ≡ otherwise whole event →
      is_accepted answer ≡ true → is_of [] gone (subject event) ≡ false → NoneHolds (rules whole event) →
      AnswersAlike gone (paired event answer ∷ whole) (paired event answer ∷ less)
  alike_after event answer done accepted out none = record {
    running = batches_after gone whole less alike.running event answer done accepted out none;
    modules = λ tag. module_next tag (is_accepted_of tag (paired event answer)) refl (alike.modules tag);
    same_tags = ap (present_after event (is_accepted answer)) alike.same_tags;
  }
    where
      module_next : (tag : List ℕ) (own : Bool) → is_accepted_of tag (paired event answer) ≡ own →
          IsSameModule (past tag whole) (past tag less) →
          IsSameModule (cond own (paired event answer ∷ past tag whole) (past tag whole))
          (cond own (paired event answer ∷ past tag less) (past tag less))
      module_next tag false is same = same
      module_next tag true is (inl gone_there) = inr (looks_plugged event answer (past tag whole) (past tag less)
          (absent_plugs whole event tag (and_parts (is_module tag (subject event)) (is_accepted answer) is).0 none
          gone_there.0))
      module_next tag true is (inr same) = inr (looks_after event answer (past tag whole) (past tag less) same)

-- ---- an event that the shorter history is without

module _ (gone : List (List ℕ)) (whole less : History) (alike : BatchesAlike gone whole less) where
  -- an event of a module leaves the batches alike
  pub batches_left : (event : PlainEvent) (answer : Answer) (tag : List ℕ) → subject event ≡ of_module tag →
      BatchesAlike gone (paired event answer ∷ whole) less
  batches_left event answer tag of = record {
    batches = λ batch out. rw (same_batch batch) (alike.batches batch out);
    fresh = λ batch out. rw (same_batch batch) (alike.fresh batch out);
    started = λ batch inside. rw (same_batch batch) (alike.started batch inside);
    closed = λ batch inside. rw (same_batch batch) (alike.closed batch inside);
    same_recipes = alike.same_recipes ∙ sym (module_recipes_same whole (paired event answer) tag of);
    holders = λ other. alike.holders other ∙ sym (holders_same whole (paired event answer) tag of other);
    watchers = λ other. alike.watchers other ∙ sym (watchers_same whole (paired event answer) tag of other);
    fewer_starts = rw (no_start (module_no_start event tag of)) alike.fewer_starts;
    fewer = let before = alike.fewer in omega arith;
    listed = alike.listed ∙ sym (ap (filter (λ batch. not (is_among gone batch)))
        (unlisted whole (paired event answer) (module_starts_none event tag of)));
  }
    where
      same_batch : (batch : List ℕ) →
          past_of_batch batch (paired event answer ∷ whole) ≡ past_of_batch batch whole
      same_batch batch = batch_past_same whole (paired event answer) tag batch of

      no_start : starting event ≡ None → filter is_start (paired event answer ∷ whole) ≡ filter is_start whole
      no_start none = ap (λ started. cond (is_some started && is_accepted answer)
          (paired event answer ∷ filter is_start whole) (filter is_start whole)) none
