-- An event that stays is answered after those that stayed as after all that last.
use Rattle.std.proofs.Common.{◌≡◌, ℕ, ◌≤◌, Bool, true, false, cond, not, List, [], ◌∷◌, length, refl, ap, sym, ◌∙◌, ◌⊎◌}
use Rattle.std.proofs.Common.{inl, inr, Option, Some, None, option_and_then, subst}
use Rattle.std.specs.Prelude.{◌&&◌, ◌||◌, filter, option_map}
use Rattle.std.specs.List.{cons_option}
use Rattle.std.specs.Option.{option_or}
use Rattle.std.proofs.lemmas.Bool.{and_parts}
use Rattle.mtp_codes.specs.Faults.{when}
use Rattle.mtp_codes.specs.Names.{is_among}
use Rattle.mtp_codes.specs.declared.limits.TheConstants.{LONGEST_HISTORY, MOST_MODULES}
use Rattle.mtp_codes.specs.declared.value.Value.{Value}
use Rattle.mtp_codes.proofs.Names.{same_refl}
use Rattle.mtp_assembly.specs.declared.control.ServiceControl.{ServiceControl}
use Rattle.mtp_desc.specs.Plain.{PlainService, PlainDescription}
use Rattle.pol_events.specs.Events.{PlainEvent, plug, unplug, report, variable, recipe, start, advance, freeze, thaw}
use Rattle.pol_events.specs.Events.{stop_batch, abandon, desk, exchange_begin, exchange_end, exchange_cancel}
use Rattle.pol_events.specs.Events.{PlainEntry}
use Rattle.pol_events.specs.declared.answer.Answer.{Answer}
use Rattle.pol_events.specs.declared.answer.Answer.TheVariants.{Done}
use Rattle.pol_events.specs.declared.answer.Rule.{Rule}
use Rattle.pol_events.specs.declared.answer.Rule.TheVariants.{HistoryFull, PlantFull}
use Rattle.pol_events.specs.Refusals.{service_not_at_rest, not_at_rest}
use Rattle.pol_events.specs.Bound.{PlainAllocation, tags_of, given}
use Rattle.pol_history.specs.Looking.{History, subject, is_module, past, recipes}
use Rattle.pol_history.specs.Modules.{docking_by, description_by, reported, control_by, reported_value, value_by}
use Rattle.pol_history.specs.Modules.{present_tags}
use Rattle.pol_history.specs.Batches.{Started, starting, start_by, start_of, chart_named}
use Rattle.pol_history.specs.Rules.{no_module, module_not_at_rest}
use Rattle.pol_history.specs.Answers.{rules, otherwise, is_full, answer_of}
use Rattle.pol_history.specs.Runs.{IsLegal, IsOrderly}
use Rattle.pol_history.proofs.Accepted.{NoneHolds, none_holds, otherwise_it_is, paired}
use Rattle.pol_history.proofs.Filters.{length_filter}
use Rattle.pol_history.proofs.Pasts.{batch_past_own}
use Rattle.pol_safety.proofs.Covering.{is_absent, there_by_rule}
use Rattle.pol_compaction.specs.Lasting.{is_desk}
use Rattle.pol_compaction.specs.Reading.{started_binds, is_replacing, is_replaced, reads, is_read}
use Rattle.pol_compaction.specs.Marks.{told, read, mark_of, marks_of, report_stays, value_stays}
use Rattle.pol_compaction.specs.Compaction.{stays_between}
use Rattle.pol_compaction.specs.Alike.{IsSameModule, BatchesAlike}
use Rattle.pol_compaction.proofs.Agreeing.{AgreeOn, plugs, reports, variables, begins, ends, cancels, freezes, thaws}
use Rattle.pol_compaction.proofs.Agreeing.{stops, abandons}
use Rattle.pol_compaction.proofs.Along.{LooksAlong, IsAlong, ModuleAlong, own_mark, moved_mark, apart_mark, unreplaced}
use Rattle.pol_compaction.proofs.Along.{apart_replaced}
use Rattle.pol_compaction.proofs.Firsts.{all_agree, none_agrees, limit_none}
use Rattle.pol_compaction.proofs.Follows.{IsNext, EndsOpen, Follows, next_legal, next_orderly, next_accepted, next_free}
use Rattle.pol_compaction.proofs.Follows.{next_otherwise, start_next, ends_open, IsBound, bound_stays}
use Rattle.pol_compaction.proofs.Marks.{MayTell, Fits, may_tell, Suits}
use Rattle.pol_compaction.proofs.Sights.{AreSame, starts, advances}

-- what stayed on the way through the entries that last: the batches are alike, each module is as it should be, and
-- those tags are there that aren't replaced later
pub record Along (whole older kept : History) (newer : List PlainEntry) : Type 0 where
  pub running : BatchesAlike [] older kept
  pub modules : (tag : List ℕ) →
      ModuleAlong whole tag (is_read whole tag older) (past tag older) (past tag kept) newer
  pub tags : present_tags kept ≡ filter (λ tag. not (is_replaced tag newer)) (present_tags older)

-- what isn't not false
pub not_parts : (test : Bool) → not test ≡ true → test ≡ false
not_parts true is = cc
not_parts false is = refl

-- ---- services at rest

-- where each service told nothing, or the same, the first that isn't at rest is none, if it is none by all
rest_same : (whole less : List ℕ → Option ServiceControl) (services : List PlainService) →
    ((service : List ℕ) → (less service ≡ None) ⊎ (less service ≡ whole service)) →
    not_at_rest whole services ≡ None → not_at_rest less services ≡ None
rest_same whole less [] same none = refl
rest_same whole less (service ∷ services) same none =
    go (service_not_at_rest service.name (whole service.name)) refl none (same service.name)
    (rest_same whole less services same)
  where
    go : (first : Option Rule) → service_not_at_rest service.name (whole service.name) ≡ first →
        option_or first (not_at_rest whole services) ≡ None →
        (less service.name ≡ None) ⊎ (less service.name ≡ whole service.name) →
        (not_at_rest whole services ≡ None → not_at_rest less services ≡ None) →
        not_at_rest less (service ∷ services) ≡ None
    go (Some rule) is none same rest = cc
    go None is none (inl nothing) rest =
        ap (λ found. option_or (service_not_at_rest service.name found) (not_at_rest less services)) nothing
        ∙ rest none
    go None is none (inr equal) rest =
        ap (λ found. option_or (service_not_at_rest service.name found) (not_at_rest less services)) equal
        ∙ ap (λ first. option_or first (not_at_rest less services)) is ∙ rest none

-- by a description, if there is one
described_rest : (whole less : History) (description : Option PlainDescription) →
    ((service : List ℕ) → (control_by service less ≡ None) ⊎ (control_by service less ≡ control_by service whole)) →
    option_and_then (module_not_at_rest whole) description ≡ None →
    option_and_then (module_not_at_rest less) description ≡ None
described_rest whole less None same none = refl
described_rest whole less (Some description) same none =
    rest_same (λ service. control_by service whole) (λ service. control_by service less) description.services same none

module _ (whole older kept : History) (event : PlainEvent) (answer : Answer) (newer : List PlainEntry)
    (legal : IsLegal older) (orderly : IsOrderly older) (next : IsNext older (paired event answer))
    (follows : Follows whole (paired event answer ∷ older) newer)
    (along : Along whole older kept (paired event answer ∷ newer)) where
  -- the rules of an event and its answer agree
  abbrev AgreesOn : PlainEvent → Type 0
  AgreesOn each = AgreeOn [] older kept along.running each

  -- a module that is there looks as by all entries
  abbrev LooksNow : List ℕ → Type 0
  LooksNow tag =
      LooksAlong whole tag (is_read whole tag older) (past tag older) (past tag kept) (paired event answer ∷ newer)

  -- where it isn't replaced later
  looks_now : (tag : List ℕ) → no_module tag (docking_by (past tag older)) ≡ None →
      is_replacing event ≡ false → is_replaced tag newer ≡ false → LooksNow tag
  looks_now tag there still later =
      go ((along.modules tag).lasting (unreplaced tag (paired event answer) newer still ∙ later))
    where
      go : IsAlong whole tag (is_read whole tag older) (past tag older) (past tag kept) (paired event answer ∷ newer) →
          LooksNow tag
      go (inl away) = absurd (there_by_rule tag (docking_by (past tag older)) there away.0)
      go (inr looks) = looks

  -- ---- modules that are read

  -- a module that the event reads looks the same
  read_same : (tag : List ℕ) → reads whole tag event ≡ true → is_module tag (subject event) ≡ false →
      IsBound tag (paired event answer ∷ older) → IsSameModule (past tag older) (past tag kept)
  read_same tag reading apart bound = go ((along.modules tag).lasting
      (apart_replaced tag (paired event answer) newer apart
      ∙ bound_stays whole tag (paired event answer ∷ older) newer (next_legal older (paired event answer) legal next)
      (next_orderly older (paired event answer) orderly next) follows bound))
    where
      go : IsAlong whole tag (is_read whole tag older) (past tag older) (past tag kept) (paired event answer ∷ newer) →
          IsSameModule (past tag older) (past tag kept)
      go (inl away) = inl (away.0, ap docking_by away.1)
      go (inr looks) = inr (record {
        stands = looks.stands;
        control = λ service.
            subst (λ mark. Fits (is_read whole tag older) (control_by service (past tag older))
            (control_by service (past tag kept)) (cons_option mark (marks_of whole tag (reported service) newer)))
            (apart_mark whole tag (reported service) event apart
            ∙ ap (λ reading. cond reading (Some read) None) reading)
            (looks.control service);
        value = λ name.
            subst (λ mark. Suits (value_by name (past tag older)) (value_by name (past tag kept))
            (cons_option mark (marks_of whole tag (reported_value name) newer)))
            (apart_mark whole tag (reported_value name) event apart
            ∙ ap (λ reading. cond reading (Some read) None) reading)
            (looks.value name);
      })

  -- the modules of a start that is this event
  started_same : (at : ℕ) (batch name : List ℕ) (binds : PlainAllocation) → event ≡ start at batch name binds →
      AreSame older kept (given binds)
  started_same at batch name binds is tag inside = read_same tag (ap (reads whole tag) is ∙ inside)
      (ap (λ each. is_module tag (subject each)) is)
      (record {
        batch = batch;
        started = record { recipe = name; binds = binds };
        start_is = ap start_by (batch_past_own older (paired event answer) batch (ap subject is) next.accepted)
            ∙ ap (λ each. option_or (starting each) (start_of older batch)) is;
        inside = inside;
      })

  -- the modules of the batch of an advance that is this event
  advanced_same : (at : ℕ) (batch : List ℕ) → event ≡ advance at batch → (started : Started) →
      start_of older batch ≡ Some started → AreSame older kept (given started.binds)
  advanced_same at batch is started found tag inside = read_same tag
      (ap (reads whole tag) is
      ∙ ap (λ found. is_among (tags_of (started_binds found)) tag) (ends.starts batch started found) ∙ inside)
      (ap (λ each. is_module tag (subject each)) is)
      (record {
        batch = batch;
        started = started;
        start_is = start_next older (paired event answer) legal orderly next batch started found;
        inside = inside;
      })
    where
      ends : EndsOpen whole older
      ends = ends_open whole older (paired event answer ∷ newer) legal orderly (next, follows)

  -- ---- modules that tell something, or are moved

  -- a plug finds the tag away by both
  on_plug : (at : ℕ) (tag : List ℕ) (description : PlainDescription) → event ≡ plug at tag description →
      NoneHolds (rules older (plug at tag description)) → AgreesOn (plug at tag description)
  on_plug at tag description is none =
      plugs [] older kept along.running at tag description
      (ap docking_by ((along.modules tag).replaced replaced) ∙ sym (is_absent (docking_by (past tag older)) none.0))
      (inr (limit_none PlantFull MOST_MODULES (length (present_tags kept)) (length (present_tags older)) fewer none.1.0
      ∙ sym none.1.0))
    where
      replaced : is_replaced tag (paired event answer ∷ newer) ≡ true
      replaced = ap (λ each. (is_module tag (subject each) && is_replacing each) || is_replaced tag newer) is
          ∙ ap (λ same. (same && true) || is_replaced tag newer) (same_refl tag)

      fewer : length (present_tags kept) ≤ length (present_tags older)
      fewer = subst (λ tags. length tags ≤ length (present_tags older)) (sym along.tags)
          (length_filter (λ tag. not (is_replaced tag (paired event answer ∷ newer))) (present_tags older))

  -- a report may follow what was told by both
  on_report : (at : ℕ) (tag service : List ℕ) (control : ServiceControl) → event ≡ report at tag service control →
      NoneHolds (rules older (report at tag service control)) → is_replaced tag newer ≡ false →
      AgreesOn (report at tag service control)
  on_report at tag service control is none later =
      reports [] older kept along.running at tag service control looks.stands.docking looks.stands.description
      (inr (may ∙ sym none.1.1.1.0))
    where
      looks : LooksNow tag
      looks = looks_now tag none.0 (ap is_replacing is) later

      mark : mark_of whole tag (reported service) event ≡ Some (told control)
      mark = ap (mark_of whole tag (reported service)) is
          ∙ own_mark whole tag (reported service) (report at tag service control) (same_refl tag) refl
          ∙ ap (λ same. option_map told (cond same (Some control) None)) (same_refl service)

      may : MayTell (control_by service (past tag kept)) control
      may = may_tell (is_read whole tag older) (control_by service (past tag older))
          (control_by service (past tag kept)) control (marks_of whole tag (reported service) newer)
          (subst (λ mark. Fits (is_read whole tag older) (control_by service (past tag older))
          (control_by service (past tag kept)) (cons_option mark (marks_of whole tag (reported service) newer)))
          mark (looks.control service))

  -- a value
  on_value : (at : ℕ) (tag name : List ℕ) (value : Value) → event ≡ variable at tag name value →
      NoneHolds (rules older (variable at tag name value)) → is_replaced tag newer ≡ false →
      AgreesOn (variable at tag name value)
  on_value at tag name value is none later =
      let looks = looks_now tag none.0 (ap is_replacing is) later in
      variables [] older kept along.running at tag name value looks.stands.docking looks.stands.description

  -- the begin of an exchange finds the same at rest
  on_begin : (at : ℕ) (tag : List ℕ) → event ≡ exchange_begin at tag →
      NoneHolds (rules older (exchange_begin at tag)) → is_replaced tag newer ≡ false → AgreesOn (exchange_begin at tag)
  on_begin at tag is none later =
      begins [] older kept along.running at tag looks.stands.docking looks.stands.begins
      (inr (ap (option_and_then (module_not_at_rest (past tag kept))) looks.stands.description
      ∙ described_rest (past tag older) (past tag kept) (description_by (past tag older)) rest none.1.1.1.0
      ∙ sym none.1.1.1.0))
    where
      looks : LooksNow tag
      looks = looks_now tag none.0 (ap is_replacing is) later

      rest : (service : List ℕ) → (control_by service (past tag kept) ≡ None)
          ⊎ (control_by service (past tag kept) ≡ control_by service (past tag older))
      rest service =
          subst (λ mark. Fits (is_read whole tag older) (control_by service (past tag older))
          (control_by service (past tag kept)) (cons_option mark (marks_of whole tag (reported service) newer)))
          (ap (mark_of whole tag (reported service)) is
          ∙ moved_mark whole tag (reported service) (exchange_begin at tag) (same_refl tag) refl)
          (looks.control service)

  -- ---- all kinds

  -- each event that stays agrees
  agrees : (each : PlainEvent) → event ≡ each → is_desk each ≡ false → NoneHolds (rules older each) →
      stays_between whole older newer each ≡ true → AgreesOn each
  agrees (plug at tag description) is heard none stays = on_plug at tag description is none
  agrees (unplug at tag) is heard none stays = cc
  agrees (report at tag service control) is heard none stays =
      on_report at tag service control is none (not_parts (is_replaced tag newer)
      (and_parts (not (is_replaced tag newer)) (report_stays control.state (is_read whole tag older)
      (marks_of whole tag (reported service) newer)) stays).0)
  agrees (variable at tag name value) is heard none stays =
      on_value at tag name value is none (not_parts (is_replaced tag newer)
      (and_parts (not (is_replaced tag newer)) (value_stays (marks_of whole tag (reported_value name) newer)) stays).0)
  agrees (recipe at name chart) is heard none stays =
      rw along.running.same_recipes (all_agree (rules older (recipe at name chart)) Done Done refl)
  agrees (start at batch name binds) is heard none stays = rw along.running.same_recipes
      (starts [] older kept along.running batch binds (chart_named name (recipes older)) refl
      (started_same at batch name binds is))
  agrees (advance at batch) is heard none stays =
      advances [] older kept along.running at batch refl (advanced_same at batch is)
  agrees (freeze at batch hold) is heard none stays = freezes [] older kept along.running at batch hold refl
  agrees (thaw at batch) is heard none stays = thaws [] older kept along.running at batch refl
  agrees (stop_batch at batch) is heard none stays = stops [] older kept along.running at batch refl
  agrees (abandon at batch) is heard none stays = abandons [] older kept along.running at batch refl
  agrees (desk at tag service command) is heard none stays = cc
  agrees (exchange_begin at tag) is heard none stays =
      on_begin at tag is none (not_parts (is_replaced tag newer) stays)
  agrees (exchange_end at tag ticket description) is heard none stays =
      ends [] older kept along.running at tag ticket description
      (looks_now tag none.0 (ap is_replacing is) (not_parts (is_replaced tag newer) stays)).stands.docking
  agrees (exchange_cancel at tag ticket) is heard none stays =
      cancels [] older kept along.running at tag ticket
      (looks_now tag none.0 (ap is_replacing is) (not_parts (is_replaced tag newer) stays)).stands.docking

  -- so it is answered as it was
  pub kept_answered : stays_between whole older newer event ≡ true → answer_of kept event ≡ answer
  kept_answered stays =
      otherwise_it_is (when (is_full kept) HistoryFull ∷ rules kept event) (otherwise kept event)
      (limit_none HistoryFull LONGEST_HISTORY (length kept) (length older) along.running.fewer room, agreed.0)
      ∙ agreed.1 ∙ sym (next_otherwise older (paired event answer) next)
    where
      free : NoneHolds (rules older event)
      free = next_free older (paired event answer) next

      room : when (is_full older) HistoryFull ≡ None
      room = (none_holds (when (is_full older) HistoryFull ∷ rules older event) (otherwise older event)
          (next_accepted older (paired event answer) next)).0

      agreed : NoneHolds (rules kept event) × (otherwise kept event ≡ otherwise older event)
      agreed = none_agrees (rules older event) (rules kept event) (otherwise older event) (otherwise kept event)
          (agrees event refl next.heard free stays) free
