-- The exchanger: where it stands after one more entry, and what it does next.
use Rattle.std.proofs.Common.{◌≡◌, ◌<◌, ◌≤◌, ◌+◌, ℕ, suc, zero, Bool, true, false, cond, not, List, [], ◌∷◌, length}
use Rattle.std.proofs.Common.{map, Option, Some, None, refl, ap, sym, ◌∙◌, subst, arith, length-append}
use Rattle.std.specs.Prelude.{◌&&◌, ◌||◌, ◌==◌, pred, nat_lt, is_some, option_map, option_and_then, slice_get}
use Rattle.std.specs.Prelude.{if◌then◌else◌}
use Rattle.std.specs.Option.{option_or}
use Rattle.std.specs.Str.{bytes_eq}
use Rattle.std.proofs.lemmas.Bool.{eqb-true}
use Rattle.std.proofs.lemmas.Bool.Decides.{nat_tests}
use Rattle.std.proofs.lemmas.List.{length-map}
use Rattle.std.proofs.lemmas.Option.{same_Some}
use Rattle.mtp_codes.specs.declared.limits.TheConstants.{MOST_MODULES}
use Rattle.mtp_codes.specs.Faults.{when, first_of}
use Rattle.mtp_codes.proofs.Names.{same_true, same_refl}
use Rattle.mtp_assembly.specs.declared.control.ServiceControl.{ServiceControl}
use Rattle.mtp_desc.specs.Plain.{PlainDescription, PlainService}
use Rattle.chart_core.specs.Trees.{PlainStep}
use Rattle.chart_cursor.specs.Logs.{active}
use Rattle.pol_events.specs.Bound.{given, step_on}
use Rattle.pol_events.specs.Events.{PlainEvent, PlainEntry, plug, unplug, report, variable, recipe, start, advance}
use Rattle.pol_events.specs.Events.{freeze, thaw, stop_batch, abandon, desk, exchange_begin, exchange_end}
use Rattle.pol_events.specs.Events.{exchange_cancel}
use Rattle.pol_events.specs.Orderly.{is_orderly}
use Rattle.pol_events.specs.Refusals.{in_exchange, service_not_at_rest, wrong_ticket}
use Rattle.pol_events.specs.declared.answer.Answer.{Answer}
use Rattle.pol_events.specs.declared.answer.Answer.TheVariants.{Done, Ticket, Did, Waiting, Closed, Refused}
use Rattle.pol_events.specs.declared.answer.Rule.{Rule}
use Rattle.pol_events.specs.declared.answer.Rule.TheVariants.{ActiveStep, NotAtRest, HeldBack, PlantFull}
use Rattle.pol_history.specs.Answers.{answer_of, first_rule, is_full}
use Rattle.pol_history.specs.Batches.{chart_by, holder_of, log_by, start_by}
use Rattle.pol_history.specs.Looking.{History, is_accepted, past, past_of_batch, recipes}
use Rattle.pol_history.specs.Modules.{Docking, absent, docked, away, control_by, description_by, docking_by, docking_of}
use Rattle.pol_history.specs.Modules.{next_ticket, present_after, present_tags, tags_without, ticket_of}
use Rattle.pol_history.specs.Rules.{active_step, module_not_at_rest, no_module, not_in_exchange, plant_full, tag_taken}
use Rattle.pol_history.specs.Runs.{IsLegal}
use Rattle.pol_history.proofs.Accepted.{paired, with_room}
use Rattle.pol_history.proofs.Filters.{length_filter}
use Rattle.pol_core.specs.Calls.{refusal}
use Rattle.pol_safety.specs.Known.{is_there}
use Rattle.pol_site.specs.Actors.{owner_of}
use Rattle.pol_site.specs.Following.{FollowsSite, IsAllowed, begun_with, ended_with, exchanging, none_open, opened}
use Rattle.pol_site.specs.Following.{openings, was_begun, was_held}
use Rattle.pol_site.specs.Plans.{begun_in}
use Rattle.pol_site.specs.Rules.{has_module}
use Rattle.pol_site.specs.Settled.{is_busy, is_busy_rule}
use Rattle.pol_site.specs.Sites.{PlainSite, PlainSiteModule, PlainSiteRecipe, PlainSiteExchange}
use Rattle.pol_site.specs.Sound.{IsSite}
use Rattle.pol_stillness.specs.Exchanges.{open_ticket}
use Rattle.pol_stillness.proofs.Exchanges.{open_away}
use Rattle.pol_simulated.proofs.Places.{lt_fails}
use Rattle.pol_simulated.proofs.Values.{place_within}
use Rattle.pol_actors.specs.Exchanges.{begin_errand, begun_standing, ended_standing, end_event, errand_of, event_of}
use Rattle.pol_actors.specs.Exchanges.{exchange_errand, exchanger_after, exchanging_in, is_refusal_busy, know_event}
use Rattle.pol_actors.specs.Exchanges.{plug_event}
use Rattle.pol_actors.specs.Kept.{IsExchanger, StandsAt, is_begun, progress_of, progress_with}
use Rattle.pol_actors.specs.Stamps.{stamped}
use Rattle.pol_actors.specs.declared.exchanger.Errand.{Errand}
use Rattle.pol_actors.specs.declared.exchanger.Errand.TheVariants as task
use Rattle.pol_actors.specs.declared.exchanger.Exchanger.{Exchanger}
use Rattle.pol_actors.specs.declared.exchanger.Standing.{Standing}
use Rattle.pol_actors.specs.declared.exchanger.Standing.TheVariants as standing
use Rattle.pol_actors.proofs.Owners.{owner_exchanger}
use Rattle.pol_actors.proofs.Numbers.{IsEither, all_at, of_first, of_second, either_item, item_within, lt_holds, lt_not}

-- ---- entries of others

-- a module is there after an entry of it that leaves it there
there_after : (entry : PlainEntry) (older : History) (own : Bool) →
    is_there (docking_by (entry ∷ older)) ≡ true → is_there (docking_by older) ≡ true →
    is_there (docking_by (cond own (entry ∷ older) older)) ≡ true
there_after entry older true moved before = moved
there_after entry older false moved before = before

-- whether or not an entry that leaves the docking stands in a module's past, the module is there as before
docking_left : (entry : PlainEntry) (older : History) (own : Bool) → docking_by (entry ∷ older) ≡ docking_by older →
    is_there (docking_by (cond own (entry ∷ older) older)) ≡ is_there (docking_by older)
docking_left entry older true same = ap is_there same
docking_left entry older false same = refl

-- such an entry leaves every tag there that was
dockings_left : (entry : PlainEntry) (older : History) (own : List ℕ → Bool) →
    ((past : History) → docking_by (entry ∷ past) ≡ docking_by past) →
    progress_with older (λ tag. is_there (docking_by (cond (own tag) (entry ∷ past tag older) (past tag older))))
    ≡ progress_of older
dockings_left entry older own same =
    ap (progress_with older) (λ i tag. docking_left entry (past tag older) (own tag) (same (past tag older)) i)

-- an entry of a module, a batch or the desk leaves what the history says to the exchanger
others_leave : (site : PlainSite) (older : History) (event : PlainEvent) (answer : Answer) →
    (owner_of site event ≡ Some 0 → ⊥) → IsAllowed site older event answer →
    progress_of (paired event answer ∷ older) ≡ progress_of older
others_leave site older (plug at tag description) answer other allowed = absurd (other (owner_exchanger site))
others_leave site older (unplug at tag) answer other allowed = absurd allowed
others_leave site older (recipe at name chart) answer other allowed = absurd (other (owner_exchanger site))
others_leave site older (exchange_begin at tag) answer other allowed = absurd (other (owner_exchanger site))
others_leave site older (exchange_end at tag ticket description) answer other allowed =
    absurd (other (owner_exchanger site))
others_leave site older (exchange_cancel at tag ticket) answer other allowed = absurd (other (owner_exchanger site))
others_leave site older (freeze at batch hold) answer other allowed = absurd allowed
others_leave site older (thaw at batch) answer other allowed = absurd allowed
others_leave site older (stop_batch at batch) answer other allowed = absurd allowed
others_leave site older (abandon at batch) answer other allowed = absurd allowed
others_leave site older (report at tag service control) answer other allowed =
    dockings_left (paired (report at tag service control) answer) older
    (λ each. bytes_eq tag each && is_accepted answer) (λ past. refl)
others_leave site older (variable at tag name value) answer other allowed =
    dockings_left (paired (variable at tag name value) answer) older
    (λ each. bytes_eq tag each && is_accepted answer) (λ past. refl)
others_leave site older (desk at tag service command) answer other allowed =
    dockings_left (paired (desk at tag service command) answer) older
    (λ each. bytes_eq tag each && is_accepted answer) (λ past. refl)
others_leave site older (start at batch name binds) answer other allowed = refl
others_leave site older (advance at batch) answer other allowed = refl

-- so it leaves where the exchanger stands
pub exchanger_other : (site : PlainSite) (older : History) (event : PlainEvent) (answer : Answer)
    (exchanger : Exchanger) → (owner_of site event ≡ Some 0 → ⊥) → IsAllowed site older event answer →
    IsExchanger site older exchanger → IsExchanger site (paired event answer ∷ older) exchanger
exchanger_other site older event answer exchanger other allowed =
    subst (λ now. StandsAt site now exchanger) (sym (others_leave site older event answer other allowed))

-- ---- what it does next

-- what kind of event an errand makes, and what holds before it
pub data IsErrandKind (site : PlainSite) (older : History) (errand : Errand) (event : PlainEvent) : Type 0 where
  knows : (place : ℕ) (each : PlainSiteRecipe) → errand ≡ task.Open place → event ≡ know_event each →
      IsErrandKind site older errand event
  plugs : (at place : ℕ) (unit : PlainSiteModule) → errand ≡ task.Open at → slice_get site.modules place ≡ Some unit →
      event ≡ plug_event unit → IsErrandKind site older errand event
  begins : (tag : List ℕ) → errand ≡ task.Begin tag → event ≡ exchange_begin 0 tag →
      is_there (docking_of older tag) ≡ true → is_accepted (answer_of older (exchange_begin 0 tag)) ≡ true →
      IsErrandKind site older errand event
  ends : (tag : List ℕ) (ticket place : ℕ) (exchange : PlainSiteExchange) → errand ≡ task.End tag ticket place →
      event ≡ end_event tag ticket exchange → exchanging older ≡ was_begun tag ticket →
      place ≡ pred (begun_in older) → slice_get site.exchanges place ≡ Some exchange →
      IsErrandKind site older errand event
  cancels : (tag : List ℕ) (ticket : ℕ) → errand ≡ task.Cancel tag ticket → event ≡ exchange_cancel 0 tag ticket →
      is_there (docking_of older tag) ≡ true → is_accepted (answer_of older (exchange_cancel 0 tag ticket)) ≡ true →
      IsErrandKind site older errand event

-- an errand: its event is one that the site allows and the exchanger owns, and after it the exchanger stands where the
-- history says
pub record IsErrand (site : PlainSite) (older : History) (exchanger : Exchanger) (errand : Errand) : Type 0 where
  pub event : PlainEvent
  pub event_is : event_of site errand ≡ Some event
  pub kind : IsErrandKind site older errand event
  pub allowed : IsAllowed site older event (answer_of older event)
  pub orderly : is_orderly event ≡ true
  pub owner : owner_of site event ≡ Some 0
  pub stands :
      (at : ℕ) →
      IsExchanger site (paired (stamped at event) (answer_of older event) ∷ older)
      (exchanger_after exchanger errand (answer_of older event))

-- ---- recipes and modules

-- a recipe
know_errand : (site : PlainSite) (older : History) (exchanger : Exchanger) (each : PlainSiteRecipe) →
    IsSite site → exchanger.opened < length site.recipes → slice_get site.recipes exchanger.opened ≡ Some each →
    slice_get (openings site) exchanger.opened ≡ Some (know_event each) → IsExchanger site older exchanger →
    IsErrand site older exchanger (task.Open exchanger.opened)
know_errand site older exchanger each sound less at listed stands =
    record {
      event = know_event each;
      event_is = listed;
      kind = knows exchanger.opened each refl refl;
      allowed = record {
        listed = ap (slice_get (openings site)) (sym stands.opened_is) ∙ listed;
        unexchanged = stands.unexchanged (omega (arith, less, opened_is));
      };
      orderly = all_at (λ each. is_orderly (recipe 0 each.recipe each.chart)) site.recipes exchanger.opened each
          sound.orderly_recipes at;
      owner = owner_exchanger site;
      stands = λ stamp. record {
        opened_is = ap suc stands.opened_is;
        begun_is = stands.begun_is;
        standing_is = stands.standing_is;
        unexchanged = λ still. stands.unexchanged (omega (arith, still));
        within = omega (arith, less, opened_is);
        begun_within = stands.begun_within;
        listed = stands.listed;
        there = λ place unit at' there. absurd (behind place there);
        few = λ some. let before = stands.few some in omega (arith, before);
      };
    }
  where
    opened_is : exchanger.opened ≡ opened older
    opened_is = stands.opened_is

    behind : (place : ℕ) → length site.recipes + place < suc (opened older) → ⊥
    behind place there = omega (arith, there, less, opened_is)

-- a plug of a tag that isn't there is accepted, where the history and the plant have room
plug_taken : (older : History) (at : ℕ) (tag : List ℕ) (description : PlainDescription) → is_full older ≡ false →
    length (present_tags older) < MOST_MODULES → is_accepted (answer_of older (plug at tag description)) ≡ false →
    is_there (docking_of older tag) ≡ true
plug_taken older at tag description room few refused =
    go (docking_of older tag) (ap is_accepted (sym (with_room older (plug at tag description) room)) ∙ refused)
  where
    unfull : plant_full older ≡ None
    unfull = ap (λ full. when full PlantFull) (lt_fails MOST_MODULES (length (present_tags older)) few)

    go : (docking : Docking) → is_accepted (first_rule (tag_taken docking ∷ plant_full older ∷ []) Done) ≡ false →
        is_there docking ≡ true
    go absent e =
        let clash : true ≡ false = ap (λ rule. is_accepted (first_rule (rule ∷ []) Done)) (sym unfull) ∙ e in cc
    go (docked count) e = refl
    go (away ticket) e = refl

-- a module
plug_errand : (site : PlainSite) (older : History) (exchanger : Exchanger) (place : ℕ) (unit : PlainSiteModule) →
    is_full older ≡ false → length site.modules ≤ MOST_MODULES → exchanger.opened ≡ length site.recipes + place →
    slice_get site.modules place ≡ Some unit →
    slice_get (openings site) exchanger.opened ≡ Some (plug_event unit) → IsExchanger site older exchanger →
    IsErrand site older exchanger (task.Open exchanger.opened)
plug_errand site older exchanger place unit room most is at listed stands =
    record {
      event = plug_event unit;
      event_is = listed;
      kind = plugs exchanger.opened place unit refl at refl;
      allowed = record {
        listed = ap (slice_get (openings site)) (sym stands.opened_is) ∙ listed;
        unexchanged = stands.unexchanged (omega (arith, inside, opened_is, is));
      };
      orderly = refl;
      owner = owner_exchanger site;
      stands = λ stamp. record {
        opened_is = ap suc stands.opened_is;
        begun_is = stands.begun_is;
        standing_is = stands.standing_is;
        unexchanged = λ still. stands.unexchanged (omega (arith, still));
        within = omega (arith, inside, opened_is, is);
        begun_within = stands.begun_within;
        listed = stands.listed;
        there = there stamp;
        few = few_after (is_accepted answer);
      };
    }
  where
    answer : Answer
    answer = answer_of older (plug_event unit)

    opened_is : exchanger.opened ≡ opened older
    opened_is = stands.opened_is

    inside : place < length site.modules
    inside = place_within site.modules place unit at

    few_before : length (present_tags older) < MOST_MODULES
    few_before = go (length (present_tags older)) stands.few
      where
        go : (n : ℕ) → (0 < n → n + length site.recipes ≤ opened older) → n < MOST_MODULES
        go zero less = omega arith
        go (suc n) less = let most' = less (omega arith) in omega (arith, most', opened_is, is, inside, most)

    few_after : (kept : Bool) → 0 < length (present_after (plug_event unit) kept (present_tags older)) →
        length (present_after (plug_event unit) kept (present_tags older)) + length site.recipes ≤ suc (opened older)
    few_after false some = let before = stands.few some in omega (arith, before)
    few_after true some =
        go (length (present_tags older)) stands.few
        (length_filter (λ other. not (bytes_eq other unit.tag)) (present_tags older))
      where
        go : (n : ℕ) → (0 < n → n + length site.recipes ≤ opened older) →
            length (tags_without unit.tag (present_tags older)) ≤ n →
            suc (length (tags_without unit.tag (present_tags older))) + length site.recipes ≤ suc (opened older)
        go zero less short = omega (arith, short, opened_is, is)
        go (suc n) less short = let before = less (omega arith) in omega (arith, short, before)

    there : (stamp other : ℕ) (each : PlainSiteModule) → slice_get site.modules other ≡ Some each →
        length site.recipes + other < suc (opened older) →
        is_there (docking_of (paired (plug stamp unit.tag unit.description) answer ∷ older) each.tag) ≡ true
    there stamp other each at' less = go (bytes_eq unit.tag each.tag) refl (is_accepted answer) refl
      where
        before : bytes_eq unit.tag each.tag ≡ false → length site.recipes + other < opened older
        before apart = by (other == place) refl
          where
            by : (same : Bool) → (other == place) ≡ same → length site.recipes + other < opened older
            by true e =
                let clash : false ≡ true = sym apart
                ∙ ap (λ (found : PlainSiteModule). bytes_eq unit.tag found.tag)
                (same_Some each unit (sym at' ∙ ap (slice_get site.modules) (eqb-true other place e) ∙ at))
                ∙ same_refl unit.tag in cc
            by false e = grind (arith, nat_tests)

        go : (own : Bool) → bytes_eq unit.tag each.tag ≡ own → (kept : Bool) → is_accepted answer ≡ kept →
            is_there (docking_by (cond (own && kept)
            (paired (plug stamp unit.tag unit.description) answer ∷ past each.tag older) (past each.tag older))) ≡ true
        go false apart kept k = stands.there other each at' (before apart)
        go true same true k = refl
        go true same false k =
            ap (λ tag. is_there (docking_of older tag)) (sym (same_true unit.tag each.tag same))
            ∙ plug_taken older 0 unit.tag unit.description room few_before k

-- ---- exchanges

-- the rule, where there is one, is one for which an exchange waits
abbrev IsBusy : Option Rule → Type 0
IsBusy None = Unit {0}
IsBusy (Some rule) = is_busy_rule rule ≡ true

-- a rule of what was found
busy_mapped : {X : Type 0} (says : X → Rule) → ((x : X) → is_busy_rule (says x) ≡ true) → (found : Option X) →
    IsBusy (option_map says found)
busy_mapped says busy None = tt
busy_mapped says busy (Some x) = busy x

-- likewise, where that may say nothing
busy_then : {X : Type 0} (says : X → Option Rule) → ((x : X) → IsBusy (says x)) → (found : Option X) →
    IsBusy (option_and_then says found)
busy_then says busy None = tt
busy_then says busy (Some x) = busy x

-- a rule under a test
busy_when : (test : Bool) (rule : Rule) → is_busy_rule rule ≡ true → IsBusy (when test rule)
busy_when true rule busy = busy
busy_when false rule busy = tt

-- the first rule that holds over a list
busy_each : {X : Type 0} (says : X → Option Rule) → ((x : X) → IsBusy (says x)) → (xs : List X) →
    IsBusy (first_of (map says xs))
busy_each says busy [] = tt
busy_each says busy (x ∷ xs) = go (says x) (busy x) (busy_each says busy xs)
  where
    go : (one : Option Rule) → IsBusy one → IsBusy (first_of (map says xs)) →
        IsBusy (option_or one (first_of (map says xs)))
    go None here later = later
    go (Some rule) here later = here

-- an active step
busy_active : (older : History) (tag : List ℕ) → IsBusy (active_step older tag)
busy_active older tag =
    busy_then _ (λ batch. busy_then _ (λ started. busy_then _
    (λ chart. busy_mapped (λ (step : PlainStep). ActiveStep batch step.name) (λ step. refl)
    (step_on (given started.binds) tag (active chart (log_by (past_of_batch batch older)))))
    (chart_by (recipes older) (Some started))) (start_by (past_of_batch batch older))) (holder_of older tag)

-- a module that isn't at rest
busy_rest : (past : History) (description : Option PlainDescription) →
    IsBusy (option_and_then (module_not_at_rest past) description)
busy_rest past None = tt
busy_rest past (Some description) =
    busy_each (λ (service : PlainService). service_not_at_rest service.name (control_by service.name past))
    (λ service. one service.name (control_by service.name past)) description.services
  where
    one : (name : List ℕ) (last : Option ServiceControl) → IsBusy (service_not_at_rest name last)
    one name None = tt
    one name (Some control) = busy_when _ (NotAtRest name control.state) refl

-- an exchange waits where its begin is refused so
pub busy_by : (answer : Answer) → is_busy answer ≡ is_refusal_busy (refusal answer)
busy_by Done = refl
busy_by (Ticket ticket) = refl
busy_by (Did entry) = refl
busy_by (Waiting obstacle) = refl
busy_by (Closed outcome) = refl
busy_by (Refused rule) = refl

-- the begin of an exchange is accepted, where its module is there, no exchange is open and it needn't wait
begin_accepted : (older : History) (tag : List ℕ) → is_full older ≡ false → is_there (docking_of older tag) ≡ true →
    ticket_of (docking_of older tag) ≡ None →
    is_refusal_busy (refusal (answer_of older (exchange_begin 0 tag))) ≡ false →
    is_accepted (answer_of older (exchange_begin 0 tag)) ≡ true
begin_accepted older tag room there docked_now free =
    ap is_accepted answered
    ∙ go (active_step older tag) (option_and_then (module_not_at_rest (past tag older))
    (description_by (past tag older)))
    (busy_active older tag) (busy_rest (past tag older) (description_by (past tag older)))
    (ap (λ answer. is_refusal_busy (refusal answer)) (sym answered) ∙ free)
  where
    rest : List (Option Rule)
    rest = active_step older tag
        ∷ option_and_then (module_not_at_rest (past tag older)) (description_by (past tag older)) ∷ []

    skipped : (docking : Docking) → is_there docking ≡ true → ticket_of docking ≡ None →
        first_rule (no_module tag docking ∷ in_exchange tag (ticket_of docking) ∷ rest)
        (Ticket (next_ticket (past tag older)))
        ≡ first_rule rest (Ticket (next_ticket (past tag older)))
    skipped absent there none = cc
    skipped (docked count) there none = refl
    skipped (away ticket) there none = cc

    answered : answer_of older (exchange_begin 0 tag) ≡ first_rule rest (Ticket (next_ticket (past tag older)))
    answered = with_room older (exchange_begin 0 tag) room ∙ skipped (docking_of older tag) there docked_now

    go : (one other : Option Rule) → IsBusy one → IsBusy other →
        is_refusal_busy (refusal (first_rule (one ∷ other ∷ []) (Ticket (next_ticket (past tag older))))) ≡ false →
        is_accepted (first_rule (one ∷ other ∷ []) (Ticket (next_ticket (past tag older)))) ≡ true
    go None None busy rests e = refl
    go None (Some rule) busy rests e = let clash : true ≡ false = sym rests ∙ e in cc
    go (Some rule) other busy rests e = let clash : true ≡ false = sym busy ∙ e in cc

-- a module of the site that has the tag
pub has_at : (modules : List PlainSiteModule) (tag : List ℕ) → has_module modules tag ≡ true →
    (place : ℕ) × (unit : PlainSiteModule) × (slice_get modules place ≡ Some unit) × (unit.tag ≡ tag)
has_at [] tag has = cc
has_at (first ∷ others) tag has = go (bytes_eq first.tag tag) refl has (has_at others tag)
  where
    go : (own : Bool) → bytes_eq first.tag tag ≡ own → (own || has_module others tag) ≡ true →
        (has_module others tag ≡ true →
        (place : ℕ) × (unit : PlainSiteModule) × (slice_get others place ≡ Some unit) × (unit.tag ≡ tag)) →
        (place : ℕ) × (unit : PlainSiteModule) × (slice_get (first ∷ others) place ≡ Some unit) × (unit.tag ≡ tag)
    go true is e again = (0, first, refl, same_true first.tag tag is)
    go false is e again = let found = again e in (suc found.0, found.1, found.2, found.3)

-- the facts by which an exchange goes on
module _ (site : PlainSite) (older : History) (exchanger : Exchanger) (sound : IsSite site) (legal : IsLegal older)
    (follows : FollowsSite site older) (room : is_full older ≡ false)
    (all : length site.recipes + length site.modules ≤ exchanger.opened)
    (stands : IsExchanger site older exchanger) where
  -- all recipes and modules were opened
  opened_all : length site.recipes + length site.modules ≤ opened older
  opened_all = let is = stands.opened_is in omega (arith, is, all)

  -- the module of an exchange is there
  exchanged_there : (place : ℕ) (exchange : PlainSiteExchange) → slice_get site.exchanges place ≡ Some exchange →
      is_there (docking_of older exchange.tag) ≡ true
  exchanged_there place exchange listed =
      let found = has_at site.modules exchange.tag
      (all_at (λ (exchange : PlainSiteExchange). has_module site.modules exchange.tag) site.exchanges place exchange
      sound.known_tags listed) in
      let within = place_within site.modules found.0 found.1 found.2 in
      ap (λ tag. is_there (docking_of older tag)) (sym found.3)
      ∙ stands.there found.0 found.1 found.2 (omega (arith, within, opened_all))

  -- an event that leaves every module there
  moved_there : (entry : PlainEntry) (own : List ℕ → Bool) →
      ((tag : List ℕ) → is_there (docking_by (entry ∷ past tag older)) ≡ true) →
      (place : ℕ) (unit : PlainSiteModule) → slice_get site.modules place ≡ Some unit →
      is_there (docking_by (cond (own unit.tag) (entry ∷ past unit.tag older) (past unit.tag older))) ≡ true
  moved_there entry own moved place unit at =
      let within = place_within site.modules place unit at in
      there_after entry (past unit.tag older) (own unit.tag) (moved unit.tag)
      (stands.there place unit at (omega (arith, within, opened_all)))

  -- so none is left to open
  none_left : opened older < length site.recipes + length site.modules → ⊥
  none_left less = let most = opened_all in omega (arith, less, most)

  -- the begin
  errand_of_begin : (exchange : PlainSiteExchange) → exchanger.standing ≡ standing.Closed →
      slice_get site.exchanges exchanger.begun ≡ Some exchange → exchange.after ≤ length older →
      is_refusal_busy (refusal (answer_of older (exchange_begin 0 exchange.tag))) ≡ false →
      IsErrand site older exchanger (task.Begin exchange.tag)
  errand_of_begin exchange closed listed waited free =
      record {
        event = exchange_begin 0 exchange.tag;
        event_is = refl;
        kind = begins exchange.tag refl refl (exchanged_there exchanger.begun exchange listed) accepted;
        allowed = record {
          exchange = exchange;
          listed = at;
          tag_is = refl;
          waited = waited;
          closed = none;
          accepted = accepted;
        };
        orderly = refl;
        owner = owner_exchanger site;
        stands = λ stamp. record {
          opened_is = stands.opened_is;
          begun_is = ap suc stands.begun_is;
          standing_is = standing_is_that answer;
          unexchanged = λ less. absurd (none_left less);
          within = stands.within;
          begun_within = let less = place_within site.exchanges (begun_in older) exchange at in omega (arith, less);
          listed = λ is. ap is_some at;
          there = λ place unit at' less. moved_there (paired (exchange_begin stamp exchange.tag) answer)
              (λ tag. bytes_eq exchange.tag tag && is_accepted answer) (λ tag. refl) place unit at';
          few = stands.few;
        };
      }
    where
      answer : Answer
      answer = answer_of older (exchange_begin 0 exchange.tag)

      at : slice_get site.exchanges (begun_in older) ≡ Some exchange
      at = ap (slice_get site.exchanges) (sym stands.begun_is) ∙ listed

      none : exchanging older ≡ none_open
      none = sym stands.standing_is ∙ ap exchanging_in closed

      accepted : is_accepted answer ≡ true
      accepted = begin_accepted older exchange.tag room (exchanged_there exchanger.begun exchange listed)
          (open_away site older exchange.tag legal follows ∙ ap (open_ticket exchange.tag) none) free

      standing_is_that : (answer : Answer) → exchanging_in (begun_standing exchange.tag answer)
          ≡ begun_with exchange.tag answer
      standing_is_that Done = refl
      standing_is_that (Ticket ticket) = refl
      standing_is_that (Did entry) = refl
      standing_is_that (Waiting obstacle) = refl
      standing_is_that (Closed outcome) = refl
      standing_is_that (Refused rule) = refl

  -- the end
  end_errand : (tag : List ℕ) (ticket : ℕ) → exchanger.standing ≡ standing.Begun tag ticket →
      IsErrand site older exchanger (task.End tag ticket (pred exchanger.begun))
  end_errand tag ticket begun = go (slice_get site.exchanges (pred (begun_in older))) refl
      (stands.listed (ap is_begun begun))
    where
      standing_is_that : (answer : Answer)
          → exchanging_in (ended_standing tag ticket answer) ≡ ended_with tag ticket answer
      standing_is_that (Refused (HeldBack batch missing)) = refl
      standing_is_that _ = refl

      not_begun : (answer : Answer) → is_begun (ended_standing tag ticket answer) ≡ true → ⊥
      not_begun (Refused (HeldBack batch missing)) is = cc
      not_begun _ is = cc

      go : (found : Option PlainSiteExchange) → slice_get site.exchanges (pred (begun_in older)) ≡ found →
          is_some found ≡ true → IsErrand site older exchanger (task.End tag ticket (pred exchanger.begun))
      go None at is = cc
      go (Some exchange) at is =
          record {
            event = end_event tag ticket exchange;
            event_is = ap (λ n. option_map (end_event tag ticket) (slice_get site.exchanges (pred n))) stands.begun_is
                ∙ ap (option_map (end_event tag ticket)) at;
            kind = ends tag ticket (pred exchanger.begun) exchange refl refl
                (sym stands.standing_is ∙ ap exchanging_in begun) (ap pred stands.begun_is)
                (ap (λ n. slice_get site.exchanges (pred n)) stands.begun_is ∙ at);
            allowed = record {
              exchange = exchange;
              listed = at;
              description_is = refl;
              begun = sym stands.standing_is ∙ ap exchanging_in begun;
            };
            orderly = refl;
            owner = owner_exchanger site;
            stands = λ stamp. record {
              opened_is = stands.opened_is;
              begun_is = stands.begun_is;
              standing_is = standing_is_that (answer_of older (end_event tag ticket exchange));
              unexchanged = λ less. absurd (none_left less);
              within = stands.within;
              begun_within = stands.begun_within;
              listed = λ still. absurd (not_begun (answer_of older (end_event tag ticket exchange)) still);
              there = λ place unit at' less. moved_there
                  (paired (exchange_end stamp tag ticket exchange.description)
                  (answer_of older (end_event tag ticket exchange)))
                  (λ other. bytes_eq tag other && is_accepted (answer_of older (end_event tag ticket exchange)))
                  (λ other. refl) place unit at';
              few = stands.few;
            };
          }

  -- the cancelling
  cancel_errand : (tag : List ℕ) (ticket : ℕ) → exchanger.standing ≡ standing.SentBack tag ticket →
      IsErrand site older exchanger (task.Cancel tag ticket)
  cancel_errand tag ticket held =
      record {
        event = exchange_cancel 0 tag ticket;
        event_is = refl;
        kind = cancels tag ticket refl refl (away_there (docking_of older tag) gone) accepted;
        allowed = record { held = held_is; accepted = accepted };
        orderly = refl;
        owner = owner_exchanger site;
        stands = λ stamp. record {
          opened_is = stands.opened_is;
          begun_is = stands.begun_is;
          standing_is = refl;
          unexchanged = λ less. absurd (none_left less);
          within = stands.within;
          begun_within = stands.begun_within;
          listed = λ still. cc;
          there = λ place unit at' less. moved_there (paired (exchange_cancel stamp tag ticket) answer)
              (λ other. bytes_eq tag other && is_accepted answer) (λ other. refl) place unit at';
          few = stands.few;
        };
      }
    where
      answer : Answer
      answer = answer_of older (exchange_cancel 0 tag ticket)

      held_is : exchanging older ≡ was_held tag ticket
      held_is = sym stands.standing_is ∙ ap exchanging_in held

      gone : ticket_of (docking_of older tag) ≡ Some ticket
      gone = open_away site older tag legal follows ∙ ap (open_ticket tag) held_is
          ∙ ap (λ b. if b then Some ticket else None) (same_refl tag)

      away_there : (docking : Docking) → ticket_of docking ≡ Some ticket → is_there docking ≡ true
      away_there absent is = cc
      away_there (docked count) is = cc
      away_there (away other) is = refl

      itself : (n : ℕ) → (n == n) ≡ true
      itself n = grind (arith, nat_tests)

      skipped : (docking : Docking) → ticket_of docking ≡ Some ticket →
          first_rule (no_module tag docking ∷ not_in_exchange docking ∷ wrong_ticket ticket (ticket_of docking)
          ∷ []) Done
          ≡ Done
      skipped absent is = cc
      skipped (docked count) is = cc
      skipped (away other) is = let same : other ≡ ticket = same_Some other ticket is in rw (same, itself ticket) refl

      accepted : is_accepted answer ≡ true
      accepted = ap is_accepted (with_room older (exchange_cancel 0 tag ticket) room
          ∙ skipped (docking_of older tag) gone)

-- each recipe and each module of the site has its opening
pub openings_long : (site : PlainSite) → length (openings site) ≡ length site.recipes + length site.modules
openings_long site =
    length-append (map know_event site.recipes) (map plug_event site.modules)
    ∙ (λ i. length-map site.recipes know_event i + length-map site.modules plug_event i)

-- what it does next is an errand
pub errand_next : (site : PlainSite) (older : History) (count : ℕ) (exchanger : Exchanger) (errand : Errand) →
    IsSite site → length site.modules ≤ MOST_MODULES → IsLegal older → FollowsSite site older → is_full older ≡ false →
    count ≡ length older → IsExchanger site older exchanger → errand_of site older count exchanger ≡ Some errand →
    IsErrand site older exchanger errand
errand_next site older count exchanger errand sound most legal follows room counted stands is =
    by (nat_lt exchanger.opened (length site.recipes + length site.modules)) refl is
  where
    opens : exchanger.opened < length site.recipes + length site.modules →
        IsErrand site older exchanger (task.Open exchanger.opened)
    opens less =
        let long = openings_long site in
        let found = item_within (openings site) exchanger.opened (omega (arith, less, long)) in
        one found.0 found.1
        (either_item know_event plug_event site.recipes site.modules exchanger.opened found.0 found.1)
      where
        one : (event : PlainEvent) → slice_get (openings site) exchanger.opened ≡ Some event →
            IsEither know_event plug_event site.recipes site.modules exchanger.opened event →
            IsErrand site older exchanger (task.Open exchanger.opened)
        one event listed (of_first each less at e) =
            know_errand site older exchanger each sound less at (listed ∙ ap Some e) stands
        one event listed (of_second place unit place_is at e) =
            plug_errand site older exchanger place unit room most place_is at (listed ∙ ap Some e) stands

    by_standing : length site.recipes + length site.modules ≤ exchanger.opened → (standing : Standing) →
        exchanger.standing ≡ standing → exchange_errand site older count exchanger.begun standing ≡ Some errand →
        IsErrand site older exchanger errand
    by_standing all standing.Closed closed e = next (slice_get site.exchanges exchanger.begun) refl e
      where
        next : (found : Option PlainSiteExchange) → slice_get site.exchanges exchanger.begun ≡ found →
            begin_errand older count found ≡ Some errand → IsErrand site older exchanger errand
        next None at e = cc
        next (Some exchange) at e = early (nat_lt count exchange.after) refl e
          where
            busy : exchange.after ≤ length older → (waits : Bool) →
                is_refusal_busy (refusal (answer_of older (exchange_begin 0 exchange.tag))) ≡ waits →
                (if waits then None else Some (task.Begin exchange.tag)) ≡ Some errand →
                IsErrand site older exchanger errand
            busy waited true b e = cc
            busy waited false b e =
                subst (IsErrand site older exchanger) (same_Some (task.Begin exchange.tag) errand e)
                (errand_of_begin site older exchanger sound legal follows room all stands exchange closed at waited b)

            early : (waits : Bool) → nat_lt count exchange.after ≡ waits →
                (if waits then None
                else if is_refusal_busy (refusal (answer_of older (exchange_begin 0 exchange.tag))) then None
                else Some (task.Begin exchange.tag)) ≡ Some errand → IsErrand site older exchanger errand
            early true w e = cc
            early false w e =
                let most = lt_not count exchange.after w in
                busy (omega (arith, most, counted))
                (is_refusal_busy (refusal (answer_of older (exchange_begin 0 exchange.tag)))) refl e
    by_standing all (standing.Begun tag ticket) begun e =
        subst (IsErrand site older exchanger) (same_Some (task.End tag ticket (pred exchanger.begun)) errand e)
        (end_errand site older exchanger sound legal follows room all stands tag ticket begun)
    by_standing all (standing.SentBack tag ticket) held e =
        subst (IsErrand site older exchanger) (same_Some (task.Cancel tag ticket) errand e)
        (cancel_errand site older exchanger sound legal follows room all stands tag ticket held)

    by : (left : Bool) → nat_lt exchanger.opened (length site.recipes + length site.modules) ≡ left →
        (if left then Some (task.Open exchanger.opened)
        else exchange_errand site older count exchanger.begun exchanger.standing) ≡ Some errand →
        IsErrand site older exchanger errand
    by true l e =
        subst (IsErrand site older exchanger) (same_Some (task.Open exchanger.opened) errand e)
        (opens (lt_holds exchanger.opened (length site.recipes + length site.modules) l))
    by false l e =
        by_standing (lt_not exchanger.opened (length site.recipes + length site.modules) l) exchanger.standing refl e
