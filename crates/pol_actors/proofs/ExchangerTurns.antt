-- A turn of the exchanger keeps all that is kept.
use Rattle.std.proofs.Common.{◌≡◌, ◌⊎◌, inl, inr, ◌≤◌, ◌+◌, ℕ, Bool, true, false, List, [], ◌∷◌, ◌++◌, length, Option}
use Rattle.std.proofs.Common.{Some, None, refl, ap, sym, ◌∙◌, subst}
use Rattle.std.specs.Prelude.{◌&&◌, pred, option_and_then, slice_get, if◌then◌else◌}
use Rattle.std.specs.Str.{bytes_eq}
use Rattle.std.proofs.lemmas.List.Quantifiers.{position-Some}
use Rattle.std.proofs.lemmas.Option.{get_or_from_slice_get, same_Some}
use Rattle.mtp_codes.specs.Faults.{when}
use Rattle.mtp_codes.proofs.Names.{same_true, same_refl, apart_back}
use Rattle.mtp_codes.specs.Repeats.{repeats_by}
use Rattle.pol_events.specs.Events.{PlainEntry, PlainEvent, plug, exchange_begin, exchange_cancel}
use Rattle.pol_events.specs.declared.answer.Answer.{Answer}
use Rattle.pol_events.specs.declared.answer.Answer.TheVariants.{Done, Ticket, Did, Waiting, Closed, Refused}
use Rattle.pol_events.specs.declared.answer.Rule.TheVariants.{HistoryFull}
use Rattle.pol_history.specs.Answers.{answer_of, is_full, otherwise, rules}
use Rattle.pol_history.specs.Commands.{sent_command}
use Rattle.pol_history.specs.Looking.{History, is_accepted, is_batch, is_module, subject}
use Rattle.pol_history.specs.Modules.{Docking, absent, docked, away, docking_of, is_moving}
use Rattle.pol_history.specs.Rules.{tag_taken}
use Rattle.pol_history.proofs.Accepted.{accepted_none, accepted_otherwise, paired}
use Rattle.pol_safety.specs.Known.{is_there}
use Rattle.pol_site.specs.Following.{FollowsSite, exchanging, ordered, was_begun}
use Rattle.pol_site.specs.Plans.{begun_in}
use Rattle.pol_site.specs.Rules.{same_tag}
use Rattle.pol_site.specs.Sites.{PlainSite, PlainSiteModule, PlainSiteRecipe, PlainSiteExchange}
use Rattle.pol_site.specs.Stories.{touches}
use Rattle.pol_actors.specs.Exchanges.{end_event, exchanger_after, know_event, plug_event}
use Rattle.pol_actors.specs.Kept.{AreUnits, IsKept, IsUnit}
use Rattle.pol_actors.specs.Moved.{changed_at, errand_tag, place_of_tag, put_at, unit_after, units_after}
use Rattle.pol_actors.specs.Stamps.{stamped}
use Rattle.pol_actors.specs.declared.batch.Stage.{Stage}
use Rattle.pol_actors.specs.declared.desk.Desk.{Desk}
use Rattle.pol_actors.specs.declared.exchanger.Errand.{Errand}
use Rattle.pol_actors.specs.declared.exchanger.Errand.TheVariants as task
use Rattle.pol_actors.specs.declared.exchanger.Exchanger.{Exchanger}
use Rattle.pol_actors.specs.declared.unit.Unit.{Unit as Module}
use Rattle.pol_actors.proofs.Commanded.{Commands, commanded_more, fresh, untouched}
use Rattle.pol_actors.proofs.Exchanging.{IsErrand, IsErrandKind, begins, cancels, ends, knows, plugs}
use Rattle.pol_actors.proofs.Numbers.{set_got, set_long}
use Rattle.pol_actors.proofs.Owners.{owned_more, position_at}
use Rattle.pol_actors.proofs.Stages.{stage_other}
use Rattle.pol_actors.proofs.Stamped.{IsNext, entry_at, next_kept, owner_stamped}
use Rattle.pol_actors.proofs.Units.{moved_fresh, sends_none, touches_none, touches_refused, unit_begun, unit_cancelled}
use Rattle.pol_actors.proofs.Units.{unit_ended, unit_plugged, unit_untouched}

-- ---- one module

-- the tag, if there is one, is the module's
abbrev is_tag : Option (List ℕ) → List ℕ → Bool
is_tag None tag = false
is_tag (Some other) tag = bytes_eq tag other

-- the module after the errand: another one stays
abbrev unit_then : Errand → Answer → List ℕ → Module → Module
unit_then errand answer tag own = if is_tag (errand_tag errand) tag then unit_after errand answer own else own

-- a module whose tag isn't the event's
apart_free : (entry : PlainEntry) (tag : List ℕ) → is_module tag (subject entry.event) ≡ false →
    sent_command entry.answer ≡ None → touches tag entry ≡ false
apart_free entry tag apart none =
    touches_none tag entry (ap (λ own. own && is_accepted entry.answer) apart) none

-- no event of the exchanger sends a command
module _ (older : History) where
  -- an event that sends nothing where no rule holds sends nothing
  silent : (event : PlainEvent) → sent_command (otherwise older event) ≡ None →
      sent_command (answer_of older event) ≡ None
  silent event none =
      sends_none (when (is_full older) HistoryFull ∷ rules older event) (otherwise older event) none

-- a module that was plugged wasn't there
untaken : (docking : Docking) → tag_taken docking ≡ None → is_there docking ≡ false
untaken absent none = refl
untaken (docked count) none = cc
untaken (away ticket) none = cc

-- what the event of an errand makes of a module
module _ (site : PlainSite) (older : History) (at : ℕ) (n : ℕ) (unit : PlainSiteModule) (own : Module)
    (follows : FollowsSite site older) (unlike : repeats_by same_tag site.modules ≡ false)
    (listed : slice_get site.modules n ≡ Some unit) (is : IsUnit site unit older own) where
  -- what is to be shown of an errand and the event that it makes
  abbrev Goal : Errand → PlainEvent → Type 0
  Goal errand event =
      IsUnit site unit (entry_at older at event ∷ older) (unit_then errand (answer_of older event) unit.tag own)

  -- a recipe that is made known
  known : (place : ℕ) (each : PlainSiteRecipe) → Goal (task.Open place) (know_event each)
  known place each =
      unit_untouched site older (entry_at older at (know_event each)) unit own
      (apart_free (entry_at older at (know_event each)) unit.tag refl (silent older (know_event each) refl)) is

  -- a module that is plugged
  plugged : (place m : ℕ) (other : PlainSiteModule) → slice_get site.modules m ≡ Some other →
      Goal (task.Open place) (plug_event other)
  plugged place m other listed' = go (bytes_eq other.tag unit.tag) refl
    where
      entry : PlainEntry
      entry = entry_at older at (plug_event other)

      taken : (kept : Bool) → is_accepted (answer_of older (plug_event other)) ≡ kept → other ≡ unit →
          IsUnit site unit (entry ∷ older) own
      taken false refused same = unit_untouched site older entry unit own (touches_refused unit.tag entry refused) is
      taken true accepted same =
          let free = accepted_none older (plug_event other) accepted in
          subst (λ (each : PlainEntry). IsUnit site unit (each ∷ older) own)
          (λ i. paired (plug at (sym same i).tag (sym same i).description)
          (sym (accepted_otherwise older (plug_event other) accepted) i))
          (unit_plugged site older at n unit own unlike listed
          (ap (λ (each : PlainSiteModule). is_there (docking_of older each.tag)) (sym same)
          ∙ untaken (docking_of older other.tag) free.0) is)

      go : (mine : Bool) → bytes_eq other.tag unit.tag ≡ mine → IsUnit site unit (entry ∷ older) own
      go false apart =
          unit_untouched site older entry unit own (apart_free entry unit.tag apart
          (silent older (plug_event other) refl)) is
      go true same = taken (is_accepted (answer_of older (plug_event other))) refl
          (same_Some other unit (sym listed' ∙ ap (slice_get site.modules) places ∙ listed))
        where
          places : m ≡ n
          places = same_Some m n
              (sym (position_at (λ (each : PlainSiteModule). each.tag) site.modules m other unit.tag unlike listed'
              same)
              ∙ position_at (λ (each : PlainSiteModule). each.tag) site.modules n unit unit.tag unlike listed
              (same_refl unit.tag))

  -- an exchange that begins
  begun : (tag : List ℕ) → is_there (docking_of older tag) ≡ true →
      is_accepted (answer_of older (exchange_begin 0 tag)) ≡ true → Goal (task.Begin tag) (exchange_begin 0 tag)
  begun tag there accepted = go (bytes_eq unit.tag tag) refl
    where
      entry : PlainEntry
      entry = entry_at older at (exchange_begin 0 tag)

      go : (mine : Bool) → bytes_eq unit.tag tag ≡ mine →
          IsUnit site unit (entry ∷ older) (if mine then record { made = None; brought = own.brought } else own)
      go true same =
          let named = sym (same_true unit.tag tag same) in
          unit_begun site older at tag (answer_of older (exchange_begin 0 tag)) unit own accepted named
          (ap (λ tag. is_there (docking_of older tag)) (sym named) ∙ there) is
      go false apart =
          unit_untouched site older entry unit own
          (apart_free entry unit.tag (apart_back unit.tag tag apart) (silent older (exchange_begin 0 tag) refl)) is

  -- one that is cancelled
  cancelled : (tag : List ℕ) (ticket : ℕ) → is_there (docking_of older tag) ≡ true →
      is_accepted (answer_of older (exchange_cancel 0 tag ticket)) ≡ true →
      Goal (task.Cancel tag ticket) (exchange_cancel 0 tag ticket)
  cancelled tag ticket there accepted = go (bytes_eq unit.tag tag) refl
    where
      entry : PlainEntry
      entry = entry_at older at (exchange_cancel 0 tag ticket)

      go : (mine : Bool) → bytes_eq unit.tag tag ≡ mine →
          IsUnit site unit (entry ∷ older) (if mine then record { made = None; brought = own.brought } else own)
      go true same =
          let named = sym (same_true unit.tag tag same) in
          unit_cancelled site older at tag ticket (answer_of older
          (exchange_cancel 0 tag ticket)) unit own accepted named
          (ap (λ tag. is_there (docking_of older tag)) (sym named) ∙ there) is
      go false apart =
          unit_untouched site older entry unit own
          (apart_free entry unit.tag (apart_back unit.tag tag apart)
          (silent older (exchange_cancel 0 tag ticket) refl)) is

  -- and one that ends
  ended : (tag : List ℕ) (ticket place : ℕ) (exchange : PlainSiteExchange) →
      exchanging older ≡ was_begun tag ticket →
      place ≡ pred (begun_in older) → slice_get site.exchanges place ≡ Some exchange →
      Goal (task.End tag ticket place) (end_event tag ticket exchange)
  ended tag ticket place exchange begun_now place_is at' = go (bytes_eq unit.tag tag) refl
    where
      event : PlainEvent
      event = end_event tag ticket exchange

      refused : (answer : Answer) → is_accepted answer ≡ false → unit_after (task.End tag ticket place) answer own ≡ own
      refused Done e = cc
      refused (Ticket t) e = refl
      refused (Did entry) e = refl
      refused (Waiting obstacle) e = refl
      refused (Closed outcome) e = refl
      refused (Refused rule) e = refl

      by : (kept : Bool) → is_accepted (answer_of older event) ≡ kept → tag ≡ unit.tag →
          IsUnit site unit (entry_at older at event ∷ older)
          (unit_after (task.End tag ticket place) (answer_of older event) own)
      by true accepted named =
          let done : answer_of older event ≡ Done = accepted_otherwise older event accepted in
          rw done (unit_ended site older at tag ticket place exchange unit own follows begun_now place_is at' named is)
      by false e named =
          subst (IsUnit site unit (entry_at older at event ∷ older)) (sym (refused (answer_of older event) e))
          (unit_untouched site older (entry_at older at event) unit own
          (touches_refused unit.tag (entry_at older at event) e) is)

      go : (mine : Bool) → bytes_eq unit.tag tag ≡ mine →
          IsUnit site unit (entry_at older at event ∷ older)
          (if mine then unit_after (task.End tag ticket place) (answer_of older event) own else own)
      go true same = by (is_accepted (answer_of older event)) refl (sym (same_true unit.tag tag same))
      go false apart =
          unit_untouched site older (entry_at older at event) unit own
          (apart_free (entry_at older at event) unit.tag (apart_back unit.tag tag apart) (silent older event refl)) is

  -- by the kind of the errand
  unit_next : (errand : Errand) (event : PlainEvent) → IsErrandKind site older errand event → Goal errand event
  unit_next errand event (knows place each e f) =
      subst (λ errand. Goal errand event) (sym e) (subst (Goal (task.Open place)) (sym f) (known place each))
  unit_next errand event (plugs place m other e at' f) =
      subst (λ errand. Goal errand event) (sym e) (subst (Goal (task.Open place)) (sym f) (plugged place m other at'))
  unit_next errand event (begins tag e f there accepted) =
      subst (λ errand. Goal errand event) (sym e) (subst (Goal (task.Begin tag)) (sym f) (begun tag there accepted))
  unit_next errand event (ends tag ticket place exchange e f begun_now place_is at') =
      subst (λ errand. Goal errand event) (sym e)
      (subst (Goal (task.End tag ticket place)) (sym f) (ended tag ticket place exchange begun_now place_is at'))
  unit_next errand event (cancels tag ticket e f there accepted) =
      subst (λ errand. Goal errand event) (sym e)
      (subst (Goal (task.Cancel tag ticket)) (sym f) (cancelled tag ticket there accepted))

-- ---- all modules

-- the list stays as long
changed_long : (units : List Module) (place : Option ℕ) (change : Module → Module) →
    length (changed_at units place change) ≡ length units
changed_long units None change = refl
changed_long units (Some place) change = go (slice_get units place)
  where
    go : (found : Option Module) → length (put_at units place change found) ≡ length units
    go None = refl
    go (Some own) = set_long units place (change own)

-- a module of the list with one changed is the one that was there, or that one changed
changed_got : (site : PlainSite) (units : List Module) (tag : Option (List ℕ)) (change : Module → Module) (n : ℕ)
    (unit : PlainSiteModule) (one : Module) → repeats_by same_tag site.modules ≡ false →
    slice_get site.modules n ≡ Some unit →
    slice_get (changed_at units (option_and_then (place_of_tag site) tag) change) n ≡ Some one →
    (own : Module) × (slice_get units n ≡ Some own) × (one ≡ (if is_tag tag unit.tag then change own else own))
changed_got site units None change n unit one unlike listed at = (one, at, refl)
changed_got site units (Some tag) change n unit one unlike listed at = by (place_of_tag site tag) refl at
  where
    Found : Type 0
    Found =
        (own : Module) × (slice_get units n ≡ Some own) × (one ≡ (if bytes_eq unit.tag tag then change own else own))

    -- the place of the tag is the module's, where it has it
    here : bytes_eq unit.tag tag ≡ true → place_of_tag site tag ≡ Some n
    here named = position_at (λ (each : PlainSiteModule). each.tag) site.modules n unit tag unlike listed named

    other : (bytes_eq unit.tag tag ≡ true → ⊥) → slice_get units n ≡ Some one → Found
    other apart at = go (bytes_eq unit.tag tag) refl
      where
        go : (mine : Bool) → bytes_eq unit.tag tag ≡ mine →
            (own : Module) × (slice_get units n ≡ Some own) × (one ≡ (if mine then change own else own))
        go true is = absurd (apart is)
        go false is = (one, at, refl)

    by : (place : Option ℕ) → place_of_tag site tag ≡ place → slice_get (changed_at units place change) n ≡ Some one →
        Found
    by None is at = other (λ named. let clash = sym (here named) ∙ is in cc) at
    by (Some place) is at = go (slice_get units place) refl at
      where
        go : (found : Option Module) → slice_get units place ≡ found →
            slice_get (put_at units place change found) n ≡ Some one →
            Found
        go None none at = other
            (λ named. let same : n ≡ place = same_Some n place (sym (here named) ∙ is) in
            let clash = sym at ∙ ap (slice_get units) same ∙ none in cc) at
        go (Some own) found at = set (set_got units place (change own) n one at)
          where
            set : ((n ≡ place) × (one ≡ change own)) ⊎ ((n ≡ place → ⊥) × (slice_get units n ≡ Some one)) → Found
            set (inl same) =
                let passes = (position-Some (λ (each : PlainSiteModule). bytes_eq each.tag tag) site.modules place unit
                is).1 in
                let it = get_or_from_slice_get site.modules place unit unit
                (ap (slice_get site.modules) (sym same.0) ∙ listed) in
                let named : bytes_eq unit.tag tag ≡ true =
                ap (λ (each : PlainSiteModule). bytes_eq each.tag tag) (sym it) ∙ passes in (
                  own,
                  ap (slice_get units) same.0 ∙ found,
                  same.1 ∙ ap (λ b. if b then change own else own) (sym named),
                )
            set (inr apart) = other (λ named. apart.0 (same_Some n place (sym (here named) ∙ is))) apart.1

-- ---- commands

-- an accepted event of the exchanger moves its module, and no other event of it touches one
errand_commands : (site : PlainSite) (older : History) (at : ℕ) (errand : Errand) (event : PlainEvent) (tag : List ℕ) →
    IsErrandKind site older errand event → Commands older (entry_at older at event) tag
errand_commands site older at errand event tag kind = go kind
  where
    Goal : PlainEvent → Type 0
    Goal event = Commands older (entry_at older at event) tag

    moves : (entry : PlainEntry) → is_moving entry.event ≡ true → sent_command entry.answer ≡ None →
        Commands older entry tag
    moves entry moving none = by (is_module tag (subject entry.event)) refl (is_accepted entry.answer) refl
      where
        by : (mine : Bool) → is_module tag (subject entry.event) ≡ mine → (kept : Bool) →
            is_accepted entry.answer ≡ kept → Commands older entry tag
        by false apart kept k = untouched (apart_free entry tag apart none)
        by true is false refused = untouched (touches_refused tag entry refused)
        by true is true accepted = fresh (moved_fresh older entry tag is accepted moving).0

    go : IsErrandKind site older errand event → Goal event
    go (knows place each e f) =
        subst Goal (sym f) (untouched (apart_free (entry_at older at (know_event each)) tag refl
        (silent older (know_event each) refl)))
    go (plugs place m other e at' f) =
        subst Goal (sym f) (moves (entry_at older at (plug_event other)) refl (silent older (plug_event other) refl))
    go (begins other e f there accepted) =
        subst Goal (sym f) (moves (entry_at older at (exchange_begin 0 other)) refl
        (silent older (exchange_begin 0 other) refl))
    go (ends other ticket place exchange e f begun_now place_is at') =
        subst Goal (sym f) (moves (entry_at older at (end_event other ticket exchange)) refl
        (silent older (end_event other ticket exchange) refl))
    go (cancels other ticket e f there accepted) =
        subst Goal (sym f) (moves (entry_at older at (exchange_cancel 0 other ticket)) refl
        (silent older (exchange_cancel 0 other ticket) refl))

-- ---- all

-- what holds of the kinds of event of the exchanger holds of its event
of_kind : (site : PlainSite) (older : History) (errand : Errand) (event : PlainEvent) (Goal : PlainEvent → Type 0) →
    ((each : PlainSiteRecipe) → Goal (know_event each)) → ((unit : PlainSiteModule) → Goal (plug_event unit)) →
    ((tag : List ℕ) → Goal (exchange_begin 0 tag)) →
    ((tag : List ℕ) (ticket : ℕ) (exchange : PlainSiteExchange) → Goal (end_event tag ticket exchange)) →
    ((tag : List ℕ) (ticket : ℕ) → Goal (exchange_cancel 0 tag ticket)) → IsErrandKind site older errand event →
    Goal event
of_kind site older errand event Goal one two three four five (knows place each e f) = subst Goal (sym f) (one each)
of_kind site older errand event Goal one two three four five (plugs place m other e at' f) =
    subst Goal (sym f) (two other)
of_kind site older errand event Goal one two three four five (begins tag e f there accepted) =
    subst Goal (sym f) (three tag)
of_kind site older errand event Goal one two three four five
    (ends tag ticket place exchange e f begun_now place_is at') =
    subst Goal (sym f) (four tag ticket exchange)
of_kind site older errand event Goal one two three four five (cancels tag ticket e f there accepted) =
    subst Goal (sym f) (five tag ticket)

-- its turn keeps all
pub exchanger_kept : (site : PlainSite) (older : History) (by : List ℕ) (exchanger : Exchanger) (units : List Module)
    (stages : List Stage) (desk : Desk) (at : ℕ) (errand : Errand) → is_full older ≡ false →
    (turn : IsErrand site older exchanger errand) → IsKept site older by exchanger units stages desk →
    IsKept site (entry_at older at turn.event ∷ older) (by ++ 0 ∷ [])
    (exchanger_after exchanger errand (answer_of older turn.event))
    (units_after site units errand (answer_of older turn.event)) stages desk
exchanger_kept site older by exchanger units stages desk at errand room turn kept =
    record {
      sound = kept.sound;
      legal = next.legal;
      orderly = next.orderly;
      follows = next.follows;
      commanded = commanded_more older entry kept.commanded
          (λ tag. errand_commands site older at errand turn.event tag turn.kind);
      owned = owned_more site older entry by 0 (owner_stamped site at turn.event ∙ turn.owner) kept.owned;
      exchanger_is = turn.stands at;
      units_are = units_next;
      unit_count =
          changed_long units (option_and_then (place_of_tag site) (errand_tag errand)) (unit_after errand answer)
          ∙ kept.unit_count;
      stages_are = λ n batch stage at' at''. stage_other older batch.batch entry stage (no_batch batch.batch)
          (kept.stages_are n batch stage at' at'');
      stage_count = kept.stage_count;
      desk_is = kept.desk_is ∙ sym same_ordered;
      desk_within = subst (λ n. n ≤ length site.desk) (sym same_ordered) kept.desk_within;
    }
  where
    answer : Answer
    answer = answer_of older turn.event

    entry : PlainEntry
    entry = entry_at older at turn.event

    next : IsNext site (entry ∷ older)
    next = next_kept site older at turn.event room turn.orderly turn.allowed kept.legal kept.orderly kept.follows

    no_batch : (batch : List ℕ) → is_batch batch (subject (stamped at turn.event)) ≡ false
    no_batch batch =
        of_kind site older errand turn.event (λ event. is_batch batch (subject (stamped at event)) ≡ false)
        (λ each. refl) (λ unit. refl) (λ tag. refl) (λ tag ticket exchange. refl) (λ tag ticket. refl) turn.kind

    same_ordered : ordered (entry ∷ older) ≡ ordered older
    same_ordered =
        of_kind site older errand turn.event (λ event. ordered (entry_at older at event ∷ older) ≡ ordered older)
        (λ each. refl) (λ unit. refl) (λ tag. refl) (λ tag ticket exchange. refl) (λ tag ticket. refl) turn.kind

    units_next : AreUnits site (entry ∷ older) (units_after site units errand answer)
    units_next n unit one at' at'' =
        let found = changed_got site units (errand_tag errand)
        (unit_after errand answer) n unit one kept.sound.unlike_modules
        at' at'' in
        subst (IsUnit site unit (entry ∷ older)) (sym found.2)
        (unit_next site older at n unit found.0 kept.follows kept.sound.unlike_modules at'
        (kept.units_are n unit found.0 at' found.1) errand turn.event turn.kind)
