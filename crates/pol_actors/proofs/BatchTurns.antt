-- A turn of a batch, and one of the desk, keep all that is kept.
use Rattle.std.proofs.Common.{◌≡◌, ◌⊎◌, inl, inr, ◌≤◌, ◌+◌, ℕ, suc, Bool, true, false, List, [], ◌∷◌, ◌++◌, length}
use Rattle.std.proofs.Common.{Option, Some, None, refl, ap, sym, ◌∙◌, subst, arith}
use Rattle.std.specs.Prelude.{nat_lt, is_some, slice_get, slice_set, if◌then◌else◌}
use Rattle.std.specs.Str.{bytes_eq}
use Rattle.std.proofs.lemmas.Option.{same_Some}
use Rattle.mtp_codes.specs.Faults.{when}
use Rattle.mtp_codes.proofs.Names.{same_true}
use Rattle.chart_cursor.specs.Commands.{Sent, sent_by}
use Rattle.pol_events.specs.Events.{PlainEntry, PlainEvent, start, advance, desk}
use Rattle.pol_events.specs.declared.answer.Answer.{Answer}
use Rattle.pol_events.specs.declared.answer.Answer.TheVariants.{Done, Ticket, Did, Waiting, Closed, Refused}
use Rattle.pol_events.specs.declared.answer.Rule.TheVariants.{HistoryFull}
use Rattle.pol_history.specs.Answers.{answer_of, is_full, rules}
use Rattle.pol_history.specs.Looking.{History, is_accepted, is_batch, past, subject}
use Rattle.pol_history.proofs.Accepted.{paired}
use Rattle.pol_history.specs.Modules.{is_moving}
use Rattle.pol_site.specs.Actors.{owner_of}
use Rattle.pol_site.specs.Commanded.{IsCommanded}
use Rattle.pol_site.specs.Following.{IsAllowed, ordered}
use Rattle.pol_site.specs.Settled.{waits_to_order}
use Rattle.pol_site.specs.Sites.{PlainSite, PlainSiteModule, PlainSiteBatch, PlainSiteDesk}
use Rattle.pol_site.specs.Stories.{if_to}
use Rattle.pol_simulated.proofs.Values.{place_within}
use Rattle.pol_stillness.proofs.Desks.{desks_refused}
use Rattle.pol_actors.specs.Batches.{batch_event, stage_after}
use Rattle.pol_actors.specs.Kept.{AreStages, IsKept, IsStage, IsUnit}
use Rattle.pol_actors.specs.Orders.{order_event}
use Rattle.pol_actors.specs.Stamps.{stamped}
use Rattle.pol_actors.specs.declared.batch.Stage.{Stage}
use Rattle.pol_actors.specs.declared.desk.Desk.{Desk}
use Rattle.pol_actors.specs.declared.exchanger.Exchanger.{Exchanger}
use Rattle.pol_actors.specs.declared.unit.Unit.{Unit as Module}
use Rattle.pol_actors.proofs.Commanded.{commanded_more, unmoved, untouched}
use Rattle.pol_actors.proofs.Exchanging.{exchanger_other}
use Rattle.pol_actors.proofs.Numbers.{lt_not, set_got, set_long}
use Rattle.pol_actors.proofs.Owners.{names_apart, owned_more, owner_batch, owner_desk}
use Rattle.pol_actors.proofs.Stages.{IsBatchTurn, batch_turn, stage_other}
use Rattle.pol_actors.proofs.Stamped.{IsNext, allowed_stamped, entry_at, next_kept, owner_stamped}
use Rattle.pol_actors.proofs.Units.{sends_none, touches_none, touches_refused, unit_sent, unit_untouched}

-- an event of an actor that isn't the exchanger isn't the exchanger's
pub not_first : (site : PlainSite) (at : ℕ) (event : PlainEvent) (n : ℕ) → owner_of site event ≡ Some (suc n) →
    owner_of site (stamped at event) ≡ Some 0 → ⊥
not_first site at event n is e = let clash = sym (owner_stamped site at event ∙ is) ∙ e in cc

-- ---- a batch

-- a module after an advance that was answered so
advanced_unit : (site : PlainSite) (older : History) (at : ℕ) (batch : List ℕ) (unit : PlainSiteModule) (own : Module)
    (answer : Answer) → IsNext site (paired (advance at batch) answer ∷ older) →
    IsCommanded older → IsUnit site unit older own →
    IsUnit site unit (paired (advance at batch) answer ∷ older) own
advanced_unit site older at batch unit own (Did did) next commanded is = by (sent_by did) refl
  where
    entry : PlainEntry
    entry = paired (advance at batch) (Did did)

    by : (sent : Option Sent) → sent_by did ≡ sent → IsUnit site unit (entry ∷ older) own
    by None sends = unit_untouched site older entry unit own (touches_none unit.tag entry refl sends) is
    by (Some sent) sends = own_or (bytes_eq sent.tag unit.tag) refl
      where
        own_or : (mine : Bool) → bytes_eq sent.tag unit.tag ≡ mine → IsUnit site unit (entry ∷ older) own
        own_or true same =
            unit_sent site older at batch did sent unit own next.legal next.orderly next.follows commanded sends
            (same_true sent.tag unit.tag same) is
        own_or false apart =
            unit_untouched site older entry unit own
            (ap (λ found. is_some (if_to unit.tag found)) sends
            ∙ ap (λ b. is_some (if b then Some sent else None)) apart) is
advanced_unit site older at batch unit own Done next commanded is =
    unit_untouched site older (paired (advance at batch) Done) unit own refl is
advanced_unit site older at batch unit own (Ticket ticket) next commanded is =
    unit_untouched site older (paired (advance at batch) (Ticket ticket)) unit own refl is
advanced_unit site older at batch unit own (Waiting obstacle) next commanded is =
    unit_untouched site older (paired (advance at batch) (Waiting obstacle)) unit own refl is
advanced_unit site older at batch unit own (Closed outcome) next commanded is =
    unit_untouched site older (paired (advance at batch) (Closed outcome)) unit own refl is
advanced_unit site older at batch unit own (Refused rule) next commanded is =
    unit_untouched site older (paired (advance at batch) (Refused rule)) unit own refl is

-- its turn keeps all
pub batch_kept : (site : PlainSite) (older : History) (by : List ℕ) (exchanger : Exchanger) (units : List Module)
    (stages : List Stage) (orders : Desk) (at place : ℕ) (batch : PlainSiteBatch) (stage : Stage) (event : PlainEvent) →
    is_full older ≡ false → slice_get site.batches place ≡ Some batch → slice_get stages place ≡ Some stage →
    batch_event older batch stage ≡ Some event → IsKept site older by exchanger units stages orders →
    IsKept site (entry_at older at event ∷ older) (by ++ suc (length site.modules + place) ∷ []) exchanger units
    (slice_set stages place (stage_after stage (answer_of older event))) orders
batch_kept site older by exchanger units stages orders at place batch stage event room listed stands is kept =
    record {
      sound = kept.sound;
      legal = next.legal;
      orderly = next.orderly;
      follows = next.follows;
      commanded = commanded_more older entry kept.commanded (λ tag. unmoved (same_past tag) same_moving);
      owned = owned_more site older entry by (suc (length site.modules + place))
          (owner_stamped site at event ∙ owner) kept.owned;
      exchanger_is = exchanger_other site older (stamped at event) answer exchanger
          (not_first site at event (length site.modules + place) owner)
          (allowed_stamped site older at event answer turn.allowed) kept.exchanger_is;
      units_are = λ n unit own at' at''. unit_next unit own (kept.units_are n unit own at' at'');
      unit_count = kept.unit_count;
      stages_are = stages_next;
      stage_count = set_long stages place (stage_after stage answer) ∙ kept.stage_count;
      desk_is = kept.desk_is ∙ sym same_ordered;
      desk_within = subst (λ n. n ≤ length site.desk) (sym same_ordered) kept.desk_within;
    }
  where
    answer : Answer
    answer = answer_of older event

    entry : PlainEntry
    entry = entry_at older at event

    turn : IsBatchTurn site older batch stage event
    turn = batch_turn site older place batch stage event room kept.sound listed
        (kept.stages_are place batch stage listed stands) is

    next : IsNext site (entry ∷ older)
    next = next_kept site older at event room turn.formed turn.allowed kept.legal kept.orderly kept.follows

    -- what follows from the kind of the event
    by_kind : (Goal : PlainEvent → Type 0) → Goal (start 0 batch.batch batch.recipe batch.binds) →
        Goal (advance 0 batch.batch) → Goal event
    by_kind Goal one other = go turn.kind
      where
        go : (event ≡ start 0 batch.batch batch.recipe batch.binds) ⊎ (event ≡ advance 0 batch.batch) → Goal event
        go (inl e) = subst Goal (sym e) one
        go (inr e) = subst Goal (sym e) other

    owner : owner_of site event ≡ Some (suc (length site.modules + place))
    owner = by_kind (λ event. owner_of site event ≡ Some (suc (length site.modules + place)))
        (owner_batch site place batch kept.sound.unlike_batches listed)
        (owner_batch site place batch kept.sound.unlike_batches listed)

    same_past : (tag : List ℕ) →
        past tag (entry ∷ older) ≡ past tag older
    same_past tag = by_kind (λ event. past tag (entry_at older at event ∷ older)
        ≡ past tag older) refl refl

    same_moving : is_moving (stamped at event) ≡ false
    same_moving = by_kind (λ event. is_moving (stamped at event) ≡ false) refl refl

    same_ordered : ordered (entry ∷ older) ≡ ordered older
    same_ordered = by_kind (λ event. ordered (entry_at older at event ∷ older) ≡ ordered older) refl refl

    unit_next : (unit : PlainSiteModule) (own : Module) → IsUnit site unit older own →
        IsUnit site unit (entry ∷ older) own
    unit_next unit own is = by_kind
        (λ event. IsNext site (entry_at older at event ∷ older) →
        IsUnit site unit (entry_at older at event ∷ older) own)
        (λ next. unit_untouched site older (entry_at older at (start 0 batch.batch batch.recipe batch.binds)) unit own
        (touches_none unit.tag (entry_at older at (start 0 batch.batch batch.recipe batch.binds)) refl
        (sends_none (when (is_full older) HistoryFull ∷ rules older
        (start 0 batch.batch batch.recipe batch.binds)) Done refl))
        is)
        (λ next. advanced_unit site older at batch.batch unit own (answer_of older (advance 0 batch.batch)) next
        kept.commanded is) next

    stages_next : AreStages site (entry ∷ older) (slice_set stages place (stage_after stage answer))
    stages_next n other one at' at'' = go (set_got stages place (stage_after stage answer) n one at'')
      where
        go : ((n ≡ place) × (one ≡ stage_after stage answer)) ⊎ ((n ≡ place → ⊥) × (slice_get stages n ≡ Some one)) →
            IsStage (entry ∷ older) other.batch one
        go (inl here) =
            let same : batch ≡ other = same_Some batch other
            (sym listed ∙ ap (slice_get site.batches) (sym here.0) ∙ at') in
            subst (λ (each : PlainSiteBatch). IsStage (entry ∷ older) each.batch one) same
            (subst (IsStage (entry ∷ older) batch.batch) (sym here.1) (turn.stands at))
        go (inr apart) =
            stage_other older other.batch entry one
            (by_kind (λ event. is_batch other.batch (subject (stamped at event)) ≡ false) names names)
            (kept.stages_are n other one at' apart.1)
          where
            names : bytes_eq batch.batch other.batch ≡ false
            names = names_apart (λ (each : PlainSiteBatch). each.batch) site.batches place n batch other
                kept.sound.unlike_batches listed at' apart.0

-- ---- the desk

-- its turn keeps all
pub desk_kept : (site : PlainSite) (older : History) (by : List ℕ) (exchanger : Exchanger) (units : List Module)
    (stages : List Stage) (own : Desk) (at : ℕ) (event : PlainEvent) → is_full older ≡ false →
    order_event (length older) (slice_get site.desk own.ordered) ≡ Some event →
    IsKept site older by exchanger units stages own →
    IsKept site (entry_at older at event ∷ older)
    (by ++ suc (length site.modules + (length site.batches + 0)) ∷ []) exchanger units stages
    (record { ordered = own.ordered + 1 })
desk_kept site older by exchanger units stages own at event room is kept =
    go (slice_get site.desk own.ordered) refl is
  where
    Goal : PlainEvent → Type 0
    Goal event = IsKept site (entry_at older at event ∷ older)
        (by ++ suc (length site.modules + (length site.batches + 0)) ∷ []) exchanger units stages
        (record { ordered = own.ordered + 1 })

    ordered_one : (order : PlainSiteDesk) → slice_get site.desk own.ordered ≡ Some order → order.after ≤ length older →
        Goal (desk 0 order.tag order.service order.command)
    ordered_one order listed waited =
        record {
          sound = kept.sound;
          legal = next.legal;
          orderly = next.orderly;
          follows = next.follows;
          commanded = commanded_more older entry kept.commanded (λ tag. untouched (touches_refused tag entry refused));
          owned =
              owned_more site older entry by (suc (length site.modules + (length site.batches + 0))) (owner_desk site)
              kept.owned;
          exchanger_is = exchanger_other site older (desk at order.tag order.service order.command) answer exchanger
              (not_first site at sent (length site.modules + (length site.batches + 0)) (owner_desk site)) allowed
              kept.exchanger_is;
          units_are =
              λ n unit own at' at''. unit_untouched site older entry unit own (touches_refused unit.tag entry refused)
              (kept.units_are n unit own at' at'');
          unit_count = kept.unit_count;
          stages_are = λ n batch stage at' at''. stage_other older batch.batch entry stage refl
              (kept.stages_are n batch stage at' at'');
          stage_count = kept.stage_count;
          desk_is = let before = kept.desk_is in one_more own.ordered (ordered older) before;
          desk_within = place_within site.desk (ordered older) order at_ordered;
        }
      where
        sent : PlainEvent
        sent = desk 0 order.tag order.service order.command

        answer : Answer
        answer = answer_of older sent

        entry : PlainEntry
        entry = entry_at older at sent

        one_more : (n m : ℕ) → n ≡ m → n + 1 ≡ suc m
        one_more n m e = omega (arith, e)

        at_ordered : slice_get site.desk (ordered older) ≡ Some order
        at_ordered = ap (slice_get site.desk) (sym kept.desk_is) ∙ listed

        refused : is_accepted answer ≡ false
        refused = (desks_refused site older kept.follows).refused 0 order.tag order.service order.command

        allowed : IsAllowed site older sent answer
        allowed = record { after = order.after; listed = at_ordered; waited = waited }

        next : IsNext site (entry ∷ older)
        next = next_kept site older at sent room refl allowed kept.legal kept.orderly kept.follows

    go : (found : Option PlainSiteDesk) → slice_get site.desk own.ordered ≡ found →
        order_event (length older) found ≡ Some event → Goal event
    go None at' e = cc
    go (Some order) at' e = early (nat_lt (length older) order.after) refl e
      where
        early : (waits : Bool) → nat_lt (length older) order.after ≡ waits →
            (if waits then None else Some (desk 0 order.tag order.service order.command)) ≡ Some event → Goal event
        early true w e = cc
        early false w e =
            subst Goal (same_Some (desk 0 order.tag order.service order.command) event e)
            (ordered_one order at' (lt_not (length older) order.after w))

-- where it does nothing it is settled
pub desk_rests : (older : History) (found : Option PlainSiteDesk) →
    order_event (length older) found ≡ None → waits_to_order older found ≡ true
desk_rests older None e = refl
desk_rests older (Some order) e = go (nat_lt (length older) order.after) e
  where
    go : (waits : Bool) →
        (if waits then None else Some (desk 0 order.tag order.service order.command)) ≡ None → waits ≡ true
    go true e = refl
    go false e = cc

-- where it does something it isn't settled
pub desk_acts : (older : History) (found : Option PlainSiteDesk) (event : PlainEvent) →
    order_event (length older) found ≡ Some event → waits_to_order older found ≡ false
desk_acts older None event e = cc
desk_acts older (Some order) event e = go (nat_lt (length older) order.after) e
  where
    go : (waits : Bool) →
        (if waits then None else Some (desk 0 order.tag order.service order.command)) ≡ Some event → waits ≡ false
    go true e = cc
    go false e = refl
