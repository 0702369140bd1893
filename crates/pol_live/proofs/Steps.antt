-- What a turn made of the parts of a locked plant.
use Rattle.std.proofs.Common.{◌≡◌, ◌⊎◌, inl, inr, ◌<◌, ◌≤◌, ◌+◌, ℕ, suc, Bool, true, false, List, [], ◌∷◌, ◌++◌, length}
use Rattle.std.proofs.Common.{get_or, Option, Some, None, refl, ap, sym, ◌∙◌, subst, arith}
use Rattle.std.specs.Prelude.{Result, Ok, Err, OnErr, nat_lt, option_map, slice_get, slice_set, if◌then◌else◌}
use Rattle.std.proofs.lemmas.Bool.{and_parts}
use Rattle.std.proofs.lemmas.List.{length-map}
use Rattle.std.proofs.lemmas.Option.{same_Some, slice_get_read}
use Rattle.pol_events.specs.Events.{PlainEvent, start, advance, desk}
use Rattle.pol_history.specs.Answers.{answer_of, is_full}
use Rattle.pol_history.specs.Looking.{History}
use Rattle.pol_history.proofs.Accepted.{paired}
use Rattle.pol_core.specs.Plants.{is_spared}
use Rattle.pol_io.specs.Causes.{Rose}
use Rattle.pol_site.specs.Actors.{Actor, actors, owner_of}
use Rattle.pol_site.specs.Settled.{is_settled}
use Rattle.pol_site.specs.Sites.{PlainSite, PlainSiteBatch, PlainSiteDesk}
use Rattle.pol_site.specs.PlainSite.{plain_site}
use Rattle.pol_site.specs.Sound.{IsSite}
use Rattle.pol_site.specs.Views.{plain_batch}
use Rattle.pol_site.specs.declared.parts.SiteBatch.{SiteBatch}
use Rattle.pol_site.specs.declared.site.Site.{Site}
use Rattle.pol_simulated.proofs.Places.{le_holds}
use Rattle.pol_actors.specs.Batches.{batch_event, stage_after}
use Rattle.pol_actors.specs.Exchanges.{exchanger_after}
use Rattle.pol_actors.specs.Kept.{IsKept}
use Rattle.pol_actors.specs.Moved.{units_after}
use Rattle.pol_actors.specs.Orders.{order_event}
use Rattle.pol_actors.specs.Stamps.{stamped}
use Rattle.pol_actors.specs.declared.batch.Stage.{Stage}
use Rattle.pol_actors.specs.declared.desk.Desk.{Desk}
use Rattle.pol_actors.specs.declared.exchanger.Errand.{Errand}
use Rattle.pol_actors.specs.declared.exchanger.Exchanger.{Exchanger}
use Rattle.pol_actors.specs.declared.unit.Unit.{Unit as Module}
use Rattle.pol_actors.proofs.BatchTurns.{batch_kept, desk_kept}
use Rattle.pol_actors.proofs.Exchanging.{IsErrand}
use Rattle.pol_actors.proofs.ExchangerTurns.{exchanger_kept}
use Rattle.pol_actors.proofs.Numbers.{item_mapped}
use Rattle.pol_actors.proofs.Owners.{owner_batch, owner_desk}
use Rattle.pol_actors.proofs.Stages.{IsBatchTurn}
use Rattle.pol_actors.proofs.Stamped.{entry_at}
use Rattle.pol_live.specs.Turns.{AskedInVain, Enters, HasRested, IsAsBefore, Locked, history_of}
use Rattle.pol_live.specs.declared.turned.Placed.{Placed}

-- ---- in general

-- an actor that is settled rested
pub rested : (site : PlainSite) (view before : Locked) (actor : ℕ) (who : Actor) → view ≡ before →
    is_full (history_of before) ≡ false → slice_get (actors site) actor ≡ Some who →
    is_settled site (history_of view) who ≡ true → HasRested site before before actor
rested site view before actor who same room who_is settled =
    record {
      calm = record { entries_are = refl; by_is = refl; last_is = refl; calls_are = refl };
      room = room;
      who = who;
      who_is = who_is;
      settled = subst (λ (locked : Locked). is_settled site (history_of locked) who ≡ true) same settled;
    }

-- what holds whatever came of a call holds where it failed
pub on_err : {T E P : Type 0} (result : Result T E) → P → OnErr result P
on_err (Ok value) holds = tt
on_err (Err error) holds = holds

-- a turn whose event found no memory changed nothing but the clock, and that only where the event takes memory
pub as_before : (site : PlainSite) (view before after : Locked) (actor : ℕ) (event : PlainEvent) → view ≡ before
    → owner_of site event ≡ Some actor → (after.entries ≡ view.entries) × (after.by ≡ view.by)
    → after.units ≡ view.units
    → ((after.last ≡ view.last) × (after.calls ≡ view.calls))
    ⊎ ((is_spared event ≡ false) × Rose view.calls after.calls)
    → IsAsBefore site before after actor
as_before site view before after actor event is owner same units clock =
    subst (λ (locked : Locked). IsAsBefore site locked after actor) is
    (record { entries_are = same.0; by_is = same.1; units_are = units; clock_is = asked clock })
  where
    asked : ((after.last ≡ view.last) × (after.calls ≡ view.calls))
        ⊎ ((is_spared event ≡ false) × Rose view.calls after.calls)
        → ((after.last ≡ view.last) × (after.calls ≡ view.calls)) ⊎ AskedInVain site view after actor
    asked (inl unasked) = inl unasked
    asked (inr vain) = inr (record { event = event; owner = owner; takes = vain.0; rose = vain.1 })

-- a site has at most 64 modules
pub few_modules : (site : PlainSite) → IsSite site → length site.modules ≤ 64
few_modules site sound =
    le_holds (length site.modules) 64 (and_parts _ _ sound.some_modules).1

-- the history after an event that entered it
pub entered_is : (before after : History) (calls called last : ℕ) (event own : PlainEvent) (placed : Placed) →
    Enters calls called last before after event placed → event ≡ own → after ≡ entry_at before last own ∷ before
entered_is before after calls called last event own placed enters same =
    enters.entered ∙ (λ i. paired (stamped last (same i))
    ((enters.answer_is ∙ ap (answer_of before) same) i) ∷ before)

-- all parts at once
pub parts : (site : PlainSite) (one other : History) (by by' : List ℕ) (ex ex' : Exchanger) (units units' : List Module)
    (stages stages' : List Stage) (orders orders' : Desk) → one ≡ other → by ≡ by' → ex ≡ ex' → units ≡ units' →
    stages ≡ stages' → orders ≡ orders' → IsKept site one by ex units stages orders →
    IsKept site other by' ex' units' stages' orders'
parts site one other by by' ex ex' units units' stages stages' orders orders' a b c d e f kept =
    subst (λ h. IsKept site h by' ex' units' stages' orders') a
    (subst (λ xs. IsKept site one xs ex' units' stages' orders') b
    (subst (λ x. IsKept site one by x units' stages' orders') c
    (subst (λ xs. IsKept site one by ex xs stages' orders') d
    (subst (λ xs. IsKept site one by ex units xs orders') e
    (subst (λ x. IsKept site one by ex units stages x) f kept)))))

-- ---- the exchanger

-- after its turn
pub exchanger_turned : (site : PlainSite) (before after : History) (by by' : List ℕ) (ex ex' : Exchanger)
    (units units' : List Module) (stages : List Stage) (orders : Desk) (errand : Errand) (calls called last : ℕ)
    (event : PlainEvent) (placed : Placed) → is_full before ≡ false → (turn : IsErrand site before ex errand) →
    event ≡ turn.event → Enters calls called last before after event placed → by' ≡ by ++ 0 ∷ [] →
    ex' ≡ exchanger_after ex errand placed.answer → units' ≡ units_after site units errand placed.answer →
    IsKept site before by ex units stages orders → IsKept site after by' ex' units' stages orders
exchanger_turned site before after by by' ex ex' units units' stages orders errand calls called last event placed room
    turn
    same enters by_is ex_is units_is kept =
    let answer : placed.answer ≡ answer_of before turn.event = enters.answer_is ∙ ap (answer_of before) same in
    parts site (entry_at before last turn.event ∷ before) after (by ++ 0 ∷ []) by'
    (exchanger_after ex errand (answer_of before turn.event)) ex'
    (units_after site units errand (answer_of before turn.event)) units' stages stages orders orders
    (sym (entered_is before after calls called last event turn.event placed enters same)) (sym by_is)
    (sym (ex_is ∙ ap (exchanger_after ex errand) answer)) (sym (units_is ∙ ap (units_after site units errand) answer))
    refl
    refl (exchanger_kept site before by ex units stages orders last errand room turn kept)

-- ---- a batch

-- the batch at a place
pub batch_at : (site : Site) (place : ℕ) (batch : SiteBatch) → place < length (plain_site site).batches →
    batch ≡ get_or site.batches.items place batch → slice_get (plain_site site).batches place ≡ Some (plain_batch batch)
batch_at site place batch less is =
    let long = length-map site.batches.items plain_batch in
    item_mapped plain_batch site.batches.items place
    ∙ ap (option_map plain_batch) (slice_get_read site.batches.items (length site.batches.items) place batch refl
    (omega (arith, less, long)) is)

-- the item at a place
pub own_at : {A : Type 0} (items : List A) (count place : ℕ) (item : A) → length items ≡ count → place < count →
    item ≡ get_or items place item → slice_get items place ≡ Some item
own_at items count place item long less is = slice_get_read items count place item (sym long) less is

-- whose its event is
pub batch_owner : (site : PlainSite) (older : History) (place : ℕ) (batch : PlainSiteBatch) (stage : Stage)
    (event : PlainEvent) → IsSite site → slice_get site.batches place ≡ Some batch →
    IsBatchTurn site older batch stage event → owner_of site event ≡ Some (suc (length site.modules + place))
batch_owner site older place batch stage event sound listed turn = go turn.kind
  where
    Owner : PlainEvent → Type 0
    Owner event = owner_of site event ≡ Some (suc (length site.modules + place))

    go : (event ≡ start 0 batch.batch batch.recipe batch.binds) ⊎ (event ≡ advance 0 batch.batch) → Owner event
    go (inl e) = subst Owner (sym e) (owner_batch site place batch sound.unlike_batches listed)
    go (inr e) = subst Owner (sym e) (owner_batch site place batch sound.unlike_batches listed)

-- after its turn
pub batch_turned : (site : PlainSite) (before after : History) (by by' : List ℕ) (ex : Exchanger) (units : List Module)
    (stages stages' : List Stage) (orders : Desk) (place actor calls called last : ℕ) (batch : PlainSiteBatch)
    (stage : Stage) (event : PlainEvent) (placed : Placed) → is_full before ≡ false →
    slice_get site.batches place ≡ Some batch → slice_get stages place ≡ Some stage →
    batch_event before batch stage ≡ Some event → Enters calls called last before after event placed →
    actor ≡ suc (length site.modules + place) → by' ≡ by ++ actor ∷ [] →
    stages' ≡ slice_set stages place (stage_after stage placed.answer) → IsKept site before by ex units stages orders →
    IsKept site after by' ex units stages' orders
batch_turned site before after by by' ex units stages stages' orders place actor calls called last batch stage event
    placed
    room listed stands is enters named by_is stages_is kept =
    parts site (entry_at before last event ∷ before) after (by ++ suc (length site.modules + place) ∷ []) by' ex ex
    units units
    (slice_set stages place (stage_after stage (answer_of before event))) stages' orders orders
    (sym (entered_is before after calls called last event event placed enters refl))
    (sym (by_is ∙ ap (λ n. by ++ n ∷ []) named)) refl refl
    (sym (stages_is ∙ ap (λ answer. slice_set stages place (stage_after stage answer)) enters.answer_is)) refl
    (batch_kept site before by ex units stages orders last place batch stage event room listed stands is kept)

-- ---- the desk

-- whose its event is
pub desk_owner : (site : PlainSite) (count : ℕ) (found : Option PlainSiteDesk) (event : PlainEvent) →
    order_event count found ≡ Some event →
    owner_of site event ≡ Some (suc (length site.modules + (length site.batches + 0)))
desk_owner site count None event is = cc
desk_owner site count (Some order) event is = go (nat_lt count order.after) is
  where
    go : (waits : Bool) → (if waits then None else Some (desk 0 order.tag order.service order.command)) ≡ Some event →
        owner_of site event ≡ Some (suc (length site.modules + (length site.batches + 0)))
    go true e = cc
    go false e =
        subst (λ event. owner_of site event ≡ Some (suc (length site.modules + (length site.batches + 0))))
        (same_Some (desk 0 order.tag order.service order.command) event e) (owner_desk site)

-- after its turn
pub desk_turned : (site : PlainSite) (before after : History) (by by' : List ℕ) (ex : Exchanger) (units : List Module)
    (stages : List Stage) (orders orders' : Desk) (actor calls called last : ℕ) (event : PlainEvent) (placed : Placed) →
    is_full before ≡ false → order_event (length before) (slice_get site.desk orders.ordered) ≡ Some event →
    Enters calls called last before after event placed →
    actor ≡ suc (length site.modules + (length site.batches + 0)) → by' ≡ by ++ actor ∷ [] →
    orders'.ordered ≡ orders.ordered + 1 → IsKept site before by ex units stages orders →
    IsKept site after by' ex units stages orders'
desk_turned site before after by by' ex units stages orders orders' actor calls called last event placed room is enters
    named
    by_is orders_is kept =
    parts site (entry_at before last event ∷ before) after
    (by ++ suc (length site.modules + (length site.batches + 0)) ∷ []) by' ex ex units units stages stages
    (record { ordered = orders.ordered + 1 }) orders'
    (sym (entered_is before after calls called last event event placed enters refl))
    (sym (by_is ∙ ap (λ n. by ++ n ∷ []) named)) refl refl refl (λ i. record { ordered = sym orders_is i })
    (desk_kept site before by ex units stages orders last event room is kept)
