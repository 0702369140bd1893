-- Where a batch stands: after one more entry, what it may do next, and when it has nothing to do.
use Rattle.std.proofs.Common.{◌≡◌, ◌⊎◌, inl, inr, ℕ, Bool, true, false, cond, not, List, [], ◌∷◌, Option, Some, None}
use Rattle.std.proofs.Common.{refl, ap, sym, ◌∙◌, subst}
use Rattle.std.specs.Prelude.{◌&&◌, ◌||◌, is_some, is_none, option_and_then, option_map, slice_get, if◌then◌else◌}
use Rattle.std.specs.Option.{option_or}
use Rattle.std.specs.Str.{bytes_eq}
use Rattle.std.proofs.lemmas.Option.{same_Some}
use Rattle.mtp_codes.specs.Faults.{when}
use Rattle.mtp_codes.proofs.Names.{same_refl}
use Rattle.chart_core.specs.declared.next.Next.{Next}
use Rattle.chart_core.specs.declared.next.Next.TheVariants as next
use Rattle.chart_core.specs.declared.next.Outcome.{Outcome}
use Rattle.pol_events.specs.Events.{PlainEvent, PlainEntry, start, advance}
use Rattle.pol_events.specs.Orderly.{is_orderly}
use Rattle.pol_events.specs.declared.answer.Answer.{Answer}
use Rattle.pol_events.specs.declared.answer.Answer.TheVariants.{Done, Ticket, Did, Waiting, Closed, Refused}
use Rattle.pol_events.specs.declared.answer.Rule.TheVariants.{BatchClosed}
use Rattle.pol_events.specs.Bound.{PlainAllocation}
use Rattle.pol_history.specs.Answers.{advanced, answer_of, first_rule, is_full}
use Rattle.pol_history.specs.Batches.{Started, chart_by, outcome_of, start_by, start_of}
use Rattle.pol_history.specs.Following.{next_of, next_of_started}
use Rattle.pol_history.specs.Looking.{History, is_accepted, is_batch, past, past_of_batch, recipes, subject}
use Rattle.pol_history.specs.Rules.{no_batch}
use Rattle.pol_history.specs.Runs.{IsLegal, IsOrderly}
use Rattle.pol_history.proofs.Accepted.{paired, with_room}
use Rattle.pol_core.specs.Calls.{open_next, refusal}
use Rattle.pol_safety.proofs.Advances.{started_charted}
use Rattle.pol_site.specs.Following.{IsAllowed, is_put_off, is_stepped, last_entry_of}
use Rattle.pol_site.specs.Settled.{is_settled_batch, is_waiting}
use Rattle.pol_site.specs.Sites.{PlainSite, PlainSiteBatch}
use Rattle.pol_site.specs.Sound.{IsSite}
use Rattle.pol_simulated.proofs.Called.{called_at}
use Rattle.pol_actors.specs.Batches.{advance_event, batch_event, is_refusal_passing, stage_after, start_event}
use Rattle.pol_actors.specs.Stamps.{stamped}
use Rattle.pol_actors.specs.Kept.{IsStage, IsStageBy}
use Rattle.pol_actors.proofs.Numbers.{all_at}
use Rattle.pol_actors.specs.declared.batch.Stage.{Stage}
use Rattle.pol_actors.specs.declared.batch.Stage.TheVariants as stage

-- ---- one more entry

-- an entry of something else leaves it
pub stage_other : (older : History) (batch : List ℕ) (entry : PlainEntry) (stage : Stage) →
    is_batch batch (subject entry.event) ≡ false → IsStage older batch stage → IsStage (entry ∷ older) batch stage
stage_other older batch entry stage apart stands =
    subst (λ last. IsStageBy last (start_of (entry ∷ older) batch) stage) (sym last)
    (subst (λ begun. IsStageBy (last_entry_of batch older) begun stage) (sym begun) stands)
  where
    last : last_entry_of batch (entry ∷ older) ≡ last_entry_of batch older
    last = ap (λ own. option_or (if own then Some entry else None) (last_entry_of batch older)) apart

    begun : start_of (entry ∷ older) batch ≡ start_of older batch
    begun =
        ap (λ own. start_by (cond (own && is_accepted entry.answer) (entry ∷ past_of_batch batch older)
        (past_of_batch batch older))) apart

-- its start
pub stage_started : (older : History) (at : ℕ) (batch recipe : List ℕ) (binds : PlainAllocation) (answer : Answer) →
    IsStage older batch stage.Unsent →
    IsStage (paired (start at batch recipe binds) answer ∷ older) batch (stage_after stage.Unsent answer)
stage_started older at batch recipe binds answer stands = by (bytes_eq batch batch) answer (same_refl batch)
  where
    entry : Answer → PlainEntry
    entry answer = paired (start at batch recipe binds) answer

    by : (own : Bool) (answer : Answer) → own ≡ true →
        IsStageBy (option_or (if own then Some (entry answer) else None) (last_entry_of batch older))
        (start_by (cond (own && is_accepted answer) (entry answer ∷ past_of_batch batch older)
        (past_of_batch batch older)))
        (stage_after stage.Unsent answer)
    by false answer is = cc
    by true Done is = ((entry Done, refl, refl), refl)
    by true (Ticket ticket) is = ((entry (Ticket ticket), refl, refl), refl)
    by true (Did did) is = ((entry (Did did), refl, refl), refl)
    by true (Waiting obstacle) is = ((entry (Waiting obstacle), refl, refl), refl)
    by true (Closed outcome) is = ((entry (Closed outcome), refl, refl), refl)
    by true (Refused rule) is = ((entry (Refused rule), refl, refl), stands.1)

-- its advance
pub stage_advanced : (older : History) (at : ℕ) (batch : List ℕ) (answer : Answer) → is_accepted answer ≡ true →
    IsStage older batch stage.Started → IsStage (paired (advance at batch) answer ∷ older) batch stage.Started
stage_advanced older at batch answer accepted stands =
    by (bytes_eq batch batch) (is_accepted answer) (same_refl batch) accepted
  where
    entry : PlainEntry
    entry = paired (advance at batch) answer

    by : (own kept : Bool) → own ≡ true → kept ≡ true →
        IsStageBy (option_or (if own then Some entry else None) (last_entry_of batch older))
        (start_by (cond (own && kept) (entry ∷ past_of_batch batch older) (past_of_batch batch older))) stage.Started
    by false kept is so = cc
    by true false is so = cc
    by true true is so = ((entry, refl, accepted), stands.1)

-- ---- what it may do next

-- a start waits where its refusal passes
put_off_by : (answer : Answer) → is_put_off answer ≡ is_refusal_passing (refusal answer)
put_off_by Done = refl
put_off_by (Ticket ticket) = refl
put_off_by (Did entry) = refl
put_off_by (Waiting obstacle) = refl
put_off_by (Closed outcome) = refl
put_off_by (Refused rule) = refl

-- what a batch does next, and what it makes of where it stands
pub record IsBatchTurn (site : PlainSite) (older : History) (batch : PlainSiteBatch) (stage : Stage)
    (event : PlainEvent) :
    Type 0 where
  pub kind : (event ≡ start 0 batch.batch batch.recipe batch.binds) ⊎ (event ≡ advance 0 batch.batch)
  pub formed : is_orderly event ≡ true
  pub allowed : IsAllowed site older event (answer_of older event)
  pub stands :
      (at : ℕ) →
      IsStage (paired (stamped at event) (answer_of older event) ∷ older) batch.batch
      (stage_after stage (answer_of older event))

-- its start
start_turn : (site : PlainSite) (older : History) (place : ℕ) (batch : PlainSiteBatch) (event : PlainEvent) →
    IsSite site → slice_get site.batches place ≡ Some batch →
    IsStage older batch.batch stage.Unsent → start_event older batch ≡ Some event →
    IsBatchTurn site older batch stage.Unsent event
start_turn site older place batch event sound listed stands is =
    go (is_refusal_passing (refusal (answer_of older (start 0 batch.batch batch.recipe batch.binds)))) refl is
  where
    own : PlainEvent
    own = start 0 batch.batch batch.recipe batch.binds

    go : (waits : Bool) → is_refusal_passing (refusal (answer_of older own)) ≡ waits →
        (if waits then None else Some own) ≡ Some event → IsBatchTurn site older batch stage.Unsent event
    go true free e = cc
    go false free e = subst (IsBatchTurn site older batch stage.Unsent) (same_Some own event e) (record {
      kind = inl refl;
      formed =
          all_at (λ (batch : PlainSiteBatch). is_orderly (start 0 batch.batch batch.recipe batch.binds)) site.batches
          place batch sound.orderly_starts listed;
      allowed = record {
        listed = called_at (λ (each : PlainSiteBatch). each.batch) site.batches place batch batch.batch
            sound.unlike_batches listed (same_refl batch.batch);
        first = stands.0;
        not_put_off = put_off_by (answer_of older own) ∙ free;
      };
      stands = λ at. stage_started older at batch.batch batch.recipe batch.binds (answer_of older own) stands;
    })

-- where the batch is open and its next entry is known, an advance gives it
advance_answered : (older : History) (batch : List ℕ) (next : Next) → is_full older ≡ false →
    is_some (start_of older batch) ≡ true → open_next older batch ≡ Some next →
    answer_of older (advance 0 batch) ≡ advanced (Some next)
advance_answered older batch next room begun is =
    with_room older (advance 0 batch) room
    ∙ go (start_by (past_of_batch batch older)) (outcome_of older batch) (next_of older batch) refl begun is
  where
    go : (found : Option Started) (outcome : Option Outcome) (following : Option Next) →
        outcome_of older batch ≡ outcome → is_some found ≡ true →
        (if is_none outcome then following else None) ≡ Some next →
        first_rule (no_batch found ∷ when (is_some outcome) BatchClosed ∷ [])
        (advanced following) ≡ advanced (Some next)
    go None outcome following out there e = cc
    go (Some found) None following out there e = ap advanced e
    go (Some found) (Some outcome) following out there e = cc

-- its advance
advance_turn : (site : PlainSite) (older : History) (batch : PlainSiteBatch) (event : PlainEvent)
    → is_full older ≡ false →
    IsStage older batch.batch stage.Started → advance_event batch.batch (open_next older batch.batch) ≡ Some event →
    IsBatchTurn site older batch stage.Started event
advance_turn site older batch event room stands is = go (open_next older batch.batch) refl is
  where
    own : PlainEvent
    own = advance 0 batch.batch

    turn : (next : Next) → open_next older batch.batch ≡ Some next → is_stepped (advanced (Some next)) ≡ true →
        is_accepted (advanced (Some next)) ≡ true → Some own ≡ Some event →
        IsBatchTurn site older batch stage.Started event
    turn next found steps accepts e =
        let answered = advance_answered older batch.batch next room stands.1 found in
        subst (IsBatchTurn site older batch stage.Started) (same_Some own event e) (record {
          kind = inr refl;
          formed = refl;
          allowed = record {
            before = stands.0.0;
            last = stands.0.1;
            accepted = stands.0.2;
            stepped = ap is_stepped answered ∙ steps;
          };
          stands = λ at. stage_advanced older at batch.batch (answer_of older own)
              (ap is_accepted answered ∙ accepts) stands;
        })

    go : (next : Option Next) → open_next older batch.batch ≡ next → advance_event batch.batch next ≡ Some event →
        IsBatchTurn site older batch stage.Started event
    go None found e = cc
    go (Some (next.Waiting obstacle)) found e = cc
    go (Some (next.Did entry)) found e = turn (next.Did entry) found refl refl e
    go (Some (next.Closed outcome)) found e = turn (next.Closed outcome) found refl refl e

-- what it does next
pub batch_turn : (site : PlainSite) (older : History) (place : ℕ) (batch : PlainSiteBatch) (stage : Stage)
    (event : PlainEvent) → is_full older ≡ false → IsSite site →
    slice_get site.batches place ≡ Some batch → IsStage older batch.batch stage →
    batch_event older batch stage ≡ Some event → IsBatchTurn site older batch stage event
batch_turn site older place batch stage.Unsent event room sound listed stands is =
    start_turn site older place batch event sound listed stands is
batch_turn site older place batch stage.Refused event room sound listed stands is = cc
batch_turn site older place batch stage.Started event room sound listed stands is =
    advance_turn site older batch event room stands is

-- ---- whether it has something to do

-- a batch that was started has a next entry
next_there : (older : History) (batch : List ℕ) → IsLegal older → IsOrderly older →
    is_some (start_of older batch) ≡ true → next_of older batch ≡ None → ⊥
next_there older batch legal orderly begun none = go (start_of older batch) refl begun none
  where
    go : (found : Option Started) → start_of older batch ≡ found → is_some found ≡ true →
        option_and_then (next_of_started (recipes older) (past_of_batch batch older) (λ tag. past tag older)) found
        ≡ None →
        ⊥
    go None is there e = cc
    go (Some started) is there e =
        let known = started_charted older batch started legal orderly is in
        let charted : chart_by (recipes older) (Some started) ≡ Some known.chart =
        ap (chart_by (recipes older)) (sym is) ∙ known.chart_is in
        let clash = sym (ap (option_map _) charted) ∙ e in cc

-- where it does nothing it is settled
pub batch_rests : (older : History) (batch : PlainSiteBatch) (stage : Stage) → IsLegal older → IsOrderly older →
    IsStage older batch.batch stage → batch_event older batch stage ≡ None → is_settled_batch older batch ≡ true
batch_rests older batch stage.Unsent legal orderly stands none =
    rw (stands.1, stands.0) (put_off_by (answer_of older own) ∙ go
    (is_refusal_passing (refusal (answer_of older own))) none)
  where
    own : PlainEvent
    own = start 0 batch.batch batch.recipe batch.binds

    go : (waits : Bool) → (if waits then None else Some own) ≡ None → waits ≡ true
    go true e = refl
    go false e = cc
batch_rests older batch stage.Refused legal orderly stands none =
    rw (stands.1, stands.0.1) (ap not stands.0.2)
batch_rests older batch stage.Started legal orderly stands none =
    rw (stands.1) (go (outcome_of older batch.batch) (next_of older batch.batch) refl none)
  where
    go : (outcome : Option Outcome) (following : Option Next) → next_of older batch.batch ≡ following →
        advance_event batch.batch (if is_none outcome then following else None) ≡ None →
        (is_some outcome || is_waiting following) ≡ true
    go (Some outcome) following is e = refl
    go None None is e = absurd (next_there older batch.batch legal orderly stands.1 is)
    go None (Some (next.Waiting obstacle)) is e = refl
    go None (Some (next.Did entry)) is e = cc
    go None (Some (next.Closed outcome)) is e = cc

-- where it does something it isn't settled
pub batch_acts : (older : History) (batch : PlainSiteBatch) (stage : Stage) (event : PlainEvent) →
    IsStage older batch.batch stage → batch_event older batch stage ≡ Some event →
    is_settled_batch older batch ≡ false
batch_acts older batch stage.Unsent event stands is =
    rw (stands.1, stands.0) (put_off_by (answer_of older own) ∙ go
    (is_refusal_passing (refusal (answer_of older own))) is)
  where
    own : PlainEvent
    own = start 0 batch.batch batch.recipe batch.binds

    go : (waits : Bool) → (if waits then None else Some own) ≡ Some event → waits ≡ false
    go true e = cc
    go false e = refl
batch_acts older batch stage.Refused event stands is = cc
batch_acts older batch stage.Started event stands is =
    rw (stands.1) (go (outcome_of older batch.batch) (next_of older batch.batch) is)
  where
    go : (outcome : Option Outcome) (following : Option Next) →
        advance_event batch.batch (if is_none outcome then following else None) ≡ Some event →
        (is_some outcome || is_waiting following) ≡ false
    go (Some outcome) following e = cc
    go None None e = cc
    go None (Some (next.Waiting obstacle)) e = cc
    go None (Some (next.Did entry)) e = refl
    go None (Some (next.Closed outcome)) e = refl
