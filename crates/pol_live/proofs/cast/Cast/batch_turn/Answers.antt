use Rattle.std.proofs.Common.{◌<◌, ◌+◌, ◌++◌, ◌∷◌, [], ◌∙◌, ap, length, refl, suc, sym, subst}
use Rattle.std.specs.Prelude.{option_map, slice_get, slice_set}
use Rattle.pol_events.specs.Events.{plain_event}
use Rattle.pol_history.specs.Answers.{is_full}
use Rattle.pol_core.specs.Plants.{plant_history}
use Rattle.pol_site.specs.Actors.{a_batch}
use Rattle.pol_site.specs.Sites.{PlainSite}
use Rattle.pol_site.specs.PlainSite.{plain_site}
use Rattle.pol_site.specs.Views.{plain_batch}
use Rattle.pol_actors.proofs.Owners.{actor_batch}
use Rattle.pol_actors.proofs.Stages.{batch_acts, batch_rests, batch_turn}
use Rattle.pol_live.specs.Turns.{Locked, history_of}
use Rattle.pol_live.proofs.Steps.{as_before, batch_at, batch_owner, batch_turned, on_err, own_at, rested}
use Rattle.pol_live.proofs.cast.Cast.batch_turn.Goals as goal

pub returns-in_default-clause-ok : goal.returns-in_default-clause-ok
returns-in_default-clause-ok g c =
    let kept = c.self.invariant.1 in
    let history = plant_history c.self.inside.plant in
    let held = ap plain_site c.deref.ensures ∙ c.self.invariant.0 in
    let batch = plain_batch c.index-batch.result.now in
    let here = subst (λ (site : PlainSite). c.args.place < length site.batches) (sym held) c.requires.place in
    let listed = ap (λ (site : PlainSite). slice_get site.batches c.args.place) (sym held)
    ∙ batch_at c.deref.result.now c.args.place c.index-batch.result.now here c.index-batch.ensures in
    let stands = own_at c.self.inside.stages.items (length g.J.Job.site.batches) c.args.place c.index-stage.result.now
    kept.stage_count c.requires.place c.index-stage.ensures in
    rested g.J.Job.site _ c.args.self.now _ (a_batch batch) c.self.view_is c.requires.room
    (actor_batch g.J.Job.site c.args.place batch listed)
    (batch_rests history batch c.index-stage.result.now kept.legal kept.orderly
    (kept.stages_are c.args.place batch c.index-stage.result.now listed stands)
    (sym c.in_ok-event.ensures ∙ ap (option_map plain_event) c.in_default.is))

pub enter-requires-clause-orderly : goal.enter-requires-clause-orderly
enter-requires-clause-orderly g c =
    let kept = c.self.invariant.1 in
    let history = plant_history c.self.inside.plant in
    let room = ap (λ (locked : Locked). is_full (history_of locked)) c.self.view_is ∙ c.requires.room in
    let held = ap plain_site c.deref.ensures ∙ c.self.invariant.0 in
    let batch = plain_batch c.index-batch.result.now in
    let here = subst (λ (site : PlainSite). c.args.place < length site.batches) (sym held) c.requires.place in
    let listed = ap (λ (site : PlainSite). slice_get site.batches c.args.place) (sym held)
    ∙ batch_at c.deref.result.now c.args.place c.index-batch.result.now here c.index-batch.ensures in
    let stands = own_at c.self.inside.stages.items (length g.J.Job.site.batches) c.args.place c.index-stage.result.now
    kept.stage_count c.requires.place c.index-stage.ensures in
    (batch_turn g.J.Job.site history c.args.place batch c.index-stage.result.now (plain_event c.in-Some.event) room
    kept.sound
    listed (kept.stages_are c.args.place batch c.index-stage.result.now listed stands)
    (sym c.in_ok-event.ensures ∙ ap (option_map plain_event) c.in-Some.is)).formed

pub invariant_of-self-2 : goal.invariant_of-self-2
invariant_of-self-2 g c =
    let kept = c.self.invariant.1 in
    let history = plant_history c.self.inside.plant in
    let room = ap (λ (locked : Locked). is_full (history_of locked)) c.self.view_is ∙ c.requires.room in
    let held = ap plain_site c.deref.ensures ∙ c.self.invariant.0 in
    let batch = plain_batch c.index-batch.result.now in
    let here = subst (λ (site : PlainSite). c.args.place < length site.batches) (sym held) c.requires.place in
    let listed = ap (λ (site : PlainSite). slice_get site.batches c.args.place) (sym held)
    ∙ batch_at c.deref.result.now c.args.place c.index-batch.result.now here c.index-batch.ensures in
    let stands = own_at c.self.inside.stages.items (length g.J.Job.site.batches) c.args.place c.index-stage.result.now
    kept.stage_count c.requires.place c.index-stage.ensures in (
      c.self.invariant.0,
      batch_turned g.J.Job.site history (plant_history c.enter.new.plant) c.self.inside.by.items c.enter.new.by.items
          c.self.inside.exchanger c.self.inside.units.items c.self.inside.stages.items _ c.self.inside.desk c.args.place
          c.args.actor (g.C.Clock.calls c.self.inside.clock) (g.C.Clock.calls c.enter.new.clock)
          (g.C.Clock.last c.enter.new.clock) batch c.index-stage.result.now (plain_event c.in-Some.event)
          c.in_ok-placed.placed room listed stands
          (sym c.in_ok-event.ensures ∙ ap (option_map plain_event) c.in-Some.is) c.in_ok-placed.ensures.ok
          c.requires.actor c.in_ok-placed.ensures.by
          (ap (slice_set c.self.inside.stages.items c.args.place) c.after.ensures) kept,
    )

pub returns-clause-ok : goal.returns-clause-ok
returns-clause-ok g c =
    let kept = c.self.invariant.1 in
    let history = plant_history c.self.inside.plant in
    let room = ap (λ (locked : Locked). is_full (history_of locked)) c.self.view_is ∙ c.requires.room in
    let held = ap plain_site c.deref.ensures ∙ c.self.invariant.0 in
    let batch = plain_batch c.index-batch.result.now in
    let here = subst (λ (site : PlainSite). c.args.place < length site.batches) (sym held) c.requires.place in
    let listed = ap (λ (site : PlainSite). slice_get site.batches c.args.place) (sym held)
    ∙ batch_at c.deref.result.now c.args.place c.index-batch.result.now here c.index-batch.ensures in
    let stands = own_at c.self.inside.stages.items (length g.J.Job.site.batches) c.args.place c.index-stage.result.now
    kept.stage_count c.requires.place c.index-stage.ensures in
    let is = sym c.in_ok-event.ensures ∙ ap (option_map plain_event) c.in-Some.is in
    let stage_is = kept.stages_are c.args.place batch c.index-stage.result.now listed stands in
    let turn = batch_turn g.J.Job.site history c.args.place batch c.index-stage.result.now (plain_event c.in-Some.event)
    room
    kept.sound listed stage_is is in
    rw (← c.self.view_is) record {
      room = room;
      who = a_batch batch;
      who_is = actor_batch g.J.Job.site c.args.place batch listed;
      unsettled = batch_acts history batch c.index-stage.result.now (plain_event c.in-Some.event) stage_is is;
      event = plain_event c.in-Some.event;
      owner = batch_owner g.J.Job.site history c.args.place batch c.index-stage.result.now (plain_event c.in-Some.event)
          kept.sound listed turn;
      enters = c.in_ok-placed.ensures.ok;
      by_is = c.in_ok-placed.ensures.by ∙ ap (λ n. c.self.inside.by.items ++ n ∷ []) c.requires.actor;
    }

pub returns-in_err-placed-clause-err : goal.returns-in_err-placed-clause-err
returns-in_err-placed-clause-err g c =
    let kept = c.self.invariant.1 in
    let history = plant_history c.self.inside.plant in
    let room = ap (λ (locked : Locked). is_full (history_of locked)) c.self.view_is ∙ c.requires.room in
    let held = ap plain_site c.deref.ensures ∙ c.self.invariant.0 in
    let batch = plain_batch c.index-batch.result.now in
    let here = subst (λ (site : PlainSite). c.args.place < length site.batches) (sym held) c.requires.place in
    let listed = ap (λ (site : PlainSite). slice_get site.batches c.args.place) (sym held)
    ∙ batch_at c.deref.result.now c.args.place c.index-batch.result.now here c.index-batch.ensures in
    let stands = own_at c.self.inside.stages.items (length g.J.Job.site.batches) c.args.place c.index-stage.result.now
    kept.stage_count c.requires.place c.index-stage.ensures in
    let turn = batch_turn g.J.Job.site history c.args.place batch c.index-stage.result.now (plain_event c.in-Some.event)
    room kept.sound listed (kept.stages_are c.args.place batch c.index-stage.result.now listed stands)
    (sym c.in_ok-event.ensures ∙ ap (option_map plain_event) c.in-Some.is) in
    on_err c.from_residual-in_err-placed.result
    (as_before g.J.Job.site _ c.args.self.now _ (suc (length g.J.Job.site.modules + c.args.place))
    (plain_event c.in-Some.event) c.self.view_is
    (batch_owner g.J.Job.site history c.args.place batch c.index-stage.result.now (plain_event c.in-Some.event)
    kept.sound listed turn) c.in_err-placed.ensures.err refl c.in_err-placed.ensures.clock)
