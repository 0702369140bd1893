use Rattle.std.proofs.Common.{◌++◌, ◌∷◌, [], ◌∙◌, ap, length, sym}
use Rattle.std.specs.Prelude.{option_map, slice_get}
use Rattle.pol_events.specs.Events.{plain_event}
use Rattle.pol_history.specs.Answers.{is_full}
use Rattle.pol_core.specs.Plants.{plant_history}
use Rattle.pol_events.proofs.Histories.{length_history}
use Rattle.pol_site.specs.Actors.{the_desk}
use Rattle.pol_site.specs.Settled.{waits_to_order}
use Rattle.pol_site.specs.PlainSite.{plain_site}
use Rattle.pol_actors.specs.Orders.{order_event}
use Rattle.pol_actors.proofs.BatchTurns.{desk_acts, desk_rests}
use Rattle.pol_actors.proofs.Owners.{actor_desk}
use Rattle.pol_live.specs.Turns.{Locked, history_of}
use Rattle.pol_live.proofs.Steps.{desk_owner, desk_turned, rested}
use Rattle.pol_live.proofs.cast.Cast.desk_turn.Goals as goal

pub returns-in_default-clause-ok : goal.returns-in_default-clause-ok
returns-in_default-clause-ok g c =
    let kept = c.self.invariant.1 in
    let history = plant_history c.self.inside.plant in
    let held = ap plain_site c.deref.ensures ∙ c.self.invariant.0 in
    let count = ap length c.history.ensures.entries ∙ sym (length_history c.self.inside.plant.entries) in
    let none = sym (ap (λ n. order_event n (slice_get g.J.Job.site.desk c.self.inside.desk.ordered)) count)
    ∙ sym (ap (λ site. order_event (length c.history.result.now) (slice_get site.desk c.self.inside.desk.ordered)) held)
    ∙ sym c.next_event.ensures ∙ ap (option_map plain_event) c.in_default.is in
    rested g.J.Job.site _ c.args.self.now _ the_desk c.self.view_is c.requires.room (actor_desk g.J.Job.site)
    (ap (λ n. waits_to_order history (slice_get g.J.Job.site.desk n)) (sym kept.desk_is)
    ∙ desk_rests history (slice_get g.J.Job.site.desk c.self.inside.desk.ordered) none)

pub invariant_of-self-2 : goal.invariant_of-self-2
invariant_of-self-2 g c =
    let kept = c.self.invariant.1 in
    let history = plant_history c.self.inside.plant in
    let room = ap (λ (locked : Locked). is_full (history_of locked)) c.self.view_is ∙ c.requires.room in
    let held = ap plain_site c.deref.ensures ∙ c.self.invariant.0 in
    let count = ap length c.history.ensures.entries ∙ sym (length_history c.self.inside.plant.entries) in
    let event = sym (ap (λ n. order_event n (slice_get g.J.Job.site.desk c.self.inside.desk.ordered)) count)
    ∙ sym (ap (λ site. order_event (length c.history.result.now) (slice_get site.desk c.self.inside.desk.ordered)) held)
    ∙ sym c.next_event.ensures ∙ ap (option_map plain_event) c.in-Some.is in (
      c.self.invariant.0,
      desk_turned g.J.Job.site history (plant_history c.enter.new.plant) c.self.inside.by.items c.enter.new.by.items
          c.self.inside.exchanger c.self.inside.units.items c.self.inside.stages.items c.self.inside.desk
          c.sent.new.self
          c.args.actor (g.C.Clock.calls c.self.inside.clock)
          (g.C.Clock.calls c.enter.new.clock)
          (g.C.Clock.last c.enter.new.clock) (plain_event c.in-Some.event) c.in_ok-placed.placed room event
          c.in_ok-placed.ensures.ok c.requires.actor c.in_ok-placed.ensures.by c.sent.ensures kept,
    )

pub returns-clause-ok : goal.returns-clause-ok
returns-clause-ok g c =
    let kept = c.self.invariant.1 in
    let history = plant_history c.self.inside.plant in
    let held = ap plain_site c.deref.ensures ∙ c.self.invariant.0 in
    let order = slice_get g.J.Job.site.desk c.self.inside.desk.ordered in
    let count = ap length c.history.ensures.entries ∙ sym (length_history c.self.inside.plant.entries) in
    let event = sym (ap (λ n. order_event n order) count)
    ∙ sym (ap (λ site. order_event (length c.history.result.now) (slice_get site.desk c.self.inside.desk.ordered)) held)
    ∙ sym c.next_event.ensures ∙ ap (option_map plain_event) c.in-Some.is in
    rw (← c.self.view_is) record {
      room = ap (λ (locked : Locked). is_full (history_of locked)) c.self.view_is ∙ c.requires.room;
      who = the_desk;
      who_is = actor_desk g.J.Job.site;
      unsettled = ap (λ n. waits_to_order history (slice_get g.J.Job.site.desk n)) (sym kept.desk_is)
          ∙ desk_acts history order (plain_event c.in-Some.event) event;
      event = plain_event c.in-Some.event;
      owner = desk_owner g.J.Job.site (length history) order (plain_event c.in-Some.event) event;
      enters = c.in_ok-placed.ensures.ok;
      by_is = c.in_ok-placed.ensures.by ∙ ap (λ n. c.self.inside.by.items ++ n ∷ []) c.requires.actor;
    }
