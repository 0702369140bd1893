use Rattle.std.proofs.Common.{◌≡◌, ◌∙◌, ap, length, refl, sym, Some, None}
use Rattle.std.specs.Prelude.{option_map}
use Rattle.std.proofs.lemmas.Option.{same_Some}
use Rattle.pol_events.specs.Events.{plain_event}
use Rattle.pol_events.specs.Orderly.{is_orderly}
use Rattle.pol_history.specs.Answers.{is_full}
use Rattle.pol_core.specs.Plants.{plant_history}
use Rattle.pol_events.proofs.Histories.{length_history}
use Rattle.pol_site.specs.Actors.{owner_of, the_exchanger}
use Rattle.pol_site.specs.PlainSite.{plain_site}
use Rattle.pol_actors.specs.Exchanges.{errand_of, event_of}
use Rattle.pol_actors.specs.Moved.{units_after}
use Rattle.pol_actors.proofs.ExchangerRests.{exchanger_acts, exchanger_rests}
use Rattle.pol_actors.proofs.Exchanging.{errand_next}
use Rattle.pol_live.specs.Turns.{Locked, history_of}
use Rattle.pol_live.proofs.Steps.{as_before, exchanger_turned, few_modules, on_err, rested}
use Rattle.pol_live.proofs.cast.Cast.exchanger_turn.Goals as goal

pub returns-in_default-clause-ok : goal.returns-in_default-clause-ok
returns-in_default-clause-ok g c =
    let kept = c.self.invariant.1 in
    let history = plant_history c.self.inside.plant in
    let held = ap plain_site c.deref.ensures ∙ c.self.invariant.0 in
    let count = ap length c.history.ensures.entries ∙ sym (length_history c.self.inside.plant.entries) in
    let none = ap (λ site. errand_of site history (length c.history.result.now) c.self.inside.exchanger) (sym held)
    ∙ sym c.errand.ensures ∙ c.in_default.is in
    rested g.J.Job.site _ c.args.self.now 0 the_exchanger c.self.view_is c.requires.room refl
    (exchanger_rests g.J.Job.site history (length c.history.result.now) c.self.inside.exchanger kept.legal kept.follows
    count
    kept.exchanger_is none)

pub unreachable-requires : goal.unreachable-requires
unreachable-requires g c =
    let kept = c.self.invariant.1 in
    let history = plant_history c.self.inside.plant in
    let room = ap (λ (locked : Locked). is_full (history_of locked)) c.self.view_is ∙ c.requires.room in
    let held = ap plain_site c.deref.ensures ∙ c.self.invariant.0 in
    let count = ap length c.history.ensures.entries ∙ sym (length_history c.self.inside.plant.entries) in
    let turn = errand_next g.J.Job.site history (length c.history.result.now) c.self.inside.exchanger c.in-Some.errand
    kept.sound (few_modules g.J.Job.site kept.sound) kept.legal kept.follows room count kept.exchanger_is
    (ap (λ site. errand_of site history (length c.history.result.now) c.self.inside.exchanger) (sym held)
    ∙ sym c.errand.ensures ∙ c.in-Some.is) in
    let event = c.in_ok-event.ensures
    ∙ ap (λ site. event_of site c.in-Some.errand) (ap plain_site c.deref-2.ensures ∙ c.self.invariant.0)
    ∙ turn.event_is in
    let clash : None ≡ Some turn.event = ap (option_map plain_event) (sym c.in_default-2.is) ∙ event in cc

pub enter-requires-clause-orderly : goal.enter-requires-clause-orderly
enter-requires-clause-orderly g c =
    let kept = c.self.invariant.1 in
    let history = plant_history c.self.inside.plant in
    let room = ap (λ (locked : Locked). is_full (history_of locked)) c.self.view_is ∙ c.requires.room in
    let held = ap plain_site c.deref.ensures ∙ c.self.invariant.0 in
    let count = ap length c.history.ensures.entries ∙ sym (length_history c.self.inside.plant.entries) in
    let turn = errand_next g.J.Job.site history (length c.history.result.now) c.self.inside.exchanger c.in-Some.errand
    kept.sound (few_modules g.J.Job.site kept.sound) kept.legal kept.follows room count kept.exchanger_is
    (ap (λ site. errand_of site history (length c.history.result.now) c.self.inside.exchanger) (sym held)
    ∙ sym c.errand.ensures ∙ c.in-Some.is) in
    let event = same_Some (plain_event c.in-Some-2.event) turn.event
    (ap (option_map plain_event) (sym c.in-Some-2.is) ∙ c.in_ok-event.ensures
    ∙ ap (λ site. event_of site c.in-Some.errand) (ap plain_site c.deref-2.ensures ∙ c.self.invariant.0)
    ∙ turn.event_is) in
    ap is_orderly event ∙ turn.orderly

pub invariant_of-self-2 : goal.invariant_of-self-2
invariant_of-self-2 g c =
    let kept = c.self.invariant.1 in
    let history = plant_history c.self.inside.plant in
    let room = ap (λ (locked : Locked). is_full (history_of locked)) c.self.view_is ∙ c.requires.room in
    let held = ap plain_site c.deref.ensures ∙ c.self.invariant.0 in
    let count = ap length c.history.ensures.entries ∙ sym (length_history c.self.inside.plant.entries) in
    let turn = errand_next g.J.Job.site history (length c.history.result.now) c.self.inside.exchanger c.in-Some.errand
    kept.sound (few_modules g.J.Job.site kept.sound) kept.legal kept.follows room count kept.exchanger_is
    (ap (λ site. errand_of site history (length c.history.result.now) c.self.inside.exchanger) (sym held)
    ∙ sym c.errand.ensures ∙ c.in-Some.is) in
    let event = same_Some (plain_event c.in-Some-2.event) turn.event
    (ap (option_map plain_event) (sym c.in-Some-2.is) ∙ c.in_ok-event.ensures
    ∙ ap (λ site. event_of site c.in-Some.errand) (ap plain_site c.deref-2.ensures ∙ c.self.invariant.0)
    ∙ turn.event_is) in (
      c.self.invariant.0,
      exchanger_turned g.J.Job.site history (plant_history c.enter.new.plant) c.self.inside.by.items
          c.enter.new.by.items
          c.self.inside.exchanger c.after-self-inside.result c.self.inside.units.items c.move_units.new.units.items
          c.self.inside.stages.items c.self.inside.desk c.in-Some.errand (g.C.Clock.calls c.self.inside.clock)
          (g.C.Clock.calls c.enter.new.clock) (g.C.Clock.last c.enter.new.clock) (plain_event c.in-Some-2.event)
          c.in_ok-placed.placed room turn event c.in_ok-placed.ensures.ok c.in_ok-placed.ensures.by
          c.after-self-inside.ensures
          (c.move_units.ensures ∙ ap (λ site. units_after site c.self.inside.units.items c.in-Some.errand
          c.in_ok-placed.placed.answer) (ap plain_site c.deref-3.ensures ∙ c.self.invariant.0))
          kept,
    )

pub returns-clause-ok : goal.returns-clause-ok
returns-clause-ok g c =
    let kept = c.self.invariant.1 in
    let history = plant_history c.self.inside.plant in
    let room = ap (λ (locked : Locked). is_full (history_of locked)) c.self.view_is ∙ c.requires.room in
    let held = ap plain_site c.deref.ensures ∙ c.self.invariant.0 in
    let count = ap length c.history.ensures.entries ∙ sym (length_history c.self.inside.plant.entries) in
    let is = ap (λ site. errand_of site history (length c.history.result.now) c.self.inside.exchanger) (sym held)
    ∙ sym c.errand.ensures ∙ c.in-Some.is in
    let turn = errand_next g.J.Job.site history (length c.history.result.now) c.self.inside.exchanger c.in-Some.errand
    kept.sound (few_modules g.J.Job.site kept.sound) kept.legal kept.follows room count kept.exchanger_is is in
    let event = same_Some (plain_event c.in-Some-2.event) turn.event
    (ap (option_map plain_event) (sym c.in-Some-2.is) ∙ c.in_ok-event.ensures
    ∙ ap (λ site. event_of site c.in-Some.errand) (ap plain_site c.deref-2.ensures ∙ c.self.invariant.0)
    ∙ turn.event_is) in
    rw (← c.self.view_is) record {
      room = room;
      who = the_exchanger;
      who_is = refl;
      unsettled = exchanger_acts g.J.Job.site history (length c.history.result.now) c.self.inside.exchanger
          c.in-Some.errand
          kept.sound kept.legal kept.follows count kept.exchanger_is is;
      event = plain_event c.in-Some-2.event;
      owner = ap (owner_of g.J.Job.site) event ∙ turn.owner;
      enters = c.in_ok-placed.ensures.ok;
      by_is = c.in_ok-placed.ensures.by;
    }

pub returns-in_err-placed-clause-err : goal.returns-in_err-placed-clause-err
returns-in_err-placed-clause-err g c =
    let kept = c.self.invariant.1 in
    let history = plant_history c.self.inside.plant in
    let room = ap (λ (locked : Locked). is_full (history_of locked)) c.self.view_is ∙ c.requires.room in
    let held = ap plain_site c.deref.ensures ∙ c.self.invariant.0 in
    let count = ap length c.history.ensures.entries ∙ sym (length_history c.self.inside.plant.entries) in
    let turn = errand_next g.J.Job.site history (length c.history.result.now) c.self.inside.exchanger c.in-Some.errand
    kept.sound (few_modules g.J.Job.site kept.sound) kept.legal kept.follows room count kept.exchanger_is
    (ap (λ site. errand_of site history (length c.history.result.now) c.self.inside.exchanger) (sym held)
    ∙ sym c.errand.ensures ∙ c.in-Some.is) in
    let event = same_Some (plain_event c.in-Some-2.event) turn.event
    (ap (option_map plain_event) (sym c.in-Some-2.is) ∙ c.in_ok-event.ensures
    ∙ ap (λ site. event_of site c.in-Some.errand) (ap plain_site c.deref-2.ensures ∙ c.self.invariant.0)
    ∙ turn.event_is) in
    on_err c.from_residual-in_err-placed.result
    (as_before g.J.Job.site _ c.args.self.now _ 0 (plain_event c.in-Some-2.event) c.self.view_is
    (ap (owner_of g.J.Job.site) event ∙ turn.owner) c.in_err-placed.ensures.err refl c.in_err-placed.ensures.clock)
