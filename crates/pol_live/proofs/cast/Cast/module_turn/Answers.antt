use Rattle.std.proofs.Common.{◌<◌, ◌++◌, ◌∷◌, [], ◌∙◌, List, ap, length, refl, suc, sym, subst}
use Rattle.std.specs.Prelude.{slice_get, slice_set}
use Rattle.pol_events.specs.Events.{plain_event, plain_history}
use Rattle.pol_events.specs.declared.event.Entry.{Entry}
use Rattle.pol_history.specs.Answers.{is_full}
use Rattle.pol_core.specs.Plants.{plant_history}
use Rattle.pol_site.specs.Actors.{a_module, owner_of}
use Rattle.pol_site.specs.Sites.{PlainSite}
use Rattle.pol_site.specs.PlainSite.{plain_site}
use Rattle.pol_site.specs.Views.{plain_module}
use Rattle.pol_simulated.specs.Units.{report_event}
use Rattle.pol_actors.proofs.Owners.{actor_module}
use Rattle.pol_live.specs.Turns.{Enters, Locked, history_of}
use Rattle.pol_live.proofs.Looking.{look_of}
use Rattle.pol_live.proofs.ModuleSteps.{at_turn, kept_calm, kept_reported, module_at, module_count, module_known}
use Rattle.pol_live.proofs.ModuleSteps.{module_turned, module_within, moved, report_owner, settled_before}
use Rattle.pol_live.proofs.ModuleSteps.{undocked_settled}
use Rattle.pol_live.proofs.Steps.{entered_is, rested}
use Rattle.pol_live.proofs.cast.Cast.module_turn.Goals as goal

pub returns-then-not-is_docked-clause-ok : goal.returns-then-not-is_docked-clause-ok
returns-then-not-is_docked-clause-ok g c =
    let held = ap plain_site c.deref.ensures ∙ c.self.invariant.0 in
    let unit = plain_module c.index-unit.result.now in
    let here = subst (λ (site : PlainSite). c.args.place < length site.modules) (sym held) c.requires.place in
    let listed = ap (λ (site : PlainSite). slice_get site.modules c.args.place) (sym held)
    ∙ module_at c.deref.result.now c.args.place c.index-unit.result.now here c.index-unit.ensures in
    rested g.J.Job.site _ c.args.self.now (suc c.args.place) (a_module unit) c.self.view_is c.requires.room
    (actor_module g.J.Job.site c.args.place unit listed)
    (undocked_settled g.J.Job.site (plant_history c.self.inside.plant) unit.tag
    (sym c.is_docked.ensures ∙ c.if-not-is_docked.true))

pub turn-requires : goal.turn-requires
turn-requires g c =
    let at = at_turn c.deref.result.now c.deref-2.result.now c.args.place c.index-unit.result.now
    c.index_mut.result.now (ap plain_site c.deref.ensures ∙ c.self.invariant.0)
    (ap plain_site c.deref-2.ensures ∙ c.self.invariant.0) c.in_ok-reserve.ensures.entries c.self.invariant.1
    (ap (λ (locked : Locked). is_full (history_of locked)) c.self.view_is ∙ c.requires.room) c.requires.place
    c.index-unit.ensures c.index_mut.ensures.value (sym c.is_docked.ensures ∙ c.if-not-is_docked.false)
    c.history.ensures.entries in
    record { place = module_within at }

pub invariant_of-self-in-Rests : goal.invariant_of-self-in-Rests
invariant_of-self-in-Rests g c =
    let at = at_turn c.deref.result.now c.deref-2.result.now c.args.place c.index-unit.result.now
    c.index_mut.result.now (ap plain_site c.deref.ensures ∙ c.self.invariant.0)
    (ap plain_site c.deref-2.ensures ∙ c.self.invariant.0) c.in_ok-reserve.ensures.entries c.self.invariant.1
    (ap (λ (locked : Locked). is_full (history_of locked)) c.self.view_is ∙ c.requires.room) c.requires.place
    c.index-unit.ensures c.index_mut.ensures.value (sym c.is_docked.ensures ∙ c.if-not-is_docked.false)
    c.history.ensures.entries in
    let turned = module_turned at (sym c.in_ok-turn.ensures.decides ∙ c.in-Rests.is) in
    (c.self.invariant.0, kept_calm at (sym c.in_ok-reserve-2.ensures.items) c.in_ok-turn.ensures.after turned.up)

pub invariant_of-self-in-Looks : goal.invariant_of-self-in-Looks
invariant_of-self-in-Looks g c =
    let at = at_turn c.deref.result.now c.deref-2.result.now c.args.place c.index-unit.result.now
    c.index_mut.result.now (ap plain_site c.deref.ensures ∙ c.self.invariant.0)
    (ap plain_site c.deref-2.ensures ∙ c.self.invariant.0) c.in_ok-reserve.ensures.entries c.self.invariant.1
    (ap (λ (locked : Locked). is_full (history_of locked)) c.self.view_is ∙ c.requires.room) c.requires.place
    c.index-unit.ensures c.index_mut.ensures.value (sym c.is_docked.ensures ∙ c.if-not-is_docked.false)
    c.history.ensures.entries in
    let turned = module_turned at (sym c.in_ok-turn.ensures.decides ∙ c.in-Looks.is) in
    (c.self.invariant.0, kept_calm at (sym c.in_ok-reserve-2.ensures.items) c.in_ok-turn.ensures.after turned.up)

pub invariant_of-self-in-Reports : goal.invariant_of-self-in-Reports
invariant_of-self-in-Reports g c =
    let at = at_turn c.deref.result.now c.deref-2.result.now c.args.place c.index-unit.result.now
    c.index_mut.result.now (ap plain_site c.deref.ensures ∙ c.self.invariant.0)
    (ap plain_site c.deref-2.ensures ∙ c.self.invariant.0) c.in_ok-reserve.ensures.entries c.self.invariant.1
    (ap (λ (locked : Locked). is_full (history_of locked)) c.self.view_is ∙ c.requires.room) c.requires.place
    c.index-unit.ensures c.index_mut.ensures.value (sym c.is_docked.ensures ∙ c.if-not-is_docked.false)
    c.history.ensures.entries in
    let turned = module_turned at (sym c.in_ok-turn.ensures.decides ∙ c.in-Reports.is) in
    let last = g.C.Clock.last c.enter_spared-placed.new.clock in (
      c.self.invariant.0,
      kept_reported at last c.in-Reports.report
          (entered_is (plain_history c.reserve.new.self.entries) (plant_history c.enter_spared-placed.new.plant) _ _
          last (plain_event c.report_event-event.result)
          (report_event 0 c.index-unit.result.now.tag c.in-Reports.report) c.enter_spared-placed.result
          c.enter_spared-placed.ensures.ok c.report_event-event.ensures)
          (c.enter_spared-placed.ensures.by
          ∙ ap (λ makers. makers ++ c.args.actor ∷ []) c.in_ok-reserve-2.ensures.items
          ∙ ap (λ n. c.self.inside.by.items ++ n ∷ []) c.requires.actor)
          c.in_ok-turn.ensures.after turned,
    )

pub returns-in-Rests-clause-ok : goal.returns-in-Rests-clause-ok
returns-in-Rests-clause-ok g c =
    let at = at_turn c.deref.result.now c.deref-2.result.now c.args.place c.index-unit.result.now
    c.index_mut.result.now (ap plain_site c.deref.ensures ∙ c.self.invariant.0)
    (ap plain_site c.deref-2.ensures ∙ c.self.invariant.0) c.in_ok-reserve.ensures.entries c.self.invariant.1
    (ap (λ (locked : Locked). is_full (history_of locked)) c.self.view_is ∙ c.requires.room) c.requires.place
    c.index-unit.ensures c.index_mut.ensures.value (sym c.is_docked.ensures ∙ c.if-not-is_docked.false)
    c.history.ensures.entries in
    let turned = module_turned at (sym c.in_ok-turn.ensures.decides ∙ c.in-Rests.is) in
    let unit = plain_module c.index-unit.result.now in
    rw (← c.self.view_is) record {
      calm = record {
        entries_are = c.in_ok-reserve.ensures.entries;
        by_is = c.in_ok-reserve-2.ensures.items;
        last_is = refl;
        calls_are = refl;
      };
      room = ap (λ (locked : Locked). is_full (history_of locked)) c.self.view_is ∙ c.requires.room;
      who = a_module unit;
      who_is = actor_module g.J.Job.site c.args.place unit (module_known at);
      settled = settled_before at turned.settled;
    }

pub returns-in-Looks-clause-ok : goal.returns-in-Looks-clause-ok
returns-in-Looks-clause-ok g c =
    let at = at_turn c.deref.result.now c.deref-2.result.now c.args.place c.index-unit.result.now
    c.index_mut.result.now (ap plain_site c.deref.ensures ∙ c.self.invariant.0)
    (ap plain_site c.deref-2.ensures ∙ c.self.invariant.0) c.in_ok-reserve.ensures.entries c.self.invariant.1
    (ap (λ (locked : Locked). is_full (history_of locked)) c.self.view_is ∙ c.requires.room) c.requires.place
    c.index-unit.ensures c.index_mut.ensures.value (sym c.is_docked.ensures ∙ c.if-not-is_docked.false)
    c.history.ensures.entries in
    let turned = module_turned at (sym c.in_ok-turn.ensures.decides ∙ c.in-Looks.is) in
    let unit = plain_module c.index-unit.result.now in
    rw (← c.self.view_is) record {
      calm = record {
        entries_are = c.in_ok-reserve.ensures.entries;
        by_is = c.in_ok-reserve-2.ensures.items;
        last_is = refl;
        calls_are = refl;
      };
      room = ap (λ (locked : Locked). is_full (history_of locked)) c.self.view_is ∙ c.requires.room;
      unit = unit;
      who = actor_module g.J.Job.site c.args.place unit (module_known at);
      count = (module_count at).0;
      is_docked = (module_count at).1;
      unsettled = settled_before at turned.unsettled;
      place = c.args.place;
      own = c.index_mut.result.now;
      stands = at.stands;
      turned = moved at;
      units_are = ap (slice_set c.self.inside.units.items c.args.place) c.in_ok-turn.ensures.after;
      looked = look_of g.J.Job.site (plain_site c.deref-2.result.now) unit c.self.inside.plant.entries
          c.reserve.new.self.entries (length c.history.result.now) c.index_mut.result.now (moved at) at.held_is
          at.same_is at.counted refl (sym c.in_ok-turn.ensures.decides ∙ c.in-Looks.is);
      actor_is = refl;
    }

pub returns-in-Reports-clause-ok : goal.returns-in-Reports-clause-ok
returns-in-Reports-clause-ok g c =
    let at = at_turn c.deref.result.now c.deref-2.result.now c.args.place c.index-unit.result.now
    c.index_mut.result.now (ap plain_site c.deref.ensures ∙ c.self.invariant.0)
    (ap plain_site c.deref-2.ensures ∙ c.self.invariant.0) c.in_ok-reserve.ensures.entries c.self.invariant.1
    (ap (λ (locked : Locked). is_full (history_of locked)) c.self.view_is ∙ c.requires.room) c.requires.place
    c.index-unit.ensures c.index_mut.ensures.value (sym c.is_docked.ensures ∙ c.if-not-is_docked.false)
    c.history.ensures.entries in
    let turned = module_turned at (sym c.in_ok-turn.ensures.decides ∙ c.in-Reports.is) in
    let unit = plain_module c.index-unit.result.now in
    rw (← c.self.view_is) record {
      room = ap (λ (locked : Locked). is_full (history_of locked)) c.self.view_is ∙ c.requires.room;
      who = a_module unit;
      who_is = actor_module g.J.Job.site c.args.place unit (module_known at);
      unsettled = settled_before at turned.unsettled;
      event = plain_event c.report_event-event.result;
      owner = ap (owner_of g.J.Job.site) c.report_event-event.ensures
          ∙ report_owner g.J.Job.site c.args.place unit c.in-Reports.report c.self.invariant.1.sound
          (module_known at);
      enters = subst (λ (es : List Entry). Enters (g.C.Clock.calls c.self.inside.clock)
          (g.C.Clock.calls c.enter_spared-placed.new.clock) (g.C.Clock.last c.enter_spared-placed.new.clock)
          (plain_history es)
          (plant_history c.enter_spared-placed.new.plant) (plain_event c.report_event-event.result)
          c.enter_spared-placed.result) c.in_ok-reserve.ensures.entries c.enter_spared-placed.ensures.ok;
      by_is = c.enter_spared-placed.ensures.by
          ∙ ap (λ makers. makers ++ c.args.actor ∷ []) c.in_ok-reserve-2.ensures.items
          ∙ ap (λ n. c.self.inside.by.items ++ n ∷ []) c.requires.actor;
    }
