use Rattle.std.proofs.Common.{subst}
use Rattle.pol_live.specs.Turns.{HasMade, Turns}
use Rattle.pol_live.proofs.Showing.{short_made, shown_before}
use Rattle.pol_live.proofs.locked.LockedPlant.turn.Goals as goal

pub show-requires : goal.show-requires
show-requires g c =
    let site = g.J.Job.site in
    let before = c.self.inside.cast in
    let after = c.turn.new.self in
    let placed = c.in-Made.field-0 in
    let made : HasMade site before after c.args.actor placed =
    subst (Turns site before after c.args.actor) c.in-Made.is c.in_ok-turned.ensures.ok in
    record {
      short = short_made site before after c.args.actor placed made;
      shown = shown_before site before after c.args.actor placed c.self.inside.display made c.self.invariant;
    }
