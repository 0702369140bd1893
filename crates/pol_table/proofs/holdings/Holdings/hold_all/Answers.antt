-- All the tags are held, or the first fault is answered.
use Rattle.std.proofs.Common.{refl}
use Rattle.pol_table.proofs.HeldSeats.{first_missing, first_busy, Holds, look_held, length_held}
use Rattle.pol_table.proofs.holdings.Holdings.hold_all.Goals as goal

pub returns-in-Some-clause-answer : goal.returns-in-Some-clause-answer
returns-in-Some-clause-answer g c =
    rw (← c.self.view_is, ← first_missing _ _ c.self.invariant _, ← c.first_missing.ensures, c.in-Some.is) refl

pub returns-in-Some-first_busy-clause-answer : goal.returns-in-Some-first_busy-clause-answer
returns-in-Some-first_busy-clause-answer g c =
    rw (
      ← c.self.view_is,
      ← first_missing _ _ c.self.invariant _,
      ← first_busy _ _ c.self.invariant _,
      ←
          c.first_missing.ensures,
      ← c.first_busy.ensures,
      c.in_default.is,
      c.in-Some-first_busy.is,
    ) refl

pub returns-clause-answer : goal.returns-clause-answer
returns-clause-answer g c =
    rw (
      ← c.self.view_is,
      ← first_missing _ _ c.self.invariant _,
      ← first_busy _ _ c.self.invariant _,
      ←
          c.first_missing.ensures,
      ← c.first_busy.ensures,
      c.in_default.is,
      c.in_default-first_busy.is,
    ) refl

holds : (g : _) (c : goal.After-hold_each g)
    → Holds c.args.tags.now c.args.batch c.self.inside.seats.entries c.hold_each.new.seats.entries
    c.self.inside.parts.slots
holds g c = record {
  sound = c.self.invariant;
  held = c.hold_each.ensures.held;
  len = c.hold_each.ensures.len;
  unique =
      c.hold_each.ensures.unique;
}

pub returns-clause-held : goal.returns-clause-held
returns-clause-held g c tag = rw (← c.self.view_is) (look_held _ _ _ _ _ (holds g c) tag)

pub returns-clause-count : goal.returns-clause-count
returns-clause-count g c = rw (← c.self.view_is) (length_held _ _ _ _ _ (holds g c))
