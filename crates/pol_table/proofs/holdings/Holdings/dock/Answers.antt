-- The part docks, or the first fault is answered.
use Rattle.std.proofs.Common.{cond, length, Some, None, refl, sym, ◌∙◌, ap, arith}
use Rattle.std.specs.Map.{lookup}
use Rattle.std.specs.Str.{bytes_eq}
use Rattle.std.proofs.lemmas.Bool.{le-leb, lt-leb}
use Rattle.pol_table.proofs.Docking.{Docks, sound_docked, look_docked, length_docked, one_more}
use Rattle.pol_table.proofs.Views.{dock_fault_seats}
use Rattle.pol_table.proofs.holdings.Holdings.dock.Goals as goal

pub returns-then-contains_key-clause-err : goal.returns-then-contains_key-clause-err
returns-then-contains_key-clause-err g c =
    rw (
      ← c.self.view_is,
      dock_fault_seats _ _ c.self.invariant _,
      ← c.contains_key.ensures,
      c.if-contains_key.true,
    ) refl

pub returns-then-len-ge-MOST_MODULES-clause-err : goal.returns-then-len-ge-MOST_MODULES-clause-err
returns-then-len-ge-MOST_MODULES-clause-err g c =
    rw (
      ← c.self.view_is,
      dock_fault_seats _ _ c.self.invariant _,
      ← c.contains_key.ensures,
      c.if-contains_key.false,
      ←
          c.len.ensures.len,
      le-leb _ _ c.if-len-ge-MOST_MODULES.true,
    ) refl

pub returns-then-is_err-clause-err : goal.returns-then-is_err-clause-err
returns-then-is_err-clause-err g c =
    rw (
      ← c.self.view_is,
      dock_fault_seats _ _ c.self.invariant _,
      ← c.contains_key.ensures,
      c.if-contains_key.false,
      ←
          c.len.ensures.len,
      lt-leb _ _ c.if-len-ge-MOST_MODULES.false,
    ) refl

pub returns-in-Err-clause-err : goal.returns-in-Err-clause-err
returns-in-Err-clause-err g c =
    rw (
      ← c.self.view_is,
      dock_fault_seats _ _ c.self.invariant _,
      ← c.contains_key.ensures,
      c.if-contains_key.false,
      ←
          c.len.ensures.len,
      lt-leb _ _ c.if-len-ge-MOST_MODULES.false,
    ) refl

docks : (g : _) (c : goal.After-unwrap g)
    → Docks c.args.tag (record {
      place = c.in-Ok.place;
      holder = None;
    }) c.args.part c.self.inside.seats.entries c.insert-in-Ok.new.self.entries c.self.inside.parts.slots
    c.insert.new.self.slots
docks g c = record {
  sound = c.self.invariant;
  added = λ other.
      (rw c.unwrap.ensures at c.insert-in-Ok.ensures.updates).0 other
      ∙ ap (λ seats. cond (bytes_eq c.args.tag other) (Some (record { place = c.in-Ok.place; holder = None }))
      (lookup (bytes_eq other) seats)) c.reserve.ensures.entries;
  vacant = c.in-Ok.ensures.was_vacant;
  docked = c.in-Ok.ensures.updates.changed;
  others = c.in-Ok.ensures.updates.others;
  unique = c.insert-in-Ok.ensures.unique;
  count = one_more c.unwrap.result (lookup (bytes_eq c.args.tag) c.reserve.new.self.entries) _ _ _
      (rw c.unwrap.ensures at c.insert-in-Ok.ensures.old)
      (rw (c.reserve.ensures.entries) (sym c.contains_key.ensures ∙ c.if-contains_key.false))
      (rw c.unwrap.ensures at c.insert-in-Ok.ensures.len) (ap length c.reserve.ensures.entries);
  room = omega (arith, c.if-len-ge-MOST_MODULES.false, c.len.ensures.len);
}

pub invariant_of-self-in-Ok : goal.invariant_of-self-in-Ok
invariant_of-self-in-Ok g c = sound_docked _ _ _ _ _ _ _ (docks g c)

pub returns-in-Ok-clause-ok : goal.returns-in-Ok-clause-ok
returns-in-Ok-clause-ok g c =
    rw (
      ← c.self.view_is,
      dock_fault_seats _ _ c.self.invariant _,
      ← c.contains_key.ensures,
      c.if-contains_key.false,
      ←
          c.len.ensures.len,
      lt-leb _ _ c.if-len-ge-MOST_MODULES.false,
    ) refl

pub returns-in-Ok-clause-docked : goal.returns-in-Ok-clause-docked
returns-in-Ok-clause-docked g c other = rw (← c.self.view_is) (look_docked _ _ _ _ _ _ _ (docks g c) other)

pub returns-in-Ok-clause-count : goal.returns-in-Ok-clause-count
returns-in-Ok-clause-count g c = rw (← c.self.view_is) (length_docked _ _ _ _ _ _ _ (docks g c))
