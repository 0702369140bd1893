-- The value is added to what the docked module reported before.
use Rattle.std.proofs.Common.{refl}
use Rattle.pol_slots.proofs.berth.Berth.report_value.Goals as goal

pub returns-clause-reported : goal.returns-clause-reported
returns-clause-reported c = rw (c.in-Docked.is, ← c.part_mut.ensures.value)
    (record { controls = refl; values = c.put.ensures })
