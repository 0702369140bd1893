-- The values before the place are forgotten.
use Rattle.std.proofs.Common.{◌≡◌}
use Rattle.pol_slots.proofs.Forgetting.{forgotten}
use Rattle.pol_slots.proofs.last_values.LastValues.forget.Given as goal

abbrev pub invariant-loop-place : goal.invariant-loop-place
invariant-loop-place g l = l.self-inside.values.entries ≡ forgotten l.place l.initial.self-inside.values.entries
