use Rattle.std.proofs.Common.{◌-◌}
use Rattle.arrayvec.specs.ArrayVec.{array_vec_len}
use Rattle.pol_lines.specs.Parts.{HoldsParts}
use Rattle.pol_lines.proofs.parts.read_parts.Given as goal

abbrev pub invariant-loop-rest : goal.invariant-loop-rest
invariant-loop-rest l = HoldsParts l.fn.text l.parts.items l.rest

abbrev pub decreases-loop-rest : goal.decreases-loop-rest
decreases-loop-rest l = 12 - array_vec_len l.parts
