use Rattle.std.proofs.Common.{◌-◌, ℕ, List}
use Rattle.arrayvec.specs.ArrayVec.{array_vec_len}
use Rattle.serde_json.specs.Data.{Data}
use Rattle.pol_lines.specs.Objects.{Holds, Stands}
use Rattle.pol_lines.proofs.objects.read_flats.Given as goal

abbrev pub invariant-loop-member : goal.invariant-loop-member
invariant-loop-member l = (deep : ℕ) (text : List ℕ) (others : List (List ℕ × Data))
    → Stands deep text l.fn.members.items others l.cut → Holds deep text l.members.items others l.rest

abbrev pub decreases-loop-member : goal.decreases-loop-member
decreases-loop-member l = 9 - array_vec_len l.members
