-- The bit of the second state decides.
use Rattle.mtp_machine.proofs.Bits.{edge_by_mask}
use Rattle.mtp_machine.proofs.edges.edge.Goals as goal

pub returns : goal.returns
returns c = rw (c.successors.ensures, c.code.ensures.number) (edge_by_mask _ _)
