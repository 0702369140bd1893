use Rattle.std.proofs.Common.{refl}
use Rattle.pol_lines.proofs.nodes.read_closing.Goals as goal

pub returns : goal.returns
returns c = record {
  inner = c.in_ok-inner.inner.now;
  behind = c.last.result.now;
  after = c.in_ok-rest.rest.now;
  begins = c.in_ok-inner.ensures;
  reads = rw c.last.ensures c.in_ok-condition.ensures;
  closing = c.in_ok-rest.ensures;
  counted = refl;
}
