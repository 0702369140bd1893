use Rattle.mtp_codes.proofs.Names.{kept_same}
use Rattle.mtp_codes.proofs.name.NamePartialEq.eq.Goals as goal

pub returns-then-self-other : goal.returns-then-self-other
returns-then-self-other c =
    rw (← c.self.view_is, ← c.other.view_is, c.eq.ensures)
    (kept_same c.self.inside.bytes c.other.inside.bytes c.self.inside.len c.other.inside.len c.self.invariant
    c.other.invariant c.if-self-other.true)
