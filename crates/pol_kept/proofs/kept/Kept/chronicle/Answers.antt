use Rattle.std.proofs.Common.{◌≡◌, ℕ, List, Some, false, subst}
use Rattle.pol_kept.specs.Keeping.{HasParts, KeptState}
use Rattle.pol_kept.specs.Stands.{StandsFor}
use Rattle.pol_kept.proofs.Calls.{kept_now}
use Rattle.pol_kept.proofs.kept.Kept.chronicle.Goals as goal

pub returns-clause-kept : goal.returns-clause-kept
returns-clause-kept g c =
    let d = g.D.Disk in
    let ch = g.C.Chronicle in
    let s : KeptState g.row.C.Denot g.row.D.Denot = record {
      chronicle = c.self.inside.chronicle;
      disk = c.self.inside.disk;
      closed = c.self.inside.closed;
      waiting = c.self.inside.waiting;
    } in
    subst (λ (t : KeptState g.row.C.Denot g.row.D.Denot). t.closed ≡ false → (all : List ℕ) →
    d.bytes t.disk ≡ Some all → (kept group : List ch.Plain) → HasParts ch.work ch.state t kept group →
    (image : List ℕ) → d.images t.disk image → StandsFor ch.work kept image) c.self.view_is
    (λ is all told kept group parts image left. kept_now ch.work ch.state d.bytes d.images d.moment d.left_since
    g.met.D.Disk.only_now s c.self.inside.end c.self.inside.group.items c.self.invariant is all told kept group parts
    image left)
