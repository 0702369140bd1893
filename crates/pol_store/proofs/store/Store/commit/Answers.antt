use Rattle.std.proofs.Common.{subst}
use Rattle.std.specs.Prelude.{OnOk}
use Rattle.pol_store.specs.Keeping.{KeepsAll, LeavesGroup, StoreState}
use Rattle.pol_store.proofs.store.Store.commit.Goals as goal

pub returns-clause-moments : goal.returns-clause-moments
returns-clause-moments g c =
    let d = g.D.Disk in
    subst (λ (t : StoreState g.row.D.Denot). LeavesGroup d.bytes d.moment d.left_since t c.commit.new.self.disk)
    c.self.view_is c.commit.ensures.moments

pub returns-clause-kept : goal.returns-clause-kept
returns-clause-kept g c =
    let d = g.D.Disk in
    subst (λ (t : StoreState g.row.D.Denot). OnOk c.commit.result (KeepsAll d.bytes d.images t
    c.commit.new.self.disk)) c.self.view_is c.commit.ensures.kept
