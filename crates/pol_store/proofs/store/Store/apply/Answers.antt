use Rattle.std.proofs.Common.{subst}
use Rattle.std.specs.Prelude.{IfOk, IsTrue}
use Rattle.pol_events.specs.Events.{plain_event}
use Rattle.pol_history.specs.Runs.{is_recorded}
use Rattle.pol_store.specs.Keeping.{KeepsMore, LeavesEvents, StoreState}
use Rattle.pol_store.proofs.store.Store.apply.Goals as goal

pub returns-clause-moments : goal.returns-clause-moments
returns-clause-moments g c =
    let d = g.D.Disk in
    subst (λ (t : StoreState g.row.D.Denot). LeavesEvents d.bytes d.moment d.left_since t c.apply.new.self.disk
    (plain_event c.args.event)) c.self.view_is c.apply.ensures.moments

pub returns-clause-kept : goal.returns-clause-kept
returns-clause-kept g c =
    let d = g.D.Disk in
    subst (λ (t : StoreState g.row.D.Denot). IfOk c.apply.result (λ answer. IsTrue (is_recorded answer) →
    KeepsMore d.bytes d.images t c.apply.new.self.disk (plain_event c.args.event))) c.self.view_is
    c.apply.ensures.kept
