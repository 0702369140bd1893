use Rattle.std.proofs.Common.{◌≡◌, true, sym, subst}
use Rattle.pol_kept.specs.Keeping.{KeptState, LeavesGroup, LeavesItems}
use Rattle.pol_kept.proofs.Applied.{keeps_more, leaves_items, unadmitted}
use Rattle.pol_kept.proofs.Calls.{unchanged}
use Rattle.pol_kept.proofs.kept.Kept.apply.Goals as goal

pub returns-in_err-answer-clause-moments : goal.returns-in_err-answer-clause-moments
returns-in_err-answer-clause-moments g c =
    let d = g.D.Disk in
    let ch = g.C.Chronicle in
    let s : KeptState g.row.C.Denot g.row.D.Denot = record {
      chronicle = c.self.inside.chronicle;
      disk = c.self.inside.disk;
      closed = c.self.inside.closed;
      waiting = c.self.inside.waiting;
    } in
    let item = ch.plain c.args.item in
    subst (λ (now : g.row.D.Denot). LeavesItems ch.work ch.state d.bytes d.moment d.left_since c.args.self.now now item)
    (sym c.admit.ensures.uncalled)
    (unadmitted ch.work ch.state d.bytes d.images d.moment d.left_since c.args.self.now item c.requires.alone
    c.args.self.now.disk
    (subst (λ (t : KeptState g.row.C.Denot g.row.D.Denot). LeavesGroup ch.work ch.state d.bytes d.moment d.left_since t
    t.disk) c.self.view_is
    (unchanged ch.work ch.state d.bytes d.images d.moment d.left_since g.met.D.Disk.only_now s c.self.inside.end
    c.self.inside.group.items c.self.invariant)))

pub returns-in-Ok-clause-moments : goal.returns-in-Ok-clause-moments
returns-in-Ok-clause-moments g c =
    let d = g.D.Disk in
    let ch = g.C.Chronicle in
    let did = c.in_ok-answer.ensures in
    leaves_items ch.work ch.state d.bytes d.images d.moment d.left_since c.args.self.now (ch.plain c.args.item)
    c.requires.alone g.met.C.Chronicle.lawful c.admit.new.self did.after did.waits did.open.1 c.admit.ensures.uncalled
    c.commit.new.self.disk c.commit.ensures.moments

pub returns-in-Ok-clause-kept : goal.returns-in-Ok-clause-kept
returns-in-Ok-clause-kept g c = λ new.
    let d = g.D.Disk in
    let ch = g.C.Chronicle in
    let did = c.in_ok-answer.ensures in
    keeps_more ch.work ch.state d.bytes d.images d.moment d.left_since c.args.self.now (ch.plain c.args.item)
    c.requires.alone g.met.C.Chronicle.lawful c.admit.new.self did.after did.waits did.open.1 c.admit.ensures.uncalled
    c.commit.new.self.disk c.in-Ok.ensures.kept (subst (λ answer. ch.work.keeps answer ≡ true) did.answer new)

pub returns-in-Err-clause-moments : goal.returns-in-Err-clause-moments
returns-in-Err-clause-moments g c =
    let d = g.D.Disk in
    let ch = g.C.Chronicle in
    let did = c.in_ok-answer.ensures in
    leaves_items ch.work ch.state d.bytes d.images d.moment d.left_since c.args.self.now (ch.plain c.args.item)
    c.requires.alone g.met.C.Chronicle.lawful c.admit.new.self did.after did.waits did.open.1 c.admit.ensures.uncalled
    c.commit.new.self.disk c.commit.ensures.moments
