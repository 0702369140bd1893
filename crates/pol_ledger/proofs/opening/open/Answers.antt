use Rattle.std.proofs.Common.{Option, inl, sym, subst}
use Rattle.pol_disk.specs.Disks.{LeavesOnly, ToldOn}
use Rattle.pol_disk.proofs.Moments.{wider}
use Rattle.pol_disk.proofs.Telling.{was_told}
use Rattle.pol_kept.specs.Opens as of_items
use Rattle.pol_kept.specs.Stands.{StandsFor}
use Rattle.pol_ledger.specs.Ledgers.{ledger_state}
use Rattle.pol_ledger.specs.Opens.{MayBeLeft, StandsOrBegins}
use Rattle.pol_ledger.specs.Work.{BegunLedger, items_of, ledger_work}
use Rattle.pol_ledger.proofs.Beginning.{leaves_opened, opens_as}
use Rattle.pol_ledger.proofs.opening.open.Goals as goal

pub returns-in-Err-clause-left_err : goal.returns-in-Err-clause-left_err
returns-in-Err-clause-left_err g c = λ all now told told'.
    let d = g.D.Disk in
    wider d.moment d.left_since c.args.disk c.in-Err.disk (of_items.IsLeftOf ledger_work all (d.images c.args.disk))
    (MayBeLeft all (d.images c.args.disk)) (c.in-Err.ensures.left_err all now told told') (λ image left. inl left)

pub returns-in-Ok-begin-clause-stand : goal.returns-in-Ok-begin-clause-stand
returns-in-Ok-begin-clause-stand g c = λ now told image left.
    let d = g.D.Disk in
    let mid = was_told (d.bytes c.in-Ok.made.0.disk) (d.bytes c.begin.new.store.disk) c.begin.ensures.on now told in
    subst (λ (s : Option BegunLedger). StandsFor ledger_work (items_of s) image) (sym c.in-Ok-begin.ensures.begun)
    (c.in-Ok-begin.ensures.stands mid.0 mid.1 image left)

pub returns-in-Ok-begin-clause-stood : goal.returns-in-Ok-begin-clause-stood
returns-in-Ok-begin-clause-stood g c =
    let d = g.D.Disk in
    let store = c.in-Ok.made.0 in
    opens_as d.bytes d.images d.moment d.left_since store c.args.disk c.begin.new.store.disk c.begin.ensures.on
    c.in-Ok.ensures.left c.in-Ok.ensures.stood (ledger_state c.begin.new.store.chronicle) c.in-Ok-begin.ensures.begun

pub returns-in-Ok-begin-clause-left : goal.returns-in-Ok-begin-clause-left
returns-in-Ok-begin-clause-left g c =
    let d = g.D.Disk in
    let store = c.in-Ok.made.0 in
    leaves_opened d.bytes d.images d.moment d.left_since store c.args.disk c.begin.new.store.disk c.begin.ensures.on
    c.in-Ok.ensures.left c.in-Ok.ensures.stood c.begin.ensures.moments

pub returns-in-Err-begin-clause-left_err : goal.returns-in-Err-begin-clause-left_err
returns-in-Err-begin-clause-left_err g c =
    let d = g.D.Disk in
    let store = c.in-Ok.made.0 in
    let same = sym c.into_parts-ledger.ensures.1 in
    leaves_opened d.bytes d.images d.moment d.left_since store c.args.disk c.into_parts-ledger.result.1
    (subst (λ (now : g.row.D.Denot). ToldOn (d.bytes store.disk) (d.bytes now)) same c.begin.ensures.on)
    c.in-Ok.ensures.left c.in-Ok.ensures.stood
    (λ all told. subst (λ (now : g.row.D.Denot). LeavesOnly d.moment d.left_since store.disk now
    (StandsOrBegins (ledger_state store.chronicle))) same (c.begin.ensures.moments all told))
