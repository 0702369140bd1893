use Rattle.std.proofs.Common.{◌≡◌, true, Option, sym, ap, subst, ◌∙◌, is_some}
use Rattle.pol_disk.specs.Disks.{LeavesOnly}
use Rattle.pol_kept.specs.Stands.{StandsFor}
use Rattle.pol_ledger.specs.Ledgers.{PlainLedger, ledger_state}
use Rattle.pol_ledger.specs.Opens.{StandsOrBegins}
use Rattle.pol_ledger.specs.Work.{BegunLedger, items_of, ledger_work}
use Rattle.pol_ledger.proofs.Beginning.{keeps_header, leaves_header, none_begun, same_begun, stands_now, unmoved}
use Rattle.pol_ledger.proofs.opening.begin.Goals as goal

pub returns-then-is_begun-clause-moments : goal.returns-then-is_begun-clause-moments
returns-then-is_begun-clause-moments g c =
    let d = g.D.Disk in
    unmoved d.bytes d.images d.moment d.left_since c.args.store.now c.requires.alone
    (c.chronicle.ensures.kept c.requires.open) g.met.D.Disk.only_now

pub returns-then-is_begun-clause-stands : goal.returns-then-is_begun-clause-stands
returns-then-is_begun-clause-stands g c = λ all told image left.
    let d = g.D.Disk in
    let begun : is_some (ledger_state c.args.store.now.chronicle) ≡ true =
    ap (λ (l : PlainLedger). is_some (ledger_state l)) (sym c.chronicle.ensures.chronicle) ∙ sym c.is_begun.ensures
    ∙ c.if-is_begun.true in
    subst (λ (s : Option BegunLedger). StandsFor ledger_work (items_of s) image)
    (sym (same_begun (ledger_state c.args.store.now.chronicle) begun))
    (stands_now d.bytes d.images d.moment d.left_since c.args.store.now c.requires.alone
    (c.chronicle.ensures.kept c.requires.open) all told image left)

pub returns-in-Err-Memory-clause-moments : goal.returns-in-Err-Memory-clause-moments
returns-in-Err-Memory-clause-moments g c = λ all told.
    let d = g.D.Disk in
    subst (λ (now : g.row.D.Denot). LeavesOnly d.moment d.left_since c.args.store.now.disk now
    (StandsOrBegins (ledger_state c.args.store.now.chronicle))) (sym c.admit.ensures.uncalled)
    (unmoved d.bytes d.images d.moment d.left_since c.args.store.now c.requires.alone
    (c.chronicle.ensures.kept c.requires.open) g.met.D.Disk.only_now all told)

pub returns-in-Ok-commit-clause-moments : goal.returns-in-Ok-commit-clause-moments
returns-in-Ok-commit-clause-moments g c =
    let d = g.D.Disk in
    let did = c.in-Ok.ensures in
    let none = none_begun (ledger_state c.args.store.now.chronicle)
    (ap (λ (l : PlainLedger). is_some (ledger_state l)) (sym c.chronicle.ensures.chronicle) ∙ sym c.is_begun.ensures
    ∙ c.if-is_begun.false) in
    leaves_header d.bytes d.images d.moment d.left_since c.args.store.now c.requires.alone none c.admit.new.self
    c.this.result c.this.ensures did.after did.waits did.open.1 c.admit.ensures.uncalled c.commit.new.self.disk
    c.commit.ensures.moments

pub returns-in-Ok-commit-clause-stands : goal.returns-in-Ok-commit-clause-stands
returns-in-Ok-commit-clause-stands g c =
    let d = g.D.Disk in
    let did = c.in-Ok.ensures in
    let none = none_begun (ledger_state c.args.store.now.chronicle)
    (ap (λ (l : PlainLedger). is_some (ledger_state l)) (sym c.chronicle.ensures.chronicle) ∙ sym c.is_begun.ensures
    ∙ c.if-is_begun.false) in
    keeps_header d.bytes d.images d.moment d.left_since c.args.store.now c.requires.alone none c.admit.new.self
    c.this.result c.this.ensures did.after did.waits did.open.1 c.admit.ensures.uncalled c.commit.new.self.disk
    c.in-Ok-commit.ensures.kept

pub returns-in-Err-clause-moments : goal.returns-in-Err-clause-moments
returns-in-Err-clause-moments g c =
    let d = g.D.Disk in
    let did = c.in-Ok.ensures in
    let none = none_begun (ledger_state c.args.store.now.chronicle)
    (ap (λ (l : PlainLedger). is_some (ledger_state l)) (sym c.chronicle.ensures.chronicle) ∙ sym c.is_begun.ensures
    ∙ c.if-is_begun.false) in
    leaves_header d.bytes d.images d.moment d.left_since c.args.store.now c.requires.alone none c.admit.new.self
    c.this.result c.this.ensures did.after did.waits did.open.1 c.admit.ensures.uncalled c.commit.new.self.disk
    c.commit.ensures.moments
