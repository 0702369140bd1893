use Rattle.std.proofs.Common.{ap}
use Rattle.std.specs.Result.{is_ok}
use Rattle.kept_jobs.specs.Telling.{telling}
use Rattle.kept_jobs.proofs.Admitting.{adds_none, when_whole}
use Rattle.kept_jobs.proofs.Settling.{takes}
use Rattle.pol_jobs.specs.InputLines.{plain_line}
use Rattle.pol_ledger.specs.Ledgers.{ledger_state}
use Rattle.pol_ledger.specs.Work.{items_of, ledger_work}
use Rattle.pol_operate.specs.Operated.{known_items}
use Rattle.pol_operate.specs.Work.{operate_work}
use Rattle.pol_operate.proofs.Going.{after_none, after_some}
use Rattle.pol_operate.proofs.operating.OperatingLineJob.reply.Goals as goal

pub returns-in-Some-clause-did : goal.returns-in-Some-clause-did
returns-in-Some-clause-did g c = λ first settled waiting so_far.
    let d = g.D.Disk in
    let before = c.args.self.now in
    let now = c.answer.new.self in
    let line = plain_line c.args.line in
    let did = c.answer.ensures in
    takes ledger_work operate_work known_items (telling d.bytes d.images d.moment d.left_since d.faults) _ _ _
    settled waiting so_far line (is_ok c.answer.result) did.admits.uncalled did.admits.closed did.admits.adds
    (λ whole. after_some before.policy now.policy c.in-Some.field-0 (ledger_state before.store.chronicle)
    (ledger_state now.store.chronicle) line c.in-Some.is did.policy (when_whole c.answer.result did.ledger whole))

pub returns-in-None-clause-did : goal.returns-in-None-clause-did
returns-in-None-clause-did g c = λ first settled waiting so_far.
    let d = g.D.Disk in
    let before = c.args.self.now in
    let now = c.begin.new.self in
    let line = plain_line c.args.line in
    let did = c.begin.ensures in
    takes ledger_work operate_work known_items (telling d.bytes d.images d.moment d.left_since d.faults) _ _ _
    settled waiting so_far line (is_ok c.begin.result) (ap (λ store. store.disk) did.store)
    (ap (λ store. store.closed) did.store)
    (adds_none (ap (λ store. items_of (ledger_state store.chronicle)) did.store)
    (ap (λ store. store.waiting) did.store))
    (λ whole. after_none before.policy now.policy (ledger_state before.store.chronicle)
    (ledger_state now.store.chronicle) line c.in-None.is (when_whole c.begin.result did.policy whole)
    (ap (λ store. ledger_state store.chronicle) did.store))
