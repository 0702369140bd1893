use Rattle.std.proofs.Common.{ap, true, false}
use Rattle.kept_jobs.specs.Telling.{telling}
use Rattle.kept_jobs.proofs.Settling.{closes, settles, settles_before, unsettled}
use Rattle.pol_ledger.specs.Ledgers.{ledger_state}
use Rattle.pol_ledger.specs.Work.{ledger_work}
use Rattle.pol_operate.specs.Operated.{known_items}
use Rattle.pol_operate.specs.Work.{operate_work}
use Rattle.pol_operate.proofs.Going.{knows}
use Rattle.pol_operate.proofs.operating.OperatingLineJob.settle.Goals as goal

pub returns-in-Ok-clause-settled : goal.returns-in-Ok-clause-settled
returns-in-Ok-clause-settled g c = λ first settled waiting so_far.
    let d = g.D.Disk in
    let did = c.in-Ok.ensures in
    settles ledger_work operate_work known_items (telling d.bytes d.images d.moment d.left_since d.faults) _ _ _
    settled waiting (record {
      known = ap (λ chronicle. knows c.args.self.now.policy (ledger_state chronicle)) did.chronicle;
      waits = did.waits;
      opened = did.open;
      told = did.told;
      on = did.on;
      quiet = did.quiet;
      moments = did.moments;
      kept = did.kept;
    }) so_far

pub returns-in-Ok-clause-settled_before : goal.returns-in-Ok-clause-settled_before
returns-in-Ok-clause-settled_before g c = λ not_each first settled waiting last so_far.
    let d = g.D.Disk in
    let did = c.in-Ok.ensures in
    settles_before ledger_work operate_work known_items (telling d.bytes d.images d.moment d.left_since d.faults) _ _ _
    settled waiting last (record {
      known = ap (λ chronicle. knows c.args.self.now.policy (ledger_state chronicle)) did.chronicle;
      waits = did.waits;
      opened = did.open;
      told = did.told;
      on = did.on;
      quiet = did.quiet;
      moments = did.moments;
      kept = did.kept;
    }) so_far

pub returns-in-Err-clause-failed : goal.returns-in-Err-clause-failed
returns-in-Err-clause-failed g c = λ first settled waiting so_far.
    let d = g.D.Disk in
    let did = c.in-Err.ensures in
    unsettled ledger_work operate_work known_items (telling d.bytes d.images d.moment d.left_since d.faults) _ _ _
    settled waiting true g.met.D.Disk.counts_now (record {
      fails = closes d.faults _ _ _ did.fails;
      on = did.on;
      moments = did.moments;
    }) so_far

pub returns-in-Err-clause-failed_before : goal.returns-in-Err-clause-failed_before
returns-in-Err-clause-failed_before g c = λ not_each first settled waiting last so_far.
    let d = g.D.Disk in
    let did = c.in-Err.ensures in
    unsettled ledger_work operate_work known_items (telling d.bytes d.images d.moment d.left_since d.faults) _ _ _
    settled _ false g.met.D.Disk.counts_now (record {
      fails = closes d.faults _ _ _ did.fails;
      on = did.on;
      moments = did.moments;
    }) so_far
