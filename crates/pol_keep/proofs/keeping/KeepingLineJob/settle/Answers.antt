use Rattle.std.proofs.Common.{ap, true}
use Rattle.kept_jobs.specs.Telling.{telling}
use Rattle.kept_jobs.proofs.Settling.{closes, settles, unsettled}
use Rattle.pol_core.specs.Plants.{plant_history}
use Rattle.pol_history.specs.Runs.{events_of}
use Rattle.pol_replay.specs.Replay.{replay_work}
use Rattle.pol_store.specs.Work.{plant_work}
use Rattle.pol_keep.specs.Keeping.{kept_plant}
use Rattle.pol_keep.proofs.Stored.{fails_closed, fails_kept}
use Rattle.pol_keep.proofs.keeping.KeepingLineJob.settle.Goals as goal

pub returns-in-Ok-clause-settled : goal.returns-in-Ok-clause-settled
returns-in-Ok-clause-settled g c = λ first settled waiting so_far.
    let d = g.D.Disk in
    let did = c.in-Ok.ensures in
    settles plant_work replay_work events_of (telling d.bytes d.images d.moment d.left_since d.faults) _ _ _
    settled waiting (record {
      known = ap plant_history did.plant;
      waits = did.waits;
      opened = did.open;
      told = did.told;
      on = did.on;
      quiet = did.quiet;
      moments = did.moments;
      kept = did.kept;
    }) so_far

pub returns-in-Err-clause-failed : goal.returns-in-Err-clause-failed
returns-in-Err-clause-failed g c = λ first settled waiting so_far.
    let d = g.D.Disk in
    let did = c.in-Err.ensures in
    let before = c.args.self.now.store in
    let now = c.commit.new.self in
    unsettled plant_work replay_work events_of (telling d.bytes d.images d.moment d.left_since d.faults) _ _ _
    settled waiting true g.met.D.Disk.counts_now (record {
      fails = closes d.faults (kept_plant before) (kept_plant now) _ (fails_kept d.faults before now _ did.fails);
      on = did.on;
      moments = did.moments;
    }) so_far

pub returns-in-Err-clause-has_failed : goal.returns-in-Err-clause-has_failed
returns-in-Err-clause-has_failed g c =
    fails_closed g.D.Disk.faults c.args.self.now.store c.commit.new.self _ c.in-Err.ensures.fails

pub returns-in-Err-clause-failed_still : goal.returns-in-Err-clause-failed_still
returns-in-Err-clause-failed_still g c = λ was.
    fails_closed g.D.Disk.faults c.args.self.now.store c.commit.new.self _ c.in-Err.ensures.fails
