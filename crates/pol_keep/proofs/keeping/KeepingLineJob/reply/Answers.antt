use Rattle.std.proofs.Common.{ap}
use Rattle.std.specs.Result.{is_ok}
use Rattle.kept_jobs.specs.Telling.{telling}
use Rattle.kept_jobs.proofs.Admitting.{when_whole}
use Rattle.kept_jobs.proofs.Settling.{takes}
use Rattle.pol_history.specs.Runs.{events_of}
use Rattle.pol_jobs.specs.InputLines.{plain_line}
use Rattle.pol_replay.specs.Replay.{replay_work}
use Rattle.pol_store.specs.Work.{plant_work}
use Rattle.pol_keep.proofs.Stored.{admits_either}
use Rattle.pol_keep.proofs.keeping.KeepingLineJob.reply.Goals as goal

pub returns-clause-did : goal.returns-clause-did
returns-clause-did g c = λ first settled waiting so_far.
    let d = g.D.Disk in
    let did = c.answer_line.ensures in
    let admits = admits_either _ _ _ c.answer_line.result did.answers did.halts in
    takes plant_work replay_work events_of (telling d.bytes d.images d.moment d.left_since d.faults) _ _ _
    settled waiting so_far (plain_line c.args.line) (is_ok c.answer_line.result) admits.uncalled admits.closed
    admits.adds (λ whole. (when_whole c.answer_line.result did.answers whole).1)
