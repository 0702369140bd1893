use Rattle.std.proofs.Common.{◌∷◌, ◌++◌, [], subst, List}
use Rattle.chart_core.specs.declared.entry.LogEntry.{LogEntry}
use Rattle.chart_core.specs.declared.entry.LogEntry.TheVariants.{StopAsked}
use Rattle.pol_runs.specs.Logs.{Follows}
use Rattle.pol_runs.specs.Runs.{PlainRun}
use Rattle.pol_runs.specs.contracts.run.Run.{the_view}
use Rattle.pol_runs.specs.declared.course.Course.TheVariants.{Stopping}
use Rattle.pol_runs.specs.declared.freeze.Freeze.TheVariants.{Thawed}
use Rattle.pol_runs.proofs.Doing.{by_asking}
use Rattle.pol_runs.proofs.run.Run.stop.Goals as goal

pub invariant_of-self : goal.invariant_of-self
invariant_of-self c =
    let sound = c.self.invariant in
    record {
      valid = sound.valid;
      paired = sound.paired;
      room = sound.room;
      log = sound.log ++ StopAsked ∷ [];
      follows = by_asking (the_view c.self.inside) sound.log c.in-Running.is sound.follows;
      asked = sound.asked;
      asks = sound.asks;
    }

pub returns-in-Running-clause-log : goal.returns-in-Running-clause-log
returns-in-Running-clause-log c =
    let new : PlainRun = record (the_view c.self.inside) { freeze = Thawed; course = Stopping 0 } in
    let Grows : PlainRun → Type 0 =
    λ old. (log : List LogEntry) → Follows old log → Follows new (log ++ StopAsked ∷ []) in
    subst Grows c.self.view_is (λ log follows. by_asking (the_view c.self.inside) log c.in-Running.is follows)
