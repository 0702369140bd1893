-- The plant that goes on from what stays is like the old one, after whatever came later.
use Rattle.std.proofs.Common.{List, [], sym, subst}
use Rattle.pol_events.specs.Events.{PlainEvent}
use Rattle.pol_history.specs.Looking.{History}
use Rattle.pol_history.specs.Runs.{AreOrderly, history_after, recorded_all}
use Rattle.pol_compaction.specs.Alike.{AnswersAlike}
use Rattle.pol_compaction.specs.Compaction.{compacted_events}
use Rattle.pol_compaction.specs.Lasting.{closed_batches}
use Rattle.pol_compaction.proofs.Later.{later_runs}
use Rattle.pol_compaction.proofs.Law.{all_alike}
use Rattle.pol_renewed.specs.Renewed.{renewed_after, whole_after}

pub alike_renewed : (events later : List PlainEvent) → AreOrderly events →
    AnswersAlike (closed_batches (history_after [] events)) (whole_after events later) (renewed_after events later)
alike_renewed events later orderly =
    let runs = later_runs (closed_batches before) before short (all_alike events orderly) later in
    subst (λ entries. AnswersAlike (closed_batches before) (whole_after events later) (recorded_all short entries))
    (sym runs.0) runs.1
  where
    before : History
    before = history_after [] events

    short : History
    short = history_after [] (compacted_events before)
