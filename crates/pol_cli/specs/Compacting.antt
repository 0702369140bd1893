-- What is said of a plant that goes on from a compacted journal.
use Rattle.std.specs.Prelude.{◌≡◌, List}
use Rattle.pol_events.specs.Events.{PlainEvent}
use Rattle.pol_history.specs.Runs.{AreOrderly}
use Rattle.pol_find.specs.Bindings.{bindings_text}
use Rattle.pol_compaction.specs.Law.{AgainChangesNothing, CompactionIsNoLonger, KeptIsAnsweredAgain}
use Rattle.pol_compaction.specs.Law.{LaterIsAnsweredAlike, LinesStay, OnceMoreIsAtOnce}
use Rattle.pol_renewed.specs.Guarded.{CompactionCommandsAlike, CompactionRepliesAlike}
use Rattle.pol_renewed.specs.Overviews.{CompactionTellsAlike}
use Rattle.pol_renewed.specs.Renewed.{renewed_after, whole_after}

-- What holds of a plant that goes on, whatever its events were, and whatever comes later.
pub record CompactionTheorem : Type 0 where
  -- the events that stay are answered as they were
  pub kept : KeptIsAnsweredAgain
  -- what comes later is answered behind the events that stay as behind all events, but for what names a batch that was
  -- closed there and what is refused there as full
  pub later : LaterIsAnsweredAlike
  -- the lines of the batches that weren't closed there are the same
  pub lines : LinesStay
  -- no more events stay than there were
  pub shorter : CompactionIsNoLonger
  -- compacting again changes nothing
  pub again : AgainChangesNothing
  -- compacting once more behind later events is compacting them all
  pub once : OnceMoreIsAtOnce
  -- under any policy lines are replied to alike
  pub replies : CompactionRepliesAlike
  -- under any policy an operator's commands have the same verdict and the same answer
  pub commands : CompactionCommandsAlike
  -- for new batches the same bindings are found
  pub found : (events later : List PlainEvent) → AreOrderly events →
      bindings_text (renewed_after events later) ≡ bindings_text (whole_after events later)
  -- the overview says the same of the plant
  pub tells : CompactionTellsAlike
