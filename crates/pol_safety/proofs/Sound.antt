-- All laws of legal histories together.
use Rattle.pol_history.specs.Refused.{RefusedChangesNothing}
use Rattle.pol_history.proofs.Paths.{reports_follow_paths}
use Rattle.pol_safety.specs.Sound.{HistoriesAreSound, EntriesAreRight}
use Rattle.pol_safety.proofs.Advances.{started_charted, advances_follow}
use Rattle.pol_safety.proofs.Courses.{logs_follow}
use Rattle.pol_safety.proofs.Holding.{holders_open, watchers_open}
use Rattle.pol_safety.proofs.Keeping.{batches_kept, batches_see}
use Rattle.pol_safety.proofs.Present.{tags_counted, tags_described}
use Rattle.pol_safety.proofs.Sending.{sent_was_permitted}

-- every legal history of orderly events is sound
pub histories_sound : HistoriesAreSound
histories_sound history legal orderly = record {
  legal = legal;
  orderly = orderly;
  paths = reports_follow_paths history legal;
  charts = λ batch started start.
      let found = started_charted history batch started legal orderly start in
      (found, logs_follow history batch found.chart legal orderly found.chart_is);
  batches = λ batch started chart is_open. batches_kept history batch started chart legal orderly is_open;
  sights = λ batch started chart is_open. batches_see history batch started chart legal orderly is_open;
  holders = λ tag batch holder. holders_open history tag batch legal orderly holder;
  watchers = λ tag batch watcher. watchers_open history tag batch legal orderly watcher;
  tags = tags_counted history legal;
  descriptions = λ tag there. tags_described history tag legal orderly there;
}

-- and each entry of it is right
pub entries_right : RefusedChangesNothing → EntriesAreRight
entries_right nothing history entry legal orderly = record {
  answered = legal.0;
  permitted = λ sent sends. sent_was_permitted history entry sent legal sends;
  advances = λ at batch is accepted. advances_follow history entry at batch legal orderly is accepted;
  refused = nothing entry history;
}
