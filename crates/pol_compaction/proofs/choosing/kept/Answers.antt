-- The flagged entries are those to which the history is compacted.
use Rattle.std.proofs.Common.{◌≡◌, [], map}
use Rattle.std.proofs.lemmas.Result.{IfOk-weaker}
use Rattle.pol_events.specs.Events.{plain_entry, plain_history}
use Rattle.pol_compaction.specs.Compaction.{compacted}
use Rattle.pol_compaction.specs.Flags.{flagged, stay_flags}
use Rattle.pol_compaction.proofs.Chosen.{kept_flagged}
use Rattle.pol_compaction.proofs.choosing.kept.Goals as goal

pub returns-clause-kept : goal.returns-clause-kept
returns-clause-kept c =
    let history = c.args.history.now in
    IfOk-weaker c.stay_flags.result
    (λ flags. flags.items ≡ stay_flags (plain_history history) [] (map plain_entry history))
    (λ flags. flagged flags.items (map plain_entry history) ≡ compacted (plain_history history))
    (λ flags is. kept_flagged history flags.items is) c.stay_flags.ensures
