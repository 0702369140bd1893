-- The log of a batch after one more entry.
use Rattle.std.proofs.Common.{◌≡◌, ◌∷◌, [], ◌++◌, Some, None, refl}
use Rattle.std.specs.Prelude.{filter_map}
use Rattle.std.proofs.lemmas.List.{reverse-append}
use Rattle.chart_core.specs.declared.entry.LogEntry.{LogEntry}
use Rattle.pol_events.specs.Events.{PlainEntry}
use Rattle.pol_history.specs.Looking.{History}
use Rattle.pol_history.specs.Batches.{taken, log_by}

-- an entry that was taken is at the end
pub log_grows : (entry : PlainEntry) (past : History) (new : LogEntry) → taken entry.answer ≡ Some new
    → log_by (entry ∷ past) ≡ log_by past ++ new ∷ []
log_grows entry past new is = rw is (reverse-append (new ∷ []) (filter_map (λ entry. taken entry.answer) past))

-- where none was taken the log stays
pub log_stays : (entry : PlainEntry) (past : History) → taken entry.answer ≡ None → log_by (entry ∷ past) ≡ log_by past
log_stays entry past is = rw is refl
