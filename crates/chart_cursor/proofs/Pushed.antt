-- The entries of a chart's run in a log that has one more entry at its end.
use Rattle.std.proofs.Common.{◌≡◌, true, false, cond, List, [], ◌∷◌, ◌++◌, is_some, ap, ◌∙◌}
use Rattle.std.proofs.lemmas.List.{append-nil}
use Rattle.std.proofs.lemmas.List.Elements.{filter-append}
use Rattle.chart_core.specs.Entries.{chart_entry}
use Rattle.chart_core.specs.declared.entry.LogEntry.{LogEntry}
use Rattle.chart_cursor.specs.Logs.{chart_entries}

-- they grow by an entry of the run
pub run_grows : (log : List LogEntry) (entry : LogEntry) → is_some (chart_entry entry) ≡ true
    → chart_entries (log ++ entry ∷ []) ≡ chart_entries log ++ entry ∷ []
run_grows log entry of_run =
    filter-append (λ entry. is_some (chart_entry entry)) log (entry ∷ [])
    ∙ ap (λ kept. chart_entries log ++ cond kept (entry ∷ []) []) of_run

-- and stay by another one
pub run_stays : (log : List LogEntry) (entry : LogEntry) → is_some (chart_entry entry) ≡ false
    → chart_entries (log ++ entry ∷ []) ≡ chart_entries log
run_stays log entry other =
    filter-append (λ entry. is_some (chart_entry entry)) log (entry ∷ [])
    ∙ ap (λ kept. chart_entries log ++ cond kept (entry ∷ []) []) other
    ∙ append-nil (chart_entries log)
