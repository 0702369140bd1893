-- What an entry decides at a loop whose body is done.
use Rattle.std.specs.Prelude.{ℕ, List, length, Bool, ◌==◌, Option, Some, None, if◌then◌else◌}
use Rattle.mtp_codes.specs.declared.value.Reading.{Reading}
use Rattle.chart_core.specs.Formulas.{Formula, holds}
use Rattle.chart_core.specs.Reads.{stored}
use Rattle.chart_core.specs.Runs.{WordEntry, loop_reads, decision_at, turns_rightly, leaves_rightly}
use Rattle.chart_core.specs.declared.progress.Change.{Change}
use Rattle.chart_core.specs.declared.progress.Change.TheVariants.{Put, Clear}
use Rattle.chart_core.specs.declared.progress.Progress.TheVariants.{Left}

-- whether the condition is true on these readings, where they are as many as it reads
abbrev pub judged_until : Formula → List Reading → Option Bool
judged_until until values =
    if length values == length (loop_reads until) then Some (holds until (stored (loop_reads until) values)) else None

-- what the entry changes at the loop with the number n: it clears the body up to `below`, or marks the loop as left
abbrev pub round_change : ℕ → ℕ → Formula → WordEntry → Option Change
round_change n below until e =
    if turns_rightly until e.unconditioned (decision_at n (loop_reads until) e) then Some (Clear n below)
    else (if leaves_rightly until e.unconditioned (decision_at n (loop_reads until) e) then Some (Put n Left) else None)
