-- Batches that are followed: a cursor goes along the run of each.
use Rattle.std.specs.Prelude.{◌≡◌, ℕ, List, Some, IfSome}
use Rattle.std.specs.Map.{lookup}
use Rattle.std.specs.Str.{bytes_eq}
use Rattle.chart_core.specs.Charts.{plain_chart}
use Rattle.chart_core.specs.Standing.{AreAfter}
use Rattle.chart_core.specs.declared.entry.LogEntry.{LogEntry}
use Rattle.chart_cursor.specs.Kept.{Kept}
use Rattle.pol_history.specs.Looking.{History}
use Rattle.pol_history.specs.Batches.{chart_named}
use Rattle.pol_audit.specs.declared.cursors.Followed.{Followed}

-- the cursor is one of the recipe's chart, and went along the run
abbrev pub GoesAlong : History → List ℕ → List LogEntry → Kept → Type 0
GoesAlong recipes recipe run cursor =
    (chart_named recipe recipes ≡ Some (plain_chart cursor.chart))
    × AreAfter (plain_chart cursor.chart) cursor.marks run

-- the cursor of each batch that is followed is one of its recipe's chart and went along its run, by the accepted
-- recipes and the run of each batch
abbrev pub AreFollowed : List (List ℕ × Followed) → History → (List ℕ → List LogEntry) → Type 0
AreFollowed named recipes runs =
    (batch : List ℕ) → IfSome (lookup (bytes_eq batch) named)
    (λ followed. GoesAlong recipes followed.recipe (runs batch) followed.cursor)
