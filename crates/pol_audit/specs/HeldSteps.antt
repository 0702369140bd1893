-- What a batch sees of its modules after a history, and what it does next for a step that is to be held or unheld.
use Rattle.std.specs.Prelude.{◌&&◌, List, Option, if◌then◌else◌}
use Rattle.chart_core.specs.Trees.{PlainStep}
use Rattle.chart_core.specs.declared.entry.LogEntry.{LogEntry}
use Rattle.chart_cursor.specs.Logs.{was_held}
use Rattle.chart_cursor.specs.NextEntry.{hold_step, is_under_way, unhold_row}
use Rattle.chart_cursor.specs.Ready.{on_sight}
use Rattle.chart_cursor.specs.Sights as cursor
use Rattle.chart_cursor.specs.Sights.{tag_of}
use Rattle.chart_cursor.specs.declared.next.CursorNext.{CursorNext}
use Rattle.chart_cursor.specs.declared.next.CursorNext.TheVariants.{Whole}
use Rattle.pol_events.specs.Bound.{given, plain_allocation}
use Rattle.pol_events.specs.Events.{plain_history}
use Rattle.pol_history.specs.Following.{sights_by}
use Rattle.pol_history.specs.Looking.{past}
use Rattle.pol_audit.specs.Starts.{is_active_step}
use Rattle.pol_audit.specs.declared.sights.Sights.{Sights}

-- what contracts see of what a batch sees
abbrev pub plain_sights : Sights → cursor.Sights
plain_sights seen = sights_by (given (plain_allocation seen.binds)) (λ tag. past tag (plain_history seen.history.now))

-- the entry Hold of a step, by what is seen of its service
abbrev pub hold_seen : cursor.Sights → PlainStep → Option LogEntry
hold_seen seen step = hold_step step (tag_of seen step.role) (seen.view step.role step.service)

-- what comes next for a step that was held, by what is seen of its service: nothing where the service isn't under way
abbrev pub unhold_seen : cursor.Sights → PlainStep → CursorNext
unhold_seen seen step =
    if is_under_way (seen.view step.role step.service)
    then on_sight step (tag_of seen step.role) (seen.view step.role step.service)
    (unhold_row step (tag_of seen step.role))
    else Whole

-- what comes next for a step after the log: nothing unless it is active and was held
abbrev pub owed_next : cursor.Sights → List LogEntry → PlainStep → CursorNext
owed_next seen log step =
    if is_active_step log step && was_held log step.name then unhold_seen seen step else Whole
