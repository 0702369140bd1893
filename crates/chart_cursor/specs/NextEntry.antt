-- The next entry of an open batch, by its chart, its log, how it is frozen, and what is seen of its modules.
use Rattle.std.specs.Prelude.{ℕ, Bool, true, false, not, ◌&&◌, ◌||◌, List, [], ◌∷◌, filter, Option, Some, None, is_none, if◌then◌else◌}
use Rattle.std.specs.Option.{option_or}
use Rattle.mtp_codes.specs.declared.command.Command.TheVariants as command
use Rattle.mtp_codes.specs.Names.{is_among}
use Rattle.mtp_codes.specs.declared.mode.Speaker.TheVariants as speaker
use Rattle.mtp_codes.specs.declared.state.State.{State}
use Rattle.mtp_codes.specs.declared.state.State.TheVariants as state
use Rattle.mtp_modes.specs.Permission.{forbidden_by}
use Rattle.mtp_modes.specs.declared.view.ServiceView.{ServiceView}
use Rattle.chart_core.specs.Roles.{PlainChart}
use Rattle.chart_core.specs.Trees.{PlainStep}
use Rattle.chart_core.specs.declared.entry.LogEntry.{LogEntry}
use Rattle.chart_core.specs.declared.entry.LogEntry.TheVariants.{Stop, Broke, Left, Hold, Unhold}
use Rattle.chart_core.specs.declared.next.Next.{Next}
use Rattle.chart_core.specs.declared.next.Next.TheVariants.{Did, Waiting, Closed}
use Rattle.chart_core.specs.declared.next.Outcome.TheVariants.{Completed, Broken, Stopped}
use Rattle.chart_core.specs.declared.why.Why.TheVariants as why
use Rattle.chart_cursor.specs.Freezing.{Freezing, thawed, waiting, holding}
use Rattle.chart_cursor.specs.Logs.{chart_entries, active, has_broken, was_stopped, was_held}
use Rattle.chart_cursor.specs.Next.{next_after}
use Rattle.chart_cursor.specs.OpenNodes.{first_next}
use Rattle.chart_cursor.specs.Ready.{commanded, on_sight}
use Rattle.chart_cursor.specs.Sights.{Sights, tag_of}
use Rattle.chart_cursor.specs.declared.next.CursorNext.{CursorNext}
use Rattle.chart_cursor.specs.declared.next.CursorNext.TheVariants.{Entry, Wait, Whole}
use Rattle.chart_cursor.specs.declared.sight.Sight.{Sight}
use Rattle.chart_cursor.specs.declared.sight.Sight.TheVariants as sight

-- what a batch that is stopped does with an active step, by its name, its service and its module's tag: Stop where a
-- recipe may send it, else the step is left in its state; where nothing is known of the service the batch waits, which
-- occurs in no history
abbrev pub stop_step : List ℕ → List ℕ → List ℕ → Sight → Next
stop_step step service tag sight.Away = Waiting (why.Away tag)
stop_step step service tag sight.Unreported = Waiting (why.NotReported tag service)
stop_step step service tag (sight.Is view) =
    if is_none (forbidden_by view speaker.Recipe command.Stop)
    then Did (Stop step tag service)
    else Did (Left step view.control.state)

-- what a batch that is stopped does next: it stops its first active step, and where there is none it is closed
abbrev pub stop_next : Sights → Bool → List PlainStep → Next
stop_next seen broken [] = Closed (if broken then Broken else Stopped)
stop_next seen broken (step ∷ others) =
    stop_step step.name step.service (tag_of seen step.role) (seen.view step.role step.service)

-- the state is Stopped or Aborted
abbrev pub is_broken_state : State → Bool
is_broken_state state.Stopped = true
is_broken_state state.Aborted = true
is_broken_state other = false

-- the entry Broke of a step whose service is stopped or aborted
abbrev pub broken_step : PlainStep → Sight → Option LogEntry
broken_step step sight.Away = None
broken_step step sight.Unreported = None
broken_step step (sight.Is view) = if is_broken_state view.control.state then Some
    (Broke step.name view.control.state) else None

-- the entry Broke of the first of these steps whose service is stopped or aborted
abbrev pub first_broken : Sights → List PlainStep → Option LogEntry
first_broken seen [] = None
first_broken seen (step ∷ others) = option_or (broken_step step (seen.view step.role step.service))
    (first_broken seen others)

-- the entry Hold of a step, by what is seen of its service: where a recipe may send it Hold
abbrev pub hold_step : PlainStep → List ℕ → Sight → Option LogEntry
hold_step step tag sight.Away = None
hold_step step tag sight.Unreported = None
hold_step step tag (sight.Is view) =
    if is_none (forbidden_by view speaker.Recipe command.Hold) then Some (Hold step.name tag step.service) else None

-- the entry Hold of the first of these steps that a recipe may send Hold
abbrev pub first_hold : Sights → List PlainStep → Option LogEntry
first_hold seen [] = None
first_hold seen (step ∷ others) =
    option_or (hold_step step (tag_of seen step.role) (seen.view step.role step.service)) (first_hold seen others)

-- these steps without those that were asked to hold
abbrev pub unasked : List (List ℕ) → List PlainStep → List PlainStep
unasked asked steps = filter (λ step. not (is_among asked step.name)) steps

-- the state is Completed, Resetting or Idle: what was held has come to its end
abbrev pub is_over : State → Bool
is_over state.Completed = true
is_over state.Resetting = true
is_over state.Idle = true
is_over other = false

-- the service is seen, and what it does isn't over
abbrev pub is_under_way : Sight → Bool
is_under_way sight.Away = false
is_under_way sight.Unreported = false
is_under_way (sight.Is view) = not (is_over view.control.state)

-- those of these steps that were held after the log, and whose services aren't over: each is owed an Unhold
abbrev pub owed : Sights → List LogEntry → List PlainStep → List PlainStep
owed seen log steps =
    filter (λ step. was_held log step.name && is_under_way (seen.view step.role step.service)) steps

-- the state is Held
abbrev pub is_held : State → Bool
is_held state.Held = true
is_held other = false

-- what comes next of a service that is owed an Unhold: the entry Unhold where the service is Held and a recipe may send
-- it Unhold, else the obstacle
abbrev pub unhold_row : PlainStep → List ℕ → ServiceView → CursorNext
unhold_row step tag view =
    if is_held view.control.state then commanded step view command.Unhold (Unhold step.name tag step.service)
    else Wait (why.InState step.name view.control.state)

-- the entry Unhold of the first of these steps that may be unheld; where there is none, the obstacle of the first step;
-- nothing where there is no step
abbrev pub first_unhold : Sights → List PlainStep → CursorNext
first_unhold seen [] = Whole
first_unhold seen (step ∷ others) =
    first_next
    (on_sight step (tag_of seen step.role) (seen.view step.role step.service)
    (unhold_row step (tag_of seen step.role)))
    (first_unhold seen others)

-- the first of two, or where that is nothing the second
abbrev pub unless_whole : CursorNext → CursorNext → CursorNext
unless_whole (Entry entry) other = Entry entry
unless_whole (Wait obstacle) other = Wait obstacle
unless_whole Whole other = other

-- what comes next in the run of the chart, as the batch does it
abbrev pub run_next : CursorNext → Next
run_next (Entry entry) = Did entry
run_next (Wait obstacle) = Waiting obstacle
run_next Whole = Closed Completed

-- the entry, if there is one; else what comes next
abbrev pub did_or : Option LogEntry → Next → Next
did_or None next = next
did_or (Some entry) next = Did entry

-- The next entry of an open batch that isn't frozen: once it broke or was to be stopped its active steps are stopped
-- one by one; it breaks with a service of an active step; services that were held are unheld, and it waits until none
-- is owed an Unhold; else the run of its chart goes on.
abbrev pub unfrozen_next : PlainChart → List LogEntry → Sights → Next
unfrozen_next chart log seen =
    if has_broken log || was_stopped log then stop_next seen (has_broken log) (active chart log)
    else did_or (first_broken seen (active chart log))
    (run_next (unless_whole (first_unhold seen (owed seen log (active chart log)))
    (next_after chart (chart_entries log) seen)))

-- The next entry of an open batch. A frozen one waits; where its services are held, those of the active steps that
-- weren't asked yet are sent Hold before.
abbrev pub next_by : PlainChart → Freezing → List LogEntry → Sights → Next
next_by chart thawed log seen = unfrozen_next chart log seen
next_by chart waiting log seen = Waiting why.Frozen
next_by chart (holding asked) log seen =
    did_or (first_hold seen (unasked asked (active chart log))) (Waiting why.Frozen)
