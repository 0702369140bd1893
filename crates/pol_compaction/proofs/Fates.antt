-- What stays by its fate is what stays between what comes before it and what comes after it.
use Rattle.std.proofs.Common.{◌≡◌, ℕ, zero, suc, Bool, true, false, cond, not, List, [], ◌∷◌, drop, get_or, refl, ap}
use Rattle.std.proofs.Common.{sym, ◌∙◌}
use Rattle.std.specs.Prelude.{◌&&◌}
use Rattle.std.proofs.Math.Bool.{and-false, and-true}
use Rattle.mtp_codes.specs.declared.state.State.{State}
use Rattle.mtp_codes.specs.declared.value.Value.{Value}
use Rattle.mtp_machine.specs.Machine.{same_state}
use Rattle.mtp_assembly.specs.declared.control.ServiceControl.{ServiceControl}
use Rattle.pol_events.specs.Events.{PlainEvent, plug, unplug, report, variable, recipe, start, advance, freeze, thaw}
use Rattle.pol_events.specs.Events.{stop_batch, abandon, desk, exchange_begin, exchange_end, exchange_cancel}
use Rattle.pol_events.specs.Events.{PlainEntry}
use Rattle.pol_history.specs.Looking.{History, subject}
use Rattle.pol_history.specs.Modules.{reported, reported_value}
use Rattle.pol_compaction.specs.Compaction.{stays_between}
use Rattle.pol_compaction.specs.Fates.{each_fate, entry_fate, event_fate, next_of, report_fate, stays_by}
use Rattle.pol_compaction.specs.Fates.{unless_replaced, value_fate}
use Rattle.pol_compaction.specs.Flags.{is_read_in, lasting_in}
use Rattle.pol_compaction.specs.Lasting.{is_lasting}
use Rattle.pol_compaction.specs.Marks.{Mark, told, read, moved, marks_of, report_stays, value_stays}
use Rattle.pol_compaction.specs.Reading.{is_read, is_replaced}
use Rattle.pol_compaction.specs.declared.ahead.Fate.{Fate}
use Rattle.pol_compaction.specs.declared.ahead.Fate.TheVariants.{Stays, StaysIfRead, Goes}
use Rattle.pol_compaction.proofs.Lists.{same_head, same_tail}

-- a report stays by its fate, as by the marks to come
report_by : (state : State) (was_read : Bool) (marks : List (Mark ServiceControl)) →
    stays_by (report_fate state (next_of marks)) was_read ≡ report_stays state was_read marks
report_by state was_read [] = refl
report_by state was_read (told control ∷ marks) = go (same_state control.state state)
  where
    go : (same : Bool) → stays_by (cond same Goes StaysIfRead) was_read ≡ (was_read && not same)
    go true = sym (and-false was_read)
    go false = sym (and-true was_read)
report_by state was_read (read ∷ marks) = refl
report_by state was_read (moved ∷ marks) = refl

-- and a value
value_by : (was_read : Bool) (marks : List (Mark Value)) →
    stays_by (value_fate (next_of marks)) was_read ≡ value_stays marks
value_by was_read [] = refl
value_by was_read (told value ∷ marks) = refl
value_by was_read (read ∷ marks) = refl
value_by was_read (moved ∷ marks) = refl

-- nothing of a module stays that is replaced
unless_by : (replaced was_read : Bool) (fate : Fate) →
    stays_by (unless_replaced replaced fate) was_read ≡ (not replaced && stays_by fate was_read)
unless_by true was_read fate = refl
unless_by false was_read fate = refl

-- all that happens to one stays that isn't
move_by : (replaced was_read : Bool) → stays_by (unless_replaced replaced Stays) was_read ≡ not replaced
move_by replaced was_read = unless_by replaced was_read Stays ∙ and-true (not replaced)

-- so each event that lasts stays by its fate
event_by : (whole older : History) (newer : List PlainEntry) (event : PlainEvent) →
    stays_by (event_fate whole newer event) (is_read_in whole older (subject event))
    ≡ stays_between whole older newer event
event_by whole older newer (unplug at tag) = refl
event_by whole older newer (plug at tag description) = move_by (is_replaced tag newer) (is_read whole tag older)
event_by whole older newer (exchange_begin at tag) = move_by (is_replaced tag newer) (is_read whole tag older)
event_by whole older newer (exchange_end at tag ticket description) =
    move_by (is_replaced tag newer) (is_read whole tag older)
event_by whole older newer (exchange_cancel at tag ticket) = move_by (is_replaced tag newer) (is_read whole tag older)
event_by whole older newer (report at tag service control) =
    unless_by (is_replaced tag newer) (is_read whole tag older)
    (report_fate control.state (next_of (marks_of whole tag (reported service) newer)))
    ∙ ap (λ stays. not (is_replaced tag newer) && stays)
    (report_by control.state (is_read whole tag older) (marks_of whole tag (reported service) newer))
event_by whole older newer (variable at tag name value) =
    unless_by (is_replaced tag newer) (is_read whole tag older)
    (value_fate (next_of (marks_of whole tag (reported_value name) newer)))
    ∙ ap (λ stays. not (is_replaced tag newer) && stays)
    (value_by (is_read whole tag older) (marks_of whole tag (reported_value name) newer))
event_by whole older newer (recipe at name chart) = refl
event_by whole older newer (start at batch name binds) = refl
event_by whole older newer (advance at batch) = refl
event_by whole older newer (freeze at batch hold) = refl
event_by whole older newer (thaw at batch) = refl
event_by whole older newer (stop_batch at batch) = refl
event_by whole older newer (abandon at batch) = refl
event_by whole older newer (desk at tag service command) = refl

-- and so does each entry
pub entry_by : (whole older : History) (newer : List PlainEntry) (entry : PlainEntry) →
    stays_by (entry_fate whole newer entry) (is_read_in whole older (subject entry.event))
    ≡ (is_lasting whole entry && stays_between whole older (lasting_in whole newer) entry.event)
entry_by whole older newer entry = go (is_lasting whole entry)
  where
    go : (lasts : Bool) →
        stays_by (cond lasts (event_fate whole (lasting_in whole newer) entry.event) Goes)
        (is_read_in whole older (subject entry.event))
        ≡ (lasts && stays_between whole older (lasting_in whole newer) entry.event)
    go true = event_by whole older (lasting_in whole newer) entry.event
    go false = refl

-- a fate stands beside its entry
pub fate_at : (whole : History) (entries : List PlainEntry) (place : ℕ) (default : Fate) (entry : PlainEntry)
    (newer : List PlainEntry) → drop place entries ≡ entry ∷ newer →
    get_or (each_fate whole entries) place default ≡ entry_fate whole newer entry
fate_at whole [] zero default entry newer is = cc
fate_at whole [] (suc place) default entry newer is = cc
fate_at whole (first ∷ entries) zero default entry newer is =
    ap (λ newer. entry_fate whole newer first) (same_tail first entry entries newer is)
    ∙ ap (entry_fate whole newer) (same_head first entry entries newer is)
fate_at whole (first ∷ entries) (suc place) default entry newer is = fate_at whole entries place default entry newer is
