-- An index of a history: each of its lists has just the entries that its name says, in their order.
use Rattle.std.specs.Prelude.{◌≡◌, ◌||◌, ℕ, Bool, List, filter, is_some}
use Rattle.pol_events.specs.Events.{PlainEntry}
use Rattle.pol_history.specs.Looking.{History, past, past_of_batch, recipes}
use Rattle.pol_history.specs.Modules.{control_by, is_moving, present_tags, value_by}
use Rattle.pol_history.specs.Batches.{closing, freezing, held_step, is_freeze, is_start, log_by, starting}
use Rattle.mtp_codes.specs.Names.{is_among}
use Rattle.chart_core.specs.Active.{is_running, phase_after}
use Rattle.chart_cursor.specs.Logs.{chart_entries, was_held}
use Rattle.pol_audit.specs.Followed.{AreFollowed}
use Rattle.pol_audit.specs.Halts.{is_halt}
use Rattle.pol_audit.specs.Listed.{items_under, listed}
use Rattle.pol_audit.specs.Told.{told_under}
use Rattle.pol_audit.specs.declared.places.Places.{Places}

-- the entry moves its module
abbrev pub moves : PlainEntry → Bool
moves entry = is_moving entry.event

-- the entry starts its batch
abbrev pub starts : PlainEntry → Bool
starts entry = is_some (starting entry.event)

-- the entry closes its batch
abbrev pub closes : PlainEntry → Bool
closes entry = is_some (closing entry.answer)

-- the entry freezes its batch or ends its freeze
abbrev pub freezes : PlainEntry → Bool
freezes entry = is_some (freezing entry.event)

-- the entry freezes its batch or asks a step to hold
abbrev pub asks : PlainEntry → Bool
asks entry = is_freeze entry.event || is_some (held_step entry.answer)

-- the lists are those of the history, with what was reported last in it, and the cursors went along its batches
pub record IsPlaced (places : Places) (history : History) : Type 0 where
  pub moves : (tag : List ℕ) → listed (items_under places.modules.moves.named.entries tag)
      ≡ filter moves (past tag history)
  pub controls : (tag service : List ℕ) → told_under places.modules.controls.tagged.entries tag service
      ≡ control_by service (past tag history)
  pub values : (tag name : List ℕ) → told_under places.modules.values.tagged.entries tag name
      ≡ value_by name (past tag history)
  pub starts : (batch : List ℕ) → listed (items_under places.batches.starts.named.entries batch)
      ≡ filter starts (past_of_batch batch history)
  pub closings : (batch : List ℕ) → listed (items_under places.batches.closings.named.entries batch)
      ≡ filter closes (past_of_batch batch history)
  pub freezings : (batch : List ℕ) → listed (items_under places.batches.freezings.named.entries batch)
      ≡ filter freezes (past_of_batch batch history)
  pub askings : (batch : List ℕ) → listed (items_under places.batches.askings.named.entries batch)
      ≡ filter asks (past_of_batch batch history)
  pub logs : (batch : List ℕ) → items_under places.logs.logs.named.entries batch
      ≡ log_by (past_of_batch batch history)
  pub runs : (batch : List ℕ) → items_under places.logs.runs.named.entries batch
      ≡ chart_entries (log_by (past_of_batch batch history))
  pub halts : (batch : List ℕ) → items_under places.logs.halts.named.entries batch
      ≡ filter is_halt (log_by (past_of_batch batch history))
  pub running : (batch name : List ℕ) → is_among (items_under places.standings.running.named.entries batch) name
      ≡ is_running (phase_after (log_by (past_of_batch batch history)) name)
  pub held : (batch name : List ℕ) → is_among (items_under places.standings.held.named.entries batch) name
      ≡ was_held (log_by (past_of_batch batch history)) name
  pub cursors : AreFollowed places.cursors.followed.entries (recipes history)
      (λ batch. chart_entries (log_by (past_of_batch batch history)))
  pub recipes : listed places.known.recipes.entries.items ≡ recipes history
  pub started : listed places.known.starts.items ≡ filter is_start history
  pub present : places.known.present.items ≡ present_tags history
