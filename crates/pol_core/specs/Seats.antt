-- What the table of modules keeps of a history: for each tag what looking back gives.
use Rattle.std.specs.Prelude.{ℕ, ◌≡◌, ◌+◌, false, List, [], ◌∷◌, length, Option, Some, None, is_some, Result, Ok, Err}
use Rattle.std.specs.Prelude.{⊤, if◌then◌else◌}
use Rattle.mtp_codes.specs.Names.{is_among}
use Rattle.mtp_codes.specs.declared.command.Command.{Command}
use Rattle.mtp_modes.specs.declared.view.ServiceView.{ServiceView}
use Rattle.chart_core.specs.declared.entry.LogEntry.{LogEntry}
use Rattle.pol_events.specs.Events.{PlainEvent}
use Rattle.pol_events.specs.declared.answer.Answer.{Answer}
use Rattle.pol_events.specs.declared.answer.Answer.TheVariants.{Done, Did, Refused}
use Rattle.pol_events.specs.declared.answer.Rule.{Rule}
use Rattle.pol_history.specs.Answers.{answer_of, is_full}
use Rattle.pol_history.specs.Batches.{holder_of, watchers_of}
use Rattle.pol_history.specs.Looking.{History, past}
use Rattle.pol_history.specs.Modules.{present_tags, absent, docking_by, ticket_of, description_by, begins_by}
use Rattle.pol_history.specs.Modules.{dockings_by, control_by, value_by}
use Rattle.pol_history.specs.Runs.{entry_of}
use Rattle.pol_desk.specs.Desk.{desk_answer}
use Rattle.pol_slots.specs.Sights.{reported_view}
use Rattle.pol_slots.specs.Slots.{slot_tag, slot_ticket, slot_description, slot_begins, last_control, last_value}
use Rattle.pol_slots.specs.declared.slot.Slot.{Slot}
use Rattle.pol_table.specs.Rows.{Row, Rows, look}

-- the slot keeps what its module's past gives
pub record SlotKeeps (tag : List ℕ) (slot : Slot) (past : History) : Type 0 where
  pub tag_is : slot_tag slot ≡ tag
  pub is_there : docking_by past ≡ absent → ⊥
  pub ticket : slot_ticket slot ≡ ticket_of (docking_by past)
  pub description : description_by past ≡ Some (slot_description slot)
  pub begins : slot_begins slot ≡ begins_by past
  pub dockings : slot_begins slot + 1 ≡ dockings_by past + (if is_some (slot_ticket slot) then 1 else 0)
  pub controls : (service : List ℕ) → last_control slot service ≡ control_by service past
  pub values : (name : List ℕ) → last_value slot name ≡ value_by name past

-- the batch that holds a module, if one does, and those that watch it
pub record Users : Type 0 where
  pub holder : Option (List ℕ)
  pub watchers : List (List ℕ)

-- the batch that holds the module of a tag, if one does, and those that watch it
abbrev pub users_of : History → List ℕ → Users
users_of history tag = record { holder = holder_of history tag; watchers = watchers_of history tag }

-- a tag without a row is absent, not held and not watched
pub record IsEmpty (past : History) (users : Users) : Type 0 where
  pub is_absent : docking_by past ≡ absent
  pub free : users.holder ≡ None
  pub unwatched : users.watchers ≡ []

-- a row keeps the module's past, who holds it and who watches it
pub record IsTaken (tag : List ℕ) (row : Row Slot) (past : History) (users : Users) : Type 0 where
  pub slot_keeps : SlotKeeps tag row.part past
  pub held_by : row.holder ≡ users.holder
  pub watched_by : row.watchers ≡ users.watchers

-- what a tag has in the table is what looking back gives
abbrev pub IsSeated : List ℕ → Option (Row Slot) → History → Users → Type 0
IsSeated tag None past users = IsEmpty past users
IsSeated tag (Some row) past users = IsTaken tag row past users

-- the table has of each tag what looking back gives
abbrev pub SeatsMirror : Rows Slot → History → Type 0
SeatsMirror rows history = (tag : List ℕ) → IsSeated tag (look tag rows) (past tag history) (users_of history tag)

-- the answer Done, unless a rule refuses the event
abbrev pub done_or_refused : Result ⊤ Rule → Answer
done_or_refused (Ok done) = Done
done_or_refused (Err rule) = Refused rule

-- the answer that an entry was done, unless a rule refuses the event
abbrev pub asked_answer : Result LogEntry Rule → Answer
asked_answer (Ok entry) = Did entry
asked_answer (Err rule) = Refused rule

-- what an operator's command is answered by what is seen of the service
abbrev pub asked_by : List ℕ → List ℕ → Command → Result ServiceView Rule → Result LogEntry Rule
asked_by tag service command (Ok view) = desk_answer tag service view command
asked_by tag service command (Err rule) = Err rule

-- an operator's command to a service of this slot
abbrev pub slot_asked : Slot → List ℕ → List ℕ → Command → Result LogEntry Rule
slot_asked slot tag service command = asked_by tag service command (reported_view slot service)

-- no tag is listed twice
abbrev pub AreOnce : List (List ℕ) → Type 0
AreOnce [] = Unit {0}
AreOnce (tag ∷ tags) = (is_among tags tag ≡ false) × AreOnce tags

-- the tags in the table are those that are docked or away, and there are as many
pub record IsCounted (rows : Rows Slot) (history : History) : Type 0 where
  pub members : (tag : List ℕ) → is_among (present_tags history) tag ≡ is_some (look tag rows)
  pub once : AreOnce (present_tags history)
  pub count : length rows ≡ length (present_tags history)

-- the answer to an event of a module is the defined one, and the table keeps the history with it
pub record AnswersModule (history : History) (event : PlainEvent) (answer : Answer) (rows : Rows Slot) : Type 0 where
  pub answer_is : answer ≡ answer_of history event
  pub seats : SeatsMirror rows (entry_of history event ∷ history)
  pub counted : IsCounted rows (entry_of history event ∷ history)

-- an event of a module is answered as defined after each history with room that the table keeps, whatever its stamp
abbrev pub ModuleAnswers : (ℕ → PlainEvent) → Rows Slot → Answer → Rows Slot → Type 0
ModuleAnswers event old answer new =
    (history : History) (at : ℕ) → SeatsMirror old history → IsCounted old history → is_full history ≡ false
    → AnswersModule history (event at) answer new
