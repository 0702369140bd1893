-- The output lines: each is one JSON object and a line feed.
use Rattle.std.specs.Prelude.{ℕ, ◌≡◌, List, [], ◌∷◌, ◌++◌, map, true, codes, Ok, Option, Some, None}
use Rattle.std.specs.List.{flat_map}
use Rattle.json.specs.Token as token
use Rattle.json.specs.Token.{Token}
use Rattle.serde_json.specs.Data.{Data, boolean, string, array, object, Members, member, no_members}
use Rattle.serde_json.specs.View.{items_of}
use Rattle.serde_json.specs.Written.{compact_text}
use Rattle.mtp_json.specs.PathText.{path_text}
use Rattle.mtp_json.specs.declared.fault.FaultKind.{FaultKind}
use Rattle.mtp_json.specs.declared.fault.FaultKind.TheVariants.{NotJson, Missing, WrongKind, OutOfRange, Unknown}
use Rattle.mtp_json.specs.declared.fault.FaultKind.TheVariants.{Repeated, Unsound, BadChart, TooLong as TooLongKind}
use Rattle.chart_core.specs.declared.entry.LogEntry.{LogEntry}
use Rattle.chart_core.specs.declared.fault.ChartFault.{ChartFault}
use Rattle.chart_core.specs.declared.fault.ChartFault.TheVariants.{TooDeep, TooManySteps, StepTwice, UnknownRole}
use Rattle.chart_core.specs.declared.fault.ChartFault.TheVariants.{SameService, TooManyReads}
use Rattle.chart_core.specs.declared.next.Outcome.{Outcome}
use Rattle.chart_core.specs.declared.next.Outcome.TheVariants.{Completed, Broken, Stopped, Abandoned}
use Rattle.chart_core.specs.declared.why.Why.{Why}
use Rattle.pol_events.specs.Events.{PlainEntry, PlainEvent}
use Rattle.pol_events.specs.declared.answer.Answer.{Answer}
use Rattle.pol_events.specs.declared.answer.Answer.TheVariants.{Done, Ticket, Did, Waiting, Closed, Refused}
use Rattle.pol_events.specs.declared.answer.Rule.{Rule}
use Rattle.pol_events.specs.declared.event.Bind.{Bind}
use Rattle.event_json.specs.Fields.{PlainField, number_field, text_field}
use Rattle.event_json.specs.Lines.{event_of}
use Rattle.event_json.specs.RuleTable.{rule_row}
use Rattle.event_json.specs.Written.{watch_member, written_binds, written_event}
use Rattle.event_json.specs.declared.fault.LineFault.{LineFault}
use Rattle.event_json.specs.declared.fault.LineFault.TheVariants.{Json, Chart, TooLong}
use Rattle.pol_history.specs.Batches.{Started, start_of, outcome_of, log_of, batches}
use Rattle.pol_history.specs.Looking.{History}
use Rattle.pol_record.specs.Objects.{data_tokens, fields_data}
use Rattle.pol_record.specs.Rows.{entry_row, named_fields, obstacle_row}

-- ---- answers

-- a refusal: the rule's fields, its name and its number
abbrev pub refusal_fields : Rule → List PlainField
refusal_fields rule =
    (rule_row rule).fields
    ++ text_field (codes "rule") (rule_row rule).name
    ∷ number_field (codes "refused") (rule_row rule).number
    ∷ []

-- an entry of a log: its fields and its name
abbrev pub entry_fields : LogEntry → List PlainField
entry_fields entry = named_fields (codes "do") (entry_row entry)

-- an obstacle: its fields and its name
abbrev pub obstacle_fields : Why → List PlainField
obstacle_fields obstacle = named_fields (codes "wait") (obstacle_row obstacle)

-- the name of an outcome
abbrev pub outcome_name : Outcome → List ℕ
outcome_name Completed = codes "Completed"
outcome_name Broken = codes "Broken"
outcome_name Stopped = codes "Stopped"
outcome_name Abandoned = codes "Abandoned"

-- a value below one key
unfoldable pub under_key : List ℕ → Data → Data
under_key key value = object (member key value no_members)

-- an entry of a log as JSON
abbrev pub entry_data : LogEntry → Data
entry_data entry = fields_data (entry_fields entry)

-- an answer as JSON
abbrev pub answer_data : Answer → Data
answer_data Done = under_key (codes "done") (boolean true)
answer_data (Ticket ticket) = fields_data (number_field (codes "ticket") ticket ∷ [])
answer_data (Did entry) = under_key (codes "did") (entry_data entry)
answer_data (Waiting obstacle) = fields_data (obstacle_fields obstacle)
answer_data (Closed outcome) = fields_data (text_field (codes "closed") (outcome_name outcome) ∷ [])
answer_data (Refused rule) = fields_data (refusal_fields rule)

-- a line: the compact text of its object, and a line feed
abbrev pub line_text : Data → List ℕ
line_text value = compact_text value ++ 10 ∷ []

-- the line of an answer
abbrev pub answer_text : Answer → List ℕ
answer_text answer = line_text (answer_data answer)

-- the object that ends every output
abbrev pub end_data : Data
end_data = under_key (codes "end") (boolean true)

-- an entry of a history: its answer and its event
unfoldable pub entry_object : Data → Data → Data
entry_object answer event =
    object (member (codes "answer") answer (member (codes "event") event no_members))

-- the text that is written of an event
abbrev pub event_text : PlainEvent → List ℕ
event_text event = compact_text (written_event event)

-- the line of an entry of a history
abbrev pub entry_line_text : PlainEntry → List ℕ
entry_line_text entry = line_text (entry_object (answer_data entry.answer) (written_event entry.event))

-- what is written of an entry's event is read as that event
abbrev pub IsReadBack : PlainEntry → Type 0
IsReadBack entry = event_of (event_text entry.event) ≡ Ok entry.event

-- the last line of every output
abbrev pub end_text : List ℕ
end_text = line_text end_data

-- ---- batches

-- the name of the outcome of a batch, or that it is running
abbrev pub outcome_text : Option Outcome → List ℕ
outcome_text None = codes "Running"
outcome_text (Some outcome) = outcome_name outcome

-- a batch: its name, its binds, its log, its outcome and its recipe, and these members behind them
unfoldable pub batch_object : List ℕ → Data → Data → List ℕ → List ℕ → Members → Data
batch_object batch binds log outcome recipe watch = object
    (member (codes "batch") (string batch)
    (member (codes "bind") binds
    (member (codes "log") log
    (member (codes "outcome") (string outcome)
    (member (codes "recipe") (string recipe) watch)))))

-- a log as JSON
abbrev pub log_data : List LogEntry → Data
log_data log = array (items_of (map entry_data log))

-- a batch with its start, its log and its outcome
abbrev pub batch_data : List ℕ → Started → List LogEntry → Option Outcome → Data
batch_data batch started log outcome =
    batch_object batch (written_binds started.binds.held) (log_data log) (outcome_text outcome) started.recipe
    (watch_member started.binds.watched)

-- the tokens of what a batch was started on and holds
abbrev pub start_tokens : List ℕ → List Bind → List Token
start_tokens batch binds =
    token.key (codes "batch") ∷ token.string batch ∷ token.key (codes "bind") ∷ data_tokens (written_binds binds)

-- the tokens of what became of a batch, and of its recipe
abbrev pub course_tokens : List LogEntry → Option Outcome → List ℕ → List Token
course_tokens log outcome recipe =
    token.key (codes "log")
    ∷ data_tokens (log_data log)
    ++ token.key (codes "outcome")
    ∷ token.string (outcome_text outcome)
    ∷ token.key (codes "recipe")
    ∷ token.string recipe
    ∷ []

-- the tokens of what a batch watches, where it watches anything
abbrev pub watch_tokens : List Bind → List Token
watch_tokens [] = []
watch_tokens (bind ∷ binds) = token.key (codes "watch") ∷ data_tokens (written_binds (bind ∷ binds))

-- the line of a batch, if it was started
abbrev pub started_text : List ℕ → Option Started → List LogEntry → Option Outcome → List ℕ
started_text batch None log outcome = []
started_text batch (Some started) log outcome = line_text (batch_data batch started log outcome)

-- the line of a batch after a history
abbrev pub batch_text : History → List ℕ → List ℕ
batch_text history batch = started_text batch (start_of history batch) (log_of history batch) (outcome_of history batch)

-- the lines of these batches
abbrev pub batch_lines : History → List (List ℕ) → List ℕ
batch_lines history batches = flat_map (batch_text history) batches

-- the lines of all batches, in the order of their starts
abbrev pub batches_text : History → List ℕ
batches_text history = batch_lines history (batches history)

-- ---- faults of lines

-- the name of a kind of fault
abbrev pub kind_name : FaultKind → List ℕ
kind_name NotJson = codes "NotJson"
kind_name Missing = codes "Missing"
kind_name WrongKind = codes "WrongKind"
kind_name OutOfRange = codes "OutOfRange"
kind_name Unknown = codes "Unknown"
kind_name Repeated = codes "Repeated"
kind_name Unsound = codes "Unsound"
kind_name BadChart = codes "BadChart"
kind_name TooLongKind = codes "TooLong"

-- a kind of fault and the text of its path
abbrev pub path_fields : List ℕ → List ℕ → List PlainField
path_fields kind path = text_field (codes "bad") kind ∷ text_field (codes "path") path ∷ []

-- a fault of a chart and its node
abbrev pub node_fields : List ℕ → ℕ → List PlainField
node_fields fault node =
    text_field (codes "bad") (codes "BadChart")
    ∷ text_field (codes "fault") fault
    ∷ number_field (codes "node") node
    ∷ []

-- a fault of a chart
abbrev pub chart_fault_fields : ChartFault → List PlainField
chart_fault_fields (TooDeep node) = node_fields (codes "TooDeep") node
chart_fault_fields (TooManySteps node) = node_fields (codes "TooManySteps") node
chart_fault_fields (StepTwice node) = node_fields (codes "StepTwice") node
chart_fault_fields (UnknownRole node) = node_fields (codes "UnknownRole") node
chart_fault_fields (SameService node) = node_fields (codes "SameService") node
chart_fault_fields (TooManyReads node) = node_fields (codes "TooManyReads") node

-- a fault as JSON; a line that is too long has the empty path
abbrev pub fault_data : LineFault → Data
fault_data (Json fault) = fields_data (path_fields (kind_name fault.kind) (path_text fault.path))
fault_data (Chart fault) = fields_data (chart_fault_fields fault)
fault_data TooLong = fields_data (path_fields (codes "TooLong") [])

-- the line of a fault
abbrev pub fault_text : LineFault → List ℕ
fault_text fault = line_text (fault_data fault)
