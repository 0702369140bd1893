-- The tables of log entries and of obstacles: the name and the fields of each.
use Rattle.std.specs.Prelude.{ℕ, List, [], ◌∷◌, ◌++◌, codes}
use Rattle.mtp_codes.specs.Codes.{command_number, state_number}
use Rattle.mtp_codes.specs.declared.mode.Forbid.{Forbid}
use Rattle.mtp_codes.specs.declared.mode.Forbid.TheVariants as forbid
use Rattle.chart_core.specs.declared.entry.LogEntry.{LogEntry}
use Rattle.chart_core.specs.declared.entry.LogEntry.TheVariants.{Start, Finish, Reset, End, Chose, Turn, Leave, Stop}
use Rattle.chart_core.specs.declared.entry.LogEntry.TheVariants.{Broke, Left, StopAsked, Hold, Unhold, Asked}
use Rattle.chart_core.specs.declared.why.Why.{Why}
use Rattle.chart_core.specs.declared.why.Why.TheVariants as why
use Rattle.event_json.specs.Fields.{PlainField, fields_of, number_field, readings_field, text_field}
use Rattle.pol_record.specs.declared.rows.Row.{Row}

-- the name and the fields of a log entry or an obstacle
pub record PlainRow : Type 0 where
  pub name : List ℕ
  pub fields : List PlainField

-- the row with this name and these fields
abbrev pub row : List ℕ → List PlainField → PlainRow
row name fields = record { name = name; fields = fields }

-- the fields of a row, and its name under a key
abbrev pub named_fields : List ℕ → PlainRow → List PlainField
named_fields key told = told.fields ++ text_field key told.name ∷ []

-- the row of a command to the service of a step
abbrev pub command_row : List ℕ → List ℕ → List ℕ → List ℕ → PlainRow
command_row name step tag service =
    row name
    (text_field (codes "step") step
    ∷ text_field (codes "tag") tag
    ∷ text_field (codes "service") service
    ∷ [])

-- the row of each entry of a batch's log
abbrev pub entry_row : LogEntry → PlainRow
entry_row (Start step tag service procedure) =
    row (codes "start")
    (text_field (codes "step") step
    ∷ text_field (codes "tag") tag
    ∷ text_field (codes "service") service
    ∷ number_field (codes "procedure") procedure
    ∷ [])
entry_row (Finish step tag service) = command_row (codes "finish") step tag service
entry_row (Reset step tag service) = command_row (codes "reset") step tag service
entry_row (End step) = row (codes "end") (text_field (codes "step") step ∷ [])
entry_row (Chose node arm values) =
    row (codes "chose")
    (number_field (codes "node") node
    ∷ number_field (codes "arm") arm
    ∷ readings_field (codes "values") values
    ∷ [])
entry_row (Turn node values) =
    row (codes "turn") (number_field (codes "node") node ∷ readings_field (codes "values") values ∷ [])
entry_row (Leave node values) =
    row (codes "leave") (number_field (codes "node") node ∷ readings_field (codes "values") values ∷ [])
entry_row (Stop step tag service) = command_row (codes "stop") step tag service
entry_row (Broke step state) =
    row (codes "broke") (text_field (codes "step") step ∷ number_field (codes "state") (state_number state) ∷ [])
entry_row (Left step state) =
    row (codes "left") (text_field (codes "step") step ∷ number_field (codes "state") (state_number state) ∷ [])
entry_row StopAsked = row (codes "stop_asked") []
entry_row (Hold step tag service) = command_row (codes "hold") step tag service
entry_row (Unhold step tag service) = command_row (codes "unhold") step tag service
entry_row (Asked tag service command) =
    row (codes "asked")
    (text_field (codes "tag") tag
    ∷ text_field (codes "service") service
    ∷ number_field (codes "command") (command_number command)
    ∷ [])

-- the name of why a command is forbidden
abbrev pub forbid_name : Forbid → List ℕ
forbid_name forbid.ModeForbids = codes "ModeForbids"
forbid_name forbid.SelfCompletes = codes "SelfCompletes"
forbid_name forbid.StateForbids = codes "StateForbids"
forbid_name forbid.NotEnabled = codes "NotEnabled"

-- the row of each obstacle that a batch waits for
abbrev pub obstacle_row : Why → PlainRow
obstacle_row why.Frozen = row (codes "Frozen") []
obstacle_row (why.Away tag) = row (codes "Away") (text_field (codes "tag") tag ∷ [])
obstacle_row (why.NotReported tag name) =
    row (codes "NotReported") (text_field (codes "tag") tag ∷ text_field (codes "name") name ∷ [])
obstacle_row (why.InState step state) =
    row (codes "InState") (text_field (codes "step") step ∷ number_field (codes "state") (state_number state) ∷ [])
obstacle_row (why.Forbidden step by) =
    row (codes "Forbidden") (text_field (codes "step") step ∷ text_field (codes "by") (forbid_name by) ∷ [])
obstacle_row (why.Unmet step) = row (codes "Unmet") (text_field (codes "step") step ∷ [])
obstacle_row (why.NoArm node) = row (codes "NoArm") (number_field (codes "node") node ∷ [])

-- what contracts see of a row
abbrev pub plain_row : Row → PlainRow
plain_row told = row told.name.now (fields_of told.fields)
