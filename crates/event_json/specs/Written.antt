-- The written form of an event: one object with every key of its form.
use Rattle.std.specs.Prelude.{ℕ, Bool, List, [], ◌∷◌, codes}
use Rattle.serde_json.specs.Data.{Data, boolean, number, unsigned, string, object, Members, member, no_members}
use Rattle.mtp_codes.specs.Codes.{command_number, state_number}
use Rattle.mtp_codes.specs.declared.command.Command.{Command}
use Rattle.mtp_codes.specs.declared.mode.Mode.{Mode}
use Rattle.mtp_codes.specs.declared.mode.Mode.TheVariants.{Off, Operator, Automatic}
use Rattle.mtp_codes.specs.declared.mode.Origin.{Origin}
use Rattle.mtp_codes.specs.declared.mode.Origin.TheVariants.{Internal, External}
use Rattle.mtp_json.specs.Written.{scalar_data}
use Rattle.mtp_assembly.specs.declared.control.ServiceControl.{ServiceControl}
use Rattle.desc_json.specs.Written.{written_description}
use Rattle.chart_json.specs.Written.{written_roles, written_tree}
use Rattle.pol_events.specs.declared.event.Bind.{Bind}
use Rattle.pol_events.specs.Bound.{PlainAllocation}
use Rattle.pol_events.specs.Events.{PlainEvent, plug, unplug, report, variable, recipe, start, advance, freeze, thaw}
use Rattle.pol_events.specs.Events.{stop_batch, abandon, desk, exchange_begin, exchange_end, exchange_cancel}

-- a whole number
abbrev pub whole : ℕ → Data
whole n = number (unsigned n)

-- the word of a mode
abbrev pub mode_word : Mode → List ℕ
mode_word Off = codes "Off"
mode_word Operator = codes "Operator"
mode_word Automatic = codes "Automatic"

-- the word of a source
abbrev pub origin_word : Origin → List ℕ
origin_word Internal = codes "Internal"
origin_word External = codes "External"

-- ---- modules

-- a module is plugged
unfoldable pub written_plug : ℕ → List ℕ → Data → Data
written_plug at tag description = object
    (member (codes "at") (whole at)
    (member (codes "desc") description
    (member (codes "ev") (string (codes "plug"))
    (member (codes "tag") (string tag) no_members))))

-- an event, by its word, that names a tag and nothing more
unfoldable pub written_tag : List ℕ → ℕ → List ℕ → Data
written_tag word at tag = object
    (member (codes "at") (whole at)
    (member (codes "ev") (string word)
    (member (codes "tag") (string tag) no_members)))

-- a service reports
unfoldable pub written_report : ℕ → List ℕ → List ℕ → ServiceControl → Data
written_report at tag service control = object
    (member (codes "CommandEn") (whole control.mask)
    (member (codes "Mode") (string (mode_word control.mode))
    (member (codes "ProcedureCur") (whole control.procedure)
    (member (codes "Src") (string (origin_word control.origin))
    (member (codes "StateCur") (whole (state_number control.state))
    (member (codes "at") (whole at)
    (member (codes "ev") (string (codes "report"))
    (member (codes "service") (string service)
    (member (codes "tag") (string tag) no_members)))))))))

-- a variable has a value
unfoldable pub written_variable : ℕ → List ℕ → List ℕ → Data → Data
written_variable at tag named value = object
    (member (codes "at") (whole at)
    (member (codes "ev") (string (codes "variable"))
    (member (codes "name") (string named)
    (member (codes "tag") (string tag)
    (member (codes "value") value no_members)))))

-- an operator commands a service
unfoldable pub written_desk : ℕ → List ℕ → List ℕ → Command → Data
written_desk at tag service command = object
    (member (codes "CommandOp") (whole (command_number command))
    (member (codes "at") (whole at)
    (member (codes "ev") (string (codes "desk"))
    (member (codes "service") (string service)
    (member (codes "tag") (string tag) no_members)))))

-- another module takes the place of one that is away
unfoldable pub written_exchange_end : ℕ → List ℕ → ℕ → Data → Data
written_exchange_end at tag ticket description = object
    (member (codes "at") (whole at)
    (member (codes "desc") description
    (member (codes "ev") (string (codes "exchange_end"))
    (member (codes "tag") (string tag)
    (member (codes "ticket") (whole ticket) no_members)))))

-- a module that is away comes back
unfoldable pub written_exchange_cancel : ℕ → List ℕ → ℕ → Data
written_exchange_cancel at tag ticket = object
    (member (codes "at") (whole at)
    (member (codes "ev") (string (codes "exchange_cancel"))
    (member (codes "tag") (string tag)
    (member (codes "ticket") (whole ticket) no_members))))

-- ---- recipes

-- a recipe is made known
unfoldable pub written_recipe : ℕ → List ℕ → Data → Data → Data
written_recipe at named roles root = object
    (member (codes "at") (whole at)
    (member (codes "chart") root
    (member (codes "ev") (string (codes "recipe"))
    (member (codes "recipe") (string named)
    (member (codes "roles") roles no_members)))))

-- ---- batches

-- each bind as a member
abbrev pub bind_members : List Bind → Members
bind_members [] = no_members
bind_members (bind ∷ binds) = member bind.role (string bind.tag) (bind_members binds)

-- the binds as an object from role to tag
unfoldable pub written_binds : List Bind → Data
written_binds binds = object (bind_members binds)

-- what a start watches, where it watches anything
abbrev pub watch_member : List Bind → Members
watch_member [] = no_members
watch_member (bind ∷ binds) = member (codes "watch") (written_binds (bind ∷ binds)) no_members

-- a batch is started, with these members behind the others
unfoldable pub start_with : ℕ → List ℕ → List ℕ → Data → Members → Data
start_with at batch named binds watch = object
    (member (codes "at") (whole at)
    (member (codes "batch") (string batch)
    (member (codes "bind") binds
    (member (codes "ev") (string (codes "start"))
    (member (codes "recipe") (string named) watch)))))

-- a batch is started
abbrev pub written_start : ℕ → List ℕ → List ℕ → PlainAllocation → Data
written_start at batch named binds = start_with at batch named (written_binds binds.held) (watch_member binds.watched)

-- an event, by its word, that names a batch and nothing more
unfoldable pub written_batch : List ℕ → ℕ → List ℕ → Data
written_batch word at batch = object
    (member (codes "at") (whole at)
    (member (codes "batch") (string batch)
    (member (codes "ev") (string word) no_members)))

-- a batch is frozen
unfoldable pub written_freeze : ℕ → List ℕ → Bool → Data
written_freeze at batch hold = object
    (member (codes "at") (whole at)
    (member (codes "batch") (string batch)
    (member (codes "ev") (string (codes "freeze"))
    (member (codes "hold") (boolean hold) no_members))))

-- ---- all kinds

-- an event
abbrev pub written_event : PlainEvent → Data
written_event (plug at tag description) = written_plug at tag (written_description description)
written_event (unplug at tag) = written_tag (codes "unplug") at tag
written_event (report at tag service control) = written_report at tag service control
written_event (variable at tag name value) = written_variable at tag name (scalar_data value)
written_event (recipe at name chart) = written_recipe at name (written_roles chart.roles) (written_tree chart.root)
written_event (start at batch name binds) = written_start at batch name binds
written_event (advance at batch) = written_batch (codes "advance") at batch
written_event (freeze at batch hold) = written_freeze at batch hold
written_event (thaw at batch) = written_batch (codes "thaw") at batch
written_event (stop_batch at batch) = written_batch (codes "stop") at batch
written_event (abandon at batch) = written_batch (codes "abandon") at batch
written_event (desk at tag service command) = written_desk at tag service command
written_event (exchange_begin at tag) = written_tag (codes "exchange_begin") at tag
written_event (exchange_end at tag ticket description) = written_exchange_end at tag ticket
    (written_description description)
written_event (exchange_cancel at tag ticket) = written_exchange_cancel at tag ticket
