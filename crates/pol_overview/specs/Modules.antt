-- The modules of a plant as the overview shows them.
use Rattle.std.specs.Prelude.{ℕ, List, codes, Option, Some, None}
use Rattle.serde_json.specs.Data.{Data, null, string, object, member, no_members}
use Rattle.mtp_codes.specs.Codes.{state_number}
use Rattle.mtp_codes.specs.declared.value.Value.{Value}
use Rattle.mtp_json.specs.Written.{scalar_data}
use Rattle.mtp_assembly.specs.Plain.{PlainVariable}
use Rattle.mtp_assembly.specs.declared.control.ServiceControl.{ServiceControl}
use Rattle.mtp_desc.specs.Plain.{PlainDescription, PlainService}
use Rattle.chart_cursor.specs.declared.sight.Sight.{Sight}
use Rattle.chart_cursor.specs.declared.sight.Sight.TheVariants.{Away, Unreported, Is}
use Rattle.event_json.specs.Written.{mode_word, origin_word, whole}
use Rattle.pol_history.specs.Batches.{holder_of, watchers_of}
use Rattle.pol_history.specs.Looking.{History, past}
use Rattle.pol_history.specs.Modules.{Docking, absent, description_of, docking_of, present_tags, ticket_of}
use Rattle.pol_history.specs.Modules.{value_by, view_of}
use Rattle.pol_table.specs.ByteOrder.{in_byte_order}
use Rattle.pol_core.specs.Calls.{module_sight, module_value}
use Rattle.pol_overview.specs.May.{Allows, may_of}
use Rattle.pol_overview.specs.Lists.{each_data, name_or_null, names_data}

-- ---- services

-- five fields as a report of a service has them
unfoldable pub control_object : ℕ → List ℕ → ℕ → List ℕ → ℕ → Data
control_object mask mode procedure origin state = object
    (member (codes "CommandEn") (whole mask)
    (member (codes "Mode") (string mode)
    (member (codes "ProcedureCur") (whole procedure)
    (member (codes "Src") (string origin)
    (member (codes "StateCur") (whole state) no_members)))))

-- what a service reported
abbrev pub control_data : ServiceControl → Data
control_data control =
    control_object control.mask (mode_word control.mode) control.procedure (origin_word control.origin)
    (state_number control.state)

-- what is seen of a service: what it reported last since its module was docked; null where it reported nothing, or the
-- module is away
abbrev pub sight_data : Sight → Data
sight_data (Is view) = control_data view.control
sight_data Unreported = null
sight_data Away = null

-- a service: the commands that would go out to it now, its name, and what is seen of it
unfoldable pub service_object : ℕ → List ℕ → Data → Data
service_object may name view = object
    (member (codes "may") (whole may)
    (member (codes "name") (string name)
    (member (codes "view") view no_members)))

-- a service of a module
abbrev pub service_data : Allows → History → List ℕ → PlainService → Data
service_data allows history tag service =
    service_object (may_of allows history tag service.name) service.name
    (sight_data (module_sight (docking_of history tag) (view_of history tag service.name)))

-- ---- variables

-- a value, or null where there is none
abbrev pub value_or_null : Option Value → Data
value_or_null None = null
value_or_null (Some value) = scalar_data value

-- a variable: its name, and its value
unfoldable pub variable_object : List ℕ → Data → Data
variable_object name value = object (member (codes "name") (string name) (member (codes "value") value no_members))

-- a variable of a module, with the value that was reported last since the module was docked
abbrev pub variable_data : History → List ℕ → PlainVariable → Data
variable_data history tag variable =
    variable_object variable.name
    (value_or_null (module_value (docking_of history tag) (value_by variable.name (past tag history))))

-- ---- modules

-- the ticket under which a module is away; null while it is docked
abbrev pub ticket_data : Option ℕ → Data
ticket_data None = null
ticket_data (Some ticket) = whole ticket

-- a module: which batch holds it, its services, its tag, its ticket, its type, its variables, its version, and which
-- batches watch it
unfoldable pub module_object : Data → Data → List ℕ → Data → List ℕ → Data → List ℕ → Data → Data
module_object holder services tag ticket kind values version watchers = object
    (member (codes "holder") holder
    (member (codes "services") services
    (member (codes "tag") (string tag)
    (member (codes "ticket") ticket
    (member (codes "type") (string kind)
    (member (codes "values") values
    (member (codes "version") (string version)
    (member (codes "watchers") watchers no_members))))))))

-- a module of this description
abbrev pub described_data : Allows → History → List ℕ → PlainDescription → Data
described_data allows history tag description =
    module_object (name_or_null (holder_of history tag))
    (each_data (service_data allows history tag) description.services) tag
    (ticket_data (ticket_of (docking_of history tag))) description.type_name
    (each_data (variable_data history tag) description.variables) description.version_text
    (names_data (watchers_of history tag))

-- a module that has a description; each that is docked or away has one
abbrev pub described_or_null : Allows → History → List ℕ → Docking → Option PlainDescription → Data
described_or_null allows history tag absent description = null
described_or_null allows history tag docking None = null
described_or_null allows history tag docking (Some description) = described_data allows history tag description

-- the module of a tag
abbrev pub module_data : Allows → History → List ℕ → Data
module_data allows history tag =
    described_or_null allows history tag (docking_of history tag) (description_of history tag)

-- the modules that are docked or away, in byte order of their tags
abbrev pub modules_data : Allows → History → Data
modules_data allows history = each_data (module_data allows history) (in_byte_order (present_tags history))
