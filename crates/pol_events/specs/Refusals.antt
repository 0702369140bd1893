-- Rules that a module by itself decides: by its description, by what it reported last, and by the ticket under which it
-- is away.
use Rattle.std.specs.Prelude.{ℕ, Bool, not, ◌||◌, ◌==◌, List, [], ◌∷◌, map, Option, is_none, option_and_then}
use Rattle.std.specs.Prelude.{option_map}
use Rattle.mtp_codes.specs.Faults.{when, first_of}
use Rattle.mtp_codes.specs.declared.cover.CoverFault.{CoverFault}
use Rattle.mtp_codes.specs.declared.cover.CoverFault.TheVariants as cover
use Rattle.mtp_codes.specs.declared.mode.Forbid.{Forbid}
use Rattle.mtp_codes.specs.declared.command.Command.{Command}
use Rattle.mtp_codes.specs.declared.mode.Forbid.TheVariants as forbid
use Rattle.mtp_codes.specs.declared.mode.Speaker.TheVariants.{Operator}
use Rattle.mtp_codes.specs.declared.state.State.{State}
use Rattle.mtp_codes.specs.declared.value.Value.{Value}
use Rattle.mtp_machine.specs.Machine.{is_edge, same_state}
use Rattle.mtp_machine.specs.States.{is_at_rest}
use Rattle.mtp_assembly.specs.Fits.{view_fault}
use Rattle.mtp_assembly.specs.declared.check.ValueFault.{ValueFault}
use Rattle.mtp_assembly.specs.declared.check.ValueFault.TheVariants as value
use Rattle.mtp_assembly.specs.declared.control.ServiceControl.{ServiceControl}
use Rattle.mtp_modes.specs.Permission.{forbidden_by}
use Rattle.mtp_modes.specs.declared.view.ServiceView.{ServiceView}
use Rattle.mtp_desc.specs.Plain.{PlainService, PlainDescription}
use Rattle.mtp_desc.specs.Lookup.{service_named, variable_named}
use Rattle.pol_events.specs.declared.answer.Rule.{Rule}
use Rattle.pol_events.specs.declared.answer.Rule.TheVariants.{NoService, NotAnEdge, NoVariable, WrongKind, OutOfRange}
use Rattle.pol_events.specs.declared.answer.Rule.TheVariants.{WrongType, WrongVersion, NotCovered, ModeForbids}
use Rattle.pol_events.specs.declared.answer.Rule.TheVariants.{SelfCompletes, StateForbids, NotEnabled, NotAtRest}
use Rattle.pol_events.specs.declared.answer.Rule.TheVariants.{InExchange, WrongTicket}

-- the module's description lacks the service
abbrev pub no_service : List ℕ → PlainDescription → Option Rule
no_service service description = when (is_none (service_named service description)) NoService

-- a state may follow the one reported last: it is the same, or an edge leads to it
abbrev pub may_follow : State → State → Bool
may_follow from to = same_state from to || is_edge from to

-- the state may not follow the one reported last
abbrev pub not_an_edge : State → Option ServiceControl → Option Rule
not_an_edge state last =
    option_and_then (λ last. when (not (may_follow last.state state)) (NotAnEdge last.state state)) last

-- the module's description lacks the variable
abbrev pub no_variable : List ℕ → PlainDescription → Option Rule
no_variable name description = when (is_none (variable_named name description)) NoVariable

-- a value's fault as a rule
abbrev pub value_rule : ValueFault → Rule
value_rule value.WrongKind = WrongKind
value_rule value.OutOfRange = OutOfRange

-- the value is of another kind than the variable, or out of its range
abbrev pub value_misfit : List ℕ → Value → PlainDescription → Option Rule
value_misfit name value description =
    option_and_then (λ variable. option_map value_rule (view_fault variable.kind value))
    (variable_named name description)

-- why a command may not go to a service, as a rule
abbrev pub forbid_rule : Forbid → Rule
forbid_rule forbid.ModeForbids = ModeForbids
forbid_rule forbid.SelfCompletes = SelfCompletes
forbid_rule forbid.StateForbids = StateForbids
forbid_rule forbid.NotEnabled = NotEnabled

-- the operator may not send the command, by what the service reported last
abbrev pub forbidden : Command → ServiceView → Option Rule
forbidden command view = option_map forbid_rule (forbidden_by view Operator command)

-- the service was reported in a state that isn't at rest
abbrev pub service_not_at_rest : List ℕ → Option ServiceControl → Option Rule
service_not_at_rest service control =
    option_and_then (λ control. when (not (is_at_rest control.state)) (NotAtRest service control.state)) control

-- the first of these services that isn't at rest, by what each reported last
abbrev pub not_at_rest : (List ℕ → Option ServiceControl) → List PlainService → Option Rule
not_at_rest last services = first_of (map (λ service. service_not_at_rest service.name (last service.name)) services)

-- the module is away under a ticket
abbrev pub in_exchange : List ℕ → Option ℕ → Option Rule
in_exchange tag ticket = option_map (InExchange tag) ticket

-- the ticket isn't the one under which the module is away
abbrev pub wrong_ticket : ℕ → Option ℕ → Option Rule
wrong_ticket given kept = option_and_then (λ kept. when (not (kept == given)) (WrongTicket kept given)) kept

-- the rules of a report, by the ticket of the module's exchange, its description and what the service reported last
abbrev pub report_rules : List ℕ → List ℕ → State → Option ℕ → Option PlainDescription → Option ServiceControl
    → List (Option Rule)
report_rules tag service state ticket description last =
    in_exchange tag ticket ∷ option_and_then (no_service service) description ∷ not_an_edge state last ∷ []

-- the rules of a variable's value, by the ticket of the module's exchange and its description
abbrev pub variable_rules : List ℕ → List ℕ → Value → Option ℕ → Option PlainDescription → List (Option Rule)
variable_rules tag name value ticket description =
    in_exchange tag ticket
    ∷ option_and_then (no_variable name) description
    ∷ option_and_then (value_misfit name value) description
    ∷ []

-- why a module can't play the role, as a rule
abbrev pub cover_rule : List ℕ → CoverFault → Rule
cover_rule role cover.WrongType = WrongType role
cover_rule role cover.WrongVersion = WrongVersion role
cover_rule role (cover.NotCovered missing) = NotCovered missing
