-- What an object may say, by a name or a number: each kind of answer with what is under its keys.
use Rattle.std.specs.Prelude.{ℕ, List, [], ◌∷◌, map, codes, Option}
use Rattle.mtp_codes.specs.Codes.{named_by}
use Rattle.mtp_json.specs.Leaf.{meaning_of}
use Rattle.chart_core.specs.declared.entry.LogEntry.{LogEntry}
use Rattle.chart_core.specs.declared.entry.LogEntry.TheVariants as entry
use Rattle.chart_core.specs.declared.next.Outcome.{Outcome}
use Rattle.chart_core.specs.declared.next.Outcome.TheVariants.{Completed, Broken, Stopped, Abandoned}
use Rattle.chart_core.specs.declared.why.Why.{Why}
use Rattle.chart_core.specs.declared.why.Why.TheVariants as why
use Rattle.pol_events.specs.declared.answer.Rule.{Rule}
use Rattle.pol_events.specs.declared.answer.Rule.TheVariants.{TagTaken, NoModule, PlantFull, Held, InExchange}
use Rattle.pol_events.specs.declared.answer.Rule.TheVariants.{NotInExchange, WrongTicket, NoService, NotAnEdge}
use Rattle.pol_events.specs.declared.answer.Rule.TheVariants.{NoVariable, WrongKind, RecipeKnown, NoRecipe, BatchKnown}
use Rattle.pol_events.specs.declared.answer.Rule.TheVariants.{NoBatch, BatchClosed, RoleUnbound, RoleUnknown}
use Rattle.pol_events.specs.declared.answer.Rule.TheVariants.{OneModuleTwice, WrongType, WrongVersion, NotCovered}
use Rattle.pol_events.specs.declared.answer.Rule.TheVariants.{NotReported, NotIdle, Busy, BatchesFull, NotAtRest}
use Rattle.pol_events.specs.declared.answer.Rule.TheVariants.{ActiveStep, HeldBack, ModeForbids, StateForbids}
use Rattle.pol_events.specs.declared.answer.Rule.TheVariants.{NotEnabled, OutOfRange, NotFrozen, AlreadyFrozen}
use Rattle.pol_events.specs.declared.answer.Rule.TheVariants.{SelfCompletes, RecipesFull, HistoryFull, Watched}
use Rattle.pol_events.specs.declared.answer.Rule.TheVariants.{WatchedStep}
use Rattle.event_json.specs.RuleTable.{rule_row}
use Rattle.pol_record.specs.Rows.{entry_row, obstacle_row}
use Rattle.pol_record.specs.Texts.{outcome_name}
use Rattle.pol_entries.specs.Found.{Lookup}

-- each rule, with what is under its keys
abbrev pub every_rule : Lookup → List Rule
every_rule told =
    TagTaken
    ∷ NoModule (told.name (codes "tag"))
    ∷ PlantFull
    ∷ Held (told.name (codes "batch"))
    ∷ InExchange (told.name (codes "tag")) (told.number (codes "ticket"))
    ∷ NotInExchange
    ∷ WrongTicket (told.number (codes "kept")) (told.number (codes "given"))
    ∷ NoService
    ∷ NotAnEdge (told.state (codes "from")) (told.state (codes "to"))
    ∷ NoVariable
    ∷ WrongKind
    ∷ RecipeKnown
    ∷ NoRecipe
    ∷ BatchKnown
    ∷ NoBatch
    ∷ BatchClosed
    ∷ RoleUnbound (told.name (codes "role"))
    ∷ RoleUnknown (told.name (codes "role"))
    ∷ OneModuleTwice (told.name (codes "tag"))
    ∷ WrongType (told.name (codes "role"))
    ∷ WrongVersion (told.name (codes "role"))
    ∷ NotCovered (told.name (codes "missing"))
    ∷ NotReported (told.name (codes "tag")) (told.name (codes "name"))
    ∷ NotIdle (told.name (codes "tag")) (told.name (codes "service")) (told.state (codes "state"))
    ∷ Busy (told.name (codes "tag")) (told.name (codes "batch"))
    ∷ BatchesFull
    ∷ NotAtRest (told.name (codes "service")) (told.state (codes "state"))
    ∷ ActiveStep (told.name (codes "batch")) (told.name (codes "step"))
    ∷ HeldBack (told.name (codes "batch")) (told.name (codes "missing"))
    ∷ ModeForbids
    ∷ StateForbids
    ∷ NotEnabled
    ∷ OutOfRange
    ∷ NotFrozen
    ∷ AlreadyFrozen
    ∷ SelfCompletes
    ∷ RecipesFull
    ∷ HistoryFull
    ∷ Watched (told.name (codes "batch"))
    ∷ WatchedStep (told.name (codes "role"))
    ∷ []

-- the rule of this number
abbrev pub rule_numbered : ℕ → Lookup → Option Rule
rule_numbered number told = named_by number (map (λ rule. (rule, (rule_row rule).number)) (every_rule told))

-- each entry of a log, with what is under its keys
abbrev pub every_entry : Lookup → List LogEntry
every_entry told =
    entry.Start (told.name (codes "step")) (told.name (codes "tag")) (told.name (codes "service"))
    (told.half (codes "procedure"))
    ∷ entry.Finish (told.name (codes "step")) (told.name (codes "tag")) (told.name (codes "service"))
    ∷ entry.Reset (told.name (codes "step")) (told.name (codes "tag")) (told.name (codes "service"))
    ∷ entry.End (told.name (codes "step"))
    ∷ entry.Chose (told.number (codes "node")) (told.number (codes "arm")) (told.readings (codes "values"))
    ∷ entry.Turn (told.number (codes "node")) (told.readings (codes "values"))
    ∷ entry.Leave (told.number (codes "node")) (told.readings (codes "values"))
    ∷ entry.Stop (told.name (codes "step")) (told.name (codes "tag")) (told.name (codes "service"))
    ∷ entry.Broke (told.name (codes "step")) (told.state (codes "state"))
    ∷ entry.Left (told.name (codes "step")) (told.state (codes "state"))
    ∷ entry.StopAsked
    ∷ entry.Hold (told.name (codes "step")) (told.name (codes "tag")) (told.name (codes "service"))
    ∷ entry.Unhold (told.name (codes "step")) (told.name (codes "tag")) (told.name (codes "service"))
    ∷ entry.Asked (told.name (codes "tag")) (told.name (codes "service")) (told.command (codes "command"))
    ∷ []

-- the entry of this name
abbrev pub entry_named : List ℕ → Lookup → Option LogEntry
entry_named name told = meaning_of name (map (λ entry. ((entry_row entry).name, entry)) (every_entry told))

-- each obstacle, with what is under its keys
abbrev pub every_obstacle : Lookup → List Why
every_obstacle told =
    why.Frozen
    ∷ why.Away (told.name (codes "tag"))
    ∷ why.NotReported (told.name (codes "tag")) (told.name (codes "name"))
    ∷ why.InState (told.name (codes "step")) (told.state (codes "state"))
    ∷ why.Forbidden (told.name (codes "step")) (told.forbid (codes "by"))
    ∷ why.Unmet (told.name (codes "step"))
    ∷ why.NoArm (told.number (codes "node"))
    ∷ []

-- the obstacle of this name
abbrev pub obstacle_named : List ℕ → Lookup → Option Why
obstacle_named name told =
    meaning_of name (map (λ obstacle. ((obstacle_row obstacle).name, obstacle)) (every_obstacle told))

-- the outcome of this name
abbrev pub outcome_named : List ℕ → Option Outcome
outcome_named name =
    meaning_of name (map (λ outcome. (outcome_name outcome, outcome)) (Completed ∷ Broken ∷ Stopped ∷ Abandoned ∷ []))
