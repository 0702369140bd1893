-- The table of the rules: the number, the name and the fields of each.
use Rattle.std.specs.Prelude.{ℕ, List, [], ◌∷◌, codes}
use Rattle.mtp_codes.specs.Codes.{state_number}
use Rattle.pol_events.specs.declared.answer.Rule.{Rule}
use Rattle.pol_events.specs.declared.answer.Rule.TheVariants.{TagTaken, NoModule, PlantFull, Held, InExchange}
use Rattle.pol_events.specs.declared.answer.Rule.TheVariants.{NotInExchange, WrongTicket, NoService, NotAnEdge}
use Rattle.pol_events.specs.declared.answer.Rule.TheVariants.{NoVariable, WrongKind, RecipeKnown, NoRecipe, BatchKnown}
use Rattle.pol_events.specs.declared.answer.Rule.TheVariants.{NoBatch, BatchClosed, RoleUnbound, RoleUnknown}
use Rattle.pol_events.specs.declared.answer.Rule.TheVariants.{OneModuleTwice, WrongType, WrongVersion, NotCovered}
use Rattle.pol_events.specs.declared.answer.Rule.TheVariants.{NotReported, NotIdle, Busy, BatchesFull, NotAtRest}
use Rattle.pol_events.specs.declared.answer.Rule.TheVariants.{ActiveStep, HeldBack, ModeForbids, StateForbids}
use Rattle.pol_events.specs.declared.answer.Rule.TheVariants.{NotEnabled, OutOfRange, NotFrozen, AlreadyFrozen}
use Rattle.pol_events.specs.declared.answer.Rule.TheVariants.{SelfCompletes, RecipesFull, HistoryFull, Watched}
use Rattle.pol_events.specs.declared.answer.Rule.TheVariants.{WatchedStep}
use Rattle.event_json.specs.Fields.{PlainField, fields_of, number_field, text_field}
use Rattle.event_json.specs.declared.rule_table.RuleRow.{RuleRow}

-- a rule's number, its name and its fields
pub record PlainRow : Type 0 where
  pub number : ℕ
  pub name : List ℕ
  pub fields : List PlainField

-- a rule of this number and name, with these fields
abbrev pub row : ℕ → List ℕ → List PlainField → PlainRow
row number name fields = record { number = number; name = name; fields = fields }

-- the row of each rule
abbrev pub rule_row : Rule → PlainRow
rule_row TagTaken = row 1 (codes "TagTaken") []
rule_row (NoModule tag) = row 2 (codes "NoModule") (text_field (codes "tag") tag ∷ [])
rule_row PlantFull = row 3 (codes "PlantFull") []
rule_row (Held batch) = row 4 (codes "Held") (text_field (codes "batch") batch ∷ [])
rule_row (InExchange tag ticket) =
    row 5 (codes "InExchange") (text_field (codes "tag") tag ∷ number_field (codes "ticket") ticket ∷ [])
rule_row NotInExchange = row 6 (codes "NotInExchange") []
rule_row (WrongTicket kept given) =
    row 7 (codes "WrongTicket") (number_field (codes "kept") kept ∷ number_field (codes "given") given ∷ [])
rule_row NoService = row 8 (codes "NoService") []
rule_row (NotAnEdge from to) =
    row 9 (codes "NotAnEdge")
    (number_field (codes "from") (state_number from) ∷ number_field (codes "to") (state_number to) ∷ [])
rule_row NoVariable = row 10 (codes "NoVariable") []
rule_row WrongKind = row 11 (codes "WrongKind") []
rule_row RecipeKnown = row 12 (codes "RecipeKnown") []
rule_row NoRecipe = row 13 (codes "NoRecipe") []
rule_row BatchKnown = row 14 (codes "BatchKnown") []
rule_row NoBatch = row 15 (codes "NoBatch") []
rule_row BatchClosed = row 16 (codes "BatchClosed") []
rule_row (RoleUnbound role) = row 17 (codes "RoleUnbound") (text_field (codes "role") role ∷ [])
rule_row (RoleUnknown role) = row 18 (codes "RoleUnknown") (text_field (codes "role") role ∷ [])
rule_row (OneModuleTwice tag) = row 19 (codes "OneModuleTwice") (text_field (codes "tag") tag ∷ [])
rule_row (WrongType role) = row 20 (codes "WrongType") (text_field (codes "role") role ∷ [])
rule_row (WrongVersion role) = row 21 (codes "WrongVersion") (text_field (codes "role") role ∷ [])
rule_row (NotCovered missing) = row 22 (codes "NotCovered") (text_field (codes "missing") missing ∷ [])
rule_row (NotReported tag name) =
    row 23 (codes "NotReported") (text_field (codes "tag") tag ∷ text_field (codes "name") name ∷ [])
rule_row (NotIdle tag service state) =
    row 24 (codes "NotIdle")
    (text_field (codes "tag") tag
    ∷ text_field (codes "service") service
    ∷ number_field (codes "state") (state_number state)
    ∷ [])
rule_row (Busy tag batch) =
    row 25 (codes "Busy") (text_field (codes "tag") tag ∷ text_field (codes "batch") batch ∷ [])
rule_row BatchesFull = row 26 (codes "BatchesFull") []
rule_row (NotAtRest service state) =
    row 27 (codes "NotAtRest")
    (text_field (codes "service") service ∷ number_field (codes "state") (state_number state) ∷ [])
rule_row (ActiveStep batch step) =
    row 28 (codes "ActiveStep") (text_field (codes "batch") batch ∷ text_field (codes "step") step ∷ [])
rule_row (HeldBack batch missing) =
    row 29 (codes "HeldBack") (text_field (codes "batch") batch ∷ text_field (codes "missing") missing ∷ [])
rule_row ModeForbids = row 30 (codes "ModeForbids") []
rule_row StateForbids = row 31 (codes "StateForbids") []
rule_row NotEnabled = row 32 (codes "NotEnabled") []
rule_row OutOfRange = row 33 (codes "OutOfRange") []
rule_row NotFrozen = row 34 (codes "NotFrozen") []
rule_row AlreadyFrozen = row 35 (codes "AlreadyFrozen") []
rule_row SelfCompletes = row 36 (codes "SelfCompletes") []
rule_row RecipesFull = row 37 (codes "RecipesFull") []
rule_row HistoryFull = row 38 (codes "HistoryFull") []
rule_row (Watched batch) = row 39 (codes "Watched") (text_field (codes "batch") batch ∷ [])
rule_row (WatchedStep role) = row 40 (codes "WatchedStep") (text_field (codes "role") role ∷ [])

-- what contracts see of a row
abbrev pub plain_row : RuleRow → PlainRow
plain_row rule = row rule.number rule.name.now (fields_of rule.fields)
