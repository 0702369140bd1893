-- What is looked for by its place in a list, whose items are met one after another.
use Rattle.std.specs.Prelude.{ℕ, zero, suc, Option, Some, None}
use Rattle.chart_cursor.specs.declared.sought.Sought.{Sought}

-- an item is found where none is to be met before it
abbrev pub met_item : {T : Type 0} → T → ℕ → Sought T
met_item item zero = record { left = 0; found = Some item }
met_item item (suc left) = record { left = left; found = None }

-- an item is met, unless what is looked for was found
abbrev pub met_unless : {T : Type 0} → T → ℕ → Option T → Sought T
met_unless item left None = met_item item left
met_unless item left (Some found) = record { left = left; found = Some found }

-- what is looked for after one thing more, which is an item or isn't
abbrev pub met : {T : Type 0} → Option T → Sought T → Sought T
met None sought = sought
met (Some item) sought = met_unless item sought.left sought.found
