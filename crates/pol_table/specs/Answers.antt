-- What a table answers, read off the rows before the call.
use Rattle.std.specs.Prelude.{ℕ, List, [], ◌∷◌, length, Option, None, Some, Result, Ok, Err, is_some, map}
use Rattle.std.specs.Option.{option_or}
use Rattle.mtp_codes.specs.Faults.{done_unless, first_of}
use Rattle.pol_table.specs.Rows.{Row, Rows, look, holder_of}
use Rattle.pol_table.specs.Reasons.{dock_reason, missing_reason, busy_reason}
use Rattle.pol_table.specs.declared.faults.DockFault.{DockFault}
use Rattle.pol_table.specs.declared.faults.LeaveFault.{LeaveFault}
use Rattle.pol_table.specs.declared.faults.LeaveFault.TheVariants.{NoModule as NotThere, Held, Watched}
use Rattle.pol_table.specs.declared.faults.HoldFault.{HoldFault}

-- a part that is found may leave where no batch holds it and none watches it
abbrev pub parting_unless : {A : Type 0} → A → Option (List ℕ) → List (List ℕ) → Result A LeaveFault
parting_unless found (Some batch) watchers = Err (Held batch)
parting_unless found None (batch ∷ watchers) = Err (Watched batch)
parting_unless found None [] = Ok found

module _ {T : Type 0} where
  -- why nothing may dock under a tag: the tag is docked, or it is new and 64 are
  abbrev pub dock_fault : List ℕ → Rows T → Option DockFault
  dock_fault tag rows =
      dock_reason (is_some (look tag rows)) (length rows)

  -- the part that leaves this row, or why none does
  abbrev pub parting_from : Option (Row T) → Result T LeaveFault
  parting_from None = Err NotThere
  parting_from (Some row) = parting_unless row.part row.holder row.watchers

  -- the part that leaves from a tag, or why none does
  abbrev pub leaving : List ℕ → Rows T → Result T LeaveFault
  leaving tag rows = parting_from (look tag rows)

  -- why a tag may not be held together with others: it is not docked
  abbrev pub missing_at : Rows T → List ℕ → Option HoldFault
  missing_at rows tag = missing_reason tag (is_some (look tag rows))

  -- why a docked tag may not be held: a batch holds it
  abbrev pub busy_at : Rows T → List ℕ → Option HoldFault
  busy_at rows tag = busy_reason tag (holder_of tag rows)

  -- why these tags may not be held: the first that is not docked, or else the first that is held
  abbrev pub hold_fault : List (List ℕ) → Rows T → Option HoldFault
  hold_fault tags rows = option_or (first_of (map (missing_at rows) tags)) (first_of (map (busy_at rows) tags))

  -- these tags are held, or the reason why they may not be
  abbrev pub hold_answer : List (List ℕ) → Rows T → Result (Unit {0}) HoldFault
  hold_answer tags rows = done_unless (hold_fault tags rows)
