-- How a table keeps its rows: a seat for each tag, whose place finds the part.
use Rattle.std.specs.Prelude.{◌≡◌, ℕ, ◌≤◌, List, length, Option, None, Some, IsSome, is_some, filter_map, slice_index_or, Result, Err}
use Rattle.std.specs.List.{IsDistinct}
use Rattle.std.specs.Map.{lookup, keys_of}
use Rattle.std.specs.Option.{option_map, option_and_then}
use Rattle.std.specs.Str.{bytes_eq}
use Rattle.mtp_codes.specs.declared.limits.TheConstants.{MOST_MODULES}
use Rattle.pol_table.specs.HeldRows.{HeldRow, HeldRows}
use Rattle.pol_table.specs.Reasons.{parting, missing_reason, busy_reason, let_go}
use Rattle.pol_table.specs.declared.faults.HoldFault.{HoldFault}
use Rattle.pol_table.specs.declared.faults.LeaveFault.{LeaveFault}
use Rattle.pol_table.specs.declared.faults.LeaveFault.TheVariants.{NoModule as NotThere}
use Rattle.pol_table.specs.declared.seat.Seat.{Seat}

module _ {T : Type 0} where
  -- the part at a place, if there is one
  abbrev pub part_at : List (Option T) → ℕ → Option T
  part_at parts place = slice_index_or parts place None

  -- the row of a seat
  abbrev pub row_at : List (Option T) → Seat → Option (HeldRow T)
  row_at parts seat = option_map (λ part. record { part = part; holder = seat.holder }) (part_at parts seat.place)

  -- the rows of these seats
  abbrev pub rows_of : List (List ℕ × Seat) → List (Option T) → HeldRows T
  rows_of seats parts = filter_map (λ entry. option_map (λ row. (entry.0, row)) (row_at parts entry.1)) seats

  -- each tag has one seat with a place of its own, each place has a part, and there are at most 64 tags
  pub record IsSound (seats : List (List ℕ × Seat)) (parts : List (Option T)) : Type 0 where
    pub unique : IsDistinct bytes_eq (keys_of seats)
    pub occupied : (tag : List ℕ) (seat : Seat) → lookup (bytes_eq tag) seats ≡ Some seat
        → IsSome (part_at parts seat.place)
    pub apart : (tag other : List ℕ) (seat next : Seat) → lookup (bytes_eq tag) seats ≡ Some seat
        → lookup (bytes_eq other) seats ≡ Some next → seat.place ≡ next.place → tag ≡ other
    pub few : length seats ≤ MOST_MODULES

-- the seat, held by this batch
abbrev pub seat_held_by : List ℕ → Seat → Seat
seat_held_by batch seat = record seat { holder = Some batch }

-- the seat, free where this batch held it
abbrev pub seat_freed_from : List ℕ → Seat → Seat
seat_freed_from batch seat = record seat { holder = let_go batch seat.holder }

-- the holder of a tag's seat
abbrev pub seat_holder : List ℕ → List (List ℕ × Seat) → Option (List ℕ)
seat_holder tag seats = option_and_then (λ seat. seat.holder) (lookup (bytes_eq tag) seats)

-- the seat whose part leaves, or why none does
abbrev pub seat_parting : Option Seat → Result Seat LeaveFault
seat_parting None = Err NotThere
seat_parting (Some seat) = parting seat seat.holder

-- the seat whose part leaves from a tag, or why none does
abbrev pub seat_leaving : List ℕ → List (List ℕ × Seat) → Result Seat LeaveFault
seat_leaving tag seats = seat_parting (lookup (bytes_eq tag) seats)

-- why a tag may not be held together with others: it has no seat
abbrev pub seat_missing_at : List (List ℕ × Seat) → List ℕ → Option HoldFault
seat_missing_at seats tag = missing_reason tag (is_some (lookup (bytes_eq tag) seats))

-- why a tag may not be held: a batch holds its seat
abbrev pub seat_busy_at : List (List ℕ × Seat) → List ℕ → Option HoldFault
seat_busy_at seats tag = busy_reason tag (seat_holder tag seats)
