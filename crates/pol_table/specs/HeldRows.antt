-- What contracts see of the holdings of a table: each docked part under its tag, and the batch that holds it.
use Rattle.std.specs.Prelude.{ℕ, List, map, Option, Some, if◌then◌else◌, refl}
use Rattle.std.specs.Map.{lookup}
use Rattle.std.specs.Option.{option_map, option_and_then}
use Rattle.std.specs.Str.{bytes_eq}
use Rattle.std.specs.Coded.{Coded, code_by, coded×, coded_ℕ, coded_list, coded_option}
use Rattle.pol_table.specs.Reasons.{let_go}

-- a docked part, and the batch that holds it, if one does
pub record HeldRow (T : Type 0) : Type 0 where
  pub part : T
  pub holder : Option (List ℕ)

-- each docked tag with its row
abbrev pub HeldRows : Type 0 → Type 0
HeldRows T = List (List ℕ × HeldRow T)

-- a row is stored as the pair of its fields
abbrev pub row_code : {T : Type 0} → Coded T → Coded (HeldRow T)
row_code {T} code =
    code_by
    (T × Option (List ℕ))
    (coded× code (coded_option (coded_list coded_ℕ)))
    (λ b. (b.part, b.holder))
    (λ p. record { part = p.0; holder = p.1 })
    (λ _. refl)

-- rows are stored as the list of their pairs
abbrev pub rows_code : {T : Type 0} → Coded T → Coded (HeldRows T)
rows_code code = coded_list (coded× (coded_list coded_ℕ) (row_code code))

module _ {T : Type 0} where
  -- the row of a tag; none where the tag is not docked
  abbrev pub look : List ℕ → HeldRows T → Option (HeldRow T)
  look tag rows = lookup (bytes_eq tag) rows

  -- the part that is docked under a tag
  abbrev pub part_of : List ℕ → HeldRows T → Option T
  part_of tag rows = option_map (λ row. row.part) (look tag rows)

  -- the batch that holds a tag; none where the tag is not docked or not held
  abbrev pub holder_of : List ℕ → HeldRows T → Option (List ℕ)
  holder_of tag rows = option_and_then (λ row. row.holder) (look tag rows)

  -- the row, held by this batch
  abbrev pub held_by : List ℕ → HeldRow T → HeldRow T
  held_by batch row = record row { holder = Some batch }

  -- the row, free where this batch held it
  abbrev pub freed_from : List ℕ → HeldRow T → HeldRow T
  freed_from batch row = record row { holder = let_go batch row.holder }

  -- the rows with this part under the tag, if it is docked
  abbrev pub with_part : List ℕ → HeldRows T → T → HeldRows T
  with_part tag rows part =
      map (λ row. if bytes_eq tag row.0 then (row.0, record row.1 { part = part }) else row) rows
