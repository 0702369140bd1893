-- What contracts see of a table: each docked part under its tag, the batch that holds it, and those that watch it.
use Rattle.std.specs.Prelude.{ℕ, not, List, [], ◌++◌, filter, map, Option, Some, if◌then◌else◌, unwrap_or, refl}
use Rattle.std.specs.Map.{lookup}
use Rattle.std.specs.Option.{option_map, option_and_then}
use Rattle.std.specs.Str.{bytes_eq}
use Rattle.std.specs.Coded.{Coded, code_by, coded×, coded_ℕ, coded_list, coded_option}
use Rattle.pol_table.specs.Reasons.{let_go}

-- a docked part, the batch that holds it, if one does, and the batches that watch it, in the order in which they began
pub record Row (T : Type 0) : Type 0 where
  pub part : T
  pub holder : Option (List ℕ)
  pub watchers : List (List ℕ)

-- each docked tag with its row
abbrev pub Rows : Type 0 → Type 0
Rows T = List (List ℕ × Row T)

-- a row is stored as the pair of its fields
abbrev pub row_code : {T : Type 0} → Coded T → Coded (Row T)
row_code {T} code =
    code_by
    (T × (Option (List ℕ) × List (List ℕ)))
    (coded× code (coded× (coded_option (coded_list coded_ℕ)) (coded_list (coded_list coded_ℕ))))
    (λ b. (b.part, (b.holder, b.watchers)))
    (λ p. record { part = p.0; holder = p.1.0; watchers = p.1.1 })
    (λ _. refl)

-- rows are stored as the list of their pairs
abbrev pub rows_code : {T : Type 0} → Coded T → Coded (Rows T)
rows_code code = coded_list (coded× (coded_list coded_ℕ) (row_code code))

-- batches without this one
abbrev pub batches_without : List ℕ → List (List ℕ) → List (List ℕ)
batches_without batch batches = filter (λ other. not (bytes_eq other batch)) batches

module _ {T : Type 0} where
  -- the row of a tag; none where the tag is not docked
  abbrev pub look : List ℕ → Rows T → Option (Row T)
  look tag rows = lookup (bytes_eq tag) rows

  -- the part that is docked under a tag
  abbrev pub part_of : List ℕ → Rows T → Option T
  part_of tag rows = option_map (λ row. row.part) (look tag rows)

  -- the batch that holds a tag; none where the tag is not docked or not held
  abbrev pub holder_of : List ℕ → Rows T → Option (List ℕ)
  holder_of tag rows = option_and_then (λ row. row.holder) (look tag rows)

  -- the batches that watch a tag; none where the tag is not docked
  abbrev pub watchers_of : List ℕ → Rows T → List (List ℕ)
  watchers_of tag rows = unwrap_or (option_map (λ row. row.watchers) (look tag rows)) []

  -- the row, held by this batch
  abbrev pub held_by : List ℕ → Row T → Row T
  held_by batch row = record row { holder = Some batch }

  -- the row of a tag, watched by this batch behind all others, once for each time that the tag is among these
  abbrev pub watched_among : List (List ℕ) → List ℕ → List ℕ → Row T → Row T
  watched_among tags batch tag row =
      record row { watchers = row.watchers ++ map (λ other. batch) (filter (λ other. bytes_eq other tag) tags) }

  -- the row, free where this batch held it, and not watched by it any more
  abbrev pub freed_from : List ℕ → Row T → Row T
  freed_from batch row = record row { holder = let_go batch row.holder; watchers = batches_without batch row.watchers }

  -- the rows with this part under the tag, if it is docked
  abbrev pub with_part : List ℕ → Rows T → T → Rows T
  with_part tag rows part =
      map (λ row. if bytes_eq tag row.0 then (row.0, record row.1 { part = part }) else row) rows
