-- How a table keeps who watches what: a list of pairs of tag and batch, in the order in which they began.
use Rattle.std.specs.Prelude.{ℕ, List, map, filter_map, Option, Some, None, IsSome, if◌then◌else◌}
use Rattle.std.specs.List.{AllByRecursion}
use Rattle.std.specs.Str.{bytes_eq}
use Rattle.pol_table.specs.HeldRows.{HeldRow, HeldRows, look}
use Rattle.pol_table.specs.Rows.{Row, Rows}
use Rattle.pol_table.specs.declared.watch.Watch.{Watch}

-- the batch of a watch, where it is of this tag
abbrev pub watching : List ℕ → Watch → Option (List ℕ)
watching tag watch = if bytes_eq watch.tag tag then Some watch.batch else None

-- the batches that watch this tag
abbrev pub watchers_in : List ℕ → List Watch → List (List ℕ)
watchers_in tag watches = filter_map (watching tag) watches

-- the watches of a batch that watches these tags
abbrev pub watches_of : List ℕ → List (List ℕ) → List Watch
watches_of batch tags = map (λ tag. record { tag = tag; batch = batch }) tags

module _ {T : Type 0} where
  -- the row of a tag with those who watch it
  abbrev pub seen_row : List Watch → List ℕ → HeldRow T → Row T
  seen_row watches tag row =
      record { part = row.part; holder = row.holder; watchers = watchers_in tag watches }

  -- the rows with those who watch them
  abbrev pub seen_rows : List Watch → HeldRows T → Rows T
  seen_rows watches rows = map (λ row. (row.0, seen_row watches row.0 row.1)) rows

  -- each tag that is watched is docked
  abbrev pub AreThere : List Watch → HeldRows T → Type 0
  AreThere watches rows = AllByRecursion (λ watch. IsSome (look watch.tag rows)) watches
