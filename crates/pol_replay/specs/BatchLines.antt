-- The lines of the batches of a history, by what was gathered of them.
use Rattle.std.specs.Prelude.{ℕ, ◌≡◌, List, ◌++◌, Option}
use Rattle.std.specs.List.{flat_map}
use Rattle.std.specs.Io.KnownBytes.{Appends}
use Rattle.pol_record.specs.Gathered.{known_of, record_text}
use Rattle.pol_record.specs.declared.gathering.BatchRecords.{BatchRecords}

-- the line of a batch
abbrev pub gathered_text : BatchRecords → List ℕ → List ℕ
gathered_text gathered batch = record_text batch (known_of gathered.records.entries batch)

-- the lines of these batches
abbrev pub gathered_lines : BatchRecords → List (List ℕ) → List ℕ
gathered_lines gathered batches = flat_map (gathered_text gathered) batches

-- all of these bytes was written but the rest
pub record WritesUpTo (held held' : Option (List ℕ)) (rest all : List ℕ) : Type 0 where
  pub written : List ℕ
  pub appended : Appends held held' written
  pub up_to : written ++ rest ≡ all
