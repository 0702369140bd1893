-- The sum over a record and all records before it.
use Rattle.std.specs.Prelude.{ℕ, List, [], ◌++◌, Option, Some, None}
use Rattle.sha2.specs.Sha256.{sha256}

-- the bytes of the sum before a record: none before the first one
abbrev pub bytes_before : Option (List ℕ) → List ℕ
bytes_before None = []
bytes_before (Some sum) = sum

-- the sum of a record with this body, behind records with this sum
abbrev pub sum_after : List ℕ → List ℕ → List ℕ
sum_after before body = sha256 (before ++ body)
