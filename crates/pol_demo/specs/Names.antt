-- The names in a demo journal.
use Rattle.std.specs.Prelude.{ℕ, List, ◌++◌, codes, decimal}

-- a letter and a number in decimal
abbrev pub numbered_name : List ℕ → ℕ → List ℕ
numbered_name letter number = letter ++ decimal number

-- the tag of a module
abbrev pub tag_of : ℕ → List ℕ
tag_of place = numbered_name (codes "U") place

-- the name of a batch that is started on a free module
abbrev pub batch_of : ℕ → List ℕ
batch_of number = numbered_name (codes "B") number

-- the name of a batch whose module is busy
abbrev pub busy_batch_of : ℕ → List ℕ
busy_batch_of number = numbered_name (codes "X") number
