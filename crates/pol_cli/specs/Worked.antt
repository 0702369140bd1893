-- What a call works on, as it was before and as it is after: a source, a sink, a disk.
use Rattle.std.specs.Prelude.{ℕ, ◌≡◌, List, Option, Some, None}
use Rattle.kept_jobs.specs.Telling.{Telling, telling}
use Rattle.pol_io.specs.Edge.{Edge}
use Rattle.pol_jobs.specs.Ends.{edge}
use Rattle.pol_keep.specs.Exported.{no_input}

-- a source or a sink: what is known of its bytes and of its faults, and that it is just what it was
pub record Edges : Type 1 where
  pub before : Edge
  pub after : Edge
  pub Untouched : Type 0

-- the source or sink of a kind by which its bytes and its faults are known
abbrev pub edges : {T : Type 0} → (T → Option (List ℕ)) → (T → ℕ) → T → T → Edges
edges bytes faults before after =
    record {
      before = edge (bytes before) (faults before);
      after = edge (bytes after) (faults after);
      Untouched = after ≡ before;
    }

-- a source that no one looks at: an input without a byte
abbrev pub no_source : Edges
no_source = record { before = no_input; after = no_input; Untouched = Unit {0} }

-- the file of an operated plant, as a source gives its bytes, if the folder of the plant has one to read
pub data File : Type 1 where
  no_file : File
  a_file : Edges → File

-- the file of a source of a kind by which its bytes and its faults are known, if there is one
abbrev pub file_of : {F : Type 0} → (F → Option (List ℕ)) → (F → ℕ) → Option F → Option F → File
file_of bytes faults None after = no_file
file_of bytes faults (Some before) None = no_file
file_of bytes faults (Some before) (Some after) = a_file (edges bytes faults before after)

-- a disk, and what its kind makes known
pub record Disks (D : Type 0) : Type 1 where
  pub tells : Telling D
  pub before : D
  pub after : D

-- a disk, by all that its kind makes known
abbrev pub disks : {D : Type 0} → (D → Option (List ℕ)) → (D → List ℕ → Type 0) → (D → ℕ)
    → (D → ℕ → List ℕ → Type 0) → (D → ℕ) → D → D → Disks D
disks bytes images moment left_since faults before after =
    record { tells = telling bytes images moment left_since faults; before = before; after = after }
