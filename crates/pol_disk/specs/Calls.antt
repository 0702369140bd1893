-- The calls of a disk in memory as plain data.
use Rattle.std.specs.Prelude.{◌≡◌, ℕ, List, [], ◌∷◌, length, map, reverse, Option, Some, None}
use Rattle.pol_disk.specs.declared.memory.Call.{Call}
use Rattle.pol_disk.specs.declared.memory.Call.TheVariants.{Synced, Wrote}
use Rattle.pol_disk.specs.Disks.{Holds}
use Rattle.pol_disk.specs.Records.{Deed, ranges_of, synced, wrote, undone}

-- what contracts see of a call
abbrev pub deed_of : Call → Deed
deed_of Synced = synced
deed_of (Wrote at size over) = wrote at size over.items

-- what contracts see of calls that are listed oldest first, with the newest first
abbrev pub deeds_of : List Call → List Deed
deeds_of calls = reverse (map deed_of calls)

-- a piece was written, and one more call is in the record, which gives the old bytes back
pub record IsWritten (at : ℕ) (piece old new : List ℕ) (calls calls' : List Call) : Type 0 where
  pub over : List ℕ
  pub holds : Holds at piece old new
  pub deeds : deeds_of calls' ≡ wrote at (length piece) over ∷ deeds_of calls
  pub undoes : undone new (wrote at (length piece) over) ≡ old

-- the newest call went: it was a write in this range; or no range was written since the last sync
abbrev pub IsPopped : List Deed → List Deed → Option (ℕ × ℕ) → Type 0
IsPopped deeds deeds' (Some range) =
    (over : List ℕ) × (deeds ≡ wrote range.0 range.1 over ∷ deeds')
IsPopped deeds deeds' None = ranges_of deeds ≡ []
