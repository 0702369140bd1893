-- What a refusal says of the store before and after it.
use Rattle.std.specs.Prelude.{◌≡◌, ℕ, true, false}
use Rattle.pol_io.specs.Causes.{Rose}
use Rattle.pol_kept.specs.declared.kept.KeptRefusal.{KeptRefusal}
use Rattle.pol_kept.specs.declared.kept.KeptRefusal.TheVariants as of_item
use Rattle.pol_kept.specs.declared.kept.CommitFault.{CommitFault}
use Rattle.pol_kept.specs.declared.kept.CommitFault.TheVariants as of_group
use Rattle.pol_kept.specs.Keeping.{KeptState}

module _ {C D : Type 0} (faults : D → ℕ) where
  -- the disk failed in this call, and the store is closed
  abbrev pub Closes : KeptState C D → KeptState C D → Type 0
  Closes old new = (old.closed ≡ false) × (new.closed ≡ true) × Rose (faults old.disk) (faults new.disk)

  -- what a refused commit says, for which no memory is needed
  abbrev pub Fails : KeptState C D → KeptState C D → CommitFault → Type 0
  Fails old new of_group.Disk = Closes old new
  Fails old new of_group.Closed = (old.closed ≡ true) × (new ≡ old)

  -- Memory changes nothing: the chronicle is the same, so many of its items wait, and the disk is as before; Disk comes
  -- where the disk failed; Closed comes exactly from a closed store
  abbrev pub Refuses : {T : Type 0} → (C → C → Type 0) → KeptState C D → KeptState C D → T → KeptRefusal T → Type 0
  Refuses IsSame old new item (of_item.Memory back) =
      (back ≡ item) × (old.closed ≡ false) × (new.closed ≡ false) × IsSame old.chronicle new.chronicle
      × (new.waiting ≡ old.waiting) × (new.disk ≡ old.disk)
  Refuses IsSame old new item of_item.Disk = Closes old new
  Refuses IsSame old new item (of_item.Closed back) = (back ≡ item) × (old.closed ≡ true) × (new ≡ old)
