-- What a refusal says of the store before and after it.
use Rattle.std.specs.Prelude.{◌≡◌, ℕ, true, false}
use Rattle.pol_io.specs.Causes.{Rose}
use Rattle.pol_events.specs.declared.event.Event.{Event}
use Rattle.pol_kept.specs.declared.kept.KeptRefusal.{KeptRefusal}
use Rattle.pol_kept.specs.declared.kept.KeptRefusal.TheVariants as of_event
use Rattle.pol_kept.specs.declared.kept.CommitFault.{CommitFault}
use Rattle.pol_kept.specs.declared.kept.CommitFault.TheVariants as of_group
use Rattle.pol_store.specs.Keeping.{StoreState}

-- the disk failed in this call, and the store is closed
abbrev pub Closes : {D : Type 0} → (D → ℕ) → StoreState D → StoreState D → Type 0
Closes faults old new = (old.closed ≡ false) × (new.closed ≡ true) × Rose (faults old.disk) (faults new.disk)

-- what a refusal of an event says: Memory changes nothing: the entries, those of them that wait, and the disk are as
-- before; Disk comes where the disk failed; Closed comes exactly of a closed store
abbrev pub Refuses : {D : Type 0} → (D → ℕ) → StoreState D → StoreState D → Event → KeptRefusal Event → Type 0
Refuses faults old new event (of_event.Memory back) =
    (back ≡ event) × (old.closed ≡ false) × (new.closed ≡ false) × (new.plant.entries ≡ old.plant.entries)
    × (new.waiting ≡ old.waiting) × (new.disk ≡ old.disk)
Refuses faults old new event of_event.Disk = Closes faults old new
Refuses faults old new event (of_event.Closed back) = (back ≡ event) × (old.closed ≡ true) × (new ≡ old)

-- what a refusal of the events that wait says: Disk comes where the disk failed, Closed exactly of a closed store
abbrev pub Fails : {D : Type 0} → (D → ℕ) → StoreState D → StoreState D → CommitFault → Type 0
Fails faults old new of_group.Disk = Closes faults old new
Fails faults old new of_group.Closed = (old.closed ≡ true) × (new ≡ old)
