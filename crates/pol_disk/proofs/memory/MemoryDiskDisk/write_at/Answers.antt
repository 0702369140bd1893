use Rattle.std.proofs.Common.{ℕ, List, length, subst}
use Rattle.pol_disk.specs.Disks.{Follows, Torn}
use Rattle.pol_disk.specs.Records.{Deed, DiskRecord, IsLeft}
use Rattle.pol_disk.proofs.memory.MemoryDiskDisk.write_at.Goals as goal

pub returns-in-Ok-clause-images : goal.returns-in-Ok-clause-images
returns-in-Ok-clause-images c =
    let new : DiskRecord = c.try_write.new.self in
    let step : List ℕ → List ℕ → Type 0 = Torn c.args.at (length c.args.piece.now) in
    let bytes =
    subst (λ (l : List ℕ). Follows step (IsLeft l c.begin.new.self.deeds)
    (IsLeft new.bytes new.deeds)) c.in_ok-begin.ensures.bytes c.in-Ok.ensures.images in
    subst (λ (ds : List Deed). Follows step (IsLeft c.args.self.now.bytes ds)
    (IsLeft new.bytes new.deeds)) c.in_ok-begin.ensures.deeds bytes
