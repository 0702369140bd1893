use Rattle.std.proofs.Common.{◌≤◌, ℕ, List, length, sym, ap, subst, arith}
use Rattle.pol_disk.specs.Calls.{deeds_of}
use Rattle.pol_disk.specs.Disks.{Follows, Torn}
use Rattle.pol_disk.specs.Records.{Deed, DiskRecord, IsLeft}
use Rattle.pol_disk.proofs.Deeds.{left_written, follows_write}
use Rattle.pol_disk.proofs.memory.MemoryDisk.try_write.Goals as goal

pub invariant_of-self-2 : goal.invariant_of-self-2
invariant_of-self-2 c =
    let old : List ℕ = c.self.inside.bytes.items in
    let new : List ℕ = c.record_write.new.bytes.items in
    let calls : List Deed = deeds_of c.self.inside.calls.items in
    let le : c.args.at ≤ length old = omega
    (arith, c.requires, ap (λ (m : DiskRecord). length m.bytes) c.self.view_is) in
    let made = c.in_ok-record_write.ensures.ok in
    subst (λ (ds : List Deed). IsLeft new ds new) (sym made.deeds)
    (left_written c.args.at c.args.piece.now made.over old new calls le made.holds made.undoes c.self.invariant)

pub returns-clause-image : goal.returns-clause-image
returns-clause-image c = invariant_of-self-2 c

pub returns-clause-images : goal.returns-clause-images
returns-clause-images c =
    let old : List ℕ = c.self.inside.bytes.items in
    let new : List ℕ = c.record_write.new.bytes.items in
    let calls : List Deed = deeds_of c.self.inside.calls.items in
    let step : List ℕ → List ℕ → Type 0 = Torn c.args.at (length c.args.piece.now) in
    let le : c.args.at ≤ length old = omega
    (arith, c.requires, ap (λ (m : DiskRecord). length m.bytes) c.self.view_is) in
    let made = c.in_ok-record_write.ensures.ok in
    let follows = follows_write c.args.at c.args.piece.now made.over old new calls le made.undoes c.self.invariant in
    let now = subst (λ (ds : List Deed). Follows step (IsLeft old calls) (IsLeft new ds)) (sym made.deeds) follows in
    subst (λ (m : DiskRecord). Follows step (IsLeft m.bytes m.deeds)
    (IsLeft new (deeds_of c.record_write.new.calls.items))) c.self.view_is now
