-- Two writes with their syncs, one after the other.
use Rattle.std.proofs.Common.{◌≡◌, inl, inr, ℕ, ◌+◌, ◌<◌, ◌≤◌, List, [], ◌∷◌, ◌++◌, length, drop, Option, Some, None, Result, Ok, Err, IfSome, refl, sym, ◌∙◌, ap, subst, arith}
use Rattle.std.specs.Prelude.{OnOk}
use Rattle.pol_disk.specs.Disks.{LeavesOnly, Torn, Holds, Only, Elapses, Follows, Keeps, spliced}
use Rattle.pol_disk.specs.Disks.{BothTell}
use Rattle.pol_disk.proofs.Splices.{torn_same, length-spliced}
use Rattle.pol_disk.proofs.Moments.{started, goes_on, then, wider}
use Rattle.pol_texts.specs.Stands.{StandsWithAllOrNone}
use Rattle.pol_texts.specs.Settled.{AreAlike, IsGroup, IsSynced, IsSettled, group_body}
use Rattle.pol_texts.proofs.Crash.{tail_of, torn_behind, written_behind, torn_gate, written_gate, opened, length-opened}

-- one put on a settled disk
module _ {D : Type 0} (bytes : D → Option (List ℕ)) (images : D → List ℕ → Type 0) (moment : D → ℕ)
    (left_since : D → ℕ → List ℕ → Type 0)
    (only_now : (disk : D) (image : List ℕ) → left_since disk (moment disk) image → images disk image) where
  -- what a crash at any moment of a run leaves
  abbrev LeavesOnly' : D → D → (List ℕ → Type 0) → Type 0
  LeavesOnly' = LeavesOnly moment left_since

  -- nothing but what was synced, before the first call
  pub still : (disk : D) (at size : ℕ) (all : List ℕ) → IsSynced (bytes disk) (images disk) all →
      LeavesOnly' disk disk (Torn at size all)
  still disk at size all synced = started moment left_since disk (Torn at size all)
      (λ image left. subst (λ (l : List ℕ). Torn at size all l) (sym (synced.only image (only_now disk image left)))
      (torn_same at size all))

  -- the write, and then the sync
  pub written : (old mid : D) (at size : ℕ) (all : List ℕ) → IsSynced (bytes old) (images old) all →
      Follows (Torn at size) (images old) (images mid)
      → Elapses (moment old) (moment mid) (left_since old) (left_since mid) (images mid) →
      LeavesOnly' old mid (Torn at size all)
  written old mid at size all synced follows time =
      goes_on moment left_since old old mid (Torn at size all) (images mid) (still old at size all synced) time
      (λ image left. let from = follows image left in
      subst (λ (l : List ℕ). Torn at size l image) (synced.only from.0 from.1) from.2)

  -- each image after the write
  pub written_images : (old mid : D) (at size : ℕ) (all : List ℕ) → IsSynced (bytes old) (images old) all →
      Follows (Torn at size) (images old) (images mid)
      → (image : List ℕ) → images mid image → Torn at size all image
  written_images old mid at size all synced follows image left =
      let from = follows image left in subst (λ (l : List ℕ). Torn at size l image) (synced.only from.0 from.1) from.2

  -- both together
  pub synced_after : (old mid new : D) (at size : ℕ) (all : List ℕ) → IsSynced (bytes old) (images old) all →
      Follows (Torn at size) (images old) (images mid)
      → Elapses (moment old) (moment mid) (left_since old) (left_since mid) (images mid) →
      Keeps (images mid) (images new)
      → Elapses (moment mid) (moment new) (left_since mid) (left_since new) (images new) →
      LeavesOnly' old new (Torn at size all)
  synced_after old mid new at size all synced follows time keeps time' =
      goes_on moment left_since old mid new (Torn at size all) (images new)
      (written old mid at size all synced follows time) time'
      (λ image left. written_images old mid at size all synced follows image (keeps image left))

-- what a told disk tells after a call
told_new : (P : List ℕ → List ℕ → Type 0) (all : List ℕ) (new : Option (List ℕ)) → BothTell P (Some all) new →
    (bytes : List ℕ) × (new ≡ Some bytes) × P all bytes
told_new P all None between = absurd between
told_new P all (Some bytes) between = (bytes, refl, between)

-- the same, where it told these before
pub told_after : (P : List ℕ → List ℕ → Type 0) (all : List ℕ) (old new : Option (List ℕ)) → old ≡ Some all →
    BothTell P old new → (bytes : List ℕ) × (new ≡ Some bytes) × P all bytes
told_after P all old new told between =
    told_new P all new (subst (λ (o : Option (List ℕ)). BothTell P o new) told between)

-- a write and a sync that were done
pub synced_now : (at : ℕ) (piece all : List ℕ) (old mid new : Option (List ℕ)) (images : List ℕ → Type 0) →
    BothTell (Holds at piece) old mid → new ≡ mid → IfSome mid (λ bytes. Only bytes images) → old ≡ Some all
    → IsSynced new images (spliced at piece all)
synced_now at piece all old mid new images holds same durable told =
    let after = told_after (Holds at piece) all old mid told holds in
    let only : Only after.0 images = subst
    (λ (o : Option (List ℕ)). IfSome o (λ bytes. Only bytes images)) after.1 durable in record {
      told = same ∙ after.1 ∙ ap (λ (l : List ℕ). Some l) after.2;
      only = subst (λ (l : List ℕ). Only l images) after.2 only;
    }

-- after a write the place and the piece lie within the bytes
pub near_after : (at : ℕ) (piece : List ℕ) (old new : Option (List ℕ)) → IfSome old (λ all. at ≤ length all) →
    BothTell (Holds at piece) old new → IfSome new (λ all. at ≤ length all)
near_after at piece None None near between = tt
near_after at piece None (Some new) near between = absurd between
near_after at piece (Some old) None near between = absurd between
near_after at piece (Some old) (Some new) near holds =
    omega (arith, near, ap length holds, length-spliced at piece old near)

-- a disk that tells on both sides of a call, whatever it tells, goes on telling
pub alike : (P : List ℕ → List ℕ → Type 0) (old new : Option (List ℕ)) → BothTell P old new → AreAlike old new
alike P None None between = tt
alike P None (Some new) between = absurd between
alike P (Some old) None between = absurd between
alike P (Some old) (Some new) between = tt

-- so after two calls
pub alike_then : (old mid new : Option (List ℕ)) → AreAlike old mid → AreAlike mid new → AreAlike old new
alike_then None None new one other = other
alike_then None (Some mid) new one other = absurd one
alike_then (Some old) None new one other = absurd one
alike_then (Some old) (Some mid) None one other = absurd other
alike_then (Some old) (Some mid) (Some new) one other = tt

-- a place before one that lies within the bytes lies within them
pub near_one_less : (at : ℕ) (bytes : Option (List ℕ)) → IfSome bytes (λ all. at + 1 ≤ length all) →
    IfSome bytes (λ all. at ≤ length all)
near_one_less at None near = tt
near_one_less at (Some all) near = omega (arith, near)

-- a place of a byte is followed by one within the bytes, or by their end
pub near_one_more : (at : ℕ) (bytes : Option (List ℕ)) → IfSome bytes (λ all. at < length all) →
    IfSome bytes (λ all. at + 1 ≤ length all)
near_one_more at None near = tt
near_one_more at (Some all) near = omega (arith, near)

-- a group of texts is added to a settled disk
module _ {D : Type 0} (bytes : D → Option (List ℕ)) (images : D → List ℕ → Type 0) (moment : D → ℕ)
    (left_since : D → ℕ → List ℕ → Type 0)
    (texts group : List (List ℕ)) (behind : List ℕ) (is_group : IsGroup group behind) (end : ℕ) where
  -- what a crash may leave: the texts with all of the group or none of it
  abbrev P : List ℕ → Type 0
  P = StandsWithAllOrNone texts group

  -- the write behind the closed gate leaves the texts without it
  pub behind_left : (old mid : D) (s : IsSettled (bytes old) (images old) end texts) →
      LeavesOnly moment left_since old mid (Torn (end + 1) (length behind) s.bytes) →
      LeavesOnly moment left_since old mid P
  behind_left old mid s leaves = wider moment left_since old mid (Torn (end + 1) (length behind) s.bytes) P leaves
      (λ image torn. inl
      (inr (torn_behind s.begins.records s.begins.behind texts s.begins.are end s.ends group behind is_group
      (length behind) image (subst (λ (l : List ℕ). Torn (end + 1) (length behind) l image) s.begins.is torn))))

  -- the bytes after that write
  pub staged_is : (old : D) (s : IsSettled (bytes old) (images old) end texts) →
      spliced (end + 1) behind s.bytes ≡ s.begins.records ++ 0 ∷ (group_body group
      ++ 0 ∷ tail_of s.begins.records s.begins.behind texts s.begins.are end s.ends group behind is_group)
  staged_is old s =
      ap (λ (l : List ℕ). spliced (end + 1) behind l) s.begins.is
      ∙ written_behind s.begins.records s.begins.behind texts s.begins.are end s.ends group behind is_group

  -- the write of the gate leaves them with it or without it
  pub gate_left : (old mid new : D) (s : IsSettled (bytes old) (images old) end texts) →
      LeavesOnly moment left_since old mid (Torn (end + 1) (length behind) s.bytes)
      → LeavesOnly moment left_since mid new (Torn end 1 (spliced (end + 1) behind s.bytes)) →
      LeavesOnly moment left_since old new P
  gate_left old mid new s first second =
      then moment left_since old mid new P (Torn end 1 (spliced (end + 1) behind s.bytes))
      (behind_left old mid s first) second
      (λ image torn. torn_gate s.begins.records s.begins.behind texts s.begins.are end s.ends group behind is_group _
      image (subst (λ (l : List ℕ). Torn end 1 l image) (staged_is old s) torn))

  -- after both the disk is settled with it
  pub settled_after : (old new : D) (s : IsSettled (bytes old) (images old) end texts) →
      IsSynced (bytes new) (images new) (spliced end (1 ∷ []) (spliced (end + 1) behind s.bytes))
      → IsSettled (bytes new) (images new) (end + length behind) (texts ++ group)
  settled_after old new s synced =
      let tail = tail_of s.begins.records s.begins.behind texts s.begins.are end s.ends group behind is_group in
      let is_opened : spliced end (1 ∷ []) (spliced (end + 1) behind s.bytes) ≡ s.begins.records
      ++ 1 ∷ (group_body group ++ 0 ∷ tail) =
      ap (λ (l : List ℕ). spliced end (1 ∷ []) l) (staged_is old s)
      ∙ written_gate s.begins.records s.begins.behind texts s.begins.are end s.ends group behind is_group tail in
      record {
        bytes = spliced end (1 ∷ []) (spliced (end + 1) behind s.bytes);
        synced = synced;
        begins =
            opened s.begins.records s.begins.behind texts s.begins.are end s.ends group behind is_group 1 tail _
            (λ e. omega arith) is_opened;
        ends =
            omega (
              arith,
              length-opened s.begins.records s.begins.behind texts s.begins.are end s.ends
                  group behind is_group,
            );
      }

-- an empty store is made of a short disk
pub settled_empty : (told : Option (List ℕ)) (images : List ℕ → Type 0) (all : List ℕ) → length all ≤ 1 →
    IsSynced told images (spliced 0 (0 ∷ []) all) → IsSettled told images 0 []
settled_empty told images all short synced = record {
  bytes = spliced 0 (0 ∷ []) all;
  synced = synced;
  begins = record { records = []; behind = drop 1 all; is = refl; are = refl };
  ends = refl;
}

-- what follows from two facts that hold at Ok
pub both_ok : {T E P Q R : Type 0} (r : Result T E) → (P → Q → R) → OnOk r P → OnOk r Q → OnOk r R
both_ok (Ok x) f p q = f p q
both_ok (Err e) f p q = tt
