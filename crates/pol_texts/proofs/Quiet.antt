-- A disk is synced and measured.
use Rattle.std.proofs.Common.{◌≡◌, ℕ, List, Option, Some, Result, Ok, Err, sym, ◌∙◌, subst}
use Rattle.std.specs.Prelude.{IfSome, OnOk}
use Rattle.pol_disk.specs.Disks.{Elapses, Keeps, LeavesOnly, Only, IsImage, StillTells}
use Rattle.pol_disk.proofs.Moments.{started, goes_on}
use Rattle.pol_disk.proofs.Telling.{told_before}
use Rattle.pol_texts.specs.Settled.{IsSynced}

module _ {D : Type 0} (bytes : D → Option (List ℕ)) (images : D → List ℕ → Type 0) (moment : D → ℕ)
    (left_since : D → ℕ → List ℕ → Type 0)
    (only_now : (disk : D) (image : List ℕ) → left_since disk (moment disk) image → images disk image) where
  -- a call that leaves no more than there was
  pub quiet : (old new : D) → Keeps (images old) (images new) →
      Elapses (moment old) (moment new) (left_since old) (left_since new) (images new) →
      LeavesOnly moment left_since old new (images old)
  quiet old new keeps time =
      goes_on moment left_since old old new (images old) (images new)
      (started moment left_since old (images old) (only_now old)) time keeps

  -- two such calls
  pub quiet_then : (old mid new : D) → Keeps (images old) (images mid) →
      Elapses (moment old) (moment mid) (left_since old) (left_since mid) (images mid)
      → Keeps (images mid) (images new) →
      Elapses (moment mid) (moment new) (left_since mid) (left_since new) (images new) →
      LeavesOnly moment left_since old new (images old)
  quiet_then old mid new keeps time keeps' time' =
      goes_on moment left_since old mid new (images old) (images new) (quiet old mid keeps time) time'
      (λ image left. keeps image (keeps' image left))

-- what reads gave was one of the images
pub image_was : (seen seen' : Option (List ℕ)) (images images' : List ℕ → Type 0) → seen' ≡ seen →
    IsImage seen' images' → Keeps images images' → (all : List ℕ) → seen ≡ Some all → images all
image_was seen seen' images images' same image keeps all told =
    keeps all (subst (λ (o : Option (List ℕ)). IfSome o images') (same ∙ told) image)

-- a sync and then such a call
pub synced_then : (seen mid seen' : Option (List ℕ)) (images images' : List ℕ → Type 0) → mid ≡ seen →
    StillTells mid seen' → IfSome seen (λ all. Only all images) → Keeps images images' → (all : List ℕ) →
    seen' ≡ Some all → IsSynced seen' images' all
synced_then seen mid seen' images images' same still durable keeps all told =
    let was : seen ≡ Some all = sym same ∙ told_before mid seen' still all told in
    let only : Only all images = subst (λ (o : Option (List ℕ)). IfSome o (λ all. Only all images)) was durable in
    record {
      told = told;
      only = λ image left. only image (keeps image left);
    }

-- what holds anyway holds at Ok
pub any_ok : {T E P : Type 0} (r : Result T E) → P → OnOk r P
any_ok (Ok x) p = p
any_ok (Err e) p = tt
