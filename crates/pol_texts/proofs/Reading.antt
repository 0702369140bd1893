-- More bytes of a disk were read.
use Rattle.std.proofs.Common.{◌≡◌, ℕ, ◌+◌, ◌≤◌, List, ◌++◌, length, take, drop, Option, Some, None, sym, ◌∙◌, ap}
use Rattle.std.specs.Prelude.{IfSome}
use Rattle.std.proofs.Math.Seq.{take-add}
use Rattle.pol_disk.specs.Disks.{Elapses, Keeps, StillTells}
use Rattle.pol_disk.proofs.Moments.{goes_on}
use Rattle.pol_disk.proofs.Telling.{still_holds, still_then}
use Rattle.pol_texts.specs.Loads.{Loads}

-- what follows from two facts of bytes that may be told
pub both : (o : Option (List ℕ)) (A B C : List ℕ → Type 0) → ((all : List ℕ) → A all → B all → C all) → IfSome o A →
    IfSome o B → IfSome o C
both None A B C f a b = tt
both (Some all) A B C f a b = f all a b

module _ {D : Type 0} (bytes : D → Option (List ℕ)) (images : D → List ℕ → Type 0) (moment : D → ℕ)
    (left_since : D → ℕ → List ℕ → Type 0) (faults : D → ℕ) where
  -- one read more
  pub loads_more : (old mid new : D) (filled size count : ℕ) (slice slice' : List ℕ) →
      Loads bytes images moment left_since faults old mid filled size slice
      → take filled slice' ≡ take filled slice → length slice' ≡ length slice → filled + count ≤ length slice'
      → IfSome (bytes new) (λ all. take count (drop filled slice') ≡ take count (drop filled all)) →
      StillTells (bytes mid) (bytes new) → Keeps (images mid) (images new)
      → Elapses (moment mid) (moment new) (left_since mid) (left_since new) (images new) → faults new ≡ faults mid
      → Loads bytes images moment left_since faults old new (filled + count) size slice'
  loads_more old mid new filled size count slice slice' so_far front long bound read told kept time faultless = record {
    within = bound;
    long = long ∙ so_far.long;
    sized = still_holds (bytes mid) (bytes new) (λ all. size ≤ length all) told so_far.sized;
    read =
        both (bytes new) (λ all. take filled slice ≡ take filled all)
        (λ all. take count (drop filled slice') ≡ take count (drop filled all))
        (λ all. take (filled + count) slice' ≡ take (filled + count) all)
        (λ all first more. take-add filled count slice'
        ∙ ap (λ (l : List ℕ). l ++ take count (drop filled slice')) (front ∙ first)
        ∙ ap (λ (l : List ℕ). take filled all ++ l) more ∙ sym (take-add filled count all))
        (still_holds (bytes mid) (bytes new) (λ all. take filled slice ≡ take filled all) told so_far.read) read;
    told = still_then (bytes old) (bytes mid) (bytes new) so_far.told told;
    kept = λ image left. so_far.kept image (kept image left);
    moments =
        goes_on moment left_since old mid new (images old) (images new) so_far.moments time
        (λ image left. so_far.kept image (kept image left));
    faultless = faultless ∙ so_far.faultless;
  }
