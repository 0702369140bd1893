-- How a run of calls goes on.
use Rattle.std.proofs.Common.{inl, inr, ⊎_elim, ℕ, List, arith}
use Rattle.pol_disk.specs.Disks.{Elapses, LeavesOnly}

module _ {D : Type 0} (moment : D → ℕ) (left_since : D → ℕ → List ℕ → Type 0) where
  -- before the first call
  pub started : (old : D) (P : List ℕ → Type 0) → ((image : List ℕ) → left_since old (moment old) image → P image) →
      LeavesOnly moment left_since old old P
  started old P here = record { later = omega arith; each = here; earlier = λ t image le left. inl left }

  -- one call more, after which a crash leaves what has P
  pub goes_on : (old mid new : D) (P images : List ℕ → Type 0) → LeavesOnly moment left_since old mid P →
      Elapses (moment mid) (moment new) (left_since mid) (left_since new) images
      → ((image : List ℕ) → images image → P image) → LeavesOnly moment left_since old new P
  goes_on old mid new P images so_far time here = record {
    later = omega (arith, so_far.later, time.later);
    each =
        λ image left. ⊎_elim (so_far.each image) (here image) (time.nothing_else (moment old) image so_far.later left);
    earlier =
        λ t image le left. ⊎_elim (so_far.earlier t image le) (λ now. inr (here image now))
        (time.nothing_else t image (omega (arith, le, so_far.later)) left);
  }

  -- one run after another
  pub then : (old mid new : D) (P Q : List ℕ → Type 0) → LeavesOnly moment left_since old mid P →
      LeavesOnly moment left_since mid new Q
      → ((image : List ℕ) → Q image → P image) → LeavesOnly moment left_since old new P
  then old mid new P Q first second within = record {
    later = omega (arith, first.later, second.later);
    each = λ image left. ⊎_elim (first.each image) (within image) (second.earlier (moment old) image first.later left);
    earlier =
        λ t image le left. ⊎_elim (first.earlier t image le) (λ now. inr (within image now))
        (second.earlier t image (omega (arith, le, first.later)) left);
  }

  -- what has P has Q
  pub wider : (old new : D) (P Q : List ℕ → Type 0) → LeavesOnly moment left_since old new P →
      ((image : List ℕ) → P image → Q image) → LeavesOnly moment left_since old new Q
  wider old new P Q leaves more = record {
    later = leaves.later;
    each = λ image left. more image (leaves.each image left);
    earlier = λ t image le left. ⊎_elim (λ was. inl was) (λ now. inr (more image now)) (leaves.earlier t image le left);
  }
