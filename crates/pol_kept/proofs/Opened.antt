-- A disk is opened.
use Rattle.std.proofs.Common.{◌≡◌, inl, inr, ℕ, ◌<◌, ◌≤◌, Bool, true, List, [], length, Option, Some, None, refl, sym, ap, ◌∙◌, subst, arith}
use Rattle.std.specs.Bool.{Decides}
use Rattle.std.specs.Prelude.{◌≢◌, IfSome, unwrap_or}
use Rattle.pol_disk.specs.Disks.{LeavesOnly, StillTells}
use Rattle.pol_disk.proofs.Moments.{then, wider}
use Rattle.pol_texts.specs.Finds.{IsFound}
use Rattle.pol_texts.specs.Settled.{IsSynced, IsSettled}
use Rattle.pol_texts.specs.Stands.{Stands}
use Rattle.pol_texts.specs.declared.finding.Found.TheVariants.{Neither}
use Rattle.pol_kept.specs.Work.{ChronicleWork, IsLawful}
use Rattle.pol_kept.specs.Stands.{StandsFor, BreaksAt}
use Rattle.pol_kept.specs.Opens.{Breaks, IsLeftOf, IsOpened, IsReplayed, IsNoStore, IsUnread, Tells}
use Rattle.pol_kept.specs.declared.opening.OpenFault.{OpenFault}
use Rattle.pol_kept.specs.declared.opening.OpenFault.TheVariants.{Memory, Disk, NotAStore}
use Rattle.pol_kept.proofs.Broken.{breaks_none}
use Rattle.pol_kept.proofs.Replays.{neither_breaks}

-- bytes that were told twice are the same
pub same_told : (seen : Option (List ℕ)) (all now : List ℕ) → seen ≡ Some all → seen ≡ Some now → now ≡ all
same_told seen all now told again = ap (λ (o : Option (List ℕ)). unwrap_or o []) (sym again ∙ told)

-- what was told
pub number_told : (seen : Option (List ℕ)) (all : List ℕ) (number : ℕ) → seen ≡ Some all →
    IfSome seen (λ l. number ≡ length l) → number ≡ length all
number_told seen all number told is = subst (λ (o : Option (List ℕ)). IfSome o (λ l. number ≡ length l)) told is

-- of the bytes too
pub bytes_told : (seen : Option (List ℕ)) (all items : List ℕ) → seen ≡ Some all → IfSome seen (λ l. items ≡ l) →
    items ≡ all
bytes_told seen all items told is = subst (λ (o : Option (List ℕ)). IfSome o (λ l. items ≡ l)) told is

-- what follows from two facts of bytes that may be told
both : (o : Option (List ℕ)) (A B C : List ℕ → Type 0) → ((l : List ℕ) → A l → B l → C l) → IfSome o A → IfSome o B →
    IfSome o C
both None A B C f a b = tt
both (Some l) A B C f a b = f l a b

-- after calls of which a crash at any moment leaves only what has a property, each image has it
pub left_images : {D : Type 0} (images : D → List ℕ → Type 0) (moment : D → ℕ) (left_since : D → ℕ → List ℕ → Type 0) →
    ((disk : D) (t : ℕ) (image : List ℕ) → t ≤ moment disk → images disk image → left_since disk t image) →
    (old new : D) (P : List ℕ → Type 0) → LeavesOnly moment left_since old new P → (image : List ℕ) →
    images new image → P image
left_images images moment left_since counts_now old new P leaves image left =
    leaves.each image (counts_now new (moment old) image leaves.later left)

module _ {State Item Answer : Type 0} (work : ChronicleWork State Item Answer) where
  -- a short disk stands for no item
  pub short_stands : (all : List ℕ) → length all ≤ 1 → StandsFor work [] all
  short_stands all short = record { texts = []; are = tt; stands = inl (short, refl) }

  -- an image that stands for no text stands for no item
  pub none_stands : (image : List ℕ) → Stands image [] → StandsFor work [] image
  none_stands image stands = record { texts = []; are = tt; stands = stands }

  -- a short disk that was begun is opened without items
  pub opened_short : (all : List ℕ) (seen : Option (List ℕ)) (images : List ℕ → Type 0) → length all ≤ 1 →
      IsSettled seen images 0 [] → IsOpened work all seen images 0 []
  opened_short all seen images short settled =
      record { stood = short_stands all short; kept = record { texts = []; are = tt; settled = settled } }

  -- another one that was replayed is opened with its items
  pub opened_long : (all : List ℕ) (seen : Option (List ℕ)) (images : List ℕ → Type 0) (end : ℕ)
      (items : List Item) → IsSynced seen images all → IsReplayed work all end items →
      IsOpened work all seen images end items
  opened_long all seen images end items synced replayed = record {
    stood = record { texts = replayed.texts; are = replayed.are; stands = inr replayed.begins };
    kept = record {
      texts = replayed.texts;
      are = replayed.are;
      settled = record { bytes = all; synced = synced; begins = replayed.begins; ends = replayed.ends };
    };
  }

  -- an image that was replayed stands for its items
  pub replayed_stands : (image : List ℕ) (end : ℕ) (items : List Item) → IsReplayed work image end items →
      StandsFor work items image
  replayed_stands image end items replayed =
      record { texts = replayed.texts; are = replayed.are; stands = inr replayed.begins }

  -- what a fault says of the bytes that were read it says of those that are told
  pub breaks_told : (fault : OpenFault) (items : List ℕ) (seen : Option (List ℕ)) → Breaks work items fault →
      IfSome seen (λ l. items ≡ l) → IfSome seen (λ l. Breaks work l fault)
  breaks_told fault items None breaks is = tt
  breaks_told fault items (Some all) breaks is = subst (λ (l : List ℕ). Breaks work l fault) is breaks

  -- where what a disk begins with is cut short, it breaks at its front
  pub cut_breaks : (cut : Bool) (seen : Option (List ℕ)) → cut ≡ true →
      IfSome seen (λ all. Decides cut (IsFound all Neither)) → IfSome seen (λ all. Breaks work all (NotAStore 0))
  cut_breaks cut None is told = tt
  cut_breaks cut (Some all) is told = neither_breaks work all (told.0 is)

  module _ (lawful : IsLawful work) where
    -- a disk that breaks is no store
    pub no_store : (all : List ℕ) (place : ℕ) → 1 < length all → BreaksAt work place all → IsNoStore work all place
    no_store all place long breaks =
        record { long = long; none = breaks_none work lawful place all long breaks; breaks = breaks }

    -- what a fault of an open disk says of it
    pub fault_tells : (fault : OpenFault) (number : ℕ) (seen seen' : Option (List ℕ)) (faults faults' : ℕ) →
        IfSome seen' (λ l. Breaks work l fault) → StillTells seen seen' → (fault ≢ Disk → faults' ≡ faults) →
        1 < number → IfSome seen' (λ l. number ≡ length l) → Tells work fault seen seen' faults faults'
    fault_tells Memory number seen seen' faults faults' breaks still faultless long counted = still
    fault_tells Disk number seen seen' faults faults' breaks still faultless long counted = tt
    fault_tells (NotAStore place) number seen seen' faults faults' breaks still faultless long counted = (
      faultless (λ same. cc),
      still,
      both seen' (λ l. number ≡ length l) (λ l. BreaksAt work place l) (λ l. IsNoStore work l place)
          (λ l many broken. no_store l place (omega (arith, long, many)) broken) counted breaks,
    )

    -- where an image of more than a byte isn't read, this is why
    pub fault_unread : (fault : OpenFault) (image : List ℕ) → Breaks work image fault → fault ≢ Disk →
        1 < length image → IsUnread work image fault
    fault_unread Memory image breaks no_disk long = tt
    fault_unread Disk image breaks no_disk long = no_disk refl
    fault_unread (NotAStore place) image breaks no_disk long = no_store image place long breaks

  module _ {D : Type 0} (images : D → List ℕ → Type 0) (moment : D → ℕ) (left_since : D → ℕ → List ℕ → Type 0)
      (old mid : D) (all : List ℕ) (first : LeavesOnly moment left_since old mid (images old)) where
    -- the first sync leaves what was there
    pub left_settled : LeavesOnly moment left_since old mid (IsLeftOf work all (images old))
    left_settled =
        wider moment left_since old mid (images old) (IsLeftOf work all (images old)) first (λ image was. inl was)

    -- a short disk was begun
    pub left_begun : (new : D) → images old all → length all ≤ 1 →
        LeavesOnly moment left_since mid new (λ image. Stands image []) →
        LeavesOnly moment left_since old new (IsLeftOf work all (images old))
    left_begun new image short begun =
        then moment left_since old mid new (IsLeftOf work all (images old)) (λ image. Stands image []) left_settled
        begun (λ other stands. inr (image, short, none_stands other stands))

    -- all was read
    pub left_read : (new : D) → ((image : List ℕ) → images mid image → images old image) →
        LeavesOnly moment left_since mid new (images mid) →
        LeavesOnly moment left_since old new (IsLeftOf work all (images old))
    left_read new keeps read =
        then moment left_since old mid new (IsLeftOf work all (images old)) (images mid) left_settled read
        (λ image left. inl (keeps image left))
