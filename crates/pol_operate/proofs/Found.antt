-- What a disk was opened as, by what it read as.
use Rattle.std.proofs.Common.{ℕ, ◌≡◌, ◌∙◌, inl, inr, List, [], ◌∷◌, map, Option, Some, None, ap, refl, sym, subst}
use Rattle.std.specs.Prelude.{IfSome}
use Rattle.kept_jobs.specs.Leaving.{ReadsAs}
use Rattle.kept_jobs.specs.Telling.{Telling}
use Rattle.kept_jobs.proofs.Ended.{IsBegun, left_old, reads_one}
use Rattle.pol_disk.specs.Disks.{LeavesOnly, ToldOn, told_through}
use Rattle.pol_disk.proofs.Moments.{wider}
use Rattle.pol_disk.proofs.Telling.{was_told}
use Rattle.pol_kept.specs.Stands.{StandsFor}
use Rattle.pol_ledger.specs.Items.{PlainAsked, PlainItem, asked}
use Rattle.pol_ledger.specs.Lawful.{ledgers_are_lawful}
use Rattle.pol_ledger.specs.Opens.{MayBeLeft, OpensAs, StandsOrBegins, begun_anyway}
use Rattle.pol_ledger.specs.Work.{BegunLedger, items_of, ledger_work}
use Rattle.pol_operate.specs.Kept.{asked_in, ledger_of, operate_job}
use Rattle.pol_operate.specs.Texts.{so_far_in}
use Rattle.pol_operate.proofs.Orderly.{AreSound, sound_stands}

-- what was asked for among the items of what was
asked_again : (so_far : List PlainAsked) → asked_in (map asked so_far) ≡ so_far
asked_again [] = refl
asked_again (one ∷ so_far) = ap (λ (others : List PlainAsked). one ∷ others) (asked_again so_far)

-- the ledger of a ledger's items
pub ledger_again : (ledger : Option BegunLedger) → ledger_of (items_of ledger) ≡ ledger
ledger_again None = refl
ledger_again (Some ledger) =
    ap (λ (so_far : List PlainAsked). Some (record { build = ledger.build; so_far = so_far }))
    (asked_again ledger.so_far)

-- what was asked for of what opening begins
sound_anyway : (found : Option BegunLedger) → AreSound (so_far_in found) → AreSound (so_far_in (begun_anyway found))
sound_anyway None sound = tt
sound_anyway (Some ledger) sound = sound

-- the ledger that a disk was opened as: which was found, where it tells its bytes, and what was asked for so far
pub record WasFound (seen : Option (List ℕ)) (opened : Option BegunLedger) : Type 0 where
  pub found : Option BegunLedger
  pub stood : IfSome seen (StandsFor ledger_work (items_of found))
  pub is : opened ≡ begun_anyway found
  pub sound : AreSound (so_far_in (begun_anyway found))

-- from the clauses `stood`, `on` and `image_read` of `open`
pub was_found : (seen mid seen' : Option (List ℕ)) (opened : Option BegunLedger) (image : List ℕ) → ToldOn mid seen' →
    ((all now : List ℕ) → seen ≡ Some all → mid ≡ Some now → OpensAs all opened) → OpensAs image opened →
    WasFound (told_through seen seen') opened
was_found seen mid None opened image on stood read = record {
  found = read.found;
  stood = tt;
  is = read.is;
  sound = sound_anyway read.found (sound_stands read.found image read.stood);
}
was_found None mid (Some new) opened image on stood read = record {
  found = read.found;
  stood = tt;
  is = read.is;
  sound = sound_anyway read.found (sound_stands read.found image read.stood);
}
was_found (Some all) mid (Some new) opened image on stood read =
    let now = was_told mid (Some new) on new refl in
    let one = stood all now.0 refl now.1 in
    record {
      found = one.found;
      stood = one.stood;
      is = one.is;
      sound = sound_anyway one.found (sound_stands one.found all one.stood);
    }

module _ {D : Type 0} (disk : Telling D) (first : D) (old : List PlainItem) (reads : ReadsAs ledger_work disk first old)
  where
    -- items that the bytes stand for are those that the disk reads as
    old_of : (found : Option BegunLedger) → StandsFor ledger_work (items_of found) reads.bytes → ledger_of old ≡ found
    old_of found stood =
        ap ledger_of (sym (reads_one ledger_work disk ledgers_are_lawful first old (items_of found) reads stood))
        ∙ ledger_again found

    -- so the job begins with what opening makes of their ledger
    pub opened_of : (opened : Option BegunLedger) → OpensAs reads.bytes opened →
        opened ≡ begun_anyway (ledger_of old)
    opened_of opened one = one.is ∙ ap begun_anyway (sym (old_of one.found one.stood))

    -- what is left of the disk is of before a line is met
    begun_left : (image : List ℕ) → MayBeLeft reads.bytes (disk.images first) image →
        IsBegun ledger_work disk operate_job first old image
    begun_left image (inl left) = inl (left_old ledger_work disk ledgers_are_lawful first old reads image left)
    begun_left image (inr one) = by_found one.stands
      where
        by_found : StandsOrBegins one.found image → IsBegun ledger_work disk operate_job first old image
        by_found (inl stands) =
            inl (inr (subst (λ (some : List PlainItem). StandsFor ledger_work some image)
            (reads_one ledger_work disk ledgers_are_lawful first old (items_of one.found) reads one.stood) stands))
        by_found (inr begins) =
            inr (subst (λ (found : Option BegunLedger). StandsFor ledger_work (items_of (begun_anyway found)) image)
            (sym (old_of one.found one.stood)) begins)

    -- from the clauses `left` and `left_err` of `open`
    pub left_begun : (mid : D) →
        LeavesOnly disk.moment disk.left_since first mid (MayBeLeft reads.bytes (disk.images first)) →
        LeavesOnly disk.moment disk.left_since first mid (IsBegun ledger_work disk operate_job first old)
    left_begun mid left =
        wider disk.moment disk.left_since first mid (MayBeLeft reads.bytes (disk.images first))
        (IsBegun ledger_work disk operate_job first old) left begun_left
