-- What opening a ledger leaves.
use Rattle.std.proofs.Common.{◌≡◌, inl, inr, ◌+◌, ℕ, true, false, List, [], ◌∷◌, Option, Some, None, is_some, refl, sym, ap, subst, ◌∙◌}
use Rattle.std.specs.Prelude.{if◌then◌else◌}
use Rattle.std.proofs.lemmas.List.{append-nil}
use Rattle.pol_disk.specs.Disks.{LeavesOnly, ToldOn}
use Rattle.pol_disk.proofs.Moments.{started, then, wider}
use Rattle.pol_disk.proofs.Telling.{was_told}
use Rattle.pol_kept.specs.Keeping.{HasParts, KeepsAll, KeptState, LeavesGroup}
use Rattle.pol_kept.specs.Opens as of_items
use Rattle.pol_kept.specs.Stands.{StandsFor}
use Rattle.pol_ledger.specs.Builds.{this_build}
use Rattle.pol_ledger.specs.Items.{PlainItem, header}
use Rattle.pol_ledger.specs.Ledgers.{PlainLedger, ledger_state}
use Rattle.pol_ledger.specs.Opens.{MayBeLeft, OpensAs, StandsOrBegins, begun_anyway, this_header}
use Rattle.pol_ledger.specs.Work.{BegunLedger, items_of, keeps_item, ledger_after, ledger_answer, ledger_work}

-- of what was begun opening makes the same
pub same_begun : (found : Option BegunLedger) → is_some found ≡ true → begun_anyway found ≡ found
same_begun None begun = cc
same_begun (Some ledger) begun = refl

-- nothing was begun
pub none_begun : (found : Option BegunLedger) → is_some found ≡ false → found ≡ None
none_begun None begun = refl
none_begun (Some ledger) begun = cc

module _ {D : Type 0} (bytes : D → Option (List ℕ)) (images : D → List ℕ → Type 0) (moment : D → ℕ)
    (left_since : D → ℕ → List ℕ → Type 0) (store : KeptState PlainLedger D) where
  -- what the ledger of the store knows
  abbrev found : Option BegunLedger
  found = ledger_state store.chronicle

  module _ (alone : store.waiting ≡ 0)
      (kept : (all : List ℕ) → bytes store.disk ≡ Some all → (items group : List PlainItem) →
      HasParts ledger_work ledger_state store items group → (image : List ℕ) → images store.disk image →
      StandsFor ledger_work items image) where
    -- each image stands for its items
    pub stands_now : (all : List ℕ) → bytes store.disk ≡ Some all → (image : List ℕ) → images store.disk image →
        StandsFor ledger_work (items_of found) image
    stands_now all told image left =
        kept all told (items_of found) [] (record { are = sym (append-nil (items_of found)); many = sym alone }) image
        left

    -- also where nothing was called
    pub unmoved : ((disk : D) (image : List ℕ) → left_since disk (moment disk) image → images disk image) →
        (all : List ℕ) → bytes store.disk ≡ Some all →
        LeavesOnly moment left_since store.disk store.disk (StandsOrBegins found)
    unmoved only_now all told =
        started moment left_since store.disk (StandsOrBegins found)
        (λ image left. inl (stands_now all told image (only_now store.disk image left)))

  -- the header was admitted
  module _ (alone : store.waiting ≡ 0) (none : found ≡ None) (admitted : KeptState PlainLedger D) (build : List ℕ)
      (build_is : build ≡ this_build) (after : ledger_state admitted.chronicle ≡ ledger_after found (header build))
      (waits : admitted.waiting
      ≡ (if keeps_item (ledger_answer found (header build)) then store.waiting + 1 else store.waiting))
      (opened : admitted.closed ≡ false) (same : admitted.disk ≡ store.disk) where
    -- it is the one item then
    begun_is : ledger_state admitted.chronicle ≡ begun_anyway None
    begun_is =
        after
        ∙ ap (λ (s : Option BegunLedger). ledger_after s (header build)) none
        ∙ ap (λ (b : List ℕ). ledger_after None (header b)) build_is

    -- and waits alone
    one_waits : HasParts ledger_work ledger_state admitted [] (this_header ∷ [])
    one_waits = record {
      are = ap items_of begun_is;
      many =
          sym
          (waits
          ∙ ap (λ (s : Option BegunLedger). if keeps_item (ledger_answer s (header build)) then store.waiting + 1 else
          store.waiting) none
          ∙ ap (λ (n : ℕ). n + 1) alone);
    }

    -- what a crash leaves until it is committed
    pub leaves_header : (new : D) → LeavesGroup ledger_work ledger_state bytes moment left_since admitted new →
        (all : List ℕ) → bytes store.disk ≡ Some all →
        LeavesOnly moment left_since store.disk new (StandsOrBegins found)
    leaves_header new leaves all told =
        subst (λ (s : Option BegunLedger). LeavesOnly moment left_since store.disk new (StandsOrBegins s)) (sym none)
        (subst (λ (d : D). LeavesOnly moment left_since d new (StandsOrBegins None)) same
        (leaves opened all (ap bytes same ∙ told) [] (this_header ∷ []) one_waits))

    -- once it is, each image has it
    pub keeps_header : (new : D) → KeepsAll ledger_work ledger_state bytes images admitted new → (all : List ℕ) →
        bytes store.disk ≡ Some all → (image : List ℕ) → images new image →
        StandsFor ledger_work (items_of (begun_anyway found)) image
    keeps_header new keeps all told image left =
        subst (λ (s : Option BegunLedger). StandsFor ledger_work (items_of s) image)
        (begun_is ∙ sym (ap begun_anyway none)) (keeps all (ap bytes same ∙ told) image left)

  -- what opening the disk and beginning the ledger leave
  module _ (first new : D) (on : ToldOn (bytes store.disk) (bytes new))
      (opens : (all now : List ℕ) → bytes first ≡ Some all → bytes store.disk ≡ Some now →
      LeavesOnly moment left_since first store.disk (of_items.IsLeftOf ledger_work all (images first)))
      (stood : (all now : List ℕ) → bytes first ≡ Some all → bytes store.disk ≡ Some now →
      StandsFor ledger_work (items_of found) all) where
    pub leaves_opened : ((all : List ℕ) → bytes store.disk ≡ Some all →
        LeavesOnly moment left_since store.disk new (StandsOrBegins found)) → (all now : List ℕ) →
        bytes first ≡ Some all → bytes new ≡ Some now →
        LeavesOnly moment left_since first new (MayBeLeft all (images first))
    leaves_opened begins all now told told' =
        let mid = was_told (bytes store.disk) (bytes new) on now told' in
        (then) moment left_since first store.disk new (MayBeLeft all (images first)) (StandsOrBegins found)
        (wider moment left_since first store.disk (of_items.IsLeftOf ledger_work all (images first))
        (MayBeLeft all (images first)) (opens all mid.0 told mid.1) (λ image left. inl left)) (begins mid.0 mid.1)
        (λ image left. inr (record { found = found; stood = stood all mid.0 told mid.1; stands = left }))

    -- and what it makes of the bytes
    pub opens_as : (made : Option BegunLedger) → made ≡ begun_anyway found → (all now : List ℕ) →
        bytes first ≡ Some all → bytes new ≡ Some now → OpensAs all made
    opens_as made is all now told told' =
        let mid = was_told (bytes store.disk) (bytes new) on now told' in
        record { found = found; stood = stood all mid.0 told mid.1; is = is }
