-- A store that isn't closed, over its calls.
use Rattle.std.proofs.Common.{◌≡◌, inl, ℕ, ◌+◌, ◌<◌, ◌^◌, Bool, true, false, List, [], ◌∷◌, ◌++◌, length, take, drop, Option, Some, None, Result, Ok, Err, refl, sym, ◌∙◌, ap, subst, arith, append_assoc, length-append}
use Rattle.std.proofs.lemmas.List.{append-nil}
use Rattle.std.proofs.Math.Seq.{take-append_seam, drop-append_seam}
use Rattle.std.specs.Prelude.{IfSome, OnOk, is_err}
use Rattle.pol_disk.specs.Disks.{LeavesOnly}
use Rattle.pol_disk.proofs.Moments.{started, wider}
use Rattle.pol_texts.specs.Settled.{AreAlike, IsGroup, IsSettled, IsStaged, behind_gate}
use Rattle.pol_texts.specs.Stands as of_texts
use Rattle.pol_texts.specs.Stands.{body_of}
use Rattle.pol_kept.specs.Work.{ChronicleWork}
use Rattle.pol_kept.specs.Stands.{AreTextsOf, StandsFor, StandsWithAllOrNone}
use Rattle.pol_kept.specs.Keeping.{AreParts, HasParts, IsFit, Keeps, KeepsAll, KeepsItems, KeepsGroup, KeptState, LeavesGroup, Open, items_of}
use Rattle.pol_kept.specs.Names.{WritesBehind}
use Rattle.pol_kept.proofs.Texts.{all_or_none, kept_stands, length-texts, texts-append, texts-push}

-- a store that is open keeps its items
pub open_is : (closed : Bool) (kept : Type 0) → closed ≡ false → Open closed kept → kept
open_is true kept is o = absurd cc
open_is false kept is o = o

-- a store that keeps its items may be open
pub open_again : (closed : Bool) (kept : Type 0) → kept → Open closed kept
open_again true kept k = tt
open_again false kept k = k

-- a fact of what is done, where it was
pub at_ok : {T E P : Type 0} (r : Result T E) → is_err r ≡ false → OnOk r P → P
at_ok (Ok x) good p = p
at_ok (Err e) good p = absurd cc

-- what holds wherever bytes are told
pub if_now : (seen : Option (List ℕ)) (X : Type 0) → ((now : List ℕ) → seen ≡ Some now → X) →
    IfSome seen (λ (l : List ℕ). X)
if_now None X f = tt
if_now (Some now) X f = f now refl

-- what holds of a disk that told its bytes holds of one that tells them still
pub if_told : (seen seen' : Option (List ℕ)) (X : Type 0) → AreAlike seen seen' →
    ((all : List ℕ) → seen ≡ Some all → X) → IfSome seen' (λ (l : List ℕ). X)
if_told None None X alike f = tt
if_told None (Some all) X alike f = absurd alike
if_told (Some all) None X alike f = tt
if_told (Some all) (Some all') X alike f = f all refl

-- so many items that wait are one list, and so are those before them
pub same_parts : {Item : Type 0} (items : List Item) (waiting : ℕ) (kept group kept' group' : List Item) →
    AreParts items waiting kept group → AreParts items waiting kept' group' → (kept ≡ kept') × (group ≡ group')
same_parts items waiting kept group kept' group' parts parts' =
    let same : kept ++ group ≡ kept' ++ group' = sym parts.are ∙ parts'.are in
    let long : length kept ≡ length kept' = omega (
      arith,
      ap length same,
      length-append kept group,
      length-append kept' group',
      parts.many,
      parts'.many,
    ) in (
      sym (take-append_seam kept group) ∙ ap (λ (l : List _). take (length kept) l) same
          ∙ ap (λ (n : ℕ). take n (kept' ++ group')) long ∙ take-append_seam kept' group',
      sym (drop-append_seam kept group) ∙ ap (λ (l : List _). drop (length kept) l) same
          ∙ ap (λ (n : ℕ). drop n (kept' ++ group')) long ∙ drop-append_seam kept' group',
    )

-- what waits for some texts is a group
pub group_staged : (texts : List (List ℕ)) (behind : List ℕ) → 0 < length texts → IsStaged texts behind →
    IsGroup texts behind
group_staged [] behind some staged = absurd (omega (arith, some))
group_staged (t ∷ ts) behind some staged = staged

-- there is something to be written for a text
pub writes_long : (text behind : List ℕ) → WritesBehind text behind → 0 < length behind
writes_long text behind writes = omega (arith, ap length writes.is, length-append (body_of text) (0 ∷ []))

module _ {State Item Answer : Type 0} (work : ChronicleWork State Item Answer) where
  -- the same of a disk that tells its bytes
  pub told_keeps : (seen : Option (List ℕ)) (images : List ℕ → Type 0) (end : ℕ) (behind : List ℕ)
      (items : List Item) (waiting : ℕ) (all : List ℕ) → seen ≡ Some all →
      Keeps work seen images end behind items waiting → KeepsGroup work seen images end behind items waiting
  told_keeps seen images end behind items waiting all told keeps =
      subst (λ (o : Option (List ℕ)). IfSome o (λ (l : List ℕ). KeepsGroup work seen images end behind items waiting))
      told keeps

  -- a disk that keeps all items, of which none waits
  pub none_waits : (seen : Option (List ℕ)) (images : List ℕ → Type 0) (end : ℕ) (items : List Item) →
      KeepsItems work seen images end items → KeepsGroup work seen images end [] items 0
  none_waits seen images end items keeps = record {
    kept = items;
    group = [];
    parts = record { are = sym (append-nil items); many = refl };
    keeps = keeps;
    texts = [];
    texts_are = tt;
    staged = refl;
  }

  -- one item more waits
  pub one_waits : (seen : Option (List ℕ)) (images : List ℕ → Type 0) (end : ℕ) (behind more new text : List ℕ)
      (items after : List Item) (item : Item) (waiting : ℕ) → WritesBehind text more → work.IsTextOf items item text
      → ((texts : List (List ℕ)) (text : List ℕ) → IsStaged texts behind → more ≡ behind_gate text →
      length text < 2 ^ 64 → IsStaged (texts ++ text ∷ []) new)
      → after ≡ items ++ item ∷ [] → Keeps work seen images end behind items waiting →
      Keeps work seen images end new after (waiting + 1)
  one_waits None images end behind more new text items after item waiting writes names staged grown keeps = tt
  one_waits (Some all) images end behind more new text items after item waiting writes names staged grown k = record {
    kept = k.kept;
    group = k.group ++ item ∷ [];
    parts =
        record {
          are = grown ∙ ap (λ (es : List Item). es ++ item ∷ []) k.parts.are
              ∙ append_assoc k.kept k.group (item ∷ []);
          many = omega (arith, k.parts.many, length-append k.group (item ∷ []));
        };
    keeps = k.keeps;
    texts = k.texts ++ text ∷ [];
    texts_are =
        texts-push work k.kept k.group k.texts item text k.texts_are
        (subst (λ (es : List Item). work.IsTextOf es item text) k.parts.are names);
    staged = staged k.texts text k.staged writes.is writes.counted;
  }

  module _ {C D : Type 0} (state : C → State) (bytes : D → Option (List ℕ)) (images : D → List ℕ → Type 0)
      (moment : D → ℕ) (left_since : D → ℕ → List ℕ → Type 0)
      (only_now : (disk : D) (image : List ℕ) → left_since disk (moment disk) image → images disk image)
      (s : KeptState C D) (end : ℕ) (behind : List ℕ) where
    -- the items of the store
    abbrev items : List Item
    items = items_of work state s

    -- its invariant
    abbrev IsOpen : Type 0
    IsOpen = Open s.closed (IsFit end s.waiting behind
        × Keeps work (bytes s.disk) (images s.disk) end behind items s.waiting)

    -- of an open store that tells its bytes
    keeps_now : IsOpen → s.closed ≡ false → (all : List ℕ) → bytes s.disk ≡ Some all →
        KeepsGroup work (bytes s.disk) (images s.disk) end behind items s.waiting
    keeps_now o is all told =
        told_keeps (bytes s.disk) (images s.disk) end behind items s.waiting all told (open_is s.closed _ is o).1

    -- each image stands for the items that are kept
    pub kept_now : IsOpen → s.closed ≡ false → (all : List ℕ) → bytes s.disk ≡ Some all →
        (kept group : List Item) → HasParts work state s kept group → (image : List ℕ) → images s.disk image →
        StandsFor work kept image
    kept_now o is all told kept group parts image left =
        let k = keeps_now o is all told in
        subst (λ (es : List Item). StandsFor work es image)
        (same_parts items s.waiting k.kept k.group kept group k.parts parts).0
        (kept_stands work (bytes s.disk) (images s.disk) end k.kept k.keeps image left)

    -- the disk wasn't called
    pub unchanged : IsOpen → LeavesGroup work state bytes moment left_since s s.disk
    unchanged o = λ is all told kept group parts.
        started moment left_since s.disk (StandsWithAllOrNone work kept group)
        (λ image left. inl (kept_now o is all told kept group parts image (only_now s.disk image left)))

    -- the records of the group were added, or failed to be
    pub added : (new : D) → IsOpen → 0 < s.waiting
        → ((texts group : List (List ℕ)) → IsGroup group behind → IsSettled (bytes s.disk) (images s.disk) end texts
        → LeavesOnly moment left_since s.disk new (of_texts.StandsWithAllOrNone texts group))
        → LeavesGroup work state bytes moment left_since s new
    added new o some leaves = λ is all told kept group parts.
        let k = keeps_now o is all told in
        let same = same_parts items s.waiting k.kept k.group kept group k.parts parts in
        let many : 0 < length k.texts = omega
        (arith, some, k.parts.many, length-texts work k.kept k.group k.texts k.texts_are) in
        subst (λ (es : List Item). LeavesOnly moment left_since s.disk new (StandsWithAllOrNone work es group)) same.0
        (subst (λ (es : List Item). LeavesOnly moment left_since s.disk new (StandsWithAllOrNone work k.kept es)) same.1
        (wider moment left_since s.disk new (of_texts.StandsWithAllOrNone k.keeps.texts k.texts)
        (StandsWithAllOrNone work k.kept k.group)
        (leaves k.keeps.texts k.texts (group_staged k.texts behind many k.staged) k.keeps.settled)
        (λ image left. all_or_none work k.kept k.group k.keeps.texts k.texts image k.keeps.are k.texts_are left)))

    -- added records are kept
    pub kept_more : (new : D) → IsOpen → 0 < s.waiting
        → ((texts group : List (List ℕ)) → IsGroup group behind → IsSettled (bytes s.disk) (images s.disk) end texts
        → IsSettled (bytes new) (images new) (end + length behind) (texts ++ group))
        → s.closed ≡ false → (all : List ℕ) → bytes s.disk ≡ Some all →
        KeepsItems work (bytes new) (images new) (end + length behind) items
    kept_more new o some kept is all told =
        let k = keeps_now o is all told in
        let many : 0 < length k.texts = omega
        (arith, some, k.parts.many, length-texts work k.kept k.group k.texts k.texts_are) in
        record {
          texts = k.keeps.texts ++ k.texts;
          are =
              subst (λ (es : List Item). AreTextsOf work [] es (k.keeps.texts ++ k.texts)) (sym k.parts.are)
              (texts-append work [] k.kept k.group k.keeps.texts k.texts k.keeps.are k.texts_are);
          settled = kept k.keeps.texts k.texts (group_staged k.texts behind many k.staged) k.keeps.settled;
        }

    -- so each image has them
    pub keeps_all : (new : D) → ((all : List ℕ) → bytes s.disk ≡ Some all →
        KeepsItems work (bytes new) (images new) (end + length behind) items) →
        KeepsAll work state bytes images s new
    keeps_all new kept = λ all told image left.
        kept_stands work (bytes new) (images new) (end + length behind) items (kept all told) image left
