-- An image is replayed record by record.
use Rattle.std.proofs.Common.{◌≡◌, ℕ, ◌+◌, ◌≤◌, List, [], ◌∷◌, ◌++◌, length, drop, refl, sym, ◌∙◌, ap, subst, arith, append_assoc, length-append}
use Rattle.std.proofs.lemmas.List.{drop_at}
use Rattle.pol_texts.specs.Finds.{IsFound}
use Rattle.pol_texts.specs.Stands.{BeginsWith, body_of}
use Rattle.pol_texts.specs.declared.finding.Found.TheVariants.{Neither}
use Rattle.pol_texts.proofs.Crash.{records-push}
use Rattle.pol_texts.proofs.Unique.{not_closed, same_record}
use Rattle.pol_kept.specs.Work.{ChronicleWork}
use Rattle.pol_kept.specs.Stands.{BeginsWithItems, IsBroken, BreaksAt}
use Rattle.pol_kept.specs.Opens.{IsReplayed}
use Rattle.pol_kept.proofs.Texts.{texts-push}

module _ {State Item Answer : Type 0} (work : ChronicleWork State Item Answer) where
  -- every image begins with the records of no items
  pub begun : (image : List ℕ) → BeginsWithItems work 0 image []
  begun image =
      record { texts = []; are = tt; records = []; behind = image; is = refl; are_records = refl; place_is = refl }

  -- what stands behind the records is all from their end on
  rest_is : (place : ℕ) (image : List ℕ) (items : List Item) (b : BeginsWithItems work place image items) →
      drop place image ≡ b.behind
  rest_is place image items b =
      ap (λ (l : List ℕ). drop place l) b.is ∙ drop_at b.records b.behind place (sym b.place_is)

  -- one record more
  pub replay_more : (place : ℕ) (image text behind : List ℕ) (items : List Item) (item : Item) →
      BeginsWithItems work place image items → BeginsWith text (drop place image) behind →
      work.IsTextOf items item text → BeginsWithItems work (place + (9 + length text)) image (items ++ item ∷ [])
  replay_more place image text behind items item b begins names = record {
    texts = b.texts ++ text ∷ [];
    are = texts-push work [] items b.texts item text b.are names;
    records = b.records ++ begins.gate ∷ body_of text;
    behind = behind;
    is =
        b.is ∙ ap (λ (l : List ℕ). b.records ++ l) (sym (rest_is place image items b) ∙ begins.is)
        ∙ sym (append_assoc b.records (begins.gate ∷ body_of text) behind);
    are_records = records-push b.records b.texts begins.gate text b.are_records begins.open_gate begins.counted;
    place_is = omega (arith, b.place_is, length-append b.records (begins.gate ∷ body_of text));
  }

  -- the closed gate
  pub replay_closed : (place : ℕ) (image behind : List ℕ) (items : List Item) →
      BeginsWithItems work place image items → length items ≤ work.most → drop place image ≡ 0 ∷ behind →
      IsReplayed work image place items
  replay_closed place image behind items b few closed = record {
    texts = b.texts;
    are = b.are;
    begins =
        record {
          records = b.records;
          behind = behind;
          is = b.is ∙ ap (λ (l : List ℕ). b.records ++ l) (sym (rest_is place image items b) ∙ closed);
          are = b.are_records;
        };
    ends = b.place_is;
    few = few;
  }

  -- neither
  pub replay_breaks : (place : ℕ) (image : List ℕ) (items : List Item) → BeginsWithItems work place image items →
      IsBroken work items (drop place image) → BreaksAt work place image
  replay_breaks place image items b broken = record {
    items = items;
    begins = b;
    broken = subst (IsBroken work items) (rest_is place image items b) broken;
  }

  -- where neither a closed gate nor a record stands
  pub neither_broken : (before : List Item) (bytes : List ℕ) → IsFound bytes Neither → IsBroken work before bytes
  neither_broken before bytes neither = record {
    no_gate = neither.0;
    no_record = λ text behind item begins names. absurd (neither.1 text behind begins);
  }

  -- where a text stands that is that of no item
  pub unnamed_broken : (before : List Item) (bytes text behind : List ℕ) → BeginsWith text bytes behind →
      ((item : Item) → work.IsTextOf before item text → ⊥) → IsBroken work before bytes
  unnamed_broken before bytes text behind begins none = record {
    no_gate = λ other same. not_closed text bytes behind other begins same;
    no_record = λ other rest item also names.
        let same = same_record text other bytes behind rest begins also in
        absurd (none item (subst (work.IsTextOf before item) (sym same.0) names));
  }

  -- so an image with neither at its front breaks there
  pub neither_breaks : (image : List ℕ) → IsFound image Neither → BreaksAt work 0 image
  neither_breaks image neither = replay_breaks 0 image [] (begun image) (neither_broken [] image neither)
