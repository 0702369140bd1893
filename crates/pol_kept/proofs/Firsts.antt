-- The first item that an image stands for.
use Rattle.std.proofs.Common.{◌≡◌, ◌⊎◌, inl, inr, ℕ, ◌+◌, List, [], ◌∷◌, ◌++◌, length, drop, refl, sym, ◌∙◌, ap}
use Rattle.std.proofs.Common.{subst, arith, length-append}
use Rattle.std.proofs.lemmas.List.{drop_at}
use Rattle.pol_texts.specs.Finds.{IsFound}
use Rattle.pol_texts.specs.Stands.{BeginsWith, Stands, body_of}
use Rattle.pol_texts.specs.declared.finding.Found.{Found}
use Rattle.pol_texts.specs.declared.finding.Found.TheVariants.{Closed, Neither}
use Rattle.pol_texts.proofs.Unique.{longer, not_closed, same_record}
use Rattle.pol_kept.specs.Work.{ChronicleWork}
use Rattle.pol_kept.specs.Stands.{AreTextsOf, HasFirst, StandsBehind}

-- where a closed gate is found, or neither, an image begins with no record
none_found : (image : List ℕ) (found : Found) → IsFound image found → (found ≡ Closed) ⊎ (found ≡ Neither) →
    (text behind : List ℕ) → BeginsWith text image behind → ⊥
none_found image found is (inl closed) text behind begins =
    let gate = subst (IsFound image) closed is in not_closed text image behind gate.0 begins gate.1
none_found image found is (inr neither) text behind begins = (subst (IsFound image) neither is).1 text behind begins

module _ {State Item Answer : Type 0} (work : ChronicleWork State Item Answer) (before : List Item) where
  module _ (text image behind : List ℕ) (begins : BeginsWith text image behind) where
    -- a record has nine bytes more than its text
    record_long : length image ≡ 9 + length text + length behind
    record_long = omega (arith, ap length begins.is, length-append text behind)

    -- what stands behind it
    pub record_behind : drop (9 + length text) image ≡ behind
    record_behind =
        ap (drop (9 + length text)) begins.is
        ∙ drop_at (begins.gate ∷ body_of text) behind (9 + length text) (omega arith)

    -- its text is that of the first item, and what stands behind it stands for the others
    pub text_first : (items : List Item) → StandsBehind work before items image → HasFirst work before text behind items
    unfolding record_long
    text_first items stands = by_texts items stands.texts stands.are stands.stands
      where
        by_texts : (items : List Item) (texts : List (List ℕ)) → AreTextsOf work before items texts →
            Stands image texts → HasFirst work before text behind items
        by_texts items texts are (inl short) = absurd (omega (arith, short.0, record_long))
        by_texts [] [] are (inr other) =
            absurd (not_closed text image behind other.behind begins
            (other.is ∙ ap (λ l. l ++ 0 ∷ other.behind) other.are))
        by_texts [] (first ∷ texts) are (inr other) = absurd are
        by_texts (item ∷ items) [] are (inr other) = absurd are
        by_texts (item ∷ items) (first ∷ texts) are (inr other) =
            let rest = other.are.0 ++ 0 ∷ other.behind in
            let also = subst (λ l. BeginsWith first l rest) (sym other.is)
            (longer first other.records other.are.0 (0 ∷ other.behind) other.are.1) in
            let same = same_record text first image behind rest begins also in (
              subst (work.IsTextOf before item) (sym same.0) are.0,
              record {
                texts = texts;
                are = are.1;
                stands = inr (record {
                  records = other.are.0;
                  behind = other.behind;
                  is = same.1;
                  are = other.are.2;
                });
              },
            )

  -- an image that begins with no record stands for no item
  pub none_first : (image : List ℕ) (found : Found) → IsFound image found → (found ≡ Closed) ⊎ (found ≡ Neither) →
      (items : List Item) → StandsBehind work before items image → items ≡ []
  none_first image found is either items stands = by_texts items stands.texts stands.are stands.stands
    where
      some : (text : List ℕ) (texts : List (List ℕ)) → text ∷ texts ≡ [] → ⊥
      some text texts same = cc

      by_texts : (items : List Item) (texts : List (List ℕ)) → AreTextsOf work before items texts →
          Stands image texts → items ≡ []
      by_texts [] texts are stands = refl
      by_texts (item ∷ items) [] are stands = absurd are
      by_texts (item ∷ items) (text ∷ texts) are (inl short) = absurd (some text texts short.1)
      by_texts (item ∷ items) (text ∷ texts) are (inr other) =
          let rest = other.are.0 ++ 0 ∷ other.behind in
          absurd (none_found image found is either text rest (subst (λ l. BeginsWith text l rest) (sym other.is)
          (longer text other.records other.are.0 (0 ∷ other.behind) other.are.1)))
