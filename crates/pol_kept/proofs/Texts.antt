-- Texts and their items.
use Rattle.std.proofs.Common.{◌≡◌, inl, inr, ℕ, List, [], ◌∷◌, ◌++◌, length, Option, refl, sym, ◌∙◌, ap, subst, arith, append_assoc, append-nil}
use Rattle.pol_texts.specs.Stands.{Begins, Stands}
use Rattle.pol_texts.specs.Stands as of_texts
use Rattle.pol_texts.proofs.Unique.{one_list}
use Rattle.pol_kept.specs.Work.{ChronicleWork, IsLawful}
use Rattle.pol_kept.specs.Stands.{AreTextsOf, StandsBehind, StandsFor, StandsWithAllOrNone}
use Rattle.pol_kept.specs.Keeping.{KeepsItems}

module _ {State Item Answer : Type 0} (work : ChronicleWork State Item Answer) where
  -- the texts of one item more
  pub texts-push : (before xs : List Item) (texts : List (List ℕ)) (x : Item) (text : List ℕ) →
      AreTextsOf work before xs texts → work.IsTextOf (before ++ xs) x text →
      AreTextsOf work before (xs ++ x ∷ []) (texts ++ text ∷ [])
  texts-push before [] [] x text are is = (subst (λ (l : List Item). work.IsTextOf l x text) (append-nil before) is, tt)
  texts-push before [] (t ∷ ts) x text are is = absurd are
  texts-push before (y ∷ ys) [] x text are is = absurd are
  texts-push before (y ∷ ys) (t ∷ ts) x text are is = (
    are.0,
    texts-push (before ++ y ∷ []) ys ts x text are.1
        (subst (λ (l : List Item). work.IsTextOf l x text) (sym (append_assoc before (y ∷ []) ys)) is),
  )

  -- as many texts as items
  pub length-texts : (before xs : List Item) (texts : List (List ℕ)) → AreTextsOf work before xs texts →
      length xs ≡ length texts
  length-texts before [] [] are = refl
  length-texts before [] (t ∷ ts) are = absurd are
  length-texts before (x ∷ xs) [] are = absurd are
  length-texts before (x ∷ xs) (t ∷ ts) are = omega (arith, length-texts (before ++ x ∷ []) xs ts are.1)

  -- the texts of more items
  pub texts-append : (before xs ys : List Item) (texts more : List (List ℕ)) → AreTextsOf work before xs texts →
      AreTextsOf work (before ++ xs) ys more → AreTextsOf work before (xs ++ ys) (texts ++ more)
  texts-append before [] ys [] more are are' =
      subst (λ (l : List Item). AreTextsOf work l ys more) (append-nil before) are'
  texts-append before [] ys (t ∷ ts) more are are' = absurd are
  texts-append before (x ∷ xs) ys [] more are are' = absurd are
  texts-append before (x ∷ xs) ys (t ∷ ts) more are are' = (
    are.0,
    texts-append (before ++ x ∷ []) xs ys ts more are.1
        (subst (λ (l : List Item). AreTextsOf work l ys more) (sym (append_assoc before (x ∷ []) xs)) are'),
  )

  -- an image with a group of texts more stands for a group of items more
  pub all_or_none : (xs group : List Item) (texts more : List (List ℕ)) (image : List ℕ) → AreTextsOf work [] xs texts →
      AreTextsOf work xs group more → of_texts.StandsWithAllOrNone texts more image →
      StandsWithAllOrNone work xs group image
  all_or_none xs group texts more image are are' (inl none) = inl record { texts = texts; are = are; stands = none }
  all_or_none xs group texts more image are are' (inr all) =
      inr record { texts = texts ++ more; are = texts-append [] xs group texts more are are'; stands = all }

  -- of a disk that keeps items each image stands for them
  pub kept_stands : (seen : Option (List ℕ)) (images : List ℕ → Type 0) (end : ℕ) (xs : List Item) →
      KeepsItems work seen images end xs → (image : List ℕ) → images image → StandsFor work xs image
  kept_stands seen images end xs keeps image left = record {
    texts = keeps.texts;
    are = keeps.are;
    stands =
        inr (subst (λ (l : List ℕ). Begins l keeps.texts)
        (sym (keeps.settled.synced.only image left)) keeps.settled.begins);
  }

  module _ (lawful : IsLawful work) where
    -- texts are those of one list of items
    pub one_items : (before : List Item) (texts : List (List ℕ)) (xs ys : List Item) → AreTextsOf work before xs texts →
        AreTextsOf work before ys texts → xs ≡ ys
    one_items before [] [] [] are are' = refl
    one_items before [] [] (y ∷ ys) are are' = absurd are'
    one_items before [] (x ∷ xs) ys are are' = absurd are
    one_items before (text ∷ texts) [] ys are are' = absurd are
    one_items before (text ∷ texts) (x ∷ xs) [] are are' = absurd are'
    one_items before (text ∷ texts) (x ∷ xs) (y ∷ ys) are are' =
        let same : x ≡ y = lawful.one_item before x y text are.0 are'.0 in
        let tail : AreTextsOf work (before ++ y ∷ []) xs texts =
        subst (λ (z : Item). AreTextsOf work (before ++ z ∷ []) xs texts) same are.1 in
        ap (λ (z : Item). z ∷ xs) same
        ∙ ap (λ (zs : List Item). y ∷ zs) (one_items (before ++ y ∷ []) texts xs ys tail are'.1)

    -- an image stands for one list of items
    pub one_list_of_items : (before : List Item) (image : List ℕ) (xs ys : List Item) →
        StandsBehind work before xs image → StandsBehind work before ys image → xs ≡ ys
    one_list_of_items before image xs ys stands stands' =
        one_items before stands'.texts xs ys
        (subst (AreTextsOf work before xs)
        (one_list image stands.texts stands'.texts stands.stands stands'.stands) stands.are) stands'.are
