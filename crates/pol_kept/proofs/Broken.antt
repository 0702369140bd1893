-- An image that breaks stands for no list of items.
use Rattle.std.proofs.Common.{◌≡◌, inl, inr, ℕ, ◌+◌, ◌<◌, ◌≤◌, List, [], ◌∷◌, ◌++◌, length, sym, ◌∙◌, ap, subst, arith, append_assoc, append-nil, length-append}
use Rattle.pol_texts.specs.Stands.{Stands, BeginsWith, AreRecords}
use Rattle.pol_texts.proofs.Unique.{same_record, not_closed, longer}
use Rattle.pol_kept.specs.Work.{ChronicleWork, IsLawful}
use Rattle.pol_kept.specs.Stands.{AreTextsOf, IsBroken, BreaksAt, StandsFor, StandsForNone}

module _ {State Item Answer : Type 0} (work : ChronicleWork State Item Answer) (lawful : IsLawful work) where
  -- records, and then neither a gate nor a record, are no records with a closed gate behind them
  no_stand : (before xs ys : List Item) (texts texts' : List (List ℕ)) (records records' behind behind' : List ℕ) →
      AreTextsOf work before xs texts → AreTextsOf work before ys texts' → AreRecords records texts
      → AreRecords records' texts' → IsBroken work (before ++ xs) behind → length before + length ys ≤ work.most
      → records ++ behind ≡ records' ++ 0 ∷ behind' → ⊥
  no_stand before [] ys (t ∷ ts) texts' records records' behind behind' are are' recs recs' broken few same = absurd are
  no_stand before (x ∷ xs) ys [] texts' records records' behind behind' are are' recs recs' broken few same = absurd are
  no_stand before xs [] texts (t ∷ ts) records records' behind behind' are are' recs recs' broken few same = absurd are'
  no_stand before xs (y ∷ ys) texts [] records records' behind behind' are are' recs recs' broken few same = absurd are'
  no_stand before [] [] [] [] records records' behind behind' are are' recs recs' broken few same =
      broken.no_gate behind' (sym (ap (λ (l : List ℕ). l ++ behind) recs) ∙ same
      ∙ ap (λ (l : List ℕ). l ++ 0 ∷ behind') recs')
  no_stand before [] (y ∷ ys) [] (t ∷ ts) records records' behind behind' are are' recs recs' broken few same =
      let whole : behind ≡ records' ++ 0 ∷ behind' = sym (ap (λ (l : List ℕ). l ++ behind) recs) ∙ same in
      let begins = subst (λ (l : List ℕ). BeginsWith t l (recs'.0
      ++ 0 ∷ behind')) (sym whole) (longer t records' recs'.0 (0 ∷ behind') recs'.1) in
      let all : before ++ [] ≡ before = append-nil before in
      let here = subst (λ (l : List Item). IsBroken work l behind) all broken in
      omega (arith, here.no_record t (recs'.0 ++ 0 ∷ behind') y begins are'.0, few)
  no_stand before (x ∷ xs) [] (t ∷ ts) [] records records' behind behind' are are' recs recs' broken few same =
      not_closed t (records ++ behind) (recs.0 ++ behind) behind' (longer t records recs.0 behind recs.1) (same
      ∙ ap (λ (l : List ℕ). l ++ 0 ∷ behind') recs')
  no_stand before (x ∷ xs) (y ∷ ys) (t ∷ ts) (u ∷ us) records records' behind behind' are are' recs recs' broken few
      same =
      let one = longer t records recs.0 behind recs.1 in
      let other = subst (λ (l : List ℕ). BeginsWith u l (recs'.0
      ++ 0 ∷ behind')) (sym same) (longer u records' recs'.0 (0 ∷ behind') recs'.1) in
      let both = same_record t u (records ++ behind) (recs.0 ++ behind) (recs'.0 ++ 0 ∷ behind') one other in
      let first : work.IsTextOf before y t = subst (work.IsTextOf before y) (sym both.0) are'.0 in
      let items : y ≡ x = lawful.one_item before y x t first are.0 in
      let later : AreTextsOf work (before ++ x ∷ []) ys us =
      subst (λ (z : Item). AreTextsOf work (before ++ z ∷ []) ys us) items are'.1 in
      no_stand (before ++ x ∷ []) xs ys ts us recs.0 recs'.0 behind behind' are.1 later recs.2 recs'.2
      (subst (λ (l : List Item). IsBroken work l behind) (sym (append_assoc before (x ∷ []) xs)) broken)
      (omega (arith, few, length-append before (x ∷ []))) both.1

  -- so an image that breaks somewhere stands for none
  pub breaks_none : (place : ℕ) (image : List ℕ) → 1 < length image → BreaksAt work place image →
      StandsForNone work image
  breaks_none place image long breaks = none
    where
      none : (items : List Item) → length items ≤ work.most → StandsFor work items image → ⊥
      none items few stands = by_case stands.stands
        where
          by_case : Stands image stands.texts → ⊥
          by_case (inl short) = omega (arith, short.0, long)
          by_case (inr begins) =
              no_stand [] breaks.items items breaks.begins.texts stands.texts breaks.begins.records begins.records
              breaks.begins.behind begins.behind
              breaks.begins.are stands.are breaks.begins.are_records begins.are breaks.broken (omega (arith, few))
              (sym breaks.begins.is ∙ begins.is)
