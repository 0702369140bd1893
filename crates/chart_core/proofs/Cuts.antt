-- How words are cut.
use Rattle.std.specs.Prelude.{◌≡◌, Bool, true, List, [], ◌∷◌, ◌++◌, ◌⊎◌, refl}
use Rattle.std.proofs.Common.{sym, ◌∙◌, ap, subst, inl, inr, append_assoc}
use Rattle.std.proofs.lemmas.List.{append-nil}
use Rattle.chart_core.specs.Courses.{All}

module _ {E : Type 0} where
  -- what both parts have, the whole has
  pub All_append : (test : E → Bool) (front back : List E) → All test front → All test back → All test (front ++ back)
  All_append test [] back these those = those
  All_append test (first ∷ front) back (holds, these) those = (holds, All_append test front back these those)

  -- what a word has, its front has
  pub All_front : (test : E → Bool) (front back : List E) → All test (front ++ back) → All test front
  All_front test [] back holds = tt
  All_front test (first ∷ front) back (holds, others) = (holds, All_front test front back others)

  -- and its back has
  pub All_back : (test : E → Bool) (front back : List E) → All test (front ++ back) → All test back
  All_back test [] back holds = holds
  All_back test (first ∷ front) back (holds, others) = All_back test front back others

  -- a weaker test passes too
  pub All_mono : (test weaker : E → Bool) (word : List E) → ((entry : E) → test entry ≡ true → weaker entry ≡ true)
      → All test word → All weaker word
  All_mono test weaker [] weakens holds = tt
  All_mono test weaker (first ∷ word) weakens (holds, others) =
      (weakens first holds, All_mono test weaker word weakens others)

  -- a word is empty or has a last entry
  pub snoc_view : (word : List E) → (word ≡ []) ⊎ ((front : List E) × (entry : E) × (word ≡ front ++ (entry ∷ [])))
  snoc_view [] = inl refl
  snoc_view (first ∷ word) =
      elim (snoc_view word) [
        | inl same ↦ inr ([], first, ap (λ rest. first ∷ rest) same)
        | inr (front, entry, same) ↦ inr (first ∷ front, entry, ap (λ rest. first ∷ rest) same)
      ]

  -- a word with an entry is not empty
  pub snoc_not_nil : (front : List E) (entry : E) (back : List E) → [] ≡ front ++ (entry ∷ back) → ⊥
  snoc_not_nil [] entry back same = cc
  snoc_not_nil (first ∷ front) entry back same = cc

  -- words that are the same have the same last entry
  pub snoc_same : (front other : List E) (entry final : E) → front ++ (entry ∷ []) ≡ other ++ (final ∷ [])
      → (front ≡ other) × (entry ≡ final)
  snoc_same [] [] entry final same = (refl, cc)
  snoc_same [] (head ∷ other) entry final same = let tails : [] ≡ other ++ (final ∷ []) = cc in
      absurd (snoc_not_nil other final [] tails)
  snoc_same (first ∷ front) [] entry final same = let tails : [] ≡ front ++ (entry ∷ []) = cc in
      absurd (snoc_not_nil front entry [] tails)
  snoc_same (first ∷ front) (head ∷ other) entry final same =
      let tails : front ++ (entry ∷ []) ≡ other ++ (final ∷ []) = cc in
      let heads : first ≡ head = cc in
      let both : (front ≡ other) × (entry ≡ final) = snoc_same front other entry final tails in
      (let fronts : front ≡ other = both.0 in cc, both.1)

  -- a word that passes two tests that never both hold is empty
  pub none_both : (one other : E → Bool) (word : List E) → ((entry : E) → one entry ≡ true → other entry ≡ true → ⊥)
      → All one word → All other word → word ≡ []
  none_both one other [] apart here there = refl
  none_both one other (first ∷ word) apart (holds, here) (holds_too, there) = absurd (apart first holds holds_too)

  -- there is one cut between what passes one test and what passes the other
  pub cut_unique :
      (one other : E → Bool) (front back start rest : List E)
      → ((entry : E) → one entry ≡ true → other entry ≡ true → ⊥)
      → All one front → All other back → All one start → All other rest → front ++ back ≡ start ++ rest
      → (front ≡ start) × (back ≡ rest)
  cut_unique one other [] back [] rest apart in_front in_back in_start in_rest same = (refl, same)
  cut_unique one other [] back (head ∷ start) rest apart in_front in_back (here, in_start) in_rest same =
      let found : (other head ≡ true) × All other (start ++ rest) = subst (All other) same in_back in
      absurd (apart head here found.0)
  cut_unique one other (first ∷ front) back [] rest apart (here, in_front) in_back in_start in_rest same =
      let found : (other first ≡ true) × All other (front ++ back) = subst (All other) (sym same) in_rest in
      absurd (apart first here found.0)
  cut_unique one other (first ∷ front) back (head ∷ start) rest apart (here, in_front) in_back
      (there, in_start) in_rest same =
      let tails : front ++ back ≡ start ++ rest = cc in
      let heads : first ≡ head = cc in
      let found : (front ≡ start) × (back ≡ rest) =
      cut_unique one other front back start rest apart in_front in_back in_start in_rest tails in
      (let fronts : front ≡ start = found.0 in cc, found.1)

  -- the first entry outside
  pub turn_unique :
      (test : E → Bool) (front : List E) (entry : E) (back : List E) (start : List E) (other : E) (rest : List E)
      → All test front → All test start → (test entry ≡ true → ⊥) → (test other ≡ true → ⊥)
      → front ++ (entry ∷ back) ≡ start ++ (other ∷ rest)
      → (front ≡ start) × (entry ≡ other) × (back ≡ rest)
  turn_unique test [] entry back [] other rest in_front in_start outside beyond same = (refl, cc, cc)
  turn_unique test [] entry back (head ∷ start) other rest in_front (here, in_start) outside beyond same =
      let heads : entry ≡ head = cc in absurd (outside (ap test heads ∙ here))
  turn_unique test (first ∷ front) entry back [] other rest (here, in_front) in_start outside beyond same =
      let heads : other ≡ first = cc in absurd (beyond (ap test heads ∙ here))
  turn_unique test (first ∷ front) entry back (head ∷ start) other rest (here, in_front)
      (there, in_start) outside beyond same =
      let tails : front ++ (entry ∷ back) ≡ start ++ (other ∷ rest) = cc in
      let heads : first ≡ head = cc in
      let found : (front ≡ start) × (entry ≡ other) × (back ≡ rest) =
      turn_unique test front entry back start other rest in_front in_start outside beyond tails in
      (let fronts : front ≡ start = found.0 in cc, found.1, found.2)

  -- what comes last in a cut
  pub snoc_cut :
      (word : List E) (entry : E) (front back : List E) → word ++ (entry ∷ []) ≡ front ++ back
      → ((back ≡ []) × (word ++ (entry ∷ []) ≡ front)) ⊎
      ((middle : List E) × (back ≡ middle ++ (entry ∷ [])) × (word ≡ front ++ middle))
  snoc_cut word entry front back same =
      elim (snoc_view back) [
        | inl ends ↦ inl (ends, same ∙ ap (λ rest. front ++ rest) ends ∙ append-nil front)
        | inr (middle, final, ends) ↦
            let whole : word ++ (entry ∷ []) ≡ (front ++ middle) ++ (final ∷ []) =
            same ∙ ap (λ rest. front ++ rest) ends ∙ sym (append_assoc front middle (final ∷ [])) in
            let found : (word ≡ front ++ middle) × (entry ≡ final) =
            snoc_same word (front ++ middle) entry final whole in
            inr (middle, ends ∙ ap (λ rest. middle ++ (rest ∷ [])) (sym found.1), found.0)
      ]
