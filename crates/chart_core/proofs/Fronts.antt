-- A front of a partial run is a partial run.
use Rattle.std.specs.Prelude.{◌≡◌, Bool, List, [], ◌∷◌, ◌++◌, map, ◌⊎◌, refl}
use Rattle.std.proofs.Common.{sym, ◌∙◌, ap, subst, inl, inr, append_assoc}
use Rattle.std.specs.List.{filter}
use Rattle.std.proofs.lemmas.List.{append-nil, map-append}
use Rattle.std.proofs.lemmas.List.Elements.{filter-append}
use Rattle.chart_core.specs.Courses.{Course, nothing, step, chain, beside, select, repeat, is_of, StepRun, Rounds, last, round, Closing, Complete, Partial}
use Rattle.chart_core.proofs.Cuts.{All_front}
use Rattle.chart_core.proofs.Link.{complete_partial}

module _ {E : Type 0} where
  -- which of two cuts is later
  pub cuts : (front back start rest : List E) → front ++ back ≡ start ++ rest
      → ((middle : List E) × (start ≡ front ++ middle))
      ⊎ ((middle : List E) × (front ≡ start ++ middle) × (rest ≡ middle ++ back))
  cuts [] back start rest same = inl (start, refl)
  cuts (first ∷ front) back [] rest same = inr (first ∷ front, refl, sym same)
  cuts (first ∷ front) back (head ∷ start) rest same =
      let tails : front ++ back ≡ start ++ rest = cc in
      let heads : first ≡ head = cc in
      elim (cuts front back start rest tails) [
        | inl (middle, fits) ↦ inl (middle, cc)
        | inr (middle, fits, behind) ↦ inr (middle, cc, behind)
      ]

-- the front of nothing is nothing
pub nil_front : {E : Type 0} (front back : List E) → front ++ back ≡ [] → front ≡ []
nil_front [] back none = refl
nil_front (first ∷ front) back none = cc

-- a front of a loop's rounds is rounds again
pub rounds_front :
    {E : Type 0} (Body : List E → Type 0) (turns leaves : E → Bool) (Part : List E → Type 0)
    → ((front back : List E) → Part (front ++ back) → Part front) → ((front : List E) → Body front → Part front)
    → (front back word : List E) → word ≡ front ++ back → Rounds Body turns
    (λ text. Part text ⊎ Closing Body leaves text) word
    → Rounds Body turns (λ text. Part text ⊎ Closing Body leaves text) front
rounds_front Body turns leaves Part fronts whole front back word same (last (inl part)) =
    last (inl (fronts front back (subst Part same part)))
rounds_front Body turns leaves Part fronts whole front back word same (last (inr (lap, entry, cut, run, rightly))) =
    elim (cuts front back lap (entry ∷ []) (sym same ∙ cut)) [
      | inl (middle, fits) ↦ last (inl (fronts front middle (subst Part fits (whole lap run))))
      | inr (middle, fits, ends) ↦
          (elim middle as (λ middle. front ≡ lap ++ middle → entry ∷ [] ≡ middle ++ back
          → Rounds Body turns (λ text. Part text ⊎ Closing Body leaves text) front) [
            | [] ↦ λ fits ends. last (inl (subst Part (sym (fits ∙ append-nil lap)) (whole lap run)))
            | (head ∷ tail) ↦ λ fits ends.
                let none : tail ≡ [] = nil_front tail back (sym (let empty : [] ≡ tail ++ back = cc in empty)) in
                let same : entry ≡ head = cc in
                last (inr (
                  lap,
                  head,
                  fits ∙ ap (λ behind. lap ++ (head ∷ behind)) none,
                  run,
                  ap leaves (sym same)
                      ∙ rightly,
                ))
          ]) fits ends
    ]
rounds_front Body turns leaves Part fronts whole front back word same (round lap entry rest cut run turned others) =
    elim (cuts front back lap (entry ∷ rest) (sym same ∙ cut)) [
      | inl (middle, fits) ↦ last (inl (fronts front middle (subst Part fits (whole lap run))))
      | inr (middle, fits, ends) ↦
          (elim middle as (λ middle. front ≡ lap ++ middle → entry ∷ rest ≡ middle ++ back
          → Rounds Body turns (λ text. Part text ⊎ Closing Body leaves text) front) [
            | [] ↦ λ fits ends. last (inl (subst Part (sym (fits ∙ append-nil lap)) (whole lap run)))
            | (head ∷ tail) ↦ λ fits ends.
                let same : entry ≡ head = cc in
                let remains : rest ≡ tail ++ back = cc in
                round lap head tail fits run (ap turns (sym same) ∙ turned)
                (rounds_front Body turns leaves Part fronts whole tail back rest remains others)
          ]) fits ends
    ]

-- a front of a part is a part
pub partial_front : {E : Type 0} (course : Course E) (front back : List E) → Partial course (front ++ back)
    → Partial course front
partial_front nothing front back part = nil_front front back part
partial_front (step number finishes stage) front back (others, run) = (
  map stage back ++ others,
  subst (StepRun finishes) (ap (λ stages. stages ++ others) (map-append stage front back)
      ∙ append_assoc (map stage front) (map stage back) others) run,
)
partial_front (chain a b) u v (inl h) = inl (partial_front a u v h)
partial_front (chain a b) u v (inr (x, y, q, h, k)) =
    elim (cuts u v x y q) [
      | inl (z, m) ↦ inl (partial_front a u z (subst (Partial a) m (complete_partial a x h)))
      | inr (z, m, l) ↦ inr (x, z, m, h, partial_front b z v (subst (Partial b) l k))
    ]
partial_front (beside a b) u v (l, x, y) = (
  All_front (is_of (beside a b)) u v l,
  partial_front a (filter (is_of a) u) (filter (is_of a) v) (subst (Partial a) (filter-append (is_of a) u v) x),
  partial_front b (filter (is_of b) u) (filter (is_of b) v) (subst (Partial b) (filter-append (is_of b) u v) y),
)
partial_front (select n count o c k) u v (inl h) = inl (nil_front u v h)
partial_front (select n count o c k) [] v (inr h) = inl refl
partial_front (select n count o c k) (x ∷ u) v (inr (a, e, w, q, l, m, h)) =
    let same : x ≡ e = cc in
    let rest : w ≡ u ++ v = cc in
    inr (a, e, u, ap (λ t. t ∷ u) same, l, m, partial_front (k a) u v (subst (Partial (k a)) rest h))
partial_front (repeat n after k o tu le) u v h =
    rounds_front (Complete k) tu le (Partial k) (λ u v h. partial_front k u v h) (λ u h. complete_partial k u h) u v
    (u ++ v) refl h
