-- One text more in a group that waits to be written.
use Rattle.std.proofs.Common.{◌≡◌, ℕ, ◌-◌, ◌<◌, ◌^◌, List, [], ◌∷◌, ◌++◌, length, set, sym, ◌∙◌, ap, arith, append_assoc, length-append}
use Rattle.std.proofs.lemmas.List.{append-nil}
use Rattle.std.proofs.Math.Seq.{set-append_seam}
use Rattle.pol_texts.specs.Stands.{body_of}
use Rattle.pol_texts.specs.Settled.{AreCounted, IsStaged, behind_gate, group_body, opened_records}

-- records behind gates of 1, and one more
opened-push : (texts : List (List ℕ)) (text : List ℕ) →
    opened_records (texts ++ text ∷ []) ≡ opened_records texts ++ 1 ∷ body_of text
opened-push [] text = ap (λ (l : List ℕ). 1 ∷ l) (append-nil (body_of text))
opened-push (t ∷ ts) text =
    ap (λ (l : List ℕ). 1 ∷ (body_of t ++ l)) (opened-push ts text)
    ∙ ap (λ (l : List ℕ). 1 ∷ l) (sym (append_assoc (body_of t) (opened_records ts) (1 ∷ body_of text)))

-- their lengths fit
counted-push : (texts : List (List ℕ)) (text : List ℕ) → AreCounted texts → length text < 2 ^ 64 →
    AreCounted (texts ++ text ∷ [])
counted-push [] text counted one = (one, tt)
counted-push (t ∷ ts) text counted one = (counted.0, counted-push ts text counted.1 one)

-- one more behind others
pub staged_more : (texts : List (List ℕ)) (text old behind : List ℕ) (size : ℕ) → IsStaged texts old →
    size ≡ length old → 0 < size → behind ≡ behind_gate text → length text < 2 ^ 64 →
    IsStaged (texts ++ text ∷ []) (set (old ++ behind) (size - 1) 1)
staged_more [] text old behind size staged long some is counted = absurd (omega (arith, long, some, ap length staged))
staged_more (t ∷ ts) text old behind size staged long some is counted =
    let body = group_body (t ∷ ts) in
    let seam : size - 1 ≡ length body = omega (arith, long, ap length staged.is, length-append body (0 ∷ [])) in
    let whole : old ++ behind ≡ body ++ 0 ∷ behind = ap (λ (l : List ℕ). l ++ behind) staged.is
    ∙ append_assoc body (0 ∷ []) behind in
    let grown : group_body (t ∷ (ts ++ text ∷ [])) ++ 0 ∷ [] ≡ body ++ 1 ∷ (body_of text ++ 0 ∷ []) =
    ap (λ (l : List ℕ). (body_of t ++ l) ++ 0 ∷ []) (opened-push ts text)
    ∙ ap (λ (l : List ℕ). l ++ 0 ∷ []) (sym (append_assoc (body_of t) (opened_records ts) (1 ∷ body_of text)))
    ∙ append_assoc body (1 ∷ body_of text) (0 ∷ []) in
    record {
      some = omega arith;
      counted = (staged.counted.0, counted-push ts text staged.counted.1 counted);
      is =
          ap (λ (l : List ℕ). set l (size - 1) 1) whole
          ∙ ap (λ (i : ℕ). set (body ++ 0 ∷ behind) i 1) seam
          ∙ set-append_seam body 0 behind 1
          ∙ ap (λ (l : List ℕ). body ++ 1 ∷ l) is
          ∙ sym grown;
    }
