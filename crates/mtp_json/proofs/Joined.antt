-- The text of a path, part by part.
use Rattle.std.proofs.Common.{◌≡◌, ℕ, suc, ◌+◌, ◌<◌, false, List, [], ◌∷◌, ◌++◌, length, get_or, take, map, refl, sym, ap, ◌∙◌, arith, append_assoc, eqb}
use Rattle.std.specs.List.{join_with_byte}
use Rattle.std.proofs.Math.Seq.{take-suc}
use Rattle.std.proofs.lemmas.List.{length-take, map_push}
use Rattle.std.proofs.lemmas.Bool.{ne_eqb}
use Rattle.mtp_json.specs.declared.path.PathPart.{PathPart}
use Rattle.mtp_json.specs.PathText.{part_text, path_text, with_dot}

-- one part more stands behind a separator
join_push : (byte : ℕ) (x : List ℕ) (xs : List (List ℕ)) (last : List ℕ)
    → join_with_byte byte ((x ∷ xs) ++ last ∷ []) ≡ (join_with_byte byte (x ∷ xs) ++ byte ∷ []) ++ last
join_push byte x [] last = sym (append_assoc x (byte ∷ []) last)
join_push byte x (y ∷ xs) last = ap (λ rest. x ++ (byte ∷ rest)) (join_push byte y xs last) ∙ simp append_assoc

-- the parts up to the next one
take_next : (parts : List PathPart) (i : ℕ) (part : PathPart) → i < length parts → part ≡ get_or parts i part
    → take (i + 1) parts ≡ take i parts ++ part ∷ []
take_next parts i part inside is = let next : i + 1 ≡ suc i = omega arith in ap (λ k. take k parts) next
    ∙ (take-suc parts i part inside ∙ ap (λ q. take i parts ++ q ∷ []) (sym is))

-- the text of a path with one part more
path_text_push : (parts : List PathPart) (part : PathPart) (i : ℕ) → length parts ≡ i
    → path_text (parts ++ part ∷ []) ≡ with_dot i (path_text parts) ++ part_text part
path_text_push [] part i len = rw (sym len) refl
path_text_push (x ∷ parts) part i len =
    let e : eqb i 0 ≡ false = ne_eqb i 0 (omega arith) in
    rw (map_push part_text parts part, e) (join_push 46 (part_text x) (map part_text parts) (part_text part))

-- one more part of a path was written
pub text_next : (parts : List PathPart) (i : ℕ) (part : PathPart) (old new : List ℕ) → i < length parts
    → part ≡ get_or parts i part → new ≡ with_dot i old ++ part_text part → old ≡ path_text (take i parts)
    → new ≡ path_text (take (i + 1) parts)
text_next parts i part old new inside is wrote so_far =
    rw (
      take_next parts i part inside is,
      path_text_push (take i parts) part i
          (omega (arith, length-take i parts)),
      ← so_far,
    ) wrote
