use Rattle.std.proofs.Common.{◌≡◌, ◌<◌, ◌∷◌, ◌^◌, ℕ, suc, List, length, get_or, sym, ◌∙◌, subst, arith, rules}
use Rattle.pol_texts.proofs.Bodies.{bytes_of_front, cut_tells}
use Rattle.pol_texts.proofs.peeking.is_cut_short.Goals as goal

pub returns-in-Some-split_first_chunk : goal.returns-in-Some-split_first_chunk
returns-in-Some-split_first_chunk c = λ image front many.
    let gate : ℕ = c.in-Some.gate.now in
    let body : List ℕ = c.in-Some.body.now in
    let size : List ℕ = c.in-Some-split_first_chunk.text_size.now in
    let number : ℕ = c.from_be_bytes.result in
    let whole : c.args.front.now ≡ gate ∷ body = search rules in
    let eight : length size ≡ 8 = search rules in
    let open_gate : gate ≡ 0 → ⊥ = λ closed. search rules in
    let is_front = c.in-Some-split_first_chunk.ensures.cases.0 in
    let of_body : (i : ℕ) → get_or body i 0 < 256 = λ i.
    subst (λ (l : List ℕ). get_or l (suc i) 0 < 256) whole (omega (arith, c.type_inv.front (suc i))) in
    let small : number < 2 ^ 64 = search rules in
    rw c.saturating_sub.ensures
    (cut_tells image body size gate number c.args.size open_gate (sym whole ∙ front) is_front eight
    (bytes_of_front body size of_body is_front) c.from_be_bytes.ensures small many)
