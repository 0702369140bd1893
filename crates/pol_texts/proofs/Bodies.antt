-- A body that is cut short is none.
use Rattle.std.proofs.Common.{◌≡◌, ⊎_elim, ℕ, ◌+◌, ◌-◌, ◌<◌, ◌≤◌, ◌^◌, nat_lt, List, [], ◌∷◌, ◌++◌, length, take, drop, get_or, refl, sym, ◌∙◌, ap, arith, append_assoc, length-append, length-drop, take-append-drop}
use Rattle.std.specs.Bool.{Decides}
use Rattle.std.specs.Int.{w64, to_be_bytes, from_be_bytes}
use Rattle.std.proofs.lemmas.Bool.{cases_lt, lt-ltb, ltb-true}
use Rattle.std.proofs.lemmas.List.{length-take, length-take-le, get_or-take, get_or_past, take-take}
use Rattle.std.proofs.lemmas.Nat.{be_bytes_8, from_be_bytes-to_be_bytes_8}
use Rattle.pol_texts.specs.Finds.{IsFound}
use Rattle.pol_texts.specs.Stands.{IsBody, BeginsWith}
use Rattle.pol_texts.specs.declared.finding.Found.TheVariants.{Neither}

-- the first bytes of some bytes are bytes
pub bytes_of_front : (body size : List ℕ) → ((i : ℕ) → get_or body i 0 < 256) → size ≡ take 8 body → (i : ℕ) →
    get_or size i 0 < 256
bytes_of_front body size bytes front i = ⊎_elim
    (λ lt. rw (front, get_or-take 8 body i 0 lt) (bytes i))
    (λ past. rw (front, get_or_past (take 8 body) i 0 (omega (arith, length-take 8 body, past))) (omega arith))
    (cases_lt i 8)

-- the eight bytes and as many bytes as they say
pub body_is : (body size rest : List ℕ) (n : ℕ) → size ≡ take 8 body → rest ≡ drop 8 body → length size ≡ 8 →
    ((i : ℕ) → get_or size i 0 < 256) → n ≡ from_be_bytes w64 size → n ≤ length rest → n < 2 ^ 64
    → IsBody (take n rest) body (drop n rest)
body_is body size rest n front back eight bytes number enough small =
    let long : length (take n rest) ≡ n = length-take-le n rest enough in
    let written : to_be_bytes w64 (length (take n rest)) ≡ size = ap (λ (k : ℕ). to_be_bytes w64 k) long
    ∙ be_bytes_8 size n eight bytes number in (
      omega (arith, long, small),
      sym (take-append-drop 8 body) ∙ ap (λ (l : List ℕ). l ++ drop 8 body) (sym front)
          ∙ ap (λ (l : List ℕ). size ++ l) (sym back ∙ sym (take-append-drop n rest))
          ∙ sym (append_assoc size (take n rest) (drop n rest))
          ∙ ap (λ (l : List ℕ). (l ++ take n rest) ++ drop n rest) (sym written),
    )

-- where fewer bytes are left behind the length than it says, no body of a text begins
pub none_cut : (text body behind size rest : List ℕ) (n : ℕ) → size ≡ take 8 body → rest ≡ drop 8 body →
    n ≡ from_be_bytes w64 size → length rest < n → IsBody text body behind → ⊥
none_cut text body behind size rest n front back number cut is =
    let told : size ≡ to_be_bytes w64 (length text) = front ∙ ap (λ (l : List ℕ). take 8 l) is.1 in
    let same : n ≡ length text = number ∙ ap (λ (l : List ℕ). from_be_bytes w64 l) told
    ∙ from_be_bytes-to_be_bytes_8 (length text) is.0 in
    let whole : rest ≡ text ++ behind = back ∙ ap (λ (l : List ℕ). drop 8 l) is.1 in
    omega (arith, cut, same, ap length whole, length-append text behind)

-- a record is an open gate and a body
pub record_body : (text bytes behind body : List ℕ) (gate : ℕ) → bytes ≡ gate ∷ body → BeginsWith text bytes behind →
    IsBody text body behind
record_body text bytes behind body gate is begins = (begins.counted, ap (λ (l : List ℕ). drop 1 l) (sym is ∙ begins.is))

-- eight bytes behind an open gate tell whether a record is cut short: where they say more bytes than stand behind them
pub cut_tells : (image body size : List ℕ) (gate n number : ℕ) → (gate ≡ 0 → ⊥) → gate ∷ body ≡ take 9 image →
    size ≡ take 8 body → length size ≡ 8 → ((i : ℕ) → get_or size i 0 < 256) → n ≡ from_be_bytes w64 size →
    n < 2 ^ 64 → number ≡ length image → Decides (nat_lt (number - 9) n) (IsFound image Neither)
cut_tells [] body size gate n number open_gate front size_is eight bytes told small many =
    absurd (omega (arith, ap length front))
cut_tells (x ∷ xs) body size gate n number open_gate front size_is eight bytes told small many =
    let gate_is : gate ≡ x = ap (λ (l : List ℕ). get_or l 0 0) front in
    let open_front : x ≡ 0 → ⊥ = λ closed. open_gate (gate_is ∙ closed) in
    let eight_are : size ≡ take 8 xs = size_is ∙ ap (λ (l : List ℕ). take 8 (drop 1 l)) front
    ∙ take-take 8 8 xs (omega arith) in
    let left : length (drop 8 xs) ≡ number - 9 = omega (arith, many, length-drop 8 xs) in (
      λ cut. (
        λ behind closed. open_front (ap (λ (l : List ℕ). get_or l 0 0) closed),
        λ text behind begins. none_cut text xs behind size (drop 8 xs) n eight_are refl told
            (omega (arith, left, ltb-true (number - 9) n cut)) (record_body text (x ∷ xs) behind xs x refl begins),
      ),
      λ neither. ⊎_elim (λ cut. lt-ltb (number - 9) n cut)
          (λ enough.
          let body_at = body_is xs size (drop 8 xs) n eight_are refl eight bytes told (omega (arith, left, enough))
          small in
          absurd (neither.1 (take n (drop 8 xs)) (drop n (drop 8 xs)) record {
            gate = x;
            open_gate = open_front;
            counted = body_at.0;
            is = ap (λ (l : List ℕ). x ∷ l) body_at.1;
          }))
          (cases_lt (number - 9) n),
    )
