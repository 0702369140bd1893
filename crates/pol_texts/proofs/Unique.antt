-- An image stands for one list of texts.
use Rattle.std.proofs.Common.{◌≡◌, inl, inr, ℕ, ◌<◌, ◌≤◌, ◌^◌, List, [], ◌∷◌, ◌++◌, length, take, drop, get_or, refl, sym, ◌∙◌, ap, subst, arith, append_assoc, length-append}
use Rattle.std.specs.Int.{w64, to_be_bytes, from_be_bytes}
use Rattle.std.proofs.lemmas.Nat.{from_be_bytes-to_be_bytes_8}
use Rattle.std.proofs.Math.Seq.{take-append_seam, drop-append_seam}
use Rattle.pol_texts.specs.Stands.{body_of, BeginsWith, AreRecords, Begins, Stands}

-- eight bytes tell one length
same_length : (m n : ℕ) → m < 2 ^ 64 → n < 2 ^ 64 → to_be_bytes w64 m ≡ to_be_bytes w64 n → m ≡ n
same_length m n small small' same =
    sym (from_be_bytes-to_be_bytes_8 m small) ∙ ap (λ (l : List ℕ). from_be_bytes w64 l) same
    ∙ from_be_bytes-to_be_bytes_8 n small'

-- what begins with two bodies begins with one
pub same_body : (text text' behind behind' : List ℕ) → length text < 2 ^ 64 → length text' < 2 ^ 64 →
    body_of text ++ behind ≡ body_of text' ++ behind' → (text ≡ text') × (behind ≡ behind')
same_body text text' behind behind' small small' same =
    let lengths : to_be_bytes w64 (length text) ≡ to_be_bytes w64 (length text') = ap (λ (l : List ℕ). take 8 l) same in
    let long : length text ≡ length text' = same_length (length text) (length text') small small' lengths in
    let rest : text ++ behind ≡ text' ++ behind' = ap (λ (l : List ℕ). drop 8 l) same in (
      sym (take-append_seam text behind) ∙ ap (λ (l : List ℕ). take (length text) l) rest
          ∙ ap (λ (n : ℕ). take n (text' ++ behind')) long ∙ take-append_seam text' behind',
      sym (drop-append_seam text behind) ∙ ap (λ (l : List ℕ). drop (length text) l) rest
          ∙ ap (λ (n : ℕ). drop n (text' ++ behind')) long ∙ drop-append_seam text' behind',
    )

-- a record is no closed gate
pub not_closed : (text bytes behind rest : List ℕ) → BeginsWith text bytes behind → bytes ≡ 0 ∷ rest → ⊥
not_closed text bytes behind rest record_is closed =
    record_is.open_gate (sym (ap (λ (l : List ℕ). get_or l 0 0) record_is.is)
    ∙ ap (λ (l : List ℕ). get_or l 0 0) closed)

-- bytes that begin with two records begin with one
pub same_record : (text text' bytes behind behind' : List ℕ) → BeginsWith text bytes behind →
    BeginsWith text' bytes behind' → (text ≡ text') × (behind ≡ behind')
same_record text text' bytes behind behind' one other =
    same_body text text' behind behind' one.counted other.counted (ap (λ (l : List ℕ). drop 1 l) (sym one.is
    ∙ other.is))

-- a record with more behind it
pub longer : (text bytes behind more : List ℕ) → BeginsWith text bytes behind →
    BeginsWith text (bytes ++ more) (behind ++ more)
longer text bytes behind more begins = record {
  gate = begins.gate;
  open_gate = begins.open_gate;
  counted = begins.counted;
  is =
      ap (λ (l : List ℕ). l ++ more) begins.is
      ∙ ap (λ (l : List ℕ). begins.gate ∷ l) (append_assoc (body_of text) behind more);
}

-- records with a closed gate behind them are those of one list of texts
pub same_texts : (bytes bytes' : List ℕ) (texts texts' : List (List ℕ)) (rest rest' : List ℕ) → AreRecords bytes texts →
    AreRecords bytes' texts' → bytes ++ 0 ∷ rest ≡ bytes' ++ 0 ∷ rest' → texts ≡ texts'
same_texts bytes bytes' [] [] rest rest' none none' same = refl
same_texts bytes bytes' [] (text' ∷ texts') rest rest' none are' same =
    absurd (not_closed text' (bytes' ++ 0 ∷ rest') (are'.0
    ++ 0 ∷ rest') rest (longer text' bytes' are'.0 (0 ∷ rest') are'.1) (sym same
    ∙ ap (λ (l : List ℕ). l ++ 0 ∷ rest) none))
same_texts bytes bytes' (text ∷ texts) [] rest rest' are none' same =
    absurd (not_closed text (bytes ++ 0 ∷ rest) (are.0
    ++ 0 ∷ rest) rest' (longer text bytes are.0 (0 ∷ rest) are.1) (same ∙ ap (λ (l : List ℕ). l ++ 0 ∷ rest') none'))
same_texts bytes bytes' (text ∷ texts) (text' ∷ texts') rest rest' are are' same =
    let one = longer text bytes are.0 (0 ∷ rest) are.1 in
    let other = longer text' bytes' are'.0 (0 ∷ rest') are'.1 in
    let both = same_record text text' (bytes ++ 0 ∷ rest) (are.0 ++ 0 ∷ rest) (are'.0 ++ 0 ∷ rest') one
    (subst (λ (l : List ℕ). BeginsWith text' l (are'.0 ++ 0 ∷ rest')) (sym same) other) in
    ap (λ (t : List ℕ). t ∷ texts) both.0
    ∙ ap (λ (ts : List (List ℕ)). text' ∷ ts) (same_texts are.0 are'.0 texts texts' rest rest' are.2 are'.2 both.1)

-- a record has bytes
record_long : (text bytes behind : List ℕ) → BeginsWith text bytes behind → 0 < length bytes
record_long text bytes behind begins = omega (arith, ap length begins.is)

-- an image of at most one byte begins with no record
short_none : (image : List ℕ) (texts : List (List ℕ)) → length image ≤ 1 → Begins image texts → texts ≡ []
short_none image [] short begins = refl
short_none image (text ∷ texts) short begins =
    absurd (omega (
      arith,
      short,
      ap length begins.is,
      length-append begins.records
          (0 ∷ begins.behind),
      record_long text begins.records begins.are.0 begins.are.1,
    ))

-- an image stands for at most one list of texts
pub one_list : (image : List ℕ) (texts texts' : List (List ℕ)) → Stands image texts → Stands image texts' →
    texts ≡ texts'
one_list image texts texts' (inl short) (inl short') = short.1 ∙ sym short'.1
one_list image texts texts' (inl short) (inr begins) = short.1 ∙ sym (short_none image texts' short.0 begins)
one_list image texts texts' (inr begins) (inl short) = short_none image texts short.0 begins ∙ sym short.1
one_list image texts texts' (inr begins) (inr begins') =
    same_texts begins.records begins'.records texts texts' begins.behind begins'.behind begins.are begins'.are
    (sym begins.is ∙ begins'.is)
