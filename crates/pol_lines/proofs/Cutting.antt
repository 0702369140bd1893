-- Pieces at the front of a text.
use Rattle.std.proofs.Common.{◌≡◌, ℕ, ◌≤◌, ◌-◌, List, ◌++◌, length, take, drop, true, sym, ap, ◌∙◌, arith, length-drop}
use Rattle.std.proofs.Common.{length-append, subst}
use Rattle.std.proofs.lemmas.List.{take-append-drop, take_all}
use Rattle.std.proofs.lemmas.Slice.Eq.{bytes_eq-Decides}
use Rattle.std.specs.Str.{bytes_eq}
use Rattle.std.proofs.Math.Seq.{drop-append_seam}
use Rattle.json.specs.Print.{print}
use Rattle.json.specs.Tree.{json_tokens}
use Rattle.serde_json.specs.Data.{Data}
use Rattle.mtp_json.specs.ReadResult.{ReadResult}
use Rattle.pol_lines.specs.Begins.{Reads, last_of}

-- a text is its front and the rest
pub front_and_rest : (text piece : List ℕ) → length piece ≤ length text
    → bytes_eq (take (length piece) text) piece ≡ true
    → text ≡ piece ++ take (length text - length piece) (drop (length piece) text)
front_and_rest text piece shorter same =
    let front : take (length piece) text ≡ piece = grind (
      arith,
      bytes_eq-Decides
          (take (length piece) text) piece,
      same,
    ) in
    let rest : take (length text - length piece) (drop (length piece) text) ≡ drop (length piece) text =
    take_all _ _ (omega (arith, length-drop (length piece) text)) in
    rw rest (sym (take-append-drop (length piece) text) ∙ ap (λ s. s ++ drop (length piece) text) front)

-- what a text has from a place on is all that is left of it there
pub last_cut : (text : List ℕ) (place : ℕ) → take (length text - place) (drop place text) ≡ drop place text
last_cut text place = take_all _ _ (omega (arith, length-drop place text))

-- what comes behind a front is the last of the text
pub last_behind : (text front rest : List ℕ) → text ≡ front ++ rest → last_of (length rest) text ≡ rest
last_behind text front rest is =
    let place : length text - length rest ≡ length front = omega (arith, ap length is, length-append front rest) in
    rw (place, is) (drop-append_seam front rest)

-- what was read is read up to the last bytes
pub reads_last : {A : Type 0} (form : Data → ReadResult A) (deep : ℕ) (text : List ℕ) (found : A) (rest : List ℕ)
    → Reads form deep text found rest → Reads form deep text found (last_of (length rest) text)
reads_last form deep text found rest reads =
    subst (λ s. Reads form deep text found s)
    (sym (last_behind text (print (json_tokens reads.begins.tree)) rest reads.begins.piece)) reads
