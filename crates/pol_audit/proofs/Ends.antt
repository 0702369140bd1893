-- A line with its line feed.
use Rattle.std.proofs.Common.{◌≡◌, [], ◌∷◌, ◌++◌, ℕ, List, Bool, true, false, refl, sym, ap, ◌∙◌}
use Rattle.std.proofs.Math.Bool.{and-false}
use Rattle.std.specs.Prelude.{◌&&◌, nat_eq}
use Rattle.std.specs.Str.{bytes_eq}

-- what is asked between two others may be asked before them
asked_first : (one two three : Bool) → (one && (two && three)) ≡ (two && (one && three))
asked_first true true three = refl
asked_first true false three = refl
asked_first false true three = refl
asked_first false false three = refl

-- a text and a last byte are some bytes and a line feed, where the last byte is the line feed and the text the bytes
pub ends_line : (text bytes : List ℕ) (last : ℕ) →
    bytes_eq (text ++ last ∷ []) (bytes ++ 10 ∷ []) ≡ (nat_eq last 10 && bytes_eq text bytes)
ends_line [] [] last = refl
ends_line [] (byte ∷ []) last = and-false (nat_eq last byte) ∙ sym (and-false (nat_eq last 10))
ends_line [] (byte ∷ next ∷ bytes) last = and-false (nat_eq last byte) ∙ sym (and-false (nat_eq last 10))
ends_line (byte ∷ []) [] last = and-false (nat_eq byte 10) ∙ sym (and-false (nat_eq last 10))
ends_line (byte ∷ next ∷ text) [] last = and-false (nat_eq byte 10) ∙ sym (and-false (nat_eq last 10))
ends_line (byte ∷ text) (other ∷ bytes) last =
    ap (λ rest. nat_eq byte other && rest) (ends_line text bytes last)
    ∙ asked_first (nat_eq byte other) (nat_eq last 10) (bytes_eq text bytes)
