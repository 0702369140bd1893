-- What a status tells on standard error is text.
use Rattle.std.proofs.Common.{ℕ, ◌≡◌, List, ◌++◌, subst, sym}
use Rattle.std.proofs.lemmas.Str.{IsUtf8-append}
use Rattle.std.specs.Str.{IsUtf8}

-- text behind text is text
pub utf8_after : (old text new : List ℕ) → new ≡ old ++ text → IsUtf8 old → IsUtf8 text → IsUtf8 new
utf8_after old text new is one other = subst IsUtf8 (sym is) (IsUtf8-append old text one other)
