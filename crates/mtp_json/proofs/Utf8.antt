-- Whether bytes are UTF-8, as a fact and as a test.
use Rattle.std.proofs.Common.{◌≡◌, ◌++◌, ℕ, Bool, true, false, List, refl}
use Rattle.std.specs.Prelude.{Result, Ok, Err, OnOk, is_ok, if◌then◌else◌, ⊤}
use Rattle.std.specs.Str.{IsUtf8, is_utf8}
use Rattle.std.proofs.lemmas.Str.{IsUtf8-append, IsUtf8-from_is_utf8, is_utf8-from_IsUtf8}

-- bytes that are text pass the test
pub utf8_is : (bytes : List ℕ) → IsUtf8 bytes → is_utf8 bytes ≡ true
utf8_is bytes fact = is_utf8-from_IsUtf8 bytes fact

-- what is no text doesn't
by_test : (bytes : List ℕ) (test : Bool) → is_utf8 bytes ≡ test → (IsUtf8 bytes → ⊥) → test ≡ false
by_test bytes true e refuted = absurd (refuted (IsUtf8-from_is_utf8 bytes e))
by_test bytes false e refuted = refl

-- so the test is false of it
pub not_utf8_is : (bytes : List ℕ) → (IsUtf8 bytes → ⊥) → is_utf8 bytes ≡ false
not_utf8_is bytes refuted = by_test bytes (is_utf8 bytes) refl refuted

-- where text was put behind text, there is text
pub still_utf8 : {E : Type 0} (result : Result ⊤ E) (old more new : List ℕ)
    → new ≡ (if is_ok result then old ++ more else old) → IsUtf8 more → OnOk result (IsUtf8 old → IsUtf8 new)
still_utf8 (Ok unit) old more new is text = λ so_far. rw is (IsUtf8-append old more so_far text)
still_utf8 (Err error) old more new is text = tt
