-- Facts about bytes that are known before a call and after it.
use Rattle.std.specs.Prelude.{ℕ, ◌≡◌, ◌+◌, List, length, Bool, true, false, Option, None, Some, ⊤}
use Rattle.std.specs.Io.KnownBytes.{prepend_known}

-- P holds of the bytes known before and those known after; where none were known before, nothing is said
abbrev pub Between : (List ℕ → List ℕ → Type 0) → Option (List ℕ) → Option (List ℕ) → Type 0
Between P None new = ⊤
Between P (Some old) None = ⊥
Between P (Some old) (Some new) = P old new

-- no byte is lost: those taken and those left are together as many as before
abbrev pub Counts : ℕ → ℕ → List ℕ → List ℕ → Type 0
Counts taken taken' left left' = length left + taken ≡ length left' + taken'

-- the bytes that wait, followed by those left; at the end of input those that wait alone
abbrev pub joined : Bool → List ℕ → Option (List ℕ) → Option (List ℕ)
joined true waiting left = Some waiting
joined false waiting left = prepend_known waiting left
