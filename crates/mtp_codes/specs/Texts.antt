-- Short texts: at most 254 bytes of UTF-8.
use Rattle.std.specs.Prelude.{ℕ, List, length, Bool, nat_le, take, IsTrue}
use Rattle.std.specs.Str.{is_utf8}
use Rattle.mtp_codes.specs.Padded.{IsPadded}

-- a text of these bytes is short
abbrev pub is_short : List ℕ → Bool
is_short text = nat_le (length text) 254

-- how a short text is kept: its bytes, then zeros up to 254
pub record IsKeptText (bytes : List ℕ) (len : ℕ) : Type 0 where
  pub padding : IsPadded 254 bytes len
  pub form : IsTrue (is_utf8 (take len bytes))
