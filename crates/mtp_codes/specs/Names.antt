-- Names: 1 to 32 bytes, each an ASCII letter, a digit, `_`, `-` or `.`.
use Rattle.std.specs.Prelude.{ℕ, List, length, Bool, ◌&&◌, ◌||◌, ◌==◌, nat_le, take, IsTrue}
use Rattle.std.specs.List.{list_all, list_any}
use Rattle.std.specs.Str.{bytes_eq}
use Rattle.mtp_codes.specs.Padded.{IsPadded}

-- the byte is an ASCII letter
abbrev pub is_letter : ℕ → Bool
is_letter byte = (nat_le 65 byte && nat_le byte 90) || (nat_le 97 byte && nat_le byte 122)

-- the byte is an ASCII digit
abbrev pub is_digit : ℕ → Bool
is_digit byte = nat_le 48 byte && nat_le byte 57

-- the byte may occur in a name: a letter, a digit, `_`, `-` or `.`
abbrev pub is_name_byte : ℕ → Bool
is_name_byte byte = is_letter byte || (is_digit byte || (byte == 95 || (byte == 45 || byte == 46)))

-- the bytes are a name
abbrev pub is_name : List ℕ → Bool
is_name bytes = (nat_le 1 (length bytes) && nat_le (length bytes) 32) && list_all is_name_byte bytes

-- the two names are the same
abbrev pub same_name : List ℕ → List ℕ → Bool
same_name = bytes_eq

-- the name is one of a list of names
abbrev pub is_among : List (List ℕ) → List ℕ → Bool
is_among names name = list_any (λ each. same_name each name) names

-- how a name is kept: its bytes, then zeros up to 32
pub record IsKeptName (bytes : List ℕ) (len : ℕ) : Type 0 where
  pub padding : IsPadded 32 bytes len
  pub form : IsTrue (is_name (take len bytes))
