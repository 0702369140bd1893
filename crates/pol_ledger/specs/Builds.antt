-- Which texts name a build of the program: 1 to 96 bytes, each printable ASCII.
use Rattle.std.specs.Prelude.{ℕ, List, length, Bool, ◌&&◌, codes, nat_le, take, IsTrue}
use Rattle.std.specs.List.{list_all}
use Rattle.mtp_codes.specs.Padded.{IsPadded}

-- the byte is a printable one of ASCII, or a space
abbrev pub is_printable : ℕ → Bool
is_printable byte = nat_le 32 byte && nat_le byte 126

-- the bytes name a build
abbrev pub is_build : List ℕ → Bool
is_build bytes = (nat_le 1 (length bytes) && nat_le (length bytes) 96) && list_all is_printable bytes

-- how the name of a build is kept: its bytes, then zeros up to 96
pub record IsKeptBuild (bytes : List ℕ) (len : ℕ) : Type 0 where
  pub padding : IsPadded 96 bytes len
  pub form : IsTrue (is_build (take len bytes))

-- what names this build of the program
abbrev pub this_build : List ℕ
this_build = codes "pol 1.0.0"
