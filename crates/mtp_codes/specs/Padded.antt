-- Bytes that are kept inline, with zeros behind them.
use Rattle.std.specs.Prelude.{ℕ, List, length, ◌≡◌, ◌≤◌, ◌-◌, ◌++◌, take, drop, replicate}
use Rattle.std.proofs.Common.{take-append-drop, arith}
use Rattle.std.proofs.lemmas.List.{length-take-le}

-- the first `len` bytes of this room are in use, and the others are zero
pub record IsPadded (room : ℕ) (bytes : List ℕ) (len : ℕ) : Type 0 where
  pub whole : length bytes ≡ room
  pub fits : len ≤ room
  pub zeros : drop len bytes ≡ replicate (room - len) 0

-- these bytes with zeros behind them, up to the room
abbrev pub padded : ℕ → List ℕ → List ℕ
padded room used = used ++ replicate (room - length used) 0

-- as many bytes are in use as the length says
pub length-used : (room : ℕ) (bytes : List ℕ) (len : ℕ) → IsPadded room bytes len → length (take len bytes) ≡ len
length-used room bytes len kept = let inside : len ≤ length bytes = omega arith in length-take-le len bytes inside

-- the bytes in use, with zeros behind them, are all the bytes
pub padded-used : (room : ℕ) (bytes : List ℕ) (len : ℕ) → IsPadded room bytes len → padded room (take len bytes) ≡ bytes
padded-used room bytes len kept = rw (length-used room bytes len kept, ← kept.zeros, take-append-drop len bytes)
