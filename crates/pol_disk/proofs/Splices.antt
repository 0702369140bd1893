-- Bytes with a piece written over them from a place on.
use Rattle.std.proofs.Common.{◌≡◌, ℕ, ◌+◌, ◌-◌, ◌<◌, ◌≤◌, max, List, ◌++◌, length, take, drop, get_or, refl, ◌∙◌, ap, arith, append_assoc, length-append, length-drop}
use Rattle.std.proofs.lemmas.List.{take_at, drop_at, get_or-take, get_or-drop, get_or-append_right, length-take-le}
use Rattle.std.proofs.Math.ListN.{get_or-append}
use Rattle.pol_disk.specs.Disks.{Torn, spliced}

module _ (at : ℕ) (piece bytes : List ℕ) (le : at ≤ length bytes) where
  -- how many bytes stand before the piece
  front_len : length (take at bytes) ≡ at
  front_len = length-take-le at bytes le

  -- and to its end
  head_len : length (take at bytes ++ piece) ≡ at + length piece
  head_len = omega (arith, front_len, length-append (take at bytes) piece)

  -- the piece and all behind it stand behind the front
  from_front : spliced at piece bytes ≡ take at bytes ++ (piece ++ drop (at + length piece) bytes)
  from_front = append_assoc (take at bytes) piece (drop (at + length piece) bytes)

  -- the bytes get longer where the piece reaches past their end
  pub length-spliced : length (spliced at piece bytes) ≡ max (length bytes) (at + length piece)
  length-spliced =
      omega (
        arith,
        head_len,
        length-append (take at bytes
            ++ piece) (drop (at + length piece) bytes),
        length-drop (at + length piece) bytes,
        le,
      )

  -- those before the piece are as before
  pub take-spliced : take at (spliced at piece bytes) ≡ take at bytes
  take-spliced =
      ap (λ (l : List ℕ). take at l) from_front
      ∙ take_at (take at bytes) (piece ++ drop (at + length piece) bytes) at front_len

  -- so are those behind it
  pub drop-spliced : drop (at + length piece) (spliced at piece bytes) ≡ drop (at + length piece) bytes
  drop-spliced = drop_at (take at bytes ++ piece) (drop (at + length piece) bytes) (at + length piece) head_len

  -- so is each of those before
  pub get-before : (place : ℕ) → place < at → get_or (spliced at piece bytes) place 0 ≡ get_or bytes place 0
  get-before place lt =
      ap (λ (l : List ℕ). get_or l place 0) from_front
      ∙ get_or-append (take at bytes) (piece ++ drop (at + length piece) bytes) 0 place (omega (arith, lt, front_len))
      ∙ get_or-take at bytes place 0 lt

  -- and each of those behind
  pub get-behind : (place : ℕ) → at + length piece ≤ place →
      get_or (spliced at piece bytes) place 0 ≡ get_or bytes place 0
  get-behind place past =
      let same : at + length piece + (place - (at + length piece)) ≡ place = omega (arith, past) in
      get_or-append_right (take at bytes
      ++ piece) (drop (at + length piece) bytes) (at + length piece) place 0 head_len past
      ∙ get_or-drop (at + length piece) bytes (place - (at + length piece)) 0
      ∙ ap (λ (i : ℕ). get_or bytes i 0) same

  -- within the range stand the bytes of the piece
  pub get-inside : (place : ℕ) → at ≤ place → place < at + length piece →
      get_or (spliced at piece bytes) place 0 ≡ get_or piece (place - at) 0
  get-inside place from to =
      ap (λ (l : List ℕ). get_or l place 0) from_front
      ∙ get_or-append_right (take at bytes) (piece ++ drop (at + length piece) bytes) at place 0 front_len from
      ∙ get_or-append piece (drop (at + length piece) bytes) 0 (place - at) (omega (arith, from, to))

-- nothing was written
pub torn_same : (at size : ℕ) (bytes : List ℕ) → Torn at size bytes bytes
torn_same at size bytes = record { before = refl; after = refl; no_shorter = omega arith; no_longer = omega arith }
