-- Bytes that are put over zeros are padded.
use Rattle.std.proofs.Common.{ℕ, ◌-◌, ◌≤◌, ◌≡◌, List, ◌++◌, length, take, drop, replicate, refl, arith, length-append}
use Rattle.std.proofs.lemmas.List.{take_at, drop_at, drop-replicate, length-replicate}
use Rattle.mtp_codes.specs.Padded.{IsPadded}

-- the bytes are the first ones
pub first_used : (room : ℕ) (used : List ℕ) → take (length used) (used ++ drop (length used) (replicate room 0)) ≡ used
first_used room used = take_at used (drop (length used) (replicate room 0)) (length used) refl

-- what is behind them is zero
pub padded_over_zeros : (room : ℕ) (used : List ℕ) → length used ≤ room
    → IsPadded room (used ++ drop (length used) (replicate room 0)) (length used)
padded_over_zeros room used fits =
    let zeros : drop (length used) (replicate room 0) ≡ replicate (room - length used) 0 =
    drop-replicate (length used) room 0 in
    record {
      whole = rw (
        zeros,
        length-append used (replicate (room - length used) 0),
        length-replicate {A = ℕ}
            (room - length used) 0,
      ) (omega arith);
      fits = fits;
      zeros = rw (drop_at used (drop (length used) (replicate room 0)) (length used) refl) zeros;
    }
