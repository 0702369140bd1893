-- Ranges are filled one after another, and each place by place.
use Rattle.std.proofs.Common.{◌≡◌, ⊎_elim, ℕ, ◌-◌, ◌<◌, ◌≤◌, Bool, true, false, List, [], ◌∷◌, length, refl, ◌∙◌, arith}
use Rattle.std.proofs.lemmas.Bool.Decides.{nat_tests}
use Rattle.std.specs.Prelude.{◌&&◌, ◌||◌, nat_le, nat_lt, if◌then◌else◌, slice_index}
use Rattle.pol_disk.specs.Remains.{Range, is_within, is_written}
use Rattle.pol_disk.specs.Records.{IsFilled}

-- ---- range by range

-- a byte that the first range or the others write
either : (first others : Bool) (fill old mid : ℕ) → mid ≡ (if (first || false) then fill else old) →
    (if others then fill else mid) ≡ (if (first || others) then fill else old)
either true true fill old mid is = refl
either true false fill old mid is = is
either false true fill old mid is = refl
either false false fill old mid is = is

-- the first range, and then the others
pub filled_more : (fill : ℕ) (range : Range) (ranges : List Range) (bytes mid filled : List ℕ) →
    IsFilled fill (range ∷ []) bytes mid → IsFilled fill ranges mid filled →
    IsFilled fill (range ∷ ranges) bytes filled
filled_more fill range ranges bytes mid filled first rest = record {
  long = rest.long ∙ first.long;
  each = λ place inside.
      rest.each place (omega (arith, inside, first.long))
      ∙ either (is_within place range) (is_written ranges place) fill (slice_index bytes place) (slice_index mid place)
      (first.each place inside);
}

-- ---- place by place

-- a place lies in a range where it isn't before its start, and less than its size behind it
pub within_tests : (place at size : ℕ) →
    (nat_le at place && nat_lt (place - at) size) ≡ is_within place (record { at = at; size = size })
within_tests place at size = grind (arith, nat_tests)

-- the bytes up to a place are filled where a range writes them, and those from it on are as before
pub record IsFilledUpTo (fill : ℕ) (ranges : List Range) (reached : ℕ) (bytes filled : List ℕ) : Type 0 where
  pub long : length filled ≡ length bytes
  pub front : (place : ℕ) → place < reached → place < length bytes
      → slice_index filled place ≡ (if is_written ranges place then fill else slice_index bytes place)
  pub back : (place : ℕ) → reached ≤ place → slice_index filled place ≡ slice_index bytes place
