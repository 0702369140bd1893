use Rattle.std.proofs.Common.{ℕ, ◌≡◌, List, [], ◌∷◌, length, take, slice_index, arith}
use Rattle.pol_io.specs.declared.limits.TheConstants.{LONGEST_INPUT}
use Rattle.pol_io.proofs.Stopping.{stops_read, stops_too_much}
use Rattle.pol_io.proofs.fill.ask_past.Goals as goal

take_one : (bytes : List ℕ) (n : ℕ) → length bytes ≡ 1 → n ≡ 1 → take n bytes ≡ slice_index bytes 0 ∷ []
take_one [] n long one = absurd (cc)
take_one (x ∷ []) n long one = rw one
take_one (x ∷ (y ∷ ys)) n long one = absurd (omega arith)

pub returns-in-Ok-clause-stops : goal.returns-in-Ok-clause-stops
returns-in-Ok-clause-stops g c =
    let long : length c.read.new.into ≡ 1 = omega arith in
    let bound = c.in-Ok.ensures.bound.0 in
    let some = c.in-Ok.field-0-test.1 in
    let one : c.in-Ok.field-0 ≡ 1 = omega (arith, bound, some) in
    stops_too_much _ _ (slice_index c.read.new.into 0) (rw (take_one c.read.new.into c.in-Ok.field-0 long one) at
    c.in-Ok.ensures.bytes.0)

pub returns-in-Err-clause-stops : goal.returns-in-Err-clause-stops
returns-in-Err-clause-stops g c = stops_read _ _ LONGEST_INPUT (omega arith) c.in-Err.ensures.bytes
