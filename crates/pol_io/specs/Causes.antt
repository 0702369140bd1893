-- When a call reports a failure: exactly where a count of faults rose.
use Rattle.std.specs.Prelude.{ℕ, ◌≡◌, ◌≢◌, ◌+◌, ◌-◌, ◌^◌, ◌≤◌, min, OnOk, OnErr, IfErr}
use Rattle.std.specs.declared.result.Result.{Result}

-- the count rose, or is at the greatest u64, where it can rise no more
abbrev pub Rose : ℕ → ℕ → Type 0
Rose before now = min (before + 1) (2 ^ 64 - 1) ≤ now

-- the count of faults doesn't fall; it rose where the call failed, and stayed where it didn't
pub record HasCause {T E : Type 0} (before now : ℕ) (result : Result T E) : Type 0 where
  pub later : before ≤ now
  pub failed : OnErr result (Rose before now)
  pub done : OnOk result (now ≡ before)

-- the count of faults doesn't fall; it rose where the call answered this fault, and stayed where the call was done or
-- answered another one
pub record HasCauseOf {T E : Type 0} (fault : E) (before now : ℕ) (result : Result T E) : Type 0 where
  pub later : before ≤ now
  pub failed : IfErr result (λ answered. answered ≡ fault → Rose before now)
  pub done : OnOk result (now ≡ before)
  pub other : IfErr result (λ answered. answered ≢ fault → now ≡ before)
