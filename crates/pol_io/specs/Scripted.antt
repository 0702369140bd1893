-- Sources and sinks in memory that fail at chosen calls.
use Rattle.std.specs.Prelude.{ℕ, ◌≡◌, ◌+◌, ◌-◌, ◌^◌, min, List, Bool, ◌==◌, if◌then◌else◌}
use Rattle.std.specs.List.{list_any}

-- a source or a sink: the bytes that are left or held, the numbers of the calls that fail, and how many calls and
-- faults there were
pub record Scripted : Type 0 where
  pub bytes : List ℕ
  pub failing : List ℕ
  pub calls : ℕ
  pub faults : ℕ

-- the count plus one, or the greatest u64 where it can rise no more
abbrev pub counted : ℕ → ℕ
counted count = min (count + 1) (2 ^ 64 - 1)

-- whether the call with this number is one of those that fail; the first call has the number 1
abbrev pub is_listed : List ℕ → ℕ → Bool
is_listed failing call = list_any (λ number. number == call) failing

-- whether the next call fails
abbrev pub fails_next : Scripted → Bool
fails_next script = is_listed script.failing (counted script.calls)

-- one call more was counted, and one fault more where the call failed
pub record IsNextCall (failed : Bool) (old new : Scripted) : Type 0 where
  pub failing : new.failing ≡ old.failing
  pub calls : new.calls ≡ counted old.calls
  pub faults : new.faults ≡ (if failed then counted old.faults else old.faults)
