-- What an answer of a call tells of what was found.
use Rattle.std.proofs.Common.{◌≡◌, Option, Some, None, Result, Err, refl, ap}
use Rattle.std.specs.Prelude.{⊤}
use Rattle.std.specs.Option.{option_or}
use Rattle.std.specs.Result.{result_err}
use Rattle.mtp_codes.specs.Faults.{done_unless}

-- an error tells the fault
pub err_is : {E : Type 0} (fault : Option E) (rule : E) → ◌≡◌ {A = Result ⊤ E} (done_unless fault) (Err rule) →
    fault ≡ Some rule
err_is None rule is = cc
err_is (Some other) rule is = let same : other ≡ rule = cc in ap Some same

-- the fault that may be told
pub err_of : {E : Type 0} (fault : Option E) → result_err {T = ⊤} (done_unless fault) ≡ fault
err_of None = refl
err_of (Some fault) = refl

-- the first of some rules, where there is one
pub this_rule : {A : Type 0} (one rest : Option A) (found : A) → Some found ≡ one → Some found ≡ option_or one rest
this_rule None rest found is = cc
this_rule (Some x) rest found is = is

-- what comes after it, where there is none
pub next_rule : {A : Type 0} (one rest found : Option A) → None ≡ one → found ≡ rest → found ≡ option_or one rest
next_rule None rest found none is = is
next_rule (Some x) rest found none is = cc
