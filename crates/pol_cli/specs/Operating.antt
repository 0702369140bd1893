-- On which disks the job on an operated plant begins, and which inputs it refuses.
use Rattle.std.specs.Prelude.{ℕ, ◌≡◌, ◌⊎◌, List, [], ◌∷◌, Some, Err}
use Rattle.mtp_json.specs.ReadResult.{ReadResult, here}
use Rattle.mtp_json.specs.declared.fault.FaultKind.TheVariants.{Missing}
use Rattle.mtp_json.specs.declared.fault.JsonFault.{JsonFault}
use Rattle.pol_guard.specs.Guarded.{some_lines}
use Rattle.pol_jobs.specs.LineWork.{Line}
use Rattle.pol_operate.specs.Ends.{StandsForNoItems}
use Rattle.pol_operate.specs.Work.{policy_said}
use Rattle.pol_rights.specs.Rules.{PlainPlantPolicy}
use Rattle.pol_cli.specs.Keeping.{DiskFailed}
use Rattle.pol_cli.specs.Worked.{Disks}
use Rattle.pol_cli.specs.declared.status.Status.{Status}
use Rattle.pol_cli.specs.declared.status.Status.TheVariants.{OutOfMemory, NotALedger}

-- the status says that the disk is no ledger, or that there was no memory
abbrev pub IsNotOpened : Status → Type 0
IsNotOpened status = ((place : ℕ) × (status ≡ NotALedger place)) ⊎ (status ≡ OutOfMemory)

-- where the disk read as bytes that no items stand for, gave its bytes to the end and didn't fail, nothing was begun
abbrev pub BeginsOnLedgers : {D : Type 0} → Disks D → Status → Type 0
BeginsOnLedgers ledger status =
    (all later : List ℕ) → ledger.tells.bytes ledger.before ≡ Some all →
    ledger.tells.bytes ledger.after ≡ Some later → StandsForNoItems all → ¬ DiskFailed ledger → IsNotOpened status

-- the policy of lines that aren't blank: the first of them says it; where there is none, it is missing
abbrev pub plant_policy_among : List Line → ReadResult PlainPlantPolicy
plant_policy_among [] = here (Err Missing)
plant_policy_among (first ∷ others) = policy_said first

-- the policy of an input, or why it has none
abbrev pub plant_policy_of : List ℕ → ReadResult PlainPlantPolicy
plant_policy_of bytes = plant_policy_among (some_lines bytes)

-- the input has no policy, for this fault
abbrev pub HasNoPolicy : JsonFault → List ℕ → Type 0
HasNoPolicy fault bytes = plant_policy_of bytes ≡ Err fault
