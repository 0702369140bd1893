-- What the code answers, against what a form says of the same value.
use Rattle.std.specs.Prelude.{◌≡◌, ℕ, [], ◌∷◌, List, Result, Ok, Err, IsErrAnd}
use Rattle.mtp_json.specs.declared.fault.FaultKind.{FaultKind}
use Rattle.mtp_json.specs.declared.fault.JsonFault.{JsonFault}
use Rattle.mtp_json.specs.declared.fault.JsonRefusal.{JsonRefusal}
use Rattle.mtp_json.specs.declared.fault.JsonRefusal.TheVariants.{Fault, Memory}
use Rattle.mtp_json.specs.declared.path.PathPart.{PathPart}
use Rattle.mtp_json.specs.declared.path.PathPart.TheVariants.{Key}
use Rattle.mtp_json.specs.ReadResult.{ReadResult}

-- a result with its value seen by a view
abbrev pub seen : {X Y E : Type 0} → (X → Y) → Result X E → Result Y E
seen view (Ok value) = Ok (view value)
seen view (Err error) = Err error

-- a refusal is the form's fault, or says that there was no memory
abbrev pub IsFaultOrMemory : {Y : Type 0} → JsonRefusal → ReadResult Y → Type 0
IsFaultOrMemory Memory read = Unit {0}
IsFaultOrMemory (Fault fault) read = read ≡ Err fault

-- the result, seen by a view, is what the form gives, unless there was no memory
abbrev pub ReadsAs : {X Y : Type 0} → (X → Y) → Result X JsonRefusal → ReadResult Y → Type 0
ReadsAs view (Ok value) read = read ≡ Ok (view value)
ReadsAs view (Err refusal) read = IsFaultOrMemory refusal read

-- a refusal is what was found at this key, with its path
abbrev pub FaultAtKey : {T : Type 0} → List ℕ → Result T FaultKind → JsonRefusal → Type 0
FaultAtKey key found Memory = Unit {0}
FaultAtKey key found (Fault fault) = (found ≡ Err fault.kind) × (fault.path ≡ Key key ∷ [])

-- the result is what was found at this key, with its path where it is a fault
abbrev pub ReadsAtKey : {T : Type 0} → List ℕ → Result T FaultKind → Result T JsonRefusal → Type 0
ReadsAtKey key found (Ok value) = found ≡ Ok value
ReadsAtKey key found (Err refusal) = FaultAtKey key found refusal

-- a refusal is this fault with one more part in front of its path
abbrev pub FaultUnder : PathPart → JsonFault → JsonRefusal → Type 0
FaultUnder part fault Memory = Unit {0}
FaultUnder part fault (Fault outer) = outer ≡ record { kind = fault.kind; path = part ∷ fault.path }

-- the second refusal is the first with one more part in front of its path
abbrev pub RefusalUnder : PathPart → JsonRefusal → JsonRefusal → Type 0
RefusalUnder part Memory outer = outer ≡ Memory
RefusalUnder part (Fault fault) outer = FaultUnder part fault outer

-- the result is what was read, with one more part in front of a fault's path
abbrev pub ReadsUnder : {T : Type 0} → PathPart → Result T JsonRefusal → Result T JsonRefusal → Type 0
ReadsUnder part read (Ok value) = read ≡ Ok value
ReadsUnder part read (Err refusal) = IsErrAnd read (λ inner. RefusalUnder part inner refusal)

-- a refusal is what was found of the value itself
abbrev pub FaultHere : {T : Type 0} → Result T FaultKind → JsonRefusal → Type 0
FaultHere found Memory = ⊥
FaultHere found (Fault fault) = (found ≡ Err fault.kind) × (fault.path ≡ [])

-- the result is what was found of the value itself
abbrev pub ReadsHere : {T : Type 0} → Result T FaultKind → Result T JsonRefusal → Type 0
ReadsHere found (Ok value) = found ≡ Ok value
ReadsHere found (Err refusal) = FaultHere found refusal
