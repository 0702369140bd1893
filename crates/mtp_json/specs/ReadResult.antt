-- What reading a JSON value gives: a value, or the first fault and where it is.
use Rattle.std.specs.Prelude.{ℕ, List, [], ◌∷◌, Result, Ok, Err}
use Rattle.mtp_json.specs.declared.fault.FaultKind.{FaultKind}
use Rattle.mtp_json.specs.declared.fault.JsonFault.{JsonFault}
use Rattle.mtp_json.specs.declared.path.PathPart.{PathPart}
use Rattle.mtp_json.specs.declared.path.PathPart.TheVariants.{Key, Place}

-- a value, or what is wrong with it
abbrev pub Finding : Type 0 → Type 0
Finding A = Result A FaultKind

-- a value, or the first fault and where it is
abbrev pub ReadResult : Type 0 → Type 0
ReadResult A = Result A JsonFault

-- what is read next, once a value was read without a fault
infixl 10 ◌>>=◌
abbrev pub ◌>>=◌ : {A B : Type 0} → ReadResult A → (A → ReadResult B) → ReadResult B
(Ok value) >>= next = next value
(Err fault) >>= next = Err fault

-- a fault of the value itself has the empty path
abbrev pub here : {A : Type 0} → Finding A → ReadResult A
here (Ok value) = Ok value
here (Err kind) = Err (record { kind = kind; path = [] })

-- a fault further inside has this part in front of its path
abbrev pub at : {A : Type 0} → PathPart → ReadResult A → ReadResult A
at part (Ok value) = Ok value
at part (Err fault) = Err (record { kind = fault.kind; path = part ∷ fault.path })

-- what is read below a key
abbrev pub under : {A : Type 0} → List ℕ → ReadResult A → ReadResult A
under key read = at (Key key) read

-- what is read at a place of a list
abbrev pub in_place : {A : Type 0} → ℕ → ReadResult A → ReadResult A
in_place place read = at (Place place) read
