-- The faults of flat lines, by the forms of a journal's lines.
use Rattle.std.specs.Prelude.{◌≡◌, ℕ, List, Bool, true, false, Err}
use Rattle.event_json.specs.Guarded.{guarded_of}
use Rattle.event_json.specs.Lines.{event_of}
use Rattle.event_json.specs.Version1.{event_of_version_1}
use Rattle.event_json.specs.declared.fault.LineFault.{LineFault}

-- the fault of a line under a policy, or else in a journal of either version
abbrev pub IsFault : Bool → List ℕ → LineFault → Type 0
IsFault true line fault = guarded_of line ≡ Err fault
IsFault false line fault = (event_of line ≡ Err fault) × (event_of_version_1 line ≡ Err fault)
