-- The rule against an operator's command, by why the command is forbidden.
use Rattle.std.proofs.Common.{◌≡◌, Option, Some, None}
use Rattle.std.specs.Prelude.{Err}
use Rattle.mtp_codes.specs.declared.mode.Forbid.{Forbid}
use Rattle.mtp_codes.specs.Faults.{done_unless}

-- what forbids a command is answered
pub is_forbidden : (found : Option Forbid) (forbid : Forbid) → Err forbid ≡ done_unless found → found ≡ Some forbid
is_forbidden None forbid is = absurd cc
is_forbidden (Some other) forbid is = cc
