-- What holds of every verdict on a line, and of policies without rules of lines.
use Rattle.std.specs.Prelude.{ℕ, ◌≡◌, List, Option, None, Ok, codes}
use Rattle.mtp_json.specs.ReadResult.{ReadResult, ◌>>=◌}
use Rattle.event_json.specs.declared.kind.EventKind.{EventKind}
use Rattle.named_lines.specs.Lines.{value_at}
use Rattle.pol_policy.specs.Form.{policy_on}
use Rattle.pol_policy.specs.Policies.{PlainPolicy}
use Rattle.pol_rights.specs.Form.{plant_policy_on}
use Rattle.pol_rights.specs.Giving.{SaysToLine}
use Rattle.pol_rights.specs.Rules.{PlainPlantPolicy}
use Rattle.pol_rights.specs.Verdicts.{verdict_on_line}

-- The verdict on each line is the one that the definitions of belonging and of giving give.
abbrev pub LinesAreJudged : Type 0
LinesAreJudged = (policy : PlainPlantPolicy) (by : Option (List ℕ)) (kind : EventKind) →
    SaysToLine policy by kind (verdict_on_line policy by kind)

-- what is read as a policy of the job guard, as a policy without rules of lines
abbrev pub without_lines : ReadResult PlainPolicy → ReadResult PlainPlantPolicy
without_lines read = read >>= λ policy. Ok (record { commands = policy; lines = None })

-- A line without the key `lines` is read as a policy of the job guard: as the same policy, or with the same fault.
abbrev pub PoliciesAreAlike : Type 0
PoliciesAreAlike = (line : List ℕ) → value_at (codes "lines") line ≡ None →
    plant_policy_on line ≡ without_lines (policy_on line)
