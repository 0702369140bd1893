-- What has no key `lines` is read as a policy of the job guard.
use Rattle.std.proofs.Common.{◌≡◌, ℕ, List, None, Err, Ok, refl}
use Rattle.std.specs.Prelude.{codes}
use Rattle.serde_json.specs.Data.{Data}
use Rattle.serde_json.specs.Find.{get}
use Rattle.mtp_json.specs.Parse.{json_of}
use Rattle.mtp_json.specs.ReadResult.{Finding, ReadResult, ◌>>=◌, here}
use Rattle.named_lines.specs.Lines.{found_at, value_at}
use Rattle.named_lines.proofs.Without.{absent_key}
use Rattle.pol_policy.specs.Form.{policy_in, policy_on}
use Rattle.pol_policy.specs.Policies.{PlainPolicy}
use Rattle.pol_rights.specs.Form.{lines_in, plant_policy_in, plant_policy_on}
use Rattle.pol_rights.specs.Laws.{without_lines}

-- without the key there are no rules of lines
no_lines : (value : Data) → get (codes "lines") value ≡ None → lines_in value ≡ Ok None
unfolding lines_in
no_lines value none = rw none refl

-- a policy that was read, with no rules of lines
alone : (read : ReadResult PlainPolicy)
    → (read >>= λ commands. (Ok None >>= λ lines. Ok (record { commands = commands; lines = lines })))
    ≡ without_lines read
alone (Ok policy) = refl
alone (Err fault) = refl

-- a value without the key
value_alike : (value : Data) → get (codes "lines") value ≡ None
    → plant_policy_in value ≡ without_lines (policy_in value)
unfolding plant_policy_in
value_alike value none =
    rw (absent_key (codes "lines") value none, no_lines value none) (alone (policy_in value))

-- what was found of a line
found_alike : (found : Finding Data) → found_at (codes "lines") found ≡ None
    → (here found >>= plant_policy_in) ≡ without_lines (here found >>= policy_in)
found_alike (Ok value) none = value_alike value none
found_alike (Err kind) none = refl

-- a line without the key
pub policies_alike : (line : List ℕ) → value_at (codes "lines") line ≡ None
    → plant_policy_on line ≡ without_lines (policy_on line)
unfolding plant_policy_on policy_on
policies_alike line none = found_alike (json_of line) none
