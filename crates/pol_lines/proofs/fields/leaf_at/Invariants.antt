use Rattle.std.proofs.Common.{◌≡◌, take}
use Rattle.serde_json.specs.Find.{get}
use Rattle.pol_lines.specs.Flat.{flat_data}
use Rattle.pol_lines.specs.Keys.{key_text}
use Rattle.pol_lines.proofs.fields.leaf_at.Given as goal

abbrev pub invariant-loop-i : goal.invariant-loop-i
invariant-loop-i l = get (key_text l.key) (flat_data l.members) ≡ get (key_text l.key) (flat_data (take l.i l.members))
