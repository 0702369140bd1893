use Rattle.std.proofs.Common.{◌≡◌, take}
use Rattle.serde_json.specs.Find.{get}
use Rattle.pol_lines.specs.Keys.{key_text}
use Rattle.pol_lines.specs.Parts.{parts_data}
use Rattle.pol_lines.proofs.spots.held_at.Given as goal

abbrev pub invariant-loop-i : goal.invariant-loop-i
invariant-loop-i l =
    get (key_text l.fn.key) (parts_data l.parts) ≡ get (key_text l.fn.key) (parts_data (take l.i l.parts))
