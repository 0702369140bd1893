use Rattle.std.proofs.Common.{◌≡◌, take, true}
use Rattle.std.specs.List.{list_all}
use Rattle.json.specs.Run.{is_plain}
use Rattle.pol_lines.proofs.leaf.plain_end.Given as goal

abbrev pub invariant-loop-i : goal.invariant-loop-i
invariant-loop-i l = list_all is_plain (take l.i l.text) ≡ true
