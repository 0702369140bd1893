use Rattle.std.proofs.Common.{refl}
use Rattle.pol_lines.proofs.Judging.{not_json}
use Rattle.pol_lines.proofs.faults.line_spot.Goals as goal

pub returns-then-is_no_json : goal.returns-then-is_no_json
returns-then-is_no_json c = not_json c.args.guarded c.args.line.now (c.if-is_no_json.ensures refl)
