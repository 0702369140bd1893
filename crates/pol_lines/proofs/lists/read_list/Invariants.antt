use Rattle.std.proofs.Common.{◌-◌, length, map}
use Rattle.pol_lines.specs.Begins.{OpensList}
use Rattle.pol_lines.proofs.lists.read_list.Given as goal

abbrev pub invariant-loop-rest : goal.invariant-loop-rest
invariant-loop-rest g l = OpensList g.T.Front.form g.T.Front.deep l.fn.text (map g.T.Front.plain l.found.items) l.rest

abbrev pub decreases-loop-rest : goal.decreases-loop-rest
decreases-loop-rest g l = l.most - length l.found.items
