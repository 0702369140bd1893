use Rattle.std.proofs.Common.{sym, ◌∙◌, arith}
use Rattle.pol_runs.proofs.Doing.{found_small}
use Rattle.pol_runs.proofs.next.behind.Goals as goal

pub overflow_add-result : goal.overflow_add-result
overflow_add-result c =
    let (word, stands) = c.requires.stands in
    let found = sym (c.next_step.ensures word stands) ∙ c.in-Some.is in
    let few = found_small c.args.cursor.now.chart word c.args.from c.in-Some.step c.requires.valid found in
    omega arith
