use Rattle.pol_audit.proofs.ClosingLines.{closing_few, closing_is}
use Rattle.pol_audit.proofs.closing.closing_lines.Goals as goal

pub returns-clause-lines : goal.returns-clause-lines
returns-clause-lines c =
    rw c.in_ok-push.ensures.items (closing_is c.args.history.now c.in_ok-lines.lines.items c.in_ok-last.last
    c.in_ok-lines.ensures c.in_ok-last.ensures)

pub returns-clause-few : goal.returns-clause-few
returns-clause-few c = closing_few c.args.history.now c.push.new.self.items (returns-clause-lines c)
