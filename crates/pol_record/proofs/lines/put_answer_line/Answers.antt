-- The line of Done is a fixed text.
use Rattle.pol_record.proofs.Tokens.{done_text}
use Rattle.pol_record.proofs.lines.put_answer_line.Goals as goal

pub returns-in-Done-clause-line : goal.returns-in-Done-clause-line
returns-in-Done-clause-line c = rw (c.in-Done.is, done_text) c.in_ok-extend_from_slice.ensures.items
