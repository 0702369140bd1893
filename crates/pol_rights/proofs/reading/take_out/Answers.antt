use Rattle.named_lines.proofs.Without.{taken_out}
use Rattle.pol_rights.proofs.reading.take_out.Goals as goal

pub returns : goal.returns
returns c =
    taken_out c.args.key.now c.args.members.now.entries c.remove.new.self.entries c.remove.ensures.entries
    c.remove.ensures.updates.1
