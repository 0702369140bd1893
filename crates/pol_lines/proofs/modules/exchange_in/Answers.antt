use Rattle.std.proofs.Common.{sym}
use Rattle.mtp_desc.specs.PlainDescription.{plain_description}
use Rattle.pol_lines.proofs.Making.{exchange_of_parts}
use Rattle.pol_lines.proofs.modules.exchange_in.Goals as goal

pub returns-clause-says : goal.returns-clause-says
returns-clause-says c = λ value described.
    exchange_of_parts c.args.members.now value c.in_ok-at.at c.in_ok-tag.tag c.in_ok-ticket.ticket
    (plain_description c.args.desc.value) c.requires c.in_ok-at.ensures.value c.in_ok-tag.ensures
    c.in_ok-ticket.ensures.value (sym c.if-not-only.ensures) described
