use Rattle.std.proofs.Common.{rules, tests, ap, ◌∙◌}
use Rattle.mtp_desc.specs.PlainDescription.{plain_description}
use Rattle.pol_events.specs.Events.{plain_history}
use Rattle.pol_history.specs.Looking.{last_of, past}
use Rattle.pol_history.specs.Modules.{described}
use Rattle.pol_audit.proofs.Among.{description_among}
use Rattle.pol_audit.proofs.LookingBack.{last_found, listed_back}
use Rattle.pol_audit.proofs.modules.description_of.Goals as goal

pub returns : goal.returns
returns c =
    last_found (λ description. plain_description description.now) (λ entry. described entry.event) _
    c.find_map.ensures.runs (listed_back c.moves.result.now (cc)) (λ item found after called. search (rules, tests))
    ∙ ap (last_of (λ entry. described entry.event)) c.moves.ensures
    ∙ description_among (past c.args.tag (plain_history c.args.history.now))
