use Rattle.std.proofs.Common.{rules, tests, ap, sym, ◌∙◌}
use Rattle.std.proofs.lemmas.Iterator.Adapters.{option_map_id}
use Rattle.pol_events.specs.Events.{plain_history}
use Rattle.pol_history.specs.Looking.{last_of, past_of_batch}
use Rattle.pol_audit.specs.Freezes.{asking}
use Rattle.pol_audit.proofs.Among.{asking_among}
use Rattle.pol_audit.proofs.LookingBack.{last_found, listed_back}
use Rattle.pol_audit.proofs.freezes.last_asking.Goals as goal

pub returns : goal.returns
returns c =
    sym (option_map_id _)
    ∙ last_found (λ found. found) (asking c.args.name) _ c.find_map.ensures.runs
    (listed_back c.askings.result.now (cc)) (λ item found after called. search (rules, tests))
    ∙ ap (last_of (asking c.args.name)) c.askings.ensures
    ∙ asking_among c.args.name (past_of_batch c.args.batch (plain_history c.args.history.now))
