use Rattle.std.proofs.Common.{rules, tests, ap, sym, ◌∙◌}
use Rattle.std.proofs.lemmas.Iterator.Adapters.{option_map_id}
use Rattle.pol_events.proofs.Options.{not_some}
use Rattle.pol_events.specs.Events.{plain_history}
use Rattle.pol_history.specs.Looking.{last_of, past_of_batch}
use Rattle.pol_history.specs.Batches.{freezing}
use Rattle.pol_audit.specs.Placed.{freezes}
use Rattle.pol_audit.proofs.Among.{last_among}
use Rattle.pol_audit.proofs.LookingBack.{last_found, listed_back}
use Rattle.pol_audit.proofs.freezes.last_freezing.Goals as goal

pub returns : goal.returns
returns c =
    sym (option_map_id _)
    ∙ last_found (λ found. found) (λ entry. freezing entry.event) _ c.find_map.ensures.runs
    (listed_back c.freezings.result.now (cc)) (λ item found after called. search (rules, tests))
    ∙ ap (last_of (λ entry. freezing entry.event)) c.freezings.ensures
    ∙ last_among freezes (λ entry. freezing entry.event) (λ entry is. not_some (freezing entry.event) is)
    (past_of_batch c.args.batch (plain_history c.args.history.now))
