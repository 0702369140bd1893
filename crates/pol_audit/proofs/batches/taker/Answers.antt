use Rattle.std.proofs.Common.{rules, tests, ap, sym, ◌∙◌}
use Rattle.std.proofs.lemmas.Iterator.Adapters.{option_map_id}
use Rattle.pol_events.specs.Events.{plain_history}
use Rattle.pol_history.specs.Looking.{last_of}
use Rattle.pol_history.specs.Batches.{takes}
use Rattle.pol_audit.proofs.Among.{taker_among}
use Rattle.pol_audit.proofs.LookingBack.{last_found, listed_back}
use Rattle.pol_audit.proofs.batches.taker.Goals as goal

pub returns : goal.returns
returns c =
    sym (option_map_id _)
    ∙ last_found (λ found. found) (takes c.args.tag) _ c.find_map.ensures.runs
    (listed_back c.starts.result.now (cc)) (λ item found after called. search (rules, tests))
    ∙ ap (last_of (takes c.args.tag)) c.starts.ensures
    ∙ taker_among c.args.tag (plain_history c.args.history.now)
