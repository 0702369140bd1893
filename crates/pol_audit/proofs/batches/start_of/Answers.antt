use Rattle.std.proofs.Common.{rules, tests, ap, ◌∙◌}
use Rattle.pol_events.proofs.Options.{not_some}
use Rattle.pol_events.specs.Events.{plain_history}
use Rattle.pol_history.specs.Looking.{last_of, past_of_batch}
use Rattle.pol_history.specs.Batches.{starting}
use Rattle.pol_record.specs.Gathered.{plain_start}
use Rattle.pol_audit.specs.Placed.{starts}
use Rattle.pol_audit.proofs.Among.{last_among}
use Rattle.pol_audit.proofs.LookingBack.{last_found, listed_back}
use Rattle.pol_audit.proofs.batches.start_of.Goals as goal

pub returns : goal.returns
returns c =
    last_found plain_start (λ entry. starting entry.event) _ c.find_map.ensures.runs
    (listed_back c.starts_of.result.now (cc)) (λ item found after called. search (rules, tests))
    ∙ ap (last_of (λ entry. starting entry.event)) c.starts_of.ensures
    ∙ last_among starts (λ entry. starting entry.event) (λ entry is. not_some (starting entry.event) is)
    (past_of_batch c.args.batch (plain_history c.args.history.now))
