use Rattle.std.proofs.Common.{rules, tests, ap, sym, ◌∙◌}
use Rattle.std.proofs.lemmas.Iterator.Adapters.{option_map_id}
use Rattle.pol_events.specs.Events.{plain_history}
use Rattle.pol_history.specs.Looking.{last_of, past}
use Rattle.pol_audit.specs.Dockings.{docking_left}
use Rattle.pol_audit.proofs.Among.{docking_among}
use Rattle.pol_audit.proofs.LookingBack.{last_found, listed_back}
use Rattle.pol_audit.proofs.modules.last_docking.Goals as goal

pub returns : goal.returns
returns c =
    sym (option_map_id _)
    ∙ last_found (λ found. found) docking_left _ c.find_map.ensures.runs
    (listed_back c.moves.result.now (cc)) (λ item found after called. search (rules, tests))
    ∙ ap (last_of docking_left) c.moves.ensures
    ∙ docking_among (past c.args.tag (plain_history c.args.history.now))
