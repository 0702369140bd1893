use Rattle.std.proofs.Common.{ap, sym, ◌∙◌}
use Rattle.std.specs.Option.{option_or}
use Rattle.std.specs.Prelude.{map}
use Rattle.mtp_codes.specs.Faults.{first_of}
use Rattle.mtp_desc.specs.PlainDescription.{plain_description}
use Rattle.pol_events.specs.Events.{plain_history}
use Rattle.pol_history.specs.Batches.{watchers_of}
use Rattle.pol_history.specs.Rules.{uncovered_in}
use Rattle.pol_audit.proofs.Watching.{held_back_is}
use Rattle.pol_audit.proofs.batch_rules.held_back.Goals as goal

pub returns-in-None : goal.returns-in-None
returns-in-None c =
    let history = (plain_history c.args.history.now) in
    c.held_back_by_watcher.ensures
    ∙ sym (held_back_is history c.args.tag (plain_description c.args.description.now) c.starts.result.now
    c.starts.ensures)
    ∙ ap (λ first. option_or first (first_of (map (uncovered_in history c.args.tag
    (plain_description c.args.description.now)) (watchers_of history c.args.tag))))
    (sym c.in-None.is ∙ c.held_back_by_holder.ensures)
