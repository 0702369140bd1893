use Rattle.std.proofs.Common.{◌∙◌, ap, sym}
use Rattle.std.specs.Option.{option_map}
use Rattle.chart_core.specs.Charts.{plain_chart}
use Rattle.mtp_desc.specs.PlainDescription.{plain_description}
use Rattle.pol_events.specs.Events.{plain_history}
use Rattle.pol_history.specs.Looking.{past_of_batch, recipes}
use Rattle.pol_record.specs.Gathered.{plain_start}
use Rattle.pol_audit.proofs.Uncovered.{held_back_for, uncovered_is}
use Rattle.pol_audit.proofs.batch_rules.uncovered_by.Goals as goal

pub returns-in-Some-held_back_by : goal.returns-in-Some-held_back_by
returns-in-Some-held_back_by c =
    ap (held_back_for c.args.batch) (sym c.in-Some-held_back_by.is ∙ c.held_back_by.ensures)
    ∙ sym (uncovered_is (recipes (plain_history c.args.history.now))
    (past_of_batch c.args.batch (plain_history c.args.history.now)) c.args.tag
    (plain_description c.args.description.now) c.args.batch
    (plain_start c.in-Some.start) (plain_chart c.in-Some-chart_named.chart.now) c.in-Some-role_of.role
    (sym c.start_of.ensures ∙ ap (option_map plain_start) c.in-Some.is)
    (sym c.chart_named.ensures ∙ ap (option_map (λ chart. plain_chart chart.now)) c.in-Some-chart_named.is)
    (sym c.role_of.ensures ∙ c.in-Some-role_of.is))
