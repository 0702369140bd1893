-- What a module doesn't cover, as a rule.
use Rattle.std.proofs.Common.{◌∙◌, sym, ap, option_map}
use Rattle.mtp_desc.specs.PlainDescription.{plain_description}
use Rattle.mtp_procs.specs.Covers.{cover_fault}
use Rattle.chart_core.specs.Charts.{plain_chart}
use Rattle.pol_events.specs.Refusals.{cover_rule}
use Rattle.pol_core.proofs.Found.{err_is}
use Rattle.pol_core.proofs.binding.not_covered.Goals as goal

pub returns-in-Err : goal.returns-in-Err
returns-in-Err c =
    sym (err_is _ c.in-Err.rule (sym c.covers.ensures ∙ c.in-Err.is))
    ∙ ap (λ description. option_map (cover_rule c.args.role)
    (cover_fault (plain_chart c.args.chart.now) c.args.role description))
    (ap plain_description c.deref.ensures ∙ c.description.ensures)
