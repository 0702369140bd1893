use Rattle.std.proofs.Common.{◌∙◌, refl, sym, ap, length}
use Rattle.chart_core.specs.Charts.{plain_chart}
use Rattle.pol_bind.specs.Roles.{names_in}
use Rattle.pol_match.specs.Fits.{rows_for}
use Rattle.pol_match.specs.Candidates.{plain_candidates}
use Rattle.pol_match.proofs.CandidateLists.{assigned_there, rows_long}
use Rattle.pol_match.proofs.BoundTags.{least_binding}
use Rattle.pol_match.proofs.Ways.{least_told}
use Rattle.pol_match.proofs.find.binding_at.Goals as goal

pub binds_at-requires : goal.binds_at-requires
binds_at-requires c =
    record {
      long = c.requires.least.assignment.all
          ∙ (rows_long c.args.chart.now (plain_candidates c.args.candidates.now)
          ∙ sym (ap length c.deref.ensures.value));
      inside = assigned_there (plain_chart c.args.chart.now) c.args.candidates.now
          (rows_for (plain_chart c.args.chart.now) (plain_candidates c.args.candidates.now)) c.args.places.now refl
          c.requires.least.assignment;
    }

pub returns-clause-right : goal.returns-clause-right
returns-clause-right c =
    least_binding (plain_chart c.args.chart.now) (plain_candidates c.args.candidates.now) c.args.places.now
    c.in_ok-binds.binds.items c.requires.order c.requires.least
    (c.in_ok-binds.ensures.roles ∙ ap names_in c.deref.ensures.value)
    c.in_ok-binds.ensures.tags

pub returns-clause-told : goal.returns-clause-told
returns-clause-told c =
    least_told (plain_chart c.args.chart.now) (plain_candidates c.args.candidates.now) c.in_ok-binds.binds.items
    c.requires.order
    (least_binding (plain_chart c.args.chart.now) (plain_candidates c.args.candidates.now) c.args.places.now
    c.in_ok-binds.binds.items c.requires.order c.requires.least
    (c.in_ok-binds.ensures.roles ∙ ap names_in c.deref.ensures.value)
    c.in_ok-binds.ensures.tags)
