use Rattle.std.proofs.Common.{◌∙◌, arith, sym, ap, subst, length}
use Rattle.std.proofs.lemmas.List.{length-map}
use Rattle.chart_core.specs.Charts.{plain_chart}
use Rattle.pol_bind.specs.Roles.{names_in}
use Rattle.pol_match.specs.Places.{has_all}
use Rattle.pol_match.specs.Fits.{those_with}
use Rattle.pol_match.specs.Candidates.{plain_candidate, plain_candidates}
use Rattle.pol_match.specs.Assignments.{HaveNone}
use Rattle.pol_match.proofs.CandidateLists.{rows_long}
use Rattle.pol_match.proofs.BoundTags.{no_binding}
use Rattle.pol_match.proofs.Shortages.{shortage_told}
use Rattle.pol_match.proofs.Told.{short_told}
use Rattle.pol_match.proofs.find.shortage_within.Goals as goal

pub roles_within-requires : goal.roles_within-requires
roles_within-requires c = ap length c.requires.rows
    ∙ (rows_long c.args.chart.now (plain_candidates c.args.candidates.now) ∙ sym (ap length c.deref.ensures.value))

pub returns-clause-right : goal.returns-clause-right
returns-clause-right c = (
  shortage_told (plain_chart c.args.chart.now) (plain_candidates c.args.candidates.now) c.args.rows.now c.args.set
      c.in_ok-roles.roles.items c.in_ok-tags.tags.items c.requires.rows
      (c.in_ok-roles.ensures ∙ ap (λ roles. those_with (has_all c.args.set) c.args.rows.now
      (names_in roles)) c.deref.ensures.value)
      c.in_ok-tags.ensures.tags c.requires.crowded c.in_ok-tags.ensures.few,
  no_binding (plain_chart c.args.chart.now) (plain_candidates c.args.candidates.now)
      (subst HaveNone c.requires.rows c.requires.none),
)

pub returns-clause-told : goal.returns-clause-told
returns-clause-told c =
    short_told (plain_chart c.args.chart.now) (plain_candidates c.args.candidates.now) c.args.rows.now c.args.set
    c.in_ok-roles.roles.items c.in_ok-tags.tags.items c.args.chart.now.form
    (omega (arith, c.requires.few, length-map c.args.candidates.now plain_candidate)) c.requires.order c.requires.rows
    c.requires.none c.requires.first
    (c.in_ok-roles.ensures ∙ ap (λ roles. those_with (has_all c.args.set) c.args.rows.now
    (names_in roles)) c.deref.ensures.value)
    c.in_ok-tags.ensures.tags
