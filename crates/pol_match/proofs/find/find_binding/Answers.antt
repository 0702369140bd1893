use Rattle.std.proofs.Common.{◌≡◌, ◌∙◌, sym, ap, subst, ℕ, List, map}
use Rattle.chart_core.specs.Charts.{plain_chart}
use Rattle.pol_bind.specs.Roles.{names_in}
use Rattle.pol_match.specs.Fits.{row_for, rows_for}
use Rattle.pol_match.specs.Candidates.{plain_candidates}
use Rattle.pol_match.specs.declared.assignment.Outcome.{Outcome}
use Rattle.pol_match.specs.declared.assignment.Outcome.TheVariants.{Crowded}
use Rattle.pol_match.specs.Assignments.{IsLeastAssignment, IsCrowded, IsFirstCrowd, HaveNone}
use Rattle.pol_match.specs.Outcomes.{IsOutcome}
use Rattle.pol_match.proofs.CandidateLists.{place_there}
use Rattle.pol_match.proofs.find.find_binding.Goals as goal

pub assign-requires-clause-inside : goal.assign-requires-clause-inside
assign-requires-clause-inside c =
    let same : c.deref-4.result.now ≡ rows_for (plain_chart c.args.chart.now) (plain_candidates c.args.candidates.now) =
    c.deref-4.ensures.value ∙ (c.in_ok-rows.ensures
    ∙ ap (λ roles. map (row_for (plain_chart c.args.chart.now) (plain_candidates c.args.candidates.now))
    (names_in roles)) c.deref-3.ensures.value) in
    λ row place fit. place_there (plain_chart c.args.chart.now) c.args.candidates.now c.deref-4.result.now row place
    same fit

pub binding_at-requires : goal.binding_at-requires
binding_at-requires c =
    let same : c.deref-4.result.now ≡ rows_for (plain_chart c.args.chart.now) (plain_candidates c.args.candidates.now) =
    c.deref-4.ensures.value ∙ (c.in_ok-rows.ensures
    ∙ ap (λ roles. map (row_for (plain_chart c.args.chart.now) (plain_candidates c.args.candidates.now))
    (names_in roles)) c.deref-3.ensures.value) in
    let least : IsLeastAssignment c.deref-4.result.now c.in-Assigned.places.items =
    subst (λ (outcome : Outcome). IsOutcome c.deref-4.result.now outcome) c.in-Assigned.is c.in_ok-places.ensures in
    record {
      order = c.requires.order;
      least = subst (λ (rows : List ℕ). IsLeastAssignment rows c.deref-in-Assigned.result.now) same
          (subst (λ (places : List ℕ). IsLeastAssignment c.deref-4.result.now places)
          (sym c.deref-in-Assigned.ensures.value) least);
    }

pub shortage_within-requires : goal.shortage_within-requires
shortage_within-requires c =
    let same : c.in_ok-rows.rows.items ≡ rows_for (plain_chart c.args.chart.now)
    (plain_candidates c.args.candidates.now) = c.in_ok-rows.ensures
    ∙ ap (λ roles. map (row_for (plain_chart c.args.chart.now) (plain_candidates c.args.candidates.now))
    (names_in roles)) c.deref-3.ensures.value in
    let known : IsOutcome c.deref-4.result.now (Crowded c.in-Crowded.set) =
    subst (λ (outcome : Outcome). IsOutcome c.deref-4.result.now outcome) c.in-Crowded.is c.in_ok-places.ensures in
    let alike : c.deref-4.result.now ≡ c.deref-in-Crowded.result.now = c.deref-4.ensures.value
    ∙ sym c.deref-in-Crowded.ensures.value in
    record {
      few = c.requires.few;
      order = c.requires.order;
      rows = c.deref-in-Crowded.ensures.value ∙ same;
      crowded = subst (λ (rows : List ℕ). IsCrowded rows c.in-Crowded.set) alike known.0;
      none = subst HaveNone alike known.1;
      first = subst (λ (rows : List ℕ). IsFirstCrowd rows c.in-Crowded.set) alike known.2;
    }
