use Rattle.std.proofs.Common.{arith, ◌∙◌, map}
use Rattle.std.proofs.lemmas.List.{length-map}
use Rattle.pol_bind.specs.PlainNeeds.{plain_needs}
use Rattle.pol_match.specs.Needed.{fits_needs}
use Rattle.pol_match.specs.Candidates.{plain_candidate, plain_candidates}
use Rattle.pol_match.proofs.Tables.{set_below_zero, set_below_more, set_below_all}
use Rattle.pol_match.proofs.CandidateLists.{fits_at_place}
use Rattle.pol_match.proofs.find.row_of.Goals as goal

pub loop-place-init : goal.loop-place-init
loop-place-init c =
    rw c.new-row.ensures
    (set_below_zero (map (fits_needs (plain_needs c.args.needs.now)) (plain_candidates c.args.candidates.now)))

pub loop-place-preserved : goal.loop-place-preserved
loop-place-preserved c =
    set_below_more (map (fits_needs (plain_needs c.args.needs.now)) (plain_candidates c.args.candidates.now))
    c.loop-place.place c.loop-place.row c.insert_if.new.self c.fits.result c.insert_if.ensures
    (c.fits.ensures ∙ fits_at_place (fits_needs (plain_needs c.args.needs.now)) c.args.candidates.now
    c.loop-place.place c.index-candidates-place.result c.loop-place-test.true c.index-candidates-place.is)
    c.loop-place.invariant

pub returns : goal.returns
returns c =
    let tests = map (fits_needs (plain_needs c.args.needs.now)) (plain_candidates c.args.candidates.now) in
    set_below_all tests c.loop-place.place c.loop-place.row
    (omega (
      arith,
      length-map (plain_candidates c.args.candidates.now)
          (fits_needs (plain_needs c.args.needs.now)),
      length-map c.args.candidates.now plain_candidate,
      c.loop-place-test.false,
    ))
    c.loop-place.invariant
