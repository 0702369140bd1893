use Rattle.std.proofs.Common.{◌∙◌, sym, ap}
use Rattle.pol_match.proofs.CandidateLists.{tag_at_place}
use Rattle.pol_match.proofs.find.tag_at.Goals as goal

pub returns : goal.returns
returns c =
    sym (ap (λ candidate. candidate.tag) c.index-candidates-place.is)
    ∙ tag_at_place c.args.candidates.now c.args.place c.index-candidates-place.result c.requires
    c.index-candidates-place.is
