use Rattle.std.proofs.Common.{◌≡◌, ◌≤◌, ◌++◌, ℕ, List, length, arith, ap, length-append}
use Rattle.std.proofs.lemmas.List.{length-map}
use Rattle.pol_match.specs.Bindings.{tags_in}
use Rattle.pol_match.specs.Candidates.{plain_candidate, plain_candidates}
use Rattle.pol_match.proofs.Shortages.{those_few}
use Rattle.pol_match.proofs.find.tags_reached.Goals as goal

-- the front of a list is no longer
front : (done rest all : List (List ℕ)) (n : ℕ) → done ++ rest ≡ all → length all ≤ n → length done ≤ n
front done rest all n same long = omega (arith, ap length same, length-append done rest)

pub returns-clause-few : goal.returns-clause-few
returns-clause-few c =
    front c.loop-place.tags.items _ _ _ c.loop-place.invariant
    (those_few c.args.rows.now c.args.set (tags_in (plain_candidates c.args.candidates.now)) (omega arith)
    (omega (
      arith,
      length-map (plain_candidates c.args.candidates.now) (λ candidate. candidate.tag),
      length-map
          c.args.candidates.now plain_candidate,
      c.requires,
    )))
