use Rattle.std.proofs.Common.{◌≡◌, ◌++◌, [], map, drop, get_or}
use Rattle.pol_bind.specs.Roles.{names_in}
use Rattle.pol_events.specs.Bound.{tags_of}
use Rattle.pol_match.specs.Bindings.{tags_in}
use Rattle.pol_match.specs.Candidates.{plain_candidates}
use Rattle.pol_match.proofs.find.binds_at.Given as goal

abbrev pub invariant-loop-at : goal.invariant-loop-at
invariant-loop-at l = record {
  roles : map (λ bind. bind.role) l.binds.items ++ names_in (drop l.at l.roles) ≡ names_in l.roles;
  tags : tags_of l.binds.items ++ map (λ place. get_or (tags_in (plain_candidates l.candidates)) place [])
      (drop l.at l.places)
      ≡ map (λ place. get_or (tags_in (plain_candidates l.candidates)) place []) l.places;
}
