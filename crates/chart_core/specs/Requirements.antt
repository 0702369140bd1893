-- What a requirement's text reads to.
use Rattle.std.specs.Prelude.{ℕ, ◌≡◌, List, map, Ok}
use Rattle.semver.specs.declared.VersionReq.{VersionReq}
use Rattle.semver.specs.Identifiers.{comparator_view}
use Rattle.semver.specs.Parse.{req_of}

-- the text reads to this requirement
abbrev pub IsReadTo : List ℕ → VersionReq → Type 0
IsReadTo text req = req_of text ≡ Ok (map comparator_view req.comparators.items)
